use Rattle.std.proofs.Common.{refl}
use Rattle.load_run.proofs.law.numbers_said.Goals as goal

pub returns-clause-register : goal.returns-clause-register
returns-clause-register c = λ word. refl

pub returns-clause-memory : goal.returns-clause-memory
returns-clause-memory c = λ word. refl
