use Rattle.run_chain.proofs.Numbered.{diffs, loads}
use Rattle.run_chain.proofs.law.rounds_arrive.Goals as goal

pub returns-clause-creates : goal.returns-clause-creates
returns-clause-creates c = diffs

pub returns-clause-loads : goal.returns-clause-loads
returns-clause-loads c = loads
