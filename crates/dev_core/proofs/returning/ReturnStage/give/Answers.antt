use Rattle.std.proofs.Common.{rules}
use Rattle.dev_core.proofs.returning.ReturnStage.give.Goals as goal

pub returns-then-is_cut : goal.returns-then-is_cut
returns-then-is_cut c = search rules
