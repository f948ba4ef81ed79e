use Rattle.std.proofs.Common.{rules}
use Rattle.rv_doing.proofs.replies.end_conditional.Goals as goal

pub returns-then-not-is_held : goal.returns-then-not-is_held
returns-then-not-is_held c = search rules
