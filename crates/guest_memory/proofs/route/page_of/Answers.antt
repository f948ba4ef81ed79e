use Rattle.std.proofs.Common.{rules}
use Rattle.guest_memory.proofs.route.page_of.Goals as goal

pub returns-then-len-lt1 : goal.returns-then-len-lt1
returns-then-len-lt1 c = search rules
