use Rattle.std.proofs.Common.{rules}
use Rattle.http_front.proofs.front.Front.restart.Goals as goal

pub returns : goal.returns
returns c = search rules
