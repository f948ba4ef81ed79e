use Rattle.std.proofs.Common.{rules}
use Rattle.responses.proofs.lines.append_shown.Goals as goal

pub returns-in_err-append : goal.returns-in_err-append
returns-in_err-append c = search rules
