use Rattle.std.proofs.Common.{rules}
use Rattle.command_line.proofs.reading.command_named.Goals as goal

pub returns-in_ok-served : goal.returns-in_ok-served
returns-in_ok-served c = search rules
