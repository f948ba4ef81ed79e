use Rattle.std.proofs.Common.{rules}
use Rattle.monitor_running.proofs.asking.ask_link.Goals as goal

pub returns-in-LinkEnd-clause-given : goal.returns-in-LinkEnd-clause-given
returns-in-LinkEnd-clause-given g c = search rules
