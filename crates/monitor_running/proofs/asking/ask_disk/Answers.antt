use Rattle.std.proofs.Common.{rules}
use Rattle.monitor_running.proofs.asking.ask_disk.Goals as goal

pub returns-in-DiskFlush-clause-given : goal.returns-in-DiskFlush-clause-given
returns-in-DiskFlush-clause-given g c = search rules
