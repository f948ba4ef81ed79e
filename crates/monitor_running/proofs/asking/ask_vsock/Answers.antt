use Rattle.std.proofs.Common.{rules}
use Rattle.monitor_running.proofs.asking.ask_vsock.Goals as goal

pub returns-in-HostClose-clause-given : goal.returns-in-HostClose-clause-given
returns-in-HostClose-clause-given g c = search rules
