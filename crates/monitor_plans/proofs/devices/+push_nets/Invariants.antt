use Rattle.std.proofs.Common.{length}
use Rattle.monitor_plans.proofs.devices.+push_nets.Given as goal

abbrev pub decreases-push_nets : goal.decreases-push_nets
decreases-push_nets l = length l.interfaces.now
