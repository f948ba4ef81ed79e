use Rattle.monitor_machine.specs.Seen.{live_of}
use Rattle.monitor_machine.proofs.Standing.{lineage_stays}
use Rattle.monitor_machine.proofs.machine.LiveMachine.set_lineage.Goals as goal

pub invariant_of-self : goal.invariant_of-self
invariant_of-self c = lineage_stays (live_of c.self.inside) c.args.lineage c.self.invariant
