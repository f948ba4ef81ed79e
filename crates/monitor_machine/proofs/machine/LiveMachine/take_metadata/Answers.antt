use Rattle.monitor_machine.specs.Seen.{live_of}
use Rattle.monitor_machine.proofs.Configured.{metadata_stay}
use Rattle.monitor_machine.proofs.machine.LiveMachine.take_metadata.Goals as goal

pub invariant_of-self : goal.invariant_of-self
invariant_of-self c = metadata_stay (live_of c.self.inside) c.args.metadata c.self.invariant
