use Rattle.monitor_machine.specs.Seen.{live_of}
use Rattle.monitor_machine.proofs.Standing.{resume_stays}
use Rattle.monitor_machine.proofs.machine.LiveMachine.resume.Goals as goal

pub invariant_of-self : goal.invariant_of-self
invariant_of-self c = resume_stays (live_of c.self.inside) c.self.invariant
