use Rattle.std.proofs.Common.{false}
use Rattle.entropy_device.proofs.Entropy.{owes}
use Rattle.entropy_device.proofs.Resuming.{resumes}
use Rattle.entropy_device.proofs.law.entropy_kept.Goals as goal

pub returns-clause-stays : goal.returns-clause-stays
returns-clause-stays c p r e g is = c.queue_kept.ensures false p r e g owes resumes is

pub returns-clause-one : goal.returns-clause-one
returns-clause-one c = c.queue_one.ensures
