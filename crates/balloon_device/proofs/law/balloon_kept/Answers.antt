use Rattle.std.proofs.Common.{false}
use Rattle.balloon_device.proofs.Balloon.{owes}
use Rattle.balloon_device.proofs.Resuming.{resumes}
use Rattle.balloon_device.proofs.law.balloon_kept.Goals as goal

pub returns-clause-stays : goal.returns-clause-stays
returns-clause-stays c p r e g is = c.queue_kept.ensures false p r e g owes resumes is

pub returns-clause-one : goal.returns-clause-one
returns-clause-one c = c.queue_one.ensures
