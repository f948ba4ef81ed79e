use Rattle.std.proofs.Common.{false}
use Rattle.queue_device.proofs.Never.{never}
use Rattle.block_device.proofs.Owes.{owes}
use Rattle.block_device.proofs.Resuming.{resumes}
use Rattle.block_device.proofs.law.block_goes_on.Goals as goal

pub returns-clause-begins : goal.returns-clause-begins
returns-clause-begins c port pages facts small fine = c.queue_goes_on.ensures.begins false port pages facts small owes resumes fine

pub returns-clause-reply : goal.returns-clause-reply
returns-clause-reply c port pages t reply small kept fit =
    c.queue_goes_on.ensures.reply false port pages t reply small owes resumes kept (fit, never)

pub returns-clause-change : goal.returns-clause-change
returns-clause-change c port pages t change small kept fine =
    c.queue_goes_on.ensures.change false port pages t change small owes resumes kept (λ e was. (fine e was, fine e was))
