use Rattle.std.proofs.Common.{false}
use Rattle.queue_device.proofs.Never.{never}
use Rattle.entropy_device.proofs.Entropy.{owes}
use Rattle.entropy_device.proofs.Resuming.{resumes}
use Rattle.entropy_device.proofs.law.entropy_goes_on.Goals as goal

pub returns-clause-begins : goal.returns-clause-begins
returns-clause-begins c port pages limits small =
    c.queue_goes_on.ensures.begins false port pages (record { limits = limits }) small owes resumes tt

pub returns-clause-reply : goal.returns-clause-reply
returns-clause-reply c port pages t reply small kept fit =
    c.queue_goes_on.ensures.reply false port pages t reply small owes resumes kept (fit, never)

pub returns-clause-change : goal.returns-clause-change
returns-clause-change c port pages t change small kept =
    c.queue_goes_on.ensures.change false port pages t change small owes resumes kept (λ e fine. (tt, tt))
