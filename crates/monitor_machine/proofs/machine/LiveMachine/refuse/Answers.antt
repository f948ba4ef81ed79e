use Rattle.std.proofs.Common.{refl}
use Rattle.http_stream.specs.declared.request.Next.TheVariants as next
use Rattle.monitor_plans.specs.declared.plan.Plan.TheVariants as plan
use Rattle.monitor_machine.proofs.Plans.{replies_alone}
use Rattle.monitor_machine.proofs.machine.LiveMachine.refuse.Goals as goal

pub returns-clause-ok : goal.returns-clause-ok
returns-clause-ok c = λ known.
    replies_alone c.args.form (plan.Refused c.args.why) c.in_ok-how.how c.args.self.now c.answer.new.self c.args.text.now c.answer.new.text
    known (next.Bad c.args.why) c.in_ok-how.ensures.ok refl (λ m. refl)
