-- A piece of the header came.
use Rattle.std.proofs.Common.{sym, ap, subst, ◌∙◌, List}
use Rattle.device_trace.specs.Doing.{led}
use Rattle.dev_core.specs.Collecting.{collect_left}
use Rattle.vq_split.specs.declared.queue.Part.{Part}
use Rattle.vq_split.specs.Inside.{AreInside}
use Rattle.queue_device.specs.declared.phase.Work.TheVariants as work
use Rattle.block_device.specs.Kept.{is_work}
use Rattle.block_device.specs.Working.{Working}
use Rattle.block_device.proofs.Working.{read_led}
use Rattle.block_device.proofs.Works.{header_reads, header_writes, rest_inside}
use Rattle.block_device.proofs.work.BlockWork.read_on.Goals as goal

pub returns-in-Header-clause-works : goal.returns-in-Header-clause-works
returns-in-Header-clause-works c e =
    let whole = c.work.view_is ∙ c.replace-work.ensures.value in
    read_led c.args.self.now c.read.new.self c.give.new.self c.parts_again-to.result c.args.reply.now e c.read.result
    (sym (ap (λ (w : Working). w.stage) c.self.view_is) ∙ c.in-Header.is)
    (c.give.ensures.left ∙ ap (λ (w : Working). led (collect_left 16 w.from) c.args.reply.now) whole)
    (c.parts_again-to.ensures ∙ c.parts.ensures.parts ∙ ap (λ (w : Working). w.to) whole) (c.read.ensures.works e)

pub returns-in-Header-clause-work : goal.returns-in-Header-clause-work
returns-in-Header-clause-work c pages which small is =
    let whole = c.work.view_is ∙ c.replace-work.ensures.value in
    let w = c.args.self.now in
    c.read.ensures.work pages which
    (ap (λ (it : Working). is_work work.Rest pages it) (c.replace-work.ensures.after ∙ c.new.ensures))
    (rest_inside pages c.work.inside.from.from c.give.new.self.from c.give.ensures.parts small
    (subst (λ (it : Working). AreInside pages it.from.from) (sym whole) (header_reads pages which w is)))
    (subst (λ (parts : List Part). AreInside pages parts)
    (sym (c.parts_again-to.ensures ∙ c.parts.ensures.parts ∙ ap (λ (it : Working). it.to) whole))
    (header_writes pages which w is))
