use Rattle.std.proofs.Common.{◌≡◌, ◌++◌, ◌∙◌, Option, Some, ℕ, ap, sym, subst}
use Rattle.queue_device.specs.declared.spill.Spill.{Spill}
use Rattle.queue_device.specs.Acting.{Acting, Comes, Works, performing}
use Rattle.queue_device.specs.Spilling.{spill_left}
use Rattle.vsock_device.specs.declared.data.Vsock.{Vsock}
use Rattle.vsock_device.specs.Vsock.{told, transport_reset}
use Rattle.vsock_device.specs.Work.{op_of, serving_of}
use Rattle.vsock_device.proofs.Working.{told_in}
use Rattle.vsock_device.proofs.kind.VsockKind.tell_event.Goals as goal

pub returns-then-total-ge4-clause-works : goal.returns-then-total-ge4-clause-works
returns-then-total-ge4-clause-works c =
    let own = c.args.self.now.own in
    let new = c.event_on.new.self in
    let text : c.append.new.self ≡ transport_reset =
    c.append.ensures ∙ (λ i. c.new-event.ensures i ++ c.from_slice.ensures i) in
    let whole = told_in c.append.new.self c.args.to c.as_slice.result.now own c.total.result text c.total.ensures.sum
    c.as_slice.ensures.parts c.if-total-ge4.true in
    subst (λ (t : Acting Vsock (Option ℕ)). Works t c.event_on.result new.own (op_of new.stage) (serving_of new.stage))
    (ap (λ (s : Spill). performing (spill_left s) own (λ f left. Comes (told f) (Some 4))) c.new.ensures ∙ sym whole)
    c.event_on.ensures.works
