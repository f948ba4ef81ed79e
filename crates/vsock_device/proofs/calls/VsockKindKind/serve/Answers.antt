use Rattle.std.proofs.Common.{◌≡◌, ◌∙◌, List, ap, sym, subst, true}
use Rattle.vq_split.specs.declared.queue.Part.{Part}
use Rattle.vq_split.specs.Kept.{are_inside}
use Rattle.dev_core.specs.Pieces.{readable, writable}
use Rattle.queue_device.specs.declared.lanes.Which.{Which}
use Rattle.queue_device.specs.declared.phase.Work.TheVariants as work
use Rattle.queue_device.specs.Acting.{Works}
use Rattle.queue_device.specs.Kept.{work_after}
use Rattle.vsock_device.specs.Guest.{transmitted}
use Rattle.vsock_device.specs.Vsock.{event_told, served_by}
use Rattle.vsock_device.specs.Work.{is_work, op_of, serving_of}
use Rattle.vsock_device.proofs.Staying.{chain_reads, chain_writes}
use Rattle.vsock_device.proofs.calls.VsockKindKind.serve.Goals as goal

pub returns-in-First-clause-work : goal.returns-in-First-clause-work
returns-in-First-clause-work c = λ pages few rest chain.
    subst (λ (w : Which). is_work (work_after c.receive.result (work.Serve w)) pages c.receive.new.self.stage ≡ true)
    (sym c.in-First.is)
    (c.receive.ensures.work pages
    (subst (λ (l : List Part). are_inside pages l ≡ true) (sym (c.writable.ensures ∙ ap writable c.parts.ensures))
    (chain_writes pages c.args.which c.args.chain.now chain)))

pub returns-in-Second-clause-works : goal.returns-in-Second-clause-works
returns-in-Second-clause-works c =
    let own = c.args.self.now.own in
    let new = c.transmit.new.self in
    subst (λ (k : Which). Works (served_by k c.args.chain.now own) c.transmit.result new.own (op_of new.stage) (serving_of new.stage))
    (sym c.in-Second.is)
    (subst (λ (l : List Part). Works (transmitted l own) c.transmit.result new.own (op_of new.stage) (serving_of new.stage))
    (c.readable.ensures ∙ ap readable c.parts-in-Second.ensures) c.transmit.ensures.works)

pub returns-in-Second-clause-work : goal.returns-in-Second-clause-work
returns-in-Second-clause-work c = λ pages few rest chain.
    subst (λ (w : Which). is_work (work_after c.transmit.result (work.Serve w)) pages c.transmit.new.self.stage ≡ true)
    (sym c.in-Second.is)
    (c.transmit.ensures.work pages
    (subst (λ (l : List Part). are_inside pages l ≡ true) (sym (c.readable.ensures ∙ ap readable c.parts-in-Second.ensures))
    (chain_reads pages c.args.which c.args.chain.now chain)))

pub returns-in-Third-clause-works : goal.returns-in-Third-clause-works
returns-in-Third-clause-works c =
    let own = c.args.self.now.own in
    let new = c.tell_event.new.self in
    subst (λ (k : Which). Works (served_by k c.args.chain.now own) c.tell_event.result new.own (op_of new.stage) (serving_of new.stage))
    (sym c.in-Third.is)
    (subst (λ (l : List Part). Works (event_told l own) c.tell_event.result new.own (op_of new.stage) (serving_of new.stage))
    (c.writable-in-Third.ensures ∙ ap writable c.parts-in-Third.ensures) c.tell_event.ensures.works)

pub returns-in-Third-clause-work : goal.returns-in-Third-clause-work
returns-in-Third-clause-work c = λ pages few rest chain.
    subst (λ (w : Which). is_work (work_after c.tell_event.result (work.Serve w)) pages c.tell_event.new.self.stage ≡ true)
    (sym c.in-Third.is)
    (c.tell_event.ensures.work pages
    (subst (λ (l : List Part). are_inside pages l ≡ true) (sym (c.writable-in-Third.ensures ∙ ap writable c.parts-in-Third.ensures))
    (chain_writes pages c.args.which c.args.chain.now chain)))
