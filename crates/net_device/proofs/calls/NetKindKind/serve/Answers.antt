use Rattle.std.proofs.Common.{◌≡◌, ◌∙◌, List, ap, subst, sym, true}
use Rattle.vq_split.specs.declared.queue.Part.{Part}
use Rattle.vq_split.specs.Kept.{are_inside}
use Rattle.dev_core.specs.Pieces.{readable, writable}
use Rattle.queue_device.specs.declared.lanes.Which.{Which}
use Rattle.queue_device.specs.declared.phase.Work.TheVariants as work
use Rattle.queue_device.specs.Kept.{work_after}
use Rattle.net_device.specs.Work.{at_work, is_work}
use Rattle.net_device.proofs.Staying.{chain_reads, chain_writes}
use Rattle.net_device.proofs.calls.NetKindKind.serve.Goals as goal

pub returns-then-has_room-clause-work : goal.returns-then-has_room-clause-work
returns-then-has_room-clause-work c = λ pages few rest is.
    let to : c.new.result ≡ writable c.args.chain.now.parts =
    c.new.ensures ∙ c.writable.ensures ∙ ap writable c.parts-then-has_room.ensures in
    subst (λ (w : Which). is_work (work_after c.fill.result (work.Serve w)) pages (at_work c.fill.new.self) ≡ true) (sym c.in-First.is)
    (c.fill.ensures.work pages
    (subst (λ (parts : List Part). are_inside pages parts ≡ true) (sym to) (chain_writes pages c.args.which c.args.chain.now is)))

pub returns-then-is_frame-clause-work : goal.returns-then-is_frame-clause-work
returns-then-is_frame-clause-work c = λ pages few rest is.
    let from : c.new-then-is_frame.result ≡ readable c.args.chain.now.parts =
    c.new-then-is_frame.ensures ∙ c.readable.ensures ∙ ap readable c.parts-then-is_frame.ensures in
    subst (λ (w : Which). is_work (work_after c.send_next.result (work.Serve w)) pages (at_work c.send_next.new.self) ≡ true)
    (sym c.in-Second.is)
    (c.send_next.ensures.work pages
    (subst (λ (parts : List Part). are_inside pages parts ≡ true) (sym from) (chain_reads pages c.args.which c.args.chain.now is)))
