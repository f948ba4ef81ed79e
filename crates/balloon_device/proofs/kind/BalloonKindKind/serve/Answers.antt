-- A list is read of a chain in the guest that the chain's queue is of.
use Rattle.std.proofs.Common.{◌≡◌, ◌<◌, ◌∙◌, ℕ, List, ap, arith, length, subst, sym, true}
use Rattle.vq_split.specs.declared.queue.Part.{Part}
use Rattle.vq_split.specs.declared.queue.Queue.{Queue}
use Rattle.vq_split.specs.Kept.{are_inside}
use Rattle.dev_core.specs.declared.collect.Collect.{Collect}
use Rattle.dev_core.specs.Pieces.{readable}
use Rattle.queue_device.specs.declared.lanes.Which.{Which}
use Rattle.queue_device.specs.declared.phase.Work.TheVariants as work
use Rattle.queue_device.specs.Kept.{work_after}
use Rattle.balloon_device.specs.Work.{is_work}
use Rattle.balloon_device.proofs.Staying.{chain_pages, chain_reads}
use Rattle.balloon_device.proofs.kind.BalloonKindKind.serve.Goals as goal

pub returns-in-First-clause-work : goal.returns-in-First-clause-work
returns-in-First-clause-work c = λ pages few works chain.
    let own = c.fields.result.pages in
    let stage = c.args.self.now.stage in
    let new = c.list_on.new.self.stage in
    let same : own ≡ pages =
    ap (λ (q : Queue). q.pages) (c.fields.ensures.queue ∙ c.queue.ensures)
    ∙ chain_pages pages c.args.which c.args.chain.now chain in
    let reads : c.unread.result.from ≡ readable c.args.chain.now.parts =
    ap (λ (x : Collect). x.from) c.unread.ensures ∙ ap readable c.parts.ensures in
    let held : length c.unread.result.held ≡ 0 = ap (λ (x : Collect). length x.held) c.unread.ensures in
    subst (λ (m : ℕ). is_work (work_after c.list_on.result (work.Serve c.args.which)) m new ≡ true) same
    (subst (λ (w : Which). is_work (work_after c.list_on.result (work.Serve w)) own new ≡ true) (sym c.in-First.is)
    (c.list_on.ensures.work (subst (λ (m : ℕ). is_work work.Rest m stage ≡ true) (sym same) works)
    (subst (λ (m : ℕ). are_inside m c.unread.result.from ≡ true) (sym same)
    (subst (λ (l : List Part). are_inside pages l ≡ true) (sym reads)
    (chain_reads pages c.args.which c.args.chain.now chain)))
    (subst (λ (n : ℕ). n < 68) (sym held) (omega arith))))

pub returns-in-Third-clause-work : goal.returns-in-Third-clause-work
returns-in-Third-clause-work c = λ pages few works chain.
    let reads : c.unread-in-Third.result.from ≡ readable c.args.chain.now.parts =
    ap (λ (x : Collect). x.from) c.unread-in-Third.ensures ∙ ap readable c.parts-in-Third.ensures in
    subst (λ (w : Which). is_work (work_after c.tags_on.result (work.Serve w)) pages c.tags_on.new.self.stage ≡ true)
    (sym c.in-Third.is)
    (c.tags_on.ensures.work pages works
    (subst (λ (l : List Part). are_inside pages l ≡ true) (sym reads)
    (chain_reads pages c.args.which c.args.chain.now chain)))
