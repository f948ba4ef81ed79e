use Rattle.std.proofs.Common.{◌≡◌, ◌∙◌, ◌++◌, ℕ, List, Option, ap, refl, subst, sym, true}
use Rattle.queue_device.specs.declared.lanes.Which.{Which}
use Rattle.queue_device.specs.declared.phase.Work.TheVariants as work
use Rattle.queue_device.specs.Acting.{Acting, Works}
use Rattle.queue_device.specs.Kept.{work_after}
use Rattle.balloon_device.specs.declared.kind.Stage.{Stage}
use Rattle.balloon_device.specs.declared.kind.Stage.TheVariants as stage
use Rattle.balloon_device.specs.Balloon.{Balloon}
use Rattle.balloon_device.specs.Work.{IsStage, Kept, is_work, op_of, serving_of}
use Rattle.balloon_device.proofs.Entries.{told_all}
use Rattle.balloon_device.proofs.Staying.{list_next, tags_next, zeros_next}
use Rattle.balloon_device.proofs.Working.{list_goes, tags_go, zeros_go}
use Rattle.balloon_device.proofs.kind.BalloonKindKind.serve_on.Goals as goal

pub returns-in-List-clause-works : goal.returns-in-List-clause-works
returns-in-List-clause-works c =
    let list = c.in-List.list in
    let pages = c.in-List.pages in
    let reply = c.args.reply.now in
    let own : Balloon = record { interval = c.self.inside.interval; last = c.self.inside.last; statistics = c.self.inside.statistics } in
    let was : stage.List list pages ≡ c.self.inside.stage = c.in-List.ensures.value in
    let new = c.list_on.new.self in
    subst (λ (t : Acting Balloon (Option ℕ)). Works t c.list_on.result new.own (op_of new.stage) (serving_of new.stage))
    (sym (ap (λ (k : Kept). serving_of k.stage k.own reply) (sym c.self.view_is)
    ∙ ap (λ (s : Stage). serving_of s own reply) (sym was)
    ∙ list_goes pages list.from c.give-piece.new.self list.held c.append.new.self reply own
    (subst (λ (s : Stage). IsStage s) (sym was) c.self.invariant) c.give-piece.ensures.left
    (c.append.ensures ∙ ap (λ (piece : List ℕ). list.held ++ piece) c.give-piece.ensures.bytes)))
    c.list_on.ensures.works

pub returns-in-Zeros-clause-works : goal.returns-in-Zeros-clause-works
returns-in-Zeros-clause-works c =
    let list = c.in-Zeros.list in
    let pages = c.in-Zeros.pages in
    let left = c.in-Zeros.left in
    let at = c.in-Zeros.at in
    let reply = c.args.reply.now in
    let own : Balloon = record { interval = c.self.inside.interval; last = c.self.inside.last; statistics = c.self.inside.statistics } in
    let was : stage.Zeros list pages left at ≡ c.self.inside.stage = c.in-Zeros.ensures.value in
    let new = c.zeros_on.new.self in
    subst (λ (t : Acting Balloon (Option ℕ)). Works t c.zeros_on.result new.own (op_of new.stage) (serving_of new.stage))
    (sym (ap (λ (k : Kept). serving_of k.stage k.own reply) (sym c.self.view_is)
    ∙ ap (λ (s : Stage). serving_of s own reply) (sym was)
    ∙ zeros_go pages list left at reply own (subst (λ (s : Stage). IsStage s) (sym was) c.self.invariant).0))
    c.zeros_on.ensures.works

pub returns-in-Tags-clause-works : goal.returns-in-Tags-clause-works
returns-in-Tags-clause-works c =
    let from = c.in-Tags.from in
    let so_far = c.in-Tags.so_far in
    let reply = c.args.reply.now in
    let own : Balloon = record { interval = c.self.inside.interval; last = c.self.inside.last; statistics = c.self.inside.statistics } in
    let was : stage.Tags from so_far ≡ c.self.inside.stage = c.in-Tags.ensures.value in
    let is = subst (λ (s : Stage). IsStage s) (sym was) c.self.invariant in
    let new = c.tags_on.new.self in
    subst (λ (t : Acting Balloon (Option ℕ)). Works t c.tags_on.result new.own (op_of new.stage) (serving_of new.stage))
    (sym (ap (λ (k : Kept). serving_of k.stage k.own reply) (sym c.self.view_is)
    ∙ ap (λ (s : Stage). serving_of s own reply) (sym was)
    ∙ tags_go from.from c.give-piece-in-Tags.new.self from.held c.append-in-Tags.new.self so_far reply own
    (told_all from.held so_far is.0) is.1 c.give-piece-in-Tags.ensures.left
    (c.append-in-Tags.ensures ∙ ap (λ (piece : List ℕ). from.held ++ piece) c.give-piece-in-Tags.ensures.bytes)))
    c.tags_on.ensures.works

pub returns-in-List-clause-work : goal.returns-in-List-clause-work
returns-in-List-clause-work c = λ pages k few is.
    let list = c.in-List.list in
    let own = c.in-List.pages in
    let was : stage.List list own ≡ c.self.inside.stage = c.in-List.ensures.value in
    let here : is_work (work.Serve k) pages (stage.List list own) ≡ true =
    subst (λ (s : Stage). is_work (work.Serve k) pages s ≡ true) (sym was)
    (subst (λ (v : Kept). is_work (work.Serve k) pages v.stage ≡ true) (sym c.self.view_is) is) in
    let next = list_next pages own k list c.give-piece.new.self c.append.new.self c.give-piece.result few here
    c.give-piece.ensures.left c.append.ensures c.give-piece.ensures.length in
    let new = c.list_on.new.self.stage in
    subst (λ (m : ℕ). is_work (work_after c.list_on.result (work.Serve k)) m new ≡ true) next.own
    (subst (λ (w : Which). is_work (work_after c.list_on.result (work.Serve w)) own new ≡ true) next.first
    (c.list_on.ensures.work (rw c.replace.ensures.after refl) next.inside next.short))

pub returns-in-Zeros-clause-work : goal.returns-in-Zeros-clause-work
returns-in-Zeros-clause-work c = λ pages k few is.
    let list = c.in-Zeros.list in
    let own = c.in-Zeros.pages in
    let left = c.in-Zeros.left in
    let at = c.in-Zeros.at in
    let was : stage.Zeros list own left at ≡ c.self.inside.stage = c.in-Zeros.ensures.value in
    let here : is_work (work.Serve k) pages (stage.Zeros list own left at) ≡ true =
    subst (λ (s : Stage). is_work (work.Serve k) pages s ≡ true) (sym was)
    (subst (λ (v : Kept). is_work (work.Serve k) pages v.stage ≡ true) (sym c.self.view_is) is) in
    let next = zeros_next pages own left at k list here in
    let new = c.zeros_on.new.self.stage in
    subst (λ (m : ℕ). is_work (work_after c.zeros_on.result (work.Serve k)) m new ≡ true) next.own
    (subst (λ (w : Which). is_work (work_after c.zeros_on.result (work.Serve w)) own new ≡ true) next.first
    (c.zeros_on.ensures.work (rw c.replace.ensures.after refl) next.zeroing))

pub returns-in-Tags-clause-work : goal.returns-in-Tags-clause-work
returns-in-Tags-clause-work c = λ pages k few is.
    let from = c.in-Tags.from in
    let so_far = c.in-Tags.so_far in
    let was : stage.Tags from so_far ≡ c.self.inside.stage = c.in-Tags.ensures.value in
    let here : is_work (work.Serve k) pages (stage.Tags from so_far) ≡ true =
    subst (λ (s : Stage). is_work (work.Serve k) pages s ≡ true) (sym was)
    (subst (λ (v : Kept). is_work (work.Serve k) pages v.stage ≡ true) (sym c.self.view_is) is) in
    let next = tags_next pages k from so_far c.give-piece-in-Tags.new.self few here c.give-piece-in-Tags.ensures.left in
    subst (λ (w : Which). is_work (work_after c.tags_on.result (work.Serve w)) pages c.tags_on.new.self.stage ≡ true) next.0
    (c.tags_on.ensures.work pages (rw c.replace.ensures.after refl) next.1)
