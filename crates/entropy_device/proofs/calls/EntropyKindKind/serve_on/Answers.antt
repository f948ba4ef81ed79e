-- The parts that are left lie in the guest.
use Rattle.std.proofs.Common.{◌≡◌, subst, sym, true}
use Rattle.vq_split.specs.Kept.{are_inside}
use Rattle.queue_device.specs.declared.phase.Work.TheVariants as work
use Rattle.queue_device.specs.declared.spill.Spill.{Spill}
use Rattle.entropy_device.specs.declared.kind.Stage.{Stage}
use Rattle.entropy_device.specs.declared.kind.Stage.TheVariants as stage
use Rattle.entropy_device.specs.Work.{Kept, is_work}
use Rattle.entropy_device.proofs.Staying.{draw_inside, write_next}
use Rattle.entropy_device.proofs.calls.EntropyKindKind.serve_on.Goals as goal

pub returns-in-Drawn-clause-work : goal.returns-in-Drawn-clause-work
returns-in-Drawn-clause-work c = λ pages k few is.
    let len = c.in-Draw.length in
    let index = c.in-Draw.index in
    let to = c.in-Draw.to in
    let was : stage.Draw len index to ≡ c.self.inside.stage = c.in-Draw.ensures.value in
    let here : is_work (work.Serve k) pages (stage.Draw len index to) ≡ true =
    subst (λ (s : Stage). is_work (work.Serve k) pages s ≡ true) (sym was)
    (subst (λ (v : Kept). is_work (work.Serve k) pages v.stage ≡ true) (sym c.self.view_is) is) in
    c.write.ensures.work pages k
    (subst (λ (s : Spill). are_inside pages s.to ≡ true) (sym c.spilled-spill.ensures.spill) (draw_inside pages k len index to here))

pub returns-in-Write-clause-work : goal.returns-in-Write-clause-work
returns-in-Write-clause-work c = λ pages k few is.
    let len = c.in-Write.length in
    let index = c.in-Write.index in
    let spill = c.in-Write.spill in
    let was : stage.Write len index spill ≡ c.self.inside.stage = c.in-Write.ensures.value in
    let here : is_work (work.Serve k) pages (stage.Write len index spill) ≡ true =
    subst (λ (s : Stage). is_work (work.Serve k) pages s ≡ true) (sym was)
    (subst (λ (v : Kept). is_work (work.Serve k) pages v.stage ≡ true) (sym c.self.view_is) is) in
    c.write-in-Write.ensures.work pages k
    (write_next pages k len index spill c.without_piece.result few here c.without_piece.ensures.to)
