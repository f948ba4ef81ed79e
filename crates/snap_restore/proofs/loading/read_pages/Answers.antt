use Rattle.std.proofs.Common.{◌≡◌, ◌≤◌, ℕ, ◌+◌, ◌++◌, ◌∙◌, List, length, take, drop, refl, ap, arith, length-append, length-drop}
use Rattle.std.proofs.lemmas.List.{length-take-le}
use Rattle.std.specs.FinMap.{get}
use Rattle.vm_types.specs.Saved.{Saved}
use Rattle.vm_outside.proofs.Passing.{same_more}
use Rattle.guest_pages.specs.Pages.{flat_of}
use Rattle.snap_restore.proofs.BlockReads.{read_more, slots_kept}
use Rattle.snap_restore.proofs.loading.read_pages.Goals as goal

pub loop-done-preserved : goal.loop-done-preserved
loop-done-preserved g c =
    let so_far = c.loop-done.invariant in
    let known = g.F.Files.known in
    let count : ℕ = c.min-count.result in
    let done : ℕ = c.loop-done.done in
    let block : List ℕ = c.loop-done.block in
    let buf : List ℕ = c.read_at.new.buf in
    let most : count ≤ length block = omega (arith, c.min-count.ensures, so_far.room) in
    let size : length buf ≡ count = c.read_at.auto.buf ∙ length-take-le count block most in
    record {
      some = omega (arith, c.min-count.ensures, c.loop-done-test.true);
      room = length-append buf (drop count block) ∙ omega (arith, size, most, so_far.room, length-drop count block);
      count = c.load.ensures.pages ∙ so_far.count;
      reserved = slots_kept done _ _ _ c.in-Ok-load.ensures.memory ∙ so_far.reserved;
      marks = c.load.ensures.marks ∙ so_far.marks;
      still = λ t. c.read_at.ensures.called.lasts.still (so_far.still t);
      kept = c.in-Ok.ensures.called.kept ∙ so_far.kept;
      same = λ t. same_more _ _ _ (so_far.same t) (c.read_at.ensures.same (so_far.still t));
      read = λ t content there.
          read_more _ content (flat_of c.args.pages.now.pages).bytes buf block (take count (buf ++ drop count block)) c.args.at (c.args.at + done) done count (flat_of c.loop-done.pages.pages) (flat_of c.load.new.self.pages)
          (ap (λ (m : Saved). get m c.args.name.now) (so_far.same t).saved ∙ there)
          (c.in-Ok.ensures.bytes (so_far.still t)) refl size refl (so_far.read t content there) c.in-Ok-load.ensures.memory;
    }
