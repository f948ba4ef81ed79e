use Rattle.std.proofs.Common.{◌≡◌, ℕ, ◌+◌, ◌-◌, ◌*◌, ◌/◌, ◌%◌, List, length, take, drop, refl, sym, ap, ◌∙◌, arith}
use Rattle.guest_pages.specs.Pages.{flat_of, loaded}
use Rattle.guest_pages.proofs.Loading.{loaded_more}
use Rattle.guest_pages.proofs.Sets.{size_of_value}
use Rattle.guest_pages.proofs.Making.{the_pages}
use Rattle.guest_pages.proofs.page_set.PageSet.load.Goals as goal

pub loop-done-preserved : goal.loop-done-preserved
loop-done-preserved c =
    let done : ℕ = c.loop-done.done in
    let count : ℕ = c.min-count.result in
    let at : ℕ = c.args.offset + done in
    let block : List ℕ = c.args.block.now in
    let place : 4096 * (at / 4096) + at % 4096 ≡ at = omega arith in
    let long : done + count - done ≡ count = omega arith in
    let size = size_of_value c.args.self.now.pages c.self.inside.pages.items (length c.args.self.now.pages) (ap the_pages (sym c.self.view_is)) c.self.invariant.are (ap length (ap the_pages (sym c.self.view_is))) in
    record {
      some = omega arith;
      memory = loaded_more (flat_of c.args.self.now.pages) (flat_of c.loop-done.self.pages) (flat_of c.patch.new.self.pages) block c.args.offset done count at 0 c.loop-done.invariant.memory
          (c.in-Ok.ensures.memory
          ∙ ap (λ (j : ℕ). loaded j (take (done + count - done) (drop done block)) (flat_of c.loop-done.self.pages)) place
          ∙ ap (λ (k : ℕ). loaded at (take k (drop done block)) (flat_of c.loop-done.self.pages)) long)
          refl (omega (arith, size)) c.loop-done.invariant.some;
      marks = c.patch.ensures.marks ∙ c.loop-done.invariant.marks;
      pages = c.patch.ensures.pages ∙ c.loop-done.invariant.pages;
      spare = c.patch.ensures.spare ∙ c.loop-done.invariant.spare;
    }
