use Rattle.std.proofs.Common.{◌≡◌, ℕ, List, ◌+◌, ◌*◌, ◌-◌, ◌++◌, ap, sym, ◌∙◌, arith, get_or, length, take, drop, length-drop}
use Rattle.std.proofs.lemmas.List.{drop-drop, length-take-le}
use Rattle.guest_pages.specs.Pages.{flat_of}
use Rattle.guest_pages.proofs.Copying.{copied_more}
use Rattle.snap_diff.specs.Copies.{pages_at}
use Rattle.snap_writer.proofs.Selecting.{length-pages, page_there}
use Rattle.snap_writer.proofs.saved_pages.copy_pages.Goals as goal

pub loop-page-preserved : goal.loop-page-preserved
loop-page-preserved c =
    let bytes : List ℕ = (flat_of c.args.memory.now.pages).bytes in
    let numbers : List ℕ = c.args.numbers.now in
    let count : ℕ = length c.args.memory.now.pages in
    let all : List ℕ = pages_at numbers bytes in
    let first : ℕ = c.args.first in
    let page : ℕ = c.loop-page.page in
    let from : List ℕ = drop (4096 * first) all in
    let size : length all ≡ 4096 * length numbers = length-pages numbers count bytes c.requires.bytes c.requires.there in
    let left : length from ≡ length all - 4096 * first = length-drop (4096 * first) all in
    let here : 4096 * first + 4096 * page ≡ 4096 * (first + page) = omega arith in
    let next : 4096 * page + 4096 ≡ 4096 * (page + 1) = omega arith in
    let many : 4096 * page + 4096 - 4096 * page ≡ 4096 = omega arith in
    let behind = length-drop (4096 * page) c.loop-page.out in
    let held = length-take-le (4096 * page + 4096 - 4096 * page) (drop (4096 * page) c.loop-page.out)
    (omega (arith, behind, c.loop-page.auto.out, c.loop-page-test.true, c.requires.whole)) in
    let piece : c.copy_out.new.out ≡ take 4096 (drop (4096 * page) from) =
    c.copy_out.ensures
    ∙ ap (λ (n : ℕ). take n (drop (4096 * get_or numbers (first + page) 0) bytes)) (held ∙ many)
    ∙ sym (page_there numbers count (first + page) bytes c.requires.bytes c.requires.there
    (omega (arith, c.requires.inside, c.loop-page-test.true, c.requires.whole)))
    ∙ ap (λ (n : ℕ). take 4096 (drop n all)) (sym here)
    ∙ ap (take 4096) (sym (drop-drop (4096 * page) (4096 * first) all)) in
    copied_more from c.loop-page.out c.args.out.now c.copy_out.new.out (4096 * page) 4096 c.loop-page.invariant piece
    (omega (arith, c.loop-page-test.true, c.requires.whole)) (omega (arith, left, size, c.requires.inside))
    ∙ ap (λ (n : ℕ). take n from ++ drop n c.args.out.now) next
