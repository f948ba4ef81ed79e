use Rattle.std.proofs.Common.{◌≡◌, ◌+◌, ◌++◌, List, ℕ, drop, sym, subst}
use Rattle.guest_pages.specs.Marks.{marked_from}
use Rattle.guest_pages.specs.Pages.{marks_of}
use Rattle.guest_pages.proofs.Blocks.{numbers_all, numbers_more}
use Rattle.guest_pages.proofs.page_set.blocks.marked_in.Goals as goal

pub loop-number-preserved : goal.loop-number-preserved
loop-number-preserved c =
    let marks = marks_of c.args.pages.now in
    let n = c.in-Some.number in
    subst (λ (found : List ℕ). found ++ marked_from (n + 1) (drop (n + 1) marks) ≡ marked_from 0 marks) (sym c.in_ok-push.ensures.items)
    (numbers_more marks c.loop-number.from n c.loop-number.numbers.items (marked_from 0 marks) c.loop-number.invariant c.in-Some.ensures.next)

pub returns : goal.returns
returns c =
    let marks = marks_of c.args.pages.now in
    numbers_all marks c.loop-number.from c.loop-number.numbers.items (marked_from 0 marks) c.loop-number.invariant c.in_default.ensures.next
