use Rattle.std.proofs.Common.{◌≡◌, false, ap, sym, ◌∙◌}
use Rattle.guest_pages.specs.Pages.{PageValue, unmarked}
use Rattle.guest_pages.proofs.Blocks.{all_cleared, cleared_same, first_less, summed_less}
use Rattle.guest_pages.proofs.page_set.blocks.clear_all.Goals as goal

pub loop-number-preserved : goal.loop-number-preserved
loop-number-preserved c =
    let h = c.loop-number.invariant in
    let pages = c.loop-number.pages in
    let n = c.in-Some.number in
    let un : c.clear_mark.new.self.marked ≡ false = ap (λ (p : PageValue). p.marked) c.clear_mark.ensures in
    record {
      same = cleared_same pages n c.index-pages-number.result c.clear_mark.new.self c.index-pages-number.is (c.clear_mark.ensures ∙ ap unmarked (sym c.index-pages-number.is)) ∙ h.same;
      rest = first_less pages n c.clear_mark.new.self un (h.rest ∙ c.in-Some.ensures.next);
      summed = summed_less pages c.args.blocks.now n c.clear_mark.new.self un h.summed;
    }

pub returns : goal.returns
returns c =
    let h = c.loop-number.invariant in
    sym (all_cleared c.loop-number.pages 0 (h.rest ∙ c.in_default.ensures.next)) ∙ h.same
