use Rattle.std.proofs.Common.{◌≡◌, List, ◌∙◌, ap, subst, arith, rules}
use Rattle.std.specs.List.{count_by}
use Rattle.guest_pages.specs.Flat.{AreSummed, reserved_of}
use Rattle.guest_pages.specs.Pages.{PageValue, marks_of}
use Rattle.guest_pages.proofs.Each.{all_counted}
use Rattle.guest_pages.proofs.page_set.PageSet.put_pages.Goals as goal

pub invariant_of-self : goal.invariant_of-self
invariant_of-self c =
    let same : c.deref.result.now ≡ c.args.pages.items = search rules in
    let again : c.deref-2.result.now ≡ c.args.pages.items = search rules in
    let once_more : c.deref-3.result.now ≡ c.args.pages.items = search rules in
    let made = c.made_among.ensures ∙ ap (count_by (λ (p : PageValue). p.made)) same in
    record {
      are = c.requires.are;
      owns = omega (arith, c.len.ensures, made, all_counted c.args.pages.items);
      summed = subst (λ (l : List PageValue). AreSummed (marks_of l) c.note_all.new.blocks.items) again c.note_all.ensures;
      holds = subst (λ (l : List PageValue). AreSummed (reserved_of l) c.note_all_held.new.held.items) once_more c.note_all_held.ensures;
    }
