use Rattle.std.proofs.Common.{◌≡◌, ◌∙◌, ℕ, false, ap, refl, subst, sym}
use Rattle.guest_pages.specs.Made.{is_made}
use Rattle.guest_pages.specs.Words.{read_of}
use Rattle.vm_types.specs.declared.ids.PlaceId.{PlaceId}
use Rattle.rv_rows.specs.declared.memory.Width.{Width}
use Rattle.guest_pages.proofs.Sets.{number_below}
use Rattle.guest_pages.proofs.Making.{the_pages}
use Rattle.guest_pages.proofs.page_set.PageSet.code_page.Goals as goal

pub returns-clause-code : goal.returns-clause-code
returns-clause-code c = record {
  there = number_below c.args.self.now.pages c.self.inside.pages.items c.in_ok-number.number (read_of Width.Word c.args.at) (ap the_pages (sym c.self.view_is)) c.self.invariant.are c.in_ok-number.ensures;
  made = sym c.is_made.ensures ∙ c.if-not-is_made.false;
  start = refl;
}

pub returns-then-not-is_made-clause-page : goal.returns-then-not-is_made-clause-page
returns-then-not-is_made-clause-page c = λ i place.
    let both : PlaceId.Page c.in_ok-number.number ≡ PlaceId.Page i = sym c.in_ok-number.ensures ∙ place in
    let same : c.in_ok-number.number ≡ i = cc in
    subst (λ (k : ℕ). is_made c.args.self.now.pages k ≡ false) same (sym c.is_made.ensures ∙ c.if-not-is_made.true)
