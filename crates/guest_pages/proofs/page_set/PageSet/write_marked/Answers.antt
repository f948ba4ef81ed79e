use Rattle.std.proofs.Common.{ℕ, ◌≡◌, ◌∙◌, refl, sym, ap, subst, length, map, set, slice_index_or, arith, Bool, true, false, List}
use Rattle.std.proofs.lemmas.List.{set-get_or}
use Rattle.le_fields.specs.Fields.{bytes_of}
use Rattle.le_fields.proofs.Values.{long as whole}
use Rattle.rv_rows.specs.Loads.{width_bytes}
use Rattle.vm_types.specs.declared.ids.ActorId.{ActorId}
use Rattle.vm_types.specs.declared.ids.PlaceId.{PlaceId}
use Rattle.guest_memory.specs.Route.{page_of}
use Rattle.guest_pages.specs.Flat.{IsSet}
use Rattle.guest_pages.specs.Made.{Spends}
use Rattle.guest_pages.specs.Pages.{PageValue, flat_of, is_marked_unreserved}
use Rattle.guest_pages.specs.Words.{is_marked_unreserved_at, read_of}
use Rattle.guest_pages.proofs.Blanks.{takes_none}
use Rattle.guest_pages.proofs.Blocks.{is_marked, mark_here, summed_kept}
use Rattle.guest_pages.proofs.Reserved.{holds, written_holds}
use Rattle.guest_pages.proofs.Sets.{number_below}
use Rattle.guest_pages.proofs.Serving.{is_in_page, word_marks, word_memory, word_stays}
use Rattle.guest_pages.proofs.Making.{count_of, is_set, no_spends, none_spent, the_pages}
use Rattle.guest_pages.proofs.page_set.PageSet.write_marked.Goals as goal

pub index_mut-requires : goal.index_mut-requires
index_mut-requires c =
    let below = number_below c.args.self.now.pages c.self.inside.pages.items c.in-Some.number (read_of c.args.width c.args.at) (ap the_pages (sym c.self.view_is)) c.self.invariant.are (ap (λ (len : ℕ). page_of (length (flat_of c.args.self.now.pages).bytes) c.args.at len) (sym c.bytes.ensures.is) ∙ c.in-Some.ensures) in
    omega (arith, below, ap count_of c.self.view_is, c.self.inside.pages.ok)

pub write_marked-requires : goal.write_marked-requires
write_marked-requires c =
    let below = number_below c.args.self.now.pages c.self.inside.pages.items c.in-Some.number (read_of c.args.width c.args.at) (ap the_pages (sym c.self.view_is)) c.self.invariant.are (ap (λ (len : ℕ). page_of (length (flat_of c.args.self.now.pages).bytes) c.args.at len) (sym c.bytes.ensures.is) ∙ c.in-Some.ensures) in
    is_in_page c.args.self.now.pages c.self.inside.pages.items c.in-Some.number c.index_mut.result.now (ap the_pages (sym c.self.view_is)) c.self.invariant.are below c.index_mut.ensures.value c.args.at (width_bytes c.args.width) (ap (λ (len : ℕ). page_of (length (flat_of c.args.self.now.pages).bytes) c.args.at len) (sym c.bytes.ensures.is) ∙ c.in-Some.ensures)

pub invariant_of-self : goal.invariant_of-self
invariant_of-self c = by_test c.write_marked.result refl
  where
    by_test : (b : Bool) → c.write_marked.result ≡ b
        → IsSet (set c.self.inside.pages.items c.in-Some.number c.write_marked.new.self) (length c.self.inside.spare.items) c.self.inside.owned c.self.inside.blocks.items c.self.inside.held.items
    by_test true is =
        let below = number_below c.args.self.now.pages c.self.inside.pages.items c.in-Some.number (read_of c.args.width c.args.at) (ap the_pages (sym c.self.view_is)) c.self.invariant.are (ap (λ (len : ℕ). page_of (length (flat_of c.args.self.now.pages).bytes) c.args.at len) (sym c.bytes.ensures.is) ∙ c.in-Some.ensures) in
        let long = ap count_of c.self.view_is in
        is_set c.args.self.now c.self.inside.pages.items c.in-Some.number c.index_mut.result.now c.write_marked.new.self (length c.self.inside.spare.items) (length c.self.inside.spare.items) (sym c.self.view_is) below c.index_mut.ensures.value
        (takes_none c.index_mut.result.now c.write_marked.new.self (length c.self.inside.spare.items) (c.write_marked.ensures.made is) (ap (λ (p : PageValue). p.made) (c.write_marked.ensures.written is ActorId.Timer)))
        c.self.inside.owned c.self.inside.blocks.items c.self.inside.blocks.items c.self.inside.held.items c.self.inside.held.items c.self.invariant
        (word_stays c.args.self.now.pages c.self.inside.pages.items c.in-Some.number c.index_mut.result.now (ap the_pages (sym c.self.view_is)) c.self.invariant.are below c.index_mut.ensures.value c.write_marked.new.self ActorId.Timer c.args.at c.args.word c.args.width (ap (λ (len : ℕ). page_of (length (flat_of c.args.self.now.pages).bytes) c.args.at len) (sym c.bytes.ensures.is) ∙ c.in-Some.ensures) (c.write_marked.ensures.written is ActorId.Timer))
        (summed_kept is_marked c.self.inside.pages.items c.self.inside.blocks.items c.in-Some.number c.index_mut.result.now c.write_marked.new.self (omega (arith, below, long)) c.index_mut.ensures.value (λ _. c.write_marked.ensures.marked is) c.self.invariant.summed)
        (summed_kept holds c.self.inside.pages.items c.self.inside.held.items c.in-Some.number c.index_mut.result.now c.write_marked.new.self (omega (arith, below, long)) c.index_mut.ensures.value
        (written_holds c.index_mut.result.now c.write_marked.new.self ActorId.Timer c.args.at (bytes_of (width_bytes c.args.width) c.args.word) (c.write_marked.ensures.written is ActorId.Timer)) c.self.invariant.holds)
    by_test false is =
        subst (λ (l : List PageValue). IsSet l (length c.self.inside.spare.items) c.self.inside.owned c.self.inside.blocks.items c.self.inside.held.items)
        (sym (ap (λ (p : PageValue). set c.self.inside.pages.items c.in-Some.number p) (c.write_marked.ensures.left is ∙ c.index_mut.ensures.value)
        ∙ set-get_or c.self.inside.pages.items c.in-Some.number c.index_mut.result.now))
        c.self.invariant

pub returns-in-Some-clause-memory : goal.returns-in-Some-clause-memory
returns-in-Some-clause-memory c = λ is writer.
    let below = number_below c.args.self.now.pages c.self.inside.pages.items c.in-Some.number (read_of c.args.width c.args.at) (ap the_pages (sym c.self.view_is)) c.self.invariant.are (ap (λ (len : ℕ). page_of (length (flat_of c.args.self.now.pages).bytes) c.args.at len) (sym c.bytes.ensures.is) ∙ c.in-Some.ensures) in
    word_memory c.args.self.now.pages c.self.inside.pages.items c.in-Some.number c.index_mut.result.now (ap the_pages (sym c.self.view_is)) c.self.invariant.are below c.index_mut.ensures.value c.write_marked.new.self writer c.args.at c.args.word c.args.width (ap (λ (len : ℕ). page_of (length (flat_of c.args.self.now.pages).bytes) c.args.at len) (sym c.bytes.ensures.is) ∙ c.in-Some.ensures) (c.write_marked.ensures.written is writer)

pub returns-in-Some-clause-marks : goal.returns-in-Some-clause-marks
returns-in-Some-clause-marks c = λ is.
    let below = number_below c.args.self.now.pages c.self.inside.pages.items c.in-Some.number (read_of c.args.width c.args.at) (ap the_pages (sym c.self.view_is)) c.self.invariant.are (ap (λ (len : ℕ). page_of (length (flat_of c.args.self.now.pages).bytes) c.args.at len) (sym c.bytes.ensures.is) ∙ c.in-Some.ensures) in
    word_marks c.args.self.now.pages c.self.inside.pages.items c.in-Some.number c.index_mut.result.now (ap the_pages (sym c.self.view_is)) c.self.invariant.are below c.index_mut.ensures.value c.write_marked.new.self ActorId.Timer c.args.at c.args.word c.args.width (ap (λ (len : ℕ). page_of (length (flat_of c.args.self.now.pages).bytes) c.args.at len) (sym c.bytes.ensures.is) ∙ c.in-Some.ensures) (c.write_marked.ensures.written is ActorId.Timer)

pub returns-in-Some-clause-spends : goal.returns-in-Some-clause-spends
returns-in-Some-clause-spends c = by_test c.write_marked.result refl
  where
    by_test : (b : Bool) → c.write_marked.result ≡ b
        → Spends 0 c.args.self.now (record { pages = set c.self.inside.pages.items c.in-Some.number c.write_marked.new.self; spare = length c.self.inside.spare.items })
    by_test true is =
        let below = number_below c.args.self.now.pages c.self.inside.pages.items c.in-Some.number (read_of c.args.width c.args.at) (ap the_pages (sym c.self.view_is)) c.self.invariant.are (ap (λ (len : ℕ). page_of (length (flat_of c.args.self.now.pages).bytes) c.args.at len) (sym c.bytes.ensures.is) ∙ c.in-Some.ensures) in
        none_spent c.args.self.now c.self.inside.pages.items c.in-Some.number c.index_mut.result.now c.write_marked.new.self (length c.self.inside.spare.items) (sym c.self.view_is) below c.index_mut.ensures.value
        (c.write_marked.ensures.made is) (ap (λ (p : PageValue). p.made) (c.write_marked.ensures.written is ActorId.Timer))
    by_test false is =
        subst (λ (l : List PageValue). Spends 0 c.args.self.now (record { pages = l; spare = length c.self.inside.spare.items }))
        (sym (ap (λ (p : PageValue). set c.self.inside.pages.items c.in-Some.number p) (c.write_marked.ensures.left is ∙ c.index_mut.ensures.value)
        ∙ set-get_or c.self.inside.pages.items c.in-Some.number c.index_mut.result.now))
        (subst (Spends 0 c.args.self.now) (sym c.self.view_is) (no_spends 0 c.args.self.now))

pub returns-in-Some-clause-answer : goal.returns-in-Some-clause-answer
returns-in-Some-clause-answer c =
    let found = ap (λ (len : ℕ). page_of (length (flat_of c.args.self.now.pages).bytes) c.args.at len) (sym c.bytes.ensures.is) ∙ c.in-Some.ensures in
    let below = number_below c.args.self.now.pages c.self.inside.pages.items c.in-Some.number (read_of c.args.width c.args.at) (ap the_pages (sym c.self.view_is)) c.self.invariant.are found in
    let long = ap count_of c.self.view_is in
    c.write_marked.ensures.answer
    ∙ sym (mark_here is_marked_unreserved c.self.inside.pages.items c.in-Some.number c.index_mut.result.now (omega (arith, below, long)) c.index_mut.ensures.value)
    ∙ ap (λ (pages : List PageValue). slice_index_or (map is_marked_unreserved pages) c.in-Some.number false) (ap the_pages c.self.view_is)
    ∙ sym (ap (λ (place : PlaceId). is_marked_unreserved_at place c.args.self.now.pages)
    (ap (λ (len : ℕ). page_of (length (flat_of c.args.self.now.pages).bytes) c.args.at len) (whole (width_bytes c.args.width) c.args.word) ∙ found))
