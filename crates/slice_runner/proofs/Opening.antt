-- A world whose places have just gone into a table, and what comes back.
use Rattle.std.proofs.Common.{◌≡◌, ℕ, zero, suc, ◌+◌, Bool, true, List, [], ◌∷◌, ◌++◌, map, length, sym, ap, ◌∙◌, subst, arith}
use Rattle.std.specs.Prelude.{slice_index_or}
use mathlib.Core.Option.{some}
use lib.ListN.{get_elem?}
use Rattle.atomic_table.specs.declared.shared.Seat.{Seat}
use Rattle.vm_types.specs.declared.ids.PlaceId.{PlaceId}
use Rattle.vm_types.specs.declared.ids.PlaceId.TheVariants as at
use Rattle.board_table.specs.Board.{Board as BoardValue}
use Rattle.port_table.specs.declared.state.PortState.{PortState}
use Rattle.guest_pages.specs.Made.{made_of}
use Rattle.guest_pages.specs.Pages.{PageValue}
use Rattle.stamp_merge.specs.declared.layout.Layout.{Layout}
use Rattle.turn_table.specs.declared.held.Held.{Held}
use Rattle.turn_table.specs.declared.view.Round.{Round}
use Rattle.turn_table.specs.declared.view.View.{View}
use Rattle.turn_table.specs.Steps.{IsReady}
use Rattle.turn_table.specs.Views.{newcomer}
use Rattle.turn_work.specs.Work.{AreNamed}
use Rattle.vm_world.specs.Worlds.{WorldValue}
use Rattle.machine_places.specs.declared.place.MachinePlace.{MachinePlace}
use Rattle.machine_places.specs.declared.place.MachinePlace.TheVariants as kind
use Rattle.machine_places.specs.Acts.{IsMade}
use Rattle.machine_places.specs.Laid.{AreLaid, id_of, ids_from, index_among, place_of}
use Rattle.machine_places.proofs.Named.{are_named, as_many, get_map}
use Rattle.slice_runner.specs.declared.places.Places.{Places}
use Rattle.slice_runner.specs.Blanks.{AreMade, made_at}
use Rattle.slice_runner.specs.Seats.{IsBare}
use Rattle.slice_runner.specs.Values.{layout_in}

-- ---- places in their list are made where they are marked so

-- behind the pages there is none
no_page : (ports : List PortState) (b : BoardValue) (i : ℕ) (p : PageValue)
    → get_elem? (map kind.Port ports ++ kind.Board b ∷ []) i ≡ some (kind.Page p) → ⊥
no_page [] b zero p there = cc
no_page [] b (suc i) p there = cc
no_page (q ∷ ports) b zero p there = cc
no_page (q ∷ ports) b (suc i) p there = no_page ports b i p there

-- a page by its index, with its id, among pages from the number k on
page_at : (k : ℕ) (pages : List PageValue) (ports : List PortState) (b : BoardValue) (behind : List PlaceId) (i : ℕ) (p : PageValue) (id : PlaceId)
    → get_elem? (map kind.Page pages ++ (map kind.Port ports ++ kind.Board b ∷ [])) i ≡ some (kind.Page p)
    → get_elem? (ids_from at.Page k (length pages) ++ behind) i ≡ some id
    → (id ≡ at.Page (k + i)) × (slice_index_or (made_of pages) i true ≡ p.made)
page_at k [] ports b behind i p id there named = absurd (no_page ports b i p there)
page_at k (q ∷ pages) ports b behind zero p id there named =
    let same : q ≡ p = cc in
    let first : at.Page k ≡ id = cc in
    let own : k ≡ k + 0 = omega arith in
    (sym first ∙ ap at.Page own, ap (λ (x : PageValue). x.made) same)
page_at k (q ∷ pages) ports b behind (suc i) p id there named =
    let rest = page_at (suc k) pages ports b behind i p id there named in
    let own : suc k + i ≡ k + suc i = omega arith in
    (rest.0 ∙ ap at.Page own, rest.1)

laid_made : (w : WorldValue) (list : List (Held MachinePlace)) → AreLaid w.pages w.ports w.board list → (i : ℕ) (held : Held MachinePlace)
    → get_elem? list i ≡ some held → made_at (made_of w.pages) held.id ≡ true → IsMade held.place
laid_made w list laid i held there so = by_place held.place (ap (λ l. get_elem? l i) (sym laid.places_are) ∙ get_map place_of list i held there)
  where
    by_place : (m : MachinePlace) → get_elem? (map kind.Page w.pages ++ (map kind.Port w.ports ++ kind.Board w.board ∷ [])) i ≡ some m → IsMade m
    by_place (kind.Page p) here =
        let is = page_at 0 w.pages w.ports w.board (ids_from at.Port 0 (length w.ports) ++ at.Board ∷ []) i p held.id here
        (ap (λ l. get_elem? l i) (sym laid.ids_are) ∙ get_map id_of list i held there) in
        let own : 0 + i ≡ i = omega arith in
        sym is.1 ∙ sym (ap (made_at (made_of w.pages)) (is.0 ∙ ap at.Page own)) ∙ so
    by_place (kind.Port p) here = tt
    by_place (kind.Board b) here = tt

-- ---- the first seat of a table

pub bare_first : (places : Places) (seat : Seat (Held MachinePlace) (View MachinePlace)) (k : ℕ) (list : List (Held MachinePlace)) (w : WorldValue)
    → IsReady places.turns.table.shared.table_id places.turns.round seat → seat.me.0 ≡ newcomer k (record { number = 0; opens = list })
    → places.layout ≡ layout_in w → places.made.items ≡ made_of w.pages → AreLaid w.pages w.ports w.board list → IsBare places seat
bare_first places seat k list w ready view layout made laid = record {
  ready = ready;
  bare = ap (λ (v : View MachinePlace). v.entries) view;
  named = subst (λ (l : Layout). AreNamed (index_among l) seat.me.0.round) (sym layout)
      (subst (λ (r : Round MachinePlace). AreNamed (index_among (layout_in w)) r) (sym (ap (λ (v : View MachinePlace). v.round) view))
      (λ i held at. are_named (length w.pages) (length w.ports) list laid.ids_are i held at));
  made = subst (λ (l : Layout). AreMade l places.made.items seat.me.0.round) (sym layout)
      (subst (λ (m : List Bool). AreMade (layout_in w) m seat.me.0.round) (sym made)
      (subst (λ (r : Round MachinePlace). AreMade (layout_in w) (made_of w.pages) r) (sym (ap (λ (v : View MachinePlace). v.round) view))
      (record { many = as_many (length w.pages) (length w.ports) list laid.ids_are; each = λ i held there so. laid_made w list laid i held there so })));
}
