-- An actor's seat, as it begins, acts and leaves.
use Rattle.std.proofs.Common.{◌≡◌, ℕ, ◌<◌, List, [], ◌∷◌, ◌++◌, map, length, refl, sym, ap, ◌∙◌, subst, append-nil}
use Rattle.std.specs.List.{AllByRecursion}
use Rattle.atomic_table.specs.declared.shared.Seat.{Seat}
use Rattle.vm_types.specs.declared.entry.Entry.{Entry}
use Rattle.vm_types.specs.declared.ids.PlaceId.{PlaceId}
use Rattle.turn_table.specs.declared.held.Held.{Held}
use Rattle.turn_table.specs.declared.view.Noted.{Noted}
use Rattle.turn_table.specs.declared.view.Round.{Round}
use Rattle.turn_table.specs.declared.view.View.{View}
use Rattle.turn_table.specs.Steps.{IsReady}
use Rattle.turn_table.specs.Views.{fewer}
use Rattle.turn_law.specs.Rounds.{AreIndexed, entry_of}
use Rattle.turn_work.specs.declared.worker.Worker.{Worker}
use Rattle.turn_work.specs.Work.{AreNamed, HasNoted, IsAtWork}
use Rattle.stamp_merge.specs.declared.journal.Journal.{Journal}
use Rattle.stamp_merge.specs.Journals.{all_of}
use Rattle.stamp_merge.specs.Merged.{journals_of}
use Rattle.stamp_merge.proofs.Flat.{all_of-append}
use Rattle.machine_places.specs.declared.place.MachinePlace.{MachinePlace}
use Rattle.machine_places.specs.Laid.{index_among}
use Rattle.slice_runner.specs.declared.places.Places.{Places}
use Rattle.slice_runner.specs.Blanks.{AreMade}
use Rattle.slice_runner.specs.Seats.{IsBare, IsSeated, IsSeatedIn, StaysSeated}

module _ (places : Places) where
  abbrev index : PlaceId → ℕ
  index = index_among places.layout

  -- one part less, and nothing else
  pub bare_fewer : (old new : Seat (Held MachinePlace) (View MachinePlace)) → IsBare places old → new.me.0 ≡ fewer old.me.0
      → IsReady places.turns.table.shared.table_id places.turns.round new → IsBare places new
  bare_fewer old new h is ready = record {
    ready = ready;
    bare = ap (λ (v : View MachinePlace). v.entries) is ∙ h.bare;
    named = subst (AreNamed index) (sym (ap (λ (v : View MachinePlace). v.round) is)) h.named;
    made = subst (AreMade places.layout places.made.items) (sym (ap (λ (v : View MachinePlace). v.round) is)) h.made;
  }

  -- a seat that noted nothing
  pub bare_noted : (seat : Seat (Held MachinePlace) (View MachinePlace)) → IsBare places seat → HasNoted seat.me.0.round index seat.me.0 []
  bare_noted seat h = record {
    round_is = refl;
    same = ap (map entry_of) h.bare;
    indexed = subst (λ (xs : List (Noted MachinePlace)). AreIndexed index xs) (sym h.bare) tt;
    inside = subst (λ (xs : List (Noted MachinePlace)). AllByRecursion (λ (x : Noted MachinePlace). x.place < length seat.me.0.round.opens) xs) (sym h.bare) tt;
  }

  -- an actor that begins
  pub seated_first : (seat : Seat (Held MachinePlace) (View MachinePlace)) (w : Worker MachinePlace) → IsBare places seat
      → IsAtWork places.turns.table.shared.table_id places.turns.round w → HasNoted seat.me.0.round index w.seat.me.0 [] → w.journal.items ≡ []
      → IsSeatedIn places seat.me.0.round w
  seated_first seat w h work noted none = record {
    seat = record {
      work = work;
      named = subst (AreNamed index) (sym noted.round_is) h.named;
      made = subst (AreMade places.layout places.made.items) (sym noted.round_is) h.made;
      noted = subst (λ (es : List Entry). HasNoted w.seat.me.0.round index w.seat.me.0 es) (sym none)
          (subst (λ (r : Round MachinePlace). HasNoted r index w.seat.me.0 []) (sym noted.round_is) noted);
    };
    round_is = noted.round_is;
  }

  -- an actor that acted
  pub seated_on : (before after : Worker MachinePlace) → IsSeated places before
      → IsAtWork places.turns.table.shared.table_id places.turns.round after
      → HasNoted before.seat.me.0.round index after.seat.me.0 after.journal.items → IsSeatedIn places before.seat.me.0.round after
  seated_on before after h work noted = record {
    seat = record {
      work = work;
      named = subst (AreNamed index) (sym noted.round_is) h.named;
      made = subst (AreMade places.layout places.made.items) (sym noted.round_is) h.made;
      noted = subst (λ (r : Round MachinePlace). HasNoted r index after.seat.me.0 after.journal.items) (sym noted.round_is) noted;
    };
    round_is = noted.round_is;
  }

  -- one step after another
  pub seated_still : (r : Round MachinePlace) (before after : Worker MachinePlace) → before.seat.me.0.round ≡ r
      → IsSeatedIn places before.seat.me.0.round after → IsSeatedIn places r after
  seated_still r before after is h = record { seat = h.seat; round_is = h.round_is ∙ is }

  -- a seat that is as it was
  pub seated_same : (before after : Worker MachinePlace) → IsSeated places before → after ≡ before → StaysSeated places before after
  seated_same before after h is =
      subst (λ (w : Worker MachinePlace). StaysSeated places before w) (sym is) (record { seat = h; round_is = refl })

  pub seated_after : (before mid after : Worker MachinePlace) → mid ≡ before → StaysSeated places mid after → StaysSeated places before after
  seated_after before mid after is h = subst (λ (w : Worker MachinePlace). StaysSeated places w after) is h

-- the entries of one journal more
pub all_more : (old new : List Journal) (j : Journal) → new ≡ old ++ j ∷ [] → all_of (journals_of new) ≡ all_of (journals_of old) ++ j.entries.items
all_more old new j is =
    ap (λ (l : List Journal). all_of (journals_of l)) is ∙ all_of-append old (j ∷ [])
    ∙ ap (λ (es : List Entry). all_of (journals_of old) ++ es) (append-nil j.entries.items)
