-- An actor that may act can be fed, and how the places of a slice are made at first.
use Rattle.std.proofs.Common.{◌≡◌, ℕ, zero, suc, ◌+◌, ◌<◌, Bool, true, false, List, [], ◌∷◌, length, inl, inr, refl, sym, ap, ◌∙◌, subst, arith}
use Rattle.std.proofs.lemmas.Bool.{eq-eqb}
use mathlib.Core.Option.{some}
use lib.ListN.{get_elem?}
use Rattle.vm_types.specs.declared.ids.PlaceId.{PlaceId}
use Rattle.vm_types.specs.declared.op.Op.{Op}
use Rattle.vm_types.specs.Ids.{is_out, same_place}
use Rattle.machine_places.specs.declared.place.MachinePlace.{MachinePlace}
use Rattle.machine_places.specs.Acts.{IsMade}
use Rattle.machine_places.specs.Laid.{index_among}
use Rattle.machine_places.proofs.Indexing.{are_apart}
use Rattle.stamp_merge.specs.declared.layout.Layout.{Layout}
use Rattle.stamp_merge.proofs.Serial.{same_place-eq}
use Rattle.turn_table.specs.declared.view.View.{View}
use Rattle.turn_table.specs.Blanks.{CanFeed, WasMadeAt}
use Rattle.turn_work.specs.Work.{AreNamed}
use Rattle.slice_runner.specs.Blanks.{AreMade, CanAct, made_at}
use Rattle.slice_runner.specs.Values.{route_among}

-- what stands at an index that there is
one_there : {A : Type 0} (xs : List A) (i : ℕ) → i < length xs → (x : A) × (get_elem? xs i ≡ some x)
one_there [] i lt = absurd (omega arith)
one_there (x ∷ xs) zero lt = (x, refl)
one_there (x ∷ xs) (suc i) lt = one_there xs i (omega arith)

module _ (made : List Bool) (layout : Layout) (v : View MachinePlace) (op : Op) (place : PlaceId) (i blanks : ℕ)
    (named : AreNamed (index_among layout) v.round) (are : AreMade layout made v.round) (inner : is_out place ≡ false)
    (placed : place ≡ route_among layout op) (is : i ≡ index_among layout place) (below : i < layout.pages + (layout.ports + 1)) where
  was : made_at made (route_among layout op) ≡ true → WasMadeAt IsMade v i
  was so =
      let many = are.many in
      let at = one_there v.round.opens i (omega (arith, below, many)) in
      let name = named i at.0 at.1 in
      let less : index_among layout at.0.id < layout.pages + (layout.ports + 1) =
      subst (λ (n : ℕ). n < layout.pages + (layout.ports + 1)) (sym name.0) below in
      let test : same_place at.0.id place ≡ true =
      sym (are_apart layout at.0.id place less) ∙ eq-eqb (index_among layout at.0.id) (index_among layout place) (name.0 ∙ is) in
      let same : at.0.id ≡ place = same_place-eq at.0.id place test in
      (at.0, at.1, are.each i at.0 at.1 (ap (made_at made) (same ∙ placed) ∙ so))

  pub can_feed : CanAct made layout op blanks → CanFeed IsMade v i blanks
  can_feed (inl so) = inl (inl (was so))
  can_feed (inr some_left) = inr some_left
