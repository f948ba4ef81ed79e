-- The places of a list with all places are at their indices, and there is one for each.
use Rattle.std.proofs.Common.{◌≡◌, ℕ, zero, suc, ◌+◌, ◌-◌, ◌<◌, nat_lt, Bool, true, false, cond, List, [], ◌∷◌, ◌++◌, map, length, refl, sym, ap, ◌∙◌, subst, arith, length-append}
use Rattle.std.proofs.lemmas.Bool.{lt-ltb, ltb-true, ltb-false}
use mathlib.Core.Option.{none, some, some-ne-none}
use lib.ListN.{get_elem?}
use Rattle.vm_types.specs.declared.ids.PlaceId.{PlaceId}
use Rattle.vm_types.specs.declared.ids.PlaceId.TheVariants.{Page, Port, Board}
use Rattle.vm_types.specs.Ids.{is_out}
use Rattle.stamp_merge.specs.declared.layout.Layout.{Layout}
use Rattle.turn_table.specs.declared.held.Held.{Held}
use Rattle.machine_places.specs.declared.place.MachinePlace.{MachinePlace}
use Rattle.machine_places.specs.Laid.{id_of, ids_from, index_among}

pub get_map : {A B : Type 0} (f : A → B) (xs : List A) (i : ℕ) (x : A) → get_elem? xs i ≡ some x → get_elem? (map f xs) i ≡ some (f x)
get_map f [] i x at = absurd (some-ne-none x (sym at))
get_map f (y ∷ xs) zero x at = let same : y ≡ x = cc in ap (λ z. some (f z)) same
get_map f (y ∷ xs) (suc i) x at = get_map f xs i x at

ids_get : (name : ℕ → PlaceId) (k n : ℕ) (rest : List PlaceId) (i : ℕ) → i < n → get_elem? (ids_from name k n ++ rest) i ≡ some (name (k + i))
ids_get name k zero rest i lt = absurd (omega (arith, lt))
ids_get name k (suc n) rest zero lt = let e : k ≡ k + 0 = omega arith in ap (λ j. some (name j)) e
ids_get name k (suc n) rest (suc i) lt =
    let e : suc k + i ≡ k + suc i = omega arith in
    let less : i < n = omega (arith, lt) in
    ids_get name (suc k) n rest i less ∙ ap (λ j. some (name j)) e

ids_skip : (name : ℕ → PlaceId) (k n : ℕ) (rest : List PlaceId) (j : ℕ) → get_elem? (ids_from name k n ++ rest) (n + j) ≡ get_elem? rest j
ids_skip name k zero rest j = let e : 0 + j ≡ j = omega arith in ap (λ i. get_elem? rest i) e
ids_skip name k (suc n) rest j =
    let e : suc n + j ≡ suc (n + j) = omega arith in
    ap (λ i. get_elem? (name k ∷ (ids_from name (suc k) n ++ rest)) i) e ∙ ids_skip name (suc k) n rest j

module _ (n m : ℕ) where
  abbrev layout : Layout
  layout = record { pages = n; ports = m }

  abbrev behind : List PlaceId
  behind = ids_from Port 0 m ++ Board ∷ []

  abbrev ids : List PlaceId
  ids = ids_from Page 0 n ++ behind

  -- this place is at this index
  abbrev pub IsNamed : ℕ → PlaceId → Type 0
  IsNamed i p = (index_among layout p ≡ i) × (is_out p ≡ false)

  found : (i : ℕ) (p q : PlaceId) → get_elem? ids i ≡ some p → get_elem? ids i ≡ some q → IsNamed i q → IsNamed i p
  found i p q at is named = let same : p ≡ q = cc in subst (λ r. IsNamed i r) (sym same) named

  at_page : (i : ℕ) (p : PlaceId) → get_elem? ids i ≡ some p → i < n → IsNamed i p
  at_page i p at lt =
      let e : 0 + i ≡ i = omega arith in
      found i p (Page i) at (ids_get Page 0 n behind i lt ∙ ap (λ j. some (Page j)) e)
      (ap (λ (t : Bool). let r : ℕ = cond t i (i + (m + 1)) in r) (lt-ltb i n lt), refl)

  at_port : (k : ℕ) (p : PlaceId) → get_elem? ids (n + k) ≡ some p → k < m → IsNamed (n + k) p
  at_port k p at lt =
      let e : 0 + k ≡ k = omega arith in
      found (n + k) p (Port k) at (ids_skip Page 0 n behind k ∙ ids_get Port 0 m (Board ∷ []) k lt ∙ ap (λ j. some (Port j)) e)
      (ap (λ (t : Bool). let r : ℕ = cond t (n + k) (n + (k + 1)) in r) (lt-ltb k m lt), refl)

  at_board : (j : ℕ) (p : PlaceId) → get_elem? ids (n + (m + j)) ≡ some p → IsNamed (n + (m + j)) p
  at_board zero p at =
      let e : n + m ≡ n + (m + 0) = omega arith in
      found (n + (m + 0)) p Board at (ids_skip Page 0 n behind (m + 0) ∙ ids_skip Port 0 m (Board ∷ []) 0) (e, refl)
  at_board (suc j) p at =
      let nothing : get_elem? ids (n + (m + suc j)) ≡ none = ids_skip Page 0 n behind (m + suc j) ∙ ids_skip Port 0 m (Board ∷ []) (suc j) in
      absurd (some-ne-none p (sym at ∙ nothing))

  past_pages : (i : ℕ) (p : PlaceId) (k : ℕ) → i ≡ n + k → get_elem? ids i ≡ some p → (t : Bool) → nat_lt k m ≡ t → IsNamed i p
  past_pages i p k is at true lt =
      subst (λ j. IsNamed j p) (sym is) (at_port k p (ap (λ j. get_elem? ids j) (sym is) ∙ at) (ltb-true k m lt))
  past_pages i p k is at false ge =
      let far = ltb-false k m ge in
      let e : i ≡ n + (m + (k - m)) = omega (arith, is, far) in
      subst (λ j. IsNamed j p) (sym e) (at_board (k - m) p (ap (λ j. get_elem? ids j) (sym e) ∙ at))

  by_page : (i : ℕ) (p : PlaceId) → get_elem? ids i ≡ some p → (t : Bool) → nat_lt i n ≡ t → IsNamed i p
  by_page i p at true lt = at_page i p at (ltb-true i n lt)
  by_page i p at false ge =
      let far = ltb-false i n ge in
      let e : i ≡ n + (i - n) = omega (arith, far) in
      past_pages i p (i - n) e at (nat_lt (i - n) m) refl

  pub are_named : (places : List (Held MachinePlace)) → map id_of places ≡ ids → (i : ℕ) (held : Held MachinePlace) → get_elem? places i ≡ some held → IsNamed i held.id
  are_named places is i held at =
      by_page i held.id (ap (λ l. get_elem? l i) (sym is) ∙ get_map id_of places i held at) (nat_lt i n) refl

  ids_long : (name : ℕ → PlaceId) (k c : ℕ) → length (ids_from name k c) ≡ c
  ids_long name k zero = refl
  ids_long name k (suc c) = ap suc (ids_long name (suc k) c)

  map_long : {A B : Type 0} (f : A → B) (xs : List A) → length (map f xs) ≡ length xs
  map_long f [] = refl
  map_long f (x ∷ xs) = ap suc (map_long f xs)

  -- as many as the pages, the ports and the board
  pub as_many : (places : List (Held MachinePlace)) → map id_of places ≡ ids → length places ≡ n + (m + 1)
  as_many places is =
      omega (arith, map_long id_of places, ap length is, length-append (ids_from Page 0 n) behind, length-append (ids_from Port 0 m) (Board ∷ []), ids_long Page 0 n, ids_long Port 0 m)
