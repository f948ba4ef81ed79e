-- No two places of a machine have one index.
use Rattle.std.proofs.Common.{◌≡◌, ◌≢◌, ℕ, ◌+◌, ◌<◌, ◌≤◌, ◌==◌, nat_lt, Bool, true, false, cond, refl, sym, ap, ◌∙◌, arith, eq-eqb, ne_eqb}
use Rattle.std.proofs.lemmas.Bool.{ltb-true, ltb-false}
use mathlib.Core.Logic.{dite}
use native.Mathlib.Decide.{ℕ_discrete}
use Rattle.vm_types.specs.declared.ids.PlaceId.{PlaceId}
use Rattle.vm_types.specs.declared.ids.PlaceId.TheVariants.{Page, Port, Board, Out}
use Rattle.vm_types.specs.Ids.{same_place}
use Rattle.stamp_merge.specs.declared.layout.Layout.{Layout}
use Rattle.machine_places.specs.Laid.{index_among}

-- two tests of numbers that differ on both sides
apart : (a b i j : ℕ) → a ≢ b → i ≢ j → (a == b) ≡ (i == j)
apart a b i j ab ij = ne_eqb a b ab ∙ sym (ne_eqb i j ij)

shifted : (n i j : ℕ) → (n + i == n + j) ≡ (i == j)
shifted n i j =
    dite (ℕ_discrete i j)
    (λ e. eq-eqb (n + i) (n + j) (ap (λ k. n + k) e) ∙ sym (eq-eqb i j e))
    (λ ne. apart (n + i) (n + j) i j (λ e. ne (omega (arith, e))) ne)

module _ (pages ports : ℕ) where
  abbrev page_index : ℕ → Bool → ℕ
  page_index i low = cond low i (i + (ports + 1))

  abbrev port_index : ℕ → Bool → ℕ
  port_index k low = cond low (pages + k) (pages + (k + 1))

  abbrev end : ℕ
  end = pages + (ports + 1)

  page_page : (i j : ℕ) (a b : Bool) → nat_lt i pages ≡ a → nat_lt j pages ≡ b → page_index i a < end → (page_index i a == page_index j b) ≡ (i == j)
  page_page i j true true p q lt = refl
  page_page i j true false p q lt =
      let low = ltb-true i pages p in
      let far = ltb-false j pages q in
      apart i (j + (ports + 1)) i j (λ e. absurd (omega (arith, low, far, e))) (λ e. absurd (omega (arith, low, far, e)))
  page_page i j false b p q lt = let far = ltb-false i pages p in absurd (omega (arith, far, lt))

  page_else : (i n : ℕ) (a : Bool) → nat_lt i pages ≡ a → page_index i a < end → pages ≤ n → (page_index i a == n) ≡ false
  page_else i n true p lt far = let low = ltb-true i pages p in ne_eqb i n (λ e. absurd (omega (arith, low, far, e)))
  page_else i n false p lt far = let past = ltb-false i pages p in absurd (omega (arith, past, lt))

  port_far : (k : ℕ) (b : Bool) → pages ≤ port_index k b
  port_far k true = omega arith
  port_far k false = omega arith

  port_page : (k j : ℕ) (a b : Bool) → nat_lt k ports ≡ a → nat_lt j pages ≡ b → port_index k a < end → (port_index k a == page_index j b) ≡ false
  port_page k j true true p q lt = let low = ltb-true j pages q in ne_eqb (pages + k) j (λ e. absurd (omega (arith, low, e)))
  port_page k j true false p q lt =
      let low = ltb-true k ports p in
      let far = ltb-false j pages q in
      ne_eqb (pages + k) (j + (ports + 1)) (λ e. absurd (omega (arith, low, far, e)))
  port_page k j false b p q lt = let far = ltb-false k ports p in absurd (omega (arith, far, lt))

  port_port : (k l : ℕ) (a b : Bool) → nat_lt k ports ≡ a → nat_lt l ports ≡ b → port_index k a < end → (port_index k a == port_index l b) ≡ (k == l)
  port_port k l true true p q lt = shifted pages k l
  port_port k l true false p q lt =
      let low = ltb-true k ports p in
      let far = ltb-false l ports q in
      apart (pages + k) (pages + (l + 1)) k l (λ e. absurd (omega (arith, low, far, e))) (λ e. absurd (omega (arith, low, far, e)))
  port_port k l false b p q lt = let far = ltb-false k ports p in absurd (omega (arith, far, lt))

  port_else : (k n : ℕ) (a : Bool) → nat_lt k ports ≡ a → port_index k a < end → pages + ports ≤ n → (port_index k a == n) ≡ false
  port_else k n true p lt far = let low = ltb-true k ports p in ne_eqb (pages + k) n (λ e. absurd (omega (arith, low, far, e)))
  port_else k n false p lt far = let past = ltb-false k ports p in absurd (omega (arith, past, lt))

  board_page : (j : ℕ) (b : Bool) → nat_lt j pages ≡ b → (pages + ports == page_index j b) ≡ false
  board_page j true q = let low = ltb-true j pages q in ne_eqb (pages + ports) j (λ e. absurd (omega (arith, low, e)))
  board_page j false q =
      let far = ltb-false j pages q in ne_eqb (pages + ports) (j + (ports + 1)) (λ e. absurd (omega (arith, far, e)))

  board_port : (l : ℕ) (b : Bool) → nat_lt l ports ≡ b → (pages + ports == port_index l b) ≡ false
  board_port l true q = let low = ltb-true l ports q in ne_eqb (pages + ports) (pages + l) (λ e. absurd (omega (arith, low, e)))
  board_port l false q =
      let far = ltb-false l ports q in ne_eqb (pages + ports) (pages + (l + 1)) (λ e. absurd (omega (arith, far, e)))

pub are_apart : (layout : Layout) (p q : PlaceId) → index_among layout p < layout.pages + (layout.ports + 1) → (index_among layout p == index_among layout q) ≡ same_place p q
are_apart layout (Page i) (Page j) lt =
    page_page layout.pages layout.ports i j (nat_lt i layout.pages) (nat_lt j layout.pages) refl refl lt
are_apart layout (Page i) (Port l) lt =
    page_else layout.pages layout.ports i (index_among layout (Port l)) (nat_lt i layout.pages) refl lt (port_far layout.pages layout.ports l (nat_lt l layout.ports))
are_apart layout (Page i) Board lt =
    page_else layout.pages layout.ports i (layout.pages + layout.ports) (nat_lt i layout.pages) refl lt (omega arith)
are_apart layout (Page i) Out lt =
    page_else layout.pages layout.ports i (layout.pages + (layout.ports + 1)) (nat_lt i layout.pages) refl lt (omega arith)
are_apart layout (Port k) (Page j) lt =
    port_page layout.pages layout.ports k j (nat_lt k layout.ports) (nat_lt j layout.pages) refl refl lt
are_apart layout (Port k) (Port l) lt =
    port_port layout.pages layout.ports k l (nat_lt k layout.ports) (nat_lt l layout.ports) refl refl lt
are_apart layout (Port k) Board lt =
    port_else layout.pages layout.ports k (layout.pages + layout.ports) (nat_lt k layout.ports) refl lt (omega arith)
are_apart layout (Port k) Out lt =
    port_else layout.pages layout.ports k (layout.pages + (layout.ports + 1)) (nat_lt k layout.ports) refl lt (omega arith)
are_apart layout Board (Page j) lt = board_page layout.pages layout.ports j (nat_lt j layout.pages) refl
are_apart layout Board (Port l) lt = board_port layout.pages layout.ports l (nat_lt l layout.ports) refl
are_apart layout Board Board lt = eq-eqb (layout.pages + layout.ports) (layout.pages + layout.ports) refl
are_apart layout Board Out lt =
    ne_eqb (layout.pages + layout.ports) (layout.pages + (layout.ports + 1)) (λ e. absurd (omega (arith, e)))
are_apart layout Out q lt = absurd (omega (arith, lt))
