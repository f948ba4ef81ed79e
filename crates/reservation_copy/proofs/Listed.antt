-- What is reserved in the slots of one page, and in those behind them.
use Rattle.std.proofs.Common.{◌≡◌, ℕ, zero, suc, ◌+◌, ◌-◌, ◌*◌, ◌/◌, ◌%◌, ◌<◌, ◌≤◌, List, [], ◌∷◌, ◌++◌, Option, Some, None, length, take, drop, get_or, replicate, refl, sym, ap, ◌∙◌, arith, append_assoc, append-nil}
use Rattle.std.proofs.lemmas.List.{take-append-drop, drop-drop, drop_all, length-replicate}
use Rattle.snap_state.specs.declared.copy.Reservation.{Reservation}
use Rattle.flat_snapshot.specs.Copies.{reservations_from}

-- of slots behind others
from_append : (slot : ℕ) (xs ys : List (Option ℕ))
    → reservations_from slot (xs ++ ys) ≡ reservations_from slot xs ++ reservations_from (slot + length xs) ys
from_append slot [] ys =
    let same : slot ≡ slot + 0 = omega arith in ap (λ (s : ℕ). reservations_from s ys) same
from_append slot (None ∷ xs) ys =
    let next : suc slot + length xs ≡ slot + suc (length xs) = omega arith in
    from_append (suc slot) xs ys ∙ ap (λ (s : ℕ). reservations_from (suc slot) xs ++ reservations_from s ys) next
from_append slot (Some offset ∷ xs) ys =
    let next : suc slot + length xs ≡ slot + suc (length xs) = omega arith in
    ap (λ (l : List Reservation). record { page = slot / 32; hart = slot % 32; offset = offset } ∷ l)
    (from_append (suc slot) xs ys ∙ ap (λ (s : ℕ). reservations_from (suc slot) xs ++ reservations_from s ys) next)

none_from : (slot n : ℕ) → reservations_from slot (replicate n None) ≡ []
none_from slot zero = refl
none_from slot (suc n) = none_from (suc slot) n

-- ---- a page behind those before it

module _ (items : List Reservation) (k : ℕ) (all : List (Option ℕ)) (total : List Reservation)
    (so_far : items ++ reservations_from (32 * k) (drop (32 * k) all) ≡ total) where
  abbrev rest : List Reservation
  rest = reservations_from (32 * (k + 1)) (drop (32 * (k + 1)) all)

  pub page_more : (slots : List (Option ℕ)) → slots ≡ take 32 (drop (32 * k) all) → length slots ≡ 32
      → (items ++ reservations_from (32 * k) slots) ++ reservations_from (32 * (k + 1)) (drop (32 * (k + 1)) all) ≡ total
  page_more slots is long =
      let next : 32 * k + 32 ≡ 32 * (k + 1) = omega arith in
      let behind : 32 * k + length slots ≡ 32 * (k + 1) = omega (arith, long) in
      let split : drop (32 * k) all ≡ slots ++ drop (32 * (k + 1)) all =
      sym (take-append-drop 32 (drop (32 * k) all))
      ∙ ap (λ (l : List (Option ℕ)). l ++ drop 32 (drop (32 * k) all)) (sym is)
      ∙ ap (λ (l : List (Option ℕ)). slots ++ l) (drop-drop 32 (32 * k) all)
      ∙ ap (λ (n : ℕ). slots ++ drop n all) next in
      append_assoc items (reservations_from (32 * k) slots) rest
      ∙ ap (λ (l : List Reservation). items ++ l)
      (sym (ap (reservations_from (32 * k)) split
      ∙ from_append (32 * k) slots (drop (32 * (k + 1)) all)
      ∙ ap (λ (s : ℕ). reservations_from (32 * k) slots ++ reservations_from s (drop (32 * (k + 1)) all)) behind))
      ∙ so_far

  pub page_free : take 32 (drop (32 * k) all) ≡ replicate 32 None
      → items ++ reservations_from (32 * (k + 1)) (drop (32 * (k + 1)) all) ≡ total
  page_free is =
      let none : items ++ reservations_from (32 * k) (replicate 32 None) ≡ items =
      ap (λ (l : List Reservation). items ++ l) (none_from (32 * k) 32) ∙ append-nil items in
      ap (λ (l : List Reservation). l ++ rest) (sym none) ∙ page_more (replicate 32 None) (sym is) refl

-- pages in which nothing is
pub pages_free : (items : List Reservation) (from to : ℕ) (all : List (Option ℕ)) (total : List Reservation) → from ≤ to
    → drop (32 * from) all ≡ replicate (32 * (to - from)) None ++ drop (32 * to) all
    → items ++ reservations_from (32 * from) (drop (32 * from) all) ≡ total → items ++ reservations_from (32 * to) (drop (32 * to) all) ≡ total
pages_free items from to all total on free so_far =
    let n : ℕ = 32 * (to - from) in
    let none : List (Option ℕ) = replicate n None in
    let long : length none ≡ n = length-replicate n None in
    let end : 32 * from + length none ≡ 32 * to = omega (arith, on, long) in
    ap (λ (l : List Reservation). items ++ l)
    (sym (ap (reservations_from (32 * from)) free
    ∙ from_append (32 * from) none (drop (32 * to) all)
    ∙ ap (λ (l : List Reservation). l ++ reservations_from (32 * from + length none) (drop (32 * to) all)) (none_from (32 * from) n)
    ∙ ap (λ (s : ℕ). reservations_from s (drop (32 * to) all)) end))
    ∙ so_far

-- behind the last page nothing is
pub all_listed : (items : List Reservation) (k : ℕ) (all : List (Option ℕ)) (total : List Reservation) → length all ≤ 32 * k
    → items ++ reservations_from (32 * k) (drop (32 * k) all) ≡ total → items ≡ total
all_listed items k all total past so_far =
    sym (append-nil items) ∙ ap (λ (l : List (Option ℕ)). items ++ reservations_from (32 * k) l) (sym (drop_all (32 * k) all past)) ∙ so_far

-- ---- a slot behind those before it

drop_suc : (slots : List (Option ℕ)) (k : ℕ) → k < length slots → drop k slots ≡ get_or slots k None ∷ drop (suc k) slots
drop_suc [] k lt = absurd (omega arith)
drop_suc (x ∷ xs) zero lt = refl
drop_suc (x ∷ xs) (suc k) lt = drop_suc xs k (omega arith)

drop_one : (slots : List (Option ℕ)) (k : ℕ) → k < length slots → drop k slots ≡ get_or slots k None ∷ drop (k + 1) slots
drop_one slots k lt =
    let next : suc k ≡ k + 1 = omega arith in drop_suc slots k lt ∙ ap (λ (n : ℕ). get_or slots k None ∷ drop n slots) next

module _ (items all : List Reservation) (page k : ℕ) (slots : List (Option ℕ)) (lt : k < length slots)
    (so_far : items ++ reservations_from (32 * page + k) (drop k slots) ≡ all) where
  pub slot_free : get_or slots k None ≡ None → items ++ reservations_from (32 * page + (k + 1)) (drop (k + 1) slots) ≡ all
  slot_free is =
      let here : drop k slots ≡ None ∷ drop (k + 1) slots =
      drop_one slots k lt ∙ ap (λ (o : Option ℕ). o ∷ drop (k + 1) slots) is in
      let next : suc (32 * page + k) ≡ 32 * page + (k + 1) = omega arith in
      ap (λ (s : ℕ). items ++ reservations_from s (drop (k + 1) slots)) (sym next)
      ∙ ap (λ (l : List (Option ℕ)). items ++ reservations_from (32 * page + k) l) (sym here) ∙ so_far

  pub slot_more : (offset : ℕ) → length slots ≡ 32 → get_or slots k None ≡ Some offset
      → (items ++ record { page = page; hart = k; offset = offset } ∷ []) ++ reservations_from (32 * page + (k + 1)) (drop (k + 1) slots) ≡ all
  slot_more offset long is =
      let here : drop k slots ≡ Some offset ∷ drop (k + 1) slots =
      drop_one slots k lt ∙ ap (λ (o : Option ℕ). o ∷ drop (k + 1) slots) is in
      let next : suc (32 * page + k) ≡ 32 * page + (k + 1) = omega arith in
      let of_page : (32 * page + k) / 32 ≡ page = omega (arith, lt, long) in
      let of_hart : (32 * page + k) % 32 ≡ k = omega (arith, lt, long) in
      append_assoc items (record { page = page; hart = k; offset = offset } ∷ []) (reservations_from (32 * page + (k + 1)) (drop (k + 1) slots))
      ∙ ap (λ (s : ℕ). items ++ record { page = page; hart = k; offset = offset } ∷ reservations_from s (drop (k + 1) slots)) (sym next)
      ∙ (λ i. items ++ record { page = sym of_page i; hart = sym of_hart i; offset = offset } ∷ reservations_from (suc (32 * page + k)) (drop (k + 1) slots))
      ∙ ap (λ (l : List (Option ℕ)). items ++ reservations_from (32 * page + k) l) (sym here) ∙ so_far
