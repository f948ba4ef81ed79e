-- What a test picks out of lists with the same elements.
use Rattle.std.proofs.Common.{ℕ, zero, suc, ◌<◌, Bool, true, false, cond, List, [], ◌∷◌, length, get_or, set, swap, filter, arith}
use Rattle.std.specs.List.Sorted.{IsPermutation}
use Rattle.std.proofs.lemmas.List.Sorted.{IsPermutation-refl, IsPermutation-keeps, IsPermutation-trans, IsPermutation-cons, IsPermutation-middle}

one_more : {X : Type 0} (x : X) (xs ys : List X) (b : Bool) → IsPermutation xs ys → IsPermutation (cond b (x ∷ xs) xs) (cond b (x ∷ ys) ys)
one_more x xs ys true h = IsPermutation-cons x xs ys h
one_more x xs ys false h = h

two_more : {X : Type 0} (x y : X) (l : List X) (b c : Bool) → IsPermutation (cond b (x ∷ cond c (y ∷ l) l) (cond c (y ∷ l) l)) (cond c (y ∷ cond b (x ∷ l) l) (cond b (x ∷ l) l))
two_more x y l true true = IsPermutation-middle (x ∷ []) y l
two_more x y l true false = IsPermutation-refl (x ∷ l)
two_more x y l false true = IsPermutation-refl (y ∷ l)
two_more x y l false false = IsPermutation-refl l

module _ {X : Type 0} (p : X → Bool) where
  abbrev Picked : List X → List X → Type 0
  Picked xs ys = IsPermutation (filter p xs) (filter p ys)

  turned : (x y : X) (xs : List X) → Picked (x ∷ y ∷ xs) (y ∷ x ∷ xs)
  turned x y xs = two_more x y (filter p xs) (p x) (p y)

  under : (x : X) (xs ys : List X) → Picked xs ys → Picked (x ∷ xs) (x ∷ ys)
  under x xs ys h = one_more x (filter p xs) (filter p ys) (p x) h

  chain : (xs ys zs : List X) → Picked xs ys → Picked ys zs → Picked xs zs
  chain xs ys zs a b = IsPermutation-trans (filter p xs) (filter p ys) (filter p zs) a b

  -- the head and the element at j change places
  with_head : (l : List X) (j : ℕ) (x d : X) → j < length l → Picked (x ∷ l) (get_or l j d ∷ set l j x)
  with_head [] j x d lt = absurd (omega (arith, lt))
  with_head (y ∷ l) zero x d lt = turned x y l
  with_head (y ∷ l) (suc j) x d lt =
      chain (x ∷ y ∷ l) (y ∷ x ∷ l) (get_or l j d ∷ y ∷ set l j x) (turned x y l)
      (chain (y ∷ x ∷ l) (y ∷ get_or l j d ∷ set l j x) (get_or l j d ∷ y ∷ set l j x) (under y (x ∷ l) (get_or l j d ∷ set l j x) (with_head l j x d (omega (arith, lt))))
      (turned y (get_or l j d) (set l j x)))

  both : (l : List X) (i j : ℕ) (d : X) → i < length l → j < length l → Picked l (set (set l i (get_or l j d)) j (get_or l i d))
  both [] i j d a b = absurd (omega (arith, a))
  both (x ∷ l) zero zero d a b = IsPermutation-refl (filter p (x ∷ l))
  both (x ∷ l) zero (suc j) d a b = with_head l j x d (omega (arith, b))
  both (x ∷ l) (suc i) zero d a b = with_head l i x d (omega (arith, a))
  both (x ∷ l) (suc i) (suc j) d a b =
      under x l (set (set l i (get_or l j d)) j (get_or l i d)) (both l i j d (omega (arith, a)) (omega (arith, b)))

  swapped : (l : List X) (i j : ℕ) → i < length l → j < length l → Picked l (swap l i j)
  swapped [] i j a b = IsPermutation-refl []
  swapped (x ∷ l) i j a b = both (x ∷ l) i j x a b

  -- has the same elements still
  pub picked_permutation : (xs ys : List X) → IsPermutation xs ys → IsPermutation (filter p xs) (filter p ys)
  picked_permutation xs ys same =
      IsPermutation-keeps xs (λ l. IsPermutation (filter p xs) (filter p l)) (IsPermutation-refl (filter p xs)) (λ l i j a b h. chain xs l (swap l i j) h (swapped l i j a b)) ys same
