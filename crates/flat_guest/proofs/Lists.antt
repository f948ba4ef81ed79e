-- Lists, one of whose members is another.
use Rattle.std.proofs.Common.{◌≡◌, ℕ, zero, suc, ◌<◌, nat_lt, true, refl, ap, List, [], ◌∷◌, length, map, Some, slice_get, slice_set, arith}
use Rattle.std.proofs.lemmas.Bool.{lt-ltb, ltb-true}

pub there_too : {A B : Type 0} (xs : List A) (ys : List B) (k : ℕ) (x : A) → length xs ≡ length ys
    → slice_get xs k ≡ Some x → (y : B) × (slice_get ys k ≡ Some y)
there_too [] ys k x same is = cc
there_too (z ∷ xs) [] k x same is = absurd (omega (arith, same))
there_too (z ∷ xs) (y ∷ ys) zero x same is = (y, refl)
there_too (z ∷ xs) (y ∷ ys) (suc k) x same is = there_too xs ys k x (omega (arith, same)) is

pub get_set_same : {A : Type 0} (xs : List A) (k : ℕ) (x y : A) → slice_get xs k ≡ Some x
    → slice_get (slice_set xs k y) k ≡ Some y
get_set_same [] k x y is = cc
get_set_same (z ∷ xs) zero x y is = refl
get_set_same (z ∷ xs) (suc k) x y is = get_set_same xs k x y is

pub get_set_other : {A : Type 0} (xs : List A) (j k : ℕ) (y : A) → (j ≡ k → ⊥)
    → slice_get (slice_set xs k y) j ≡ slice_get xs j
get_set_other [] j k y other = refl
get_set_other (z ∷ xs) zero zero y other = absurd (other refl)
get_set_other (z ∷ xs) (suc j) zero y other = refl
get_set_other (z ∷ xs) zero (suc k) y other = refl
get_set_other (z ∷ xs) (suc j) (suc k) y other = get_set_other xs j k y (λ is. other (ap suc is))

pub some_is : {A : Type 0} (x y : A) → Some x ≡ Some y → x ≡ y
some_is x y is = cc

-- what a list has by a function comes of what it has
pub mapped_from : {A B : Type 0} (f : A → B) (xs : List A) (k : ℕ) (y : B) → slice_get (map f xs) k ≡ Some y
    → (x : A) × (slice_get xs k ≡ Some x) × (f x ≡ y)
mapped_from f [] k y is = cc
mapped_from f (x ∷ xs) zero y is = (x, refl, some_is (f x) y is)
mapped_from f (x ∷ xs) (suc k) y is = mapped_from f xs k y is

sooner : (k n : ℕ) → nat_lt k n ≡ true → nat_lt (suc k) (suc n) ≡ true
sooner k n is =
    let lt : k < n = ltb-true k n is in
    lt-ltb (suc k) (suc n) (omega (arith, lt))

pub get_lt : {A : Type 0} (xs : List A) (k : ℕ) (x : A) → slice_get xs k ≡ Some x → nat_lt k (length xs) ≡ true
get_lt [] k x is = cc
get_lt (y ∷ xs) zero x is = lt-ltb 0 (length (y ∷ xs)) (omega arith)
get_lt (y ∷ xs) (suc k) x is = sooner k (length xs) (get_lt xs k x is)

pub lt_get : {A : Type 0} (xs : List A) (k : ℕ) → nat_lt k (length xs) ≡ true → (x : A) × (slice_get xs k ≡ Some x)
lt_get [] k is = let lt = ltb-true k 0 is in absurd (omega (arith, lt))
lt_get (y ∷ xs) zero is = (y, refl)
lt_get (y ∷ xs) (suc k) is =
    let lt = ltb-true (suc k) (suc (length xs)) is in
    lt_get xs k (lt-ltb k (length xs) (omega (arith, lt)))
