-- The greatest of some numbers is 0 exactly where all of them are.
use Rattle.std.proofs.Common.{◌≡◌, ◌==◌, ◌&&◌, ℕ, zero, suc, Bool, true, false, cond, max, Less, Equal, Greater, nat_lt, arith, refl, ap, ◌∙◌}
use Rattle.std.specs.Ordering.{is_lt, nat_cmp, ord_max}
use Rattle.std.proofs.lemmas.Bool.{ltb-false, ltb-true}

zero_most : (most n : ℕ) → (max most n == 0) ≡ ((most == 0) && (n == 0))
zero_most zero zero = refl
zero_most zero (suc n) = grind arith
zero_most (suc most) n = grind arith

-- the greater by the order is the greater
by_order : (less same : Bool) (most n : ℕ) → nat_lt n most ≡ less → cond (is_lt (cond less Less (cond same Equal Greater))) most n ≡ max most n
by_order true same most n is = let lt = ltb-true n most is in grind (arith, lt)
by_order false true most n is = let le = ltb-false n most is in grind (arith, le)
by_order false false most n is = let le = ltb-false n most is in grind (arith, le)

pub most_zero : (most n : ℕ) → (ord_max nat_cmp most n == 0) ≡ ((most == 0) && (n == 0))
most_zero most n = ap (λ (k : ℕ). k == 0) (by_order (nat_lt n most) (n == most) most n refl) ∙ zero_most most n
