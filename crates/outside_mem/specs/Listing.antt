-- Numbers that are answered one after another.
use Rattle.std.specs.Prelude.{ℕ, zero, suc, List, [], ◌∷◌}

-- the nth of a list; past its end the last one, and 0 where there is none
abbrev pub listed : List ℕ → ℕ → ℕ
listed [] n = 0
listed (x ∷ []) n = x
listed (x ∷ y ∷ xs) zero = x
listed (x ∷ y ∷ xs) (suc n) = listed (y ∷ xs) n
