-- Lists of three.
use Rattle.std.proofs.Common.{◌≡◌, List, [], ◌∷◌, length, get_or, refl, arith}

pub three_of : {A : Type 0} (vs : List A) (x y z : A) → length vs ≡ 3
    → vs ≡ get_or vs 0 x ∷ get_or vs 1 y ∷ get_or vs 2 z ∷ []
three_of [] x y z long = cc
three_of (a ∷ []) x y z long = cc
three_of (a ∷ b ∷ []) x y z long = cc
three_of (a ∷ b ∷ c ∷ []) x y z long = refl
three_of (a ∷ b ∷ c ∷ d ∷ vs) x y z long = absurd (omega (arith, long))
