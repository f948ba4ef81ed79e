-- What is asked of small replies alone comes for nothing where they needn't be small.
use Rattle.std.proofs.Common.{◌≡◌, Bool, true, false}

pub never : {A : Type 0} → false ≡ true → A
never wrong = absurd cc
