-- An array whose first register is 0 is what the others give back.
use Rattle.std.specs.Prelude.{◌≡◌, ◌∷◌, drop}
use Rattle.std.proofs.Common.{sym}
use Rattle.rv_supervisor.specs.declared.integers.Integers.TheInside.{Inside}

pub whole : (a : Inside) → a.each ≡ 0 ∷ drop 1 a.each → ◌≡◌ {A = Inside} (record { each = 0 ∷ drop 1 a.each }) a
whole a h = λ i. record { each = sym h i }
