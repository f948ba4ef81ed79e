-- Two snapshots that were made at the same moment of two runs.
use Rattle.std.specs.Prelude.{◌≡◌, ◌<◌, ◌⊎◌, ℕ, List, [], ◌∷◌, Option, Some, None}
use Rattle.vm_types.specs.declared.identity.Identity.{Identity}

-- one that the first machine made, and one that the second made
pub record Twins : Type 0 where
  pub first : Identity
  pub second : Identity

-- They have one number, and so differ in their lineages alone. The latest stand first, and their numbers fall from below this
-- one: no number is given twice.
abbrev pub AreTwins : ℕ → List Twins → Type 0
AreTwins next [] = Unit {0}
AreTwins next (t ∷ twins) =
    (t.first.number < next) × (t.second.number ≡ t.first.number) × AreTwins t.first.number twins

abbrev pub IsAmong : Twins → List Twins → Type 0
IsAmong t [] = ⊥
IsAmong t (other ∷ twins) = (t ≡ other) ⊎ IsAmong t twins

-- one snapshot, or two that are twins
abbrev pub IsTwin : List Twins → Identity → Identity → Type 0
IsTwin twins i j = (i ≡ j) ⊎ IsAmong (record { first = i; second = j }) twins

-- neither has a base, or both have, which is one or twins
abbrev pub AlikeBase : List Twins → Option Identity → Option Identity → Type 0
AlikeBase twins None None = Unit {0}
AlikeBase twins (Some i) (Some j) = IsTwin twins i j
AlikeBase twins i j = ⊥
