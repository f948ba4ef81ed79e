-- What a format is: which values have an encoding, and the bytes of each.
use Rattle.std.specs.Prelude.{◌≡◌, ℕ, ◌<◌, List, ◌++◌, Option, Some, slice_index}

-- bytes of a file, each below 256
abbrev pub IsBytes : List ℕ → Type 0
IsBytes given = (i : ℕ) → slice_index given i < 256

-- A format of values of A. `Fits` says which values have an encoding, and `bytes` what it is: these two are the
-- definition. `puts` and `reads` are how it is written at an end and read from a front, and the three laws tie them to
-- the definition: what is put is the bytes; what was put is read, whatever follows it; only what fits is read, as its
-- bytes.
pub record Format (A : Type 0) : Type 1 where
  pub Fits : A → Type 0
  pub bytes : A → List ℕ
  pub puts : A → List ℕ → List ℕ
  pub reads : List ℕ → Option (A × List ℕ)
  pub same : (v : A) (out : List ℕ) → puts v out ≡ out ++ bytes v
  pub again : (v : A) (rest : List ℕ) → Fits v → reads (bytes v ++ rest) ≡ Some (v, rest)
  pub only : (given : List ℕ) (v : A) (rest : List ℕ) → IsBytes given → reads given ≡ Some (v, rest) → Fits v
      × (given ≡ bytes v ++ rest)
