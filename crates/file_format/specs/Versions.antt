-- The versions of the files that a create writes anew, which are state files and diffs.
use Rattle.std.specs.Prelude.{◌≡◌, ℕ, zero, suc, if◌then◌else◌, List, [], ◌∷◌, take, drop}
use Rattle.std.specs.Str.{bytes_eq}
use Rattle.std.proofs.Common.{sym, ap}
use Rattle.file_format.specs.declared.version.Version.{Version}
use Rattle.file_format.specs.declared.version.Version.TheVariants.{One, Two}
use Rattle.file_format.specs.Format.{Format}
use Rattle.file_format.specs.Kinds.{number32, just, nothing, chosen_by}

-- the one that is written
abbrev pub current_version : Version
current_version = Two

abbrev pub version_number : Version → ℕ
version_number One = 1
version_number Two = 2

-- as it stands behind a file's gate and kind: a number of 32 bits
abbrev pub version_bytes : Version → List ℕ
version_bytes One = 1 ∷ 0 ∷ 0 ∷ 0 ∷ []
version_bytes Two = 2 ∷ 0 ∷ 0 ∷ 0 ∷ []

-- The version that a file's bytes are read by: 2 where they say so, and else 1. Bytes that say neither are of no version.
abbrev pub version_of : List ℕ → Version
version_of given = if bytes_eq (take 4 (drop 8 given)) (version_bytes Two) then Two else One

-- ---- as a number that is read

abbrev pub versions : ℕ → Format Version
versions zero = nothing
versions (suc zero) = just One
versions (suc (suc zero)) = just Two
versions (suc (suc (suc n))) = nothing

pub versions_are : (n : ℕ) (v : Version) → (versions n).Fits v → n ≡ version_number v
versions_are zero v fits = absurd fits
versions_are (suc zero) v fits = sym (ap version_number fits)
versions_are (suc (suc zero)) v fits = sym (ap version_number fits)
versions_are (suc (suc (suc n))) v fits = absurd fits

unfoldable pub version : Format Version
version = chosen_by number32 versions version_number versions_are
