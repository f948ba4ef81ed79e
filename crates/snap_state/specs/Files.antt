-- What a state file is: 32 bytes of header, and the body. Numbers are little-endian.
use Rattle.std.specs.Prelude.{◌≡◌, ℕ, ◌+◌, ◌==◌, ◌&&◌, Bool, IsTrue, List, ◌∷◌, ◌++◌, length, Result, Ok, Err}
use Rattle.vm_types.specs.declared.identity.Identity.{Identity}
use Rattle.file_format.specs.Format.{Format}
use Rattle.file_format.specs.Kinds.{number32, ◌&◌}
use Rattle.file_format.specs.Identities.{identity, is_numbered}
use Rattle.file_format.specs.Versions.{version_bytes, version_of}
use Rattle.file_format.specs.declared.version.Version.{Version}
use Rattle.file_format.specs.declared.error.ReadError.{ReadError}
use Rattle.file_format.specs.declared.error.ReadError.TheVariants.{Bad, Memory}
use Rattle.snap_state.specs.declared.copy.StateCopy.{StateCopy}
use Rattle.snap_state.specs.declared.file.Saved.{Saved}
use Rattle.snap_state.specs.Copies.{state_copy}
use Rattle.snap_state.specs.Valid.{is_valid}

-- ---- the encoding, in each version

-- "RVFCSTA", and the version
abbrev pub magic : Version → List ℕ
magic v = 82 ∷ 86 ∷ 70 ∷ 67 ∷ 83 ∷ 84 ∷ 65 ∷ version_bytes v

-- behind gate and magic: the length of the body, the identity, and the body
abbrev pub contents : Version → Format (ℕ × (Identity × StateCopy))
contents v = number32 & identity & state_copy v

abbrev pub contents_of : Version → Saved → ℕ × (Identity × StateCopy)
contents_of v s = (length ((state_copy v).bytes s.copy), (s.identity, s.copy))

-- what has a file of this version: each field fits its place, it is a copy that there is, and so is the number
pub record IsSaved (v : Version) (s : Saved) : Type 0 where
  pub fits : (contents v).Fits (contents_of v s)
  pub valid : IsTrue (is_valid s.copy)
  pub numbered : IsTrue (is_numbered s.identity)

-- what has a file of some version
pub record HasFile (s : Saved) : Type 0 where
  pub version : Version
  pub fits : (contents version).Fits (contents_of version s)
  pub valid : IsTrue (is_valid s.copy)
  pub numbered : IsTrue (is_numbered s.identity)

-- these bytes are the file of this copy under this identity, of the version that they say; the gate is open
pub record Encodes (given : List ℕ) (s : Saved) : Type 0 where
  pub saved : IsSaved (version_of given) s
  pub bytes : given ≡ 1 ∷ magic (version_of given) ++ (contents (version_of given)).bytes (contents_of (version_of given) s)

-- ---- for the parts of the code

-- these bytes behind gate and magic
pub record Holds (v : Version) (rest : List ℕ) (s : Saved) : Type 0 where
  pub saved : IsSaved v s
  pub bytes : rest ≡ (contents v).bytes (contents_of v s)

abbrev pub Found : Version → List ℕ → Result Saved ReadError → Type 0
Found v rest (Ok s) = Holds v rest s
Found v rest (Err Bad) = (s : Saved) → ¬ (Holds v rest s)
Found v rest (Err Memory) = Unit {0}

-- the last test of what was read: nothing is left, the length is the body's, and it is such a copy
abbrev pub is_accepted : ℕ → ℕ → ℕ → Identity → StateCopy → Bool
is_accepted size left len i c = (left == 0) && (len + 20 == size) && is_numbered i && is_valid c
