-- How a file begins, and what an answer to its bytes says.
use Rattle.std.specs.Prelude.{◌≡◌, ℕ, ◌==◌, nat_lt, Bool, true, false, not, ◌||◌, List, length, take, drop, slice_index}
use Rattle.std.specs.Prelude.{Result, Ok, Err}
use Rattle.std.specs.Str.{bytes_eq}
use Rattle.file_format.specs.declared.error.DecodeError.{DecodeError}
use Rattle.file_format.specs.declared.error.DecodeError.TheVariants.{GateClosed, WrongMagic, BadField, OutOfMemory}

-- shorter than its header of this size, or its gate, byte 0, isn't open, which it is at 1 alone
abbrev pub is_closed : ℕ → List ℕ → Bool
is_closed size given = nat_lt (length given) size || not (slice_index given 0 == 1)

-- another magic and version behind the gate than these 11 bytes, of which 4 are the version
abbrev pub is_other : List ℕ → List ℕ → Bool
is_other magic given = not (bytes_eq (take 11 (drop 1 given)) magic)

-- What an answer says: the one value that the bytes encode, or the first refusal that fits. The last of them comes
-- exactly where nothing is encoded.
abbrev pub Decodes : {A : Type 0} → ℕ → List ℕ → (List ℕ → A → Type 0) → List ℕ → Result A DecodeError → Type 0
Decodes size magic Encodes given (Ok v) = Encodes given v
Decodes size magic Encodes given (Err GateClosed) = is_closed size given ≡ true
Decodes size magic Encodes given (Err WrongMagic) = (is_closed size given ≡ false) × (is_other magic given ≡ true)
Decodes {A} size magic Encodes given (Err BadField) =
    (is_closed size given ≡ false) × (is_other magic given ≡ false) × ((v : A) → ¬ (Encodes given v))
Decodes size magic Encodes given (Err OutOfMemory) = Unit {0}
