-- How each kind of format is read from a front. None says that it isn't there.
use Rattle.std.specs.Prelude.{ℕ, zero, suc, ◌==◌, nat_lt, Bool, true, false}
use Rattle.std.specs.Prelude.{if◌then◌else◌, List, [], ◌∷◌, ◌++◌, length, take, drop, Option, None, Some}
use Rattle.std.specs.Option.{option_and_then}
use Rattle.std.specs.List.{list_all}
use Rattle.std.specs.Int.{Width, byte_len, from_le_bytes}
use Rattle.std.specs.Str.{bytes_eq}

-- ---- one byte

abbrev pub byte_at : List ℕ → Option (ℕ × List ℕ)
byte_at [] = None
byte_at (b ∷ rest) = Some (b, rest)

-- ---- so many bytes

abbrev pub front_at : ℕ → List ℕ → Option (List ℕ × List ℕ)
front_at n given = if nat_lt (length given) n then None else Some (take n given, drop n given)

-- ---- numbers

abbrev pub number_at : Width → List ℕ → Option (ℕ × List ℕ)
number_at w given = if nat_lt (length given) (byte_len w) then None else Some
    (from_le_bytes w (take (byte_len w) given), drop (byte_len w) given)

-- ---- a value, and then one whose format the first one chooses

abbrev pub then_at : {A B : Type 0} → (List ℕ → Option (A × List ℕ)) → (A → List ℕ → Option (B × List ℕ)) → List ℕ
    → Option (B × List ℕ)
then_at first second given = option_and_then (λ x. second x.0 x.1) (first given)

-- ---- two values

abbrev pub pair_at : {A B : Type 0} → (List ℕ → Option (A × List ℕ)) → (List ℕ → Option (B × List ℕ)) → List ℕ
    → Option ((A × B) × List ℕ)
pair_at first second given = option_and_then (λ x. option_and_then (λ y. Some ((x.0, y.0), y.1)) (second x.1))
    (first given)

-- ---- so many values

abbrev pub put_all : {A : Type 0} → (A → List ℕ → List ℕ) → List A → List ℕ → List ℕ
put_all put [] out = out
put_all put (v ∷ vs) out = put_all put vs (put v out)

abbrev pub times_at : {A : Type 0} → (List ℕ → Option (A × List ℕ)) → ℕ → List ℕ → Option (List A × List ℕ)
times_at item zero given = Some ([], given)
times_at item (suc n) given = option_and_then (λ x. option_and_then (λ y. Some (x.0 ∷ y.0, y.1)) (times_at item n x.1))
    (item given)

-- ---- a value that passes a test

abbrev pub passing_at : {A : Type 0} → (A → Bool) → (List ℕ → Option (A × List ℕ)) → List ℕ → Option (A × List ℕ)
passing_at test inner given = option_and_then (λ x. if test x.0 then Some x else None) (inner given)

-- ---- a record of values

abbrev pub made_at : {A B : Type 0} → (A → B) → (List ℕ → Option (A × List ℕ)) → List ℕ → Option (B × List ℕ)
made_at back inner given = option_and_then (λ x. Some (back x.0, x.1)) (inner given)

-- ---- a flag

abbrev pub flag_bytes : Bool → List ℕ
flag_bytes false = 0 ∷ []
flag_bytes true = 1 ∷ []

abbrev pub flag_at : List ℕ → Option (Bool × List ℕ)
flag_at [] = None
flag_at (zero ∷ rest) = Some (false, rest)
flag_at (suc zero ∷ rest) = Some (true, rest)
flag_at (suc (suc b) ∷ rest) = None

-- ---- a value that may be there

abbrev pub optional_bytes : {A : Type 0} → (A → List ℕ) → Option A → List ℕ
optional_bytes item None = 0 ∷ []
optional_bytes item (Some v) = 1 ∷ item v

abbrev pub optional_puts : {A : Type 0} → (A → List ℕ → List ℕ) → Option A → List ℕ → List ℕ
optional_puts item None out = out ++ 0 ∷ []
optional_puts item (Some v) out = item v (out ++ 1 ∷ [])

abbrev pub optional_at : {A : Type 0} → (List ℕ → Option (A × List ℕ)) → List ℕ → Option (Option A × List ℕ)
optional_at item given = option_and_then (λ x. if x.0 then option_and_then (λ y. Some (Some y.0, y.1))
    (item x.1) else Some (None, x.1)) (flag_at given)

-- ---- one value, always as the same bytes

abbrev pub constant_at : {A : Type 0} → List ℕ → A → List ℕ → Option (A × List ℕ)
constant_at expected v given = if bytes_eq (take (length expected) given) expected then Some
    (v, drop (length expected) given) else None

-- ---- no value

abbrev pub nothing_at : {A : Type 0} → List ℕ → Option (A × List ℕ)
nothing_at given = None

-- ---- fixed bytes

abbrev pub nothing_else : Unit {0}
nothing_else = tt

-- ---- zeros

abbrev pub are_zeros : List ℕ → Bool
are_zeros bs = list_all (λ b. b == 0) bs

abbrev pub zeros_at : ℕ → List ℕ → Option (Unit {0} × List ℕ)
zeros_at n given = option_and_then (λ x. if are_zeros x.0 then Some (nothing_else, x.1) else None) (front_at n given)
