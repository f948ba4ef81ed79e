-- Bytes as pairs of digits.
use Rattle.std.proofs.Common.{◌≡◌, ℕ, ◌+◌, ◌-◌, ◌*◌, ◌/◌, ◌%◌, ◌<◌, ◌≤◌, List, [], ◌∷◌, ◌++◌, length, get_or, take, drop, Option, Some, None, refl, sym, ◌∙◌, ap, subst, arith, append_assoc}
use Rattle.std.proofs.lemmas.Bool.Decides.{nat_tests}
use Rattle.std.proofs.lemmas.List.{take_all}
use Rattle.std.proofs.lemmas.List.Elements.{All-from_recursion, recursion_from_All}
use Rattle.std.proofs.lemmas.Option.{same_Some}
use Rattle.std.specs.List.{All, AllByRecursion}
use Rattle.script_words.specs.Numbers.{byte_onto, bytes_of, hex_digit, hex_of, nibble_of}

-- these bytes before others
abbrev pub prefixed : List ℕ → Option (List ℕ) → Option (List ℕ)
prefixed done (Some rest) = Some (done ++ rest)
prefixed done None = None

no_rest : (high low : Option ℕ) → byte_onto high low None ≡ None
no_rest (Some high) (Some low) = refl
no_rest (Some high) None = refl
no_rest None low = refl

next : (done : List ℕ) (high low : Option ℕ) (byte : ℕ) → ((rest : List ℕ) → byte_onto high low (Some rest) ≡ Some (byte ∷ rest)) → (more : Option (List ℕ))
    → prefixed (done ++ byte ∷ []) more ≡ prefixed done (byte_onto high low more)
next done high low byte onto (Some rest) = rw (onto rest) (ap Some (append_assoc done (byte ∷ []) rest))
next done high low byte onto None = ap (prefixed done) (sym (no_rest high low))

-- a pair is read, and what is behind it remains
pub pair_more : (done pushed rest : List ℕ) (byte : ℕ) (all : Option (List ℕ)) → 2 ≤ length rest → pushed ≡ done ++ byte ∷ []
    → ((more : List ℕ) → byte_onto (nibble_of (get_or rest 0 0)) (nibble_of (get_or rest 1 0)) (Some more) ≡ Some (byte ∷ more))
    → prefixed done (bytes_of rest) ≡ all → prefixed pushed (bytes_of (take (length rest - 2) (drop 2 rest))) ≡ all
pair_more done pushed [] byte all long push onto before = absurd (omega arith)
pair_more done pushed (high ∷ []) byte all long push onto before = absurd (omega arith)
pair_more done pushed (high ∷ low ∷ more) byte all long push onto before =
    let e : length (high ∷ low ∷ more) - 2 ≡ length more = omega arith in
    rw (push, e, take_all (length more) more (omega arith)) (next done (nibble_of high) (nibble_of low) byte onto (bytes_of more) ∙ before)

-- a digit is the one that its nibble is written as
pub nibble_reads : (c n : ℕ) → nibble_of c ≡ Some n → (n < 16) × (hex_digit n ≡ c)
nibble_reads c n is = (grind (arith, nat_tests), grind (arith, nat_tests))

pub nibble_writes : (n : ℕ) → n < 16 → nibble_of (hex_digit n) ≡ Some n
nibble_writes n small = grind (arith, nat_tests)

-- the parts of a pair and what is behind it
pub record Pair (high low : Option ℕ) (more : Option (List ℕ)) (bytes : List ℕ) : Type 0 where
  pub h : ℕ
  pub l : ℕ
  pub rest : List ℕ
  pub is_high : high ≡ Some h
  pub is_low : low ≡ Some l
  pub is_more : more ≡ Some rest
  pub is_all : bytes ≡ (16 * h + l) ∷ rest

pair_of : (high low : Option ℕ) (more : Option (List ℕ)) (bytes : List ℕ) → byte_onto high low more ≡ Some bytes → Pair high low more bytes
pair_of (Some h) (Some l) (Some rest) bytes is =
    record { h = h; l = l; rest = rest; is_high = refl; is_low = refl; is_more = refl; is_all = sym (same_Some ((16 * h + l) ∷ rest) bytes is) }
pair_of (Some h) (Some l) None bytes is = absurd (cc)
pair_of (Some h) None more bytes is = absurd (cc)
pair_of None low more bytes is = absurd (cc)

high_of : (h l : ℕ) → l < 16 → (16 * h + l) / 16 ≡ h
high_of h l small = omega arith

low_of : (h l : ℕ) → l < 16 → (16 * h + l) % 16 ≡ l
low_of h l small = omega arith

-- pairs of digits that are read as bytes are those that the bytes are written as
pub hex_reads : (text bytes : List ℕ) → bytes_of text ≡ Some bytes → text ≡ hex_of bytes
hex_reads [] bytes is = ap hex_of (same_Some [] bytes is)
hex_reads (high ∷ []) bytes is = cc
hex_reads (high ∷ low ∷ text) bytes is =
    let pair = pair_of (nibble_of high) (nibble_of low) (bytes_of text) bytes is in
    let above = nibble_reads high pair.h pair.is_high in
    let below = nibble_reads low pair.l pair.is_low in
    let rest : text ≡ hex_of pair.rest = hex_reads text pair.rest pair.is_more in
    rw (pair.is_all, high_of pair.h pair.l below.0, low_of pair.h pair.l below.0, above.1, below.1) (ap (λ (xs : List ℕ). high ∷ low ∷ xs) rest)

each_below : (text bytes : List ℕ) → bytes_of text ≡ Some bytes → AllByRecursion (λ byte. byte < 256) bytes
each_below [] bytes is = subst (AllByRecursion (λ (byte : ℕ). byte < 256)) (same_Some [] bytes is) tt
each_below (high ∷ []) bytes is = absurd (cc)
each_below (high ∷ low ∷ text) bytes is =
    let pair = pair_of (nibble_of high) (nibble_of low) (bytes_of text) bytes is in
    let above = nibble_reads high pair.h pair.is_high in
    let below = nibble_reads low pair.l pair.is_low in
    let small : 16 * pair.h + pair.l < 256 = omega (arith, above.0, below.0) in
    subst (AllByRecursion (λ (byte : ℕ). byte < 256)) (sym pair.is_all) (small, each_below text pair.rest pair.is_more)

pub hex_below : (text bytes : List ℕ) → bytes_of text ≡ Some bytes → All (λ byte. byte < 256) bytes
hex_below text bytes is = All-from_recursion (λ (byte : ℕ). byte < 256) bytes (each_below text bytes is)

whole_byte : (byte : ℕ) → 16 * (byte / 16) + byte % 16 ≡ byte
whole_byte byte = omega arith

each_writes : (bytes : List ℕ) → AllByRecursion (λ byte. byte < 256) bytes → bytes_of (hex_of bytes) ≡ Some bytes
each_writes [] each = refl
each_writes (byte ∷ bytes) each =
    let above : nibble_of (hex_digit (byte / 16)) ≡ Some (byte / 16) = nibble_writes (byte / 16) (omega (arith, each.0)) in
    let below : nibble_of (hex_digit (byte % 16)) ≡ Some (byte % 16) = nibble_writes (byte % 16) (omega arith) in
    rw (above, below, each_writes bytes each.1) (ap (λ (b : ℕ). Some (b ∷ bytes)) (whole_byte byte))

-- what bytes are written as is read as them
pub hex_writes : (bytes : List ℕ) → All (λ byte. byte < 256) bytes → bytes_of (hex_of bytes) ≡ Some bytes
hex_writes bytes each = each_writes bytes (recursion_from_All (λ (byte : ℕ). byte < 256) bytes each)
