-- Bytes that hold no space, or no LF.
use Rattle.std.proofs.Common.{◌≡◌, ◌≢◌, ℕ, ◌≤◌, ◌==◌, inl, inr, nat_lt, Bool, true, false, if◌then◌else◌, List, [], ◌∷◌, ◌++◌, length, Some, None, refl, arith}
use Rattle.std.proofs.lemmas.Bool.{and_parts, cases_lt, eqb-false, lt-ltb, ne_eqb}
use Rattle.std.proofs.lemmas.List.Elements.{All-cons, All-head, All-nil, All-tail}
use Rattle.std.specs.List.{list_all, position, position_or_len}
use Rattle.script_words.specs.Words.{Lacks}

pub lacks_behind : (c : ℕ) (word rest : List ℕ) → Lacks c (word ++ rest) → Lacks c rest
lacks_behind c [] rest lacks = lacks
lacks_behind c (d ∷ word) rest lacks = lacks_behind c word rest (All-tail (λ (e : ℕ). e ≢ c) d (word ++ rest) lacks)

pub lacks_front : (c : ℕ) (word rest : List ℕ) → Lacks c (word ++ rest) → Lacks c word
lacks_front c [] rest lacks = All-nil (λ (e : ℕ). e ≢ c)
lacks_front c (d ∷ word) rest lacks =
    All-cons (λ (e : ℕ). e ≢ c) d word (All-head (λ (e : ℕ). e ≢ c) d (word ++ rest) lacks)
    (lacks_front c word rest (All-tail (λ (e : ℕ). e ≢ c) d (word ++ rest) lacks))

refuted : (p : ℕ → Bool) (c d : ℕ) → p c ≡ false → p d ≡ true → d ≢ c
refuted p c d none some is = cc

-- bytes that each pass a test that c fails
pub lacks_failing : (p : ℕ → Bool) (c : ℕ) (bytes : List ℕ) → p c ≡ false → list_all p bytes ≡ true → Lacks c bytes
lacks_failing p c [] none all = All-nil (λ (e : ℕ). e ≢ c)
lacks_failing p c (d ∷ bytes) none all =
    let parts = and_parts (p d) (list_all p bytes) all in
    All-cons (λ (e : ℕ). e ≢ c) d bytes (refuted p c d none parts.0) (lacks_failing p c bytes none parts.1)

no_space : (word : List ℕ) → Lacks 32 word → position_or_len (λ c. c == 32) word ≡ length word
no_space [] lacks = refl
no_space (c ∷ word) lacks =
    let first : (c == 32) ≡ false = ne_eqb c 32 (All-head (λ (d : ℕ). d ≢ 32) c word lacks) in
    let more : position_or_len (λ (d : ℕ). d == 32) word ≡ length word = no_space word (All-tail (λ (d : ℕ). d ≢ 32) c word lacks) in
    rw first (grind arith)

not_within : (n m : ℕ) → n ≡ m → (if nat_lt n m then Some n else None) ≡ None
not_within n m is = rw (is, itself m) refl
  where
    itself : (m : ℕ) → nat_lt m m ≡ false
    itself m = grind arith

pub none_found : (word : List ℕ) → Lacks 32 word → position (λ c. c == 32) word ≡ None
none_found word lacks = not_within (position_or_len (λ (c : ℕ). c == 32) word) (length word) (no_space word lacks)

-- where no space is found there is none
space_found : (n m : ℕ) → (if nat_lt n m then Some n else None) ≡ None → m ≤ n
space_found n m is = elim (cases_lt n m) [
  | inl less ↦ let some = rw (lt-ltb n m less) at is in absurd (cc)
  | inr most ↦ most
]

lacks_by : (b : Bool) (c : ℕ) (word : List ℕ) → (c == 32) ≡ b → length (c ∷ word) ≤ position_or_len (λ d. d == 32) (c ∷ word)
    → (length word ≤ position_or_len (λ d. d == 32) word → Lacks 32 word) → Lacks 32 (c ∷ word)
lacks_by true c word test most more = let here = rw test at most in absurd (omega (arith, here))
lacks_by false c word test most more =
    let here = rw test at most in
    All-cons (λ (d : ℕ). d ≢ 32) c word (eqb-false c 32 test) (more (omega (arith, here)))

lacks_whole : (word : List ℕ) → length word ≤ position_or_len (λ d. d == 32) word → Lacks 32 word
lacks_whole [] most = All-nil (λ (d : ℕ). d ≢ 32)
lacks_whole (c ∷ word) most = lacks_by (c == 32) c word refl most (lacks_whole word)

pub lacks_unfound : (word : List ℕ) → position (λ c. c == 32) word ≡ None → Lacks 32 word
lacks_unfound word none = lacks_whole word (space_found (position_or_len (λ (c : ℕ). c == 32) word) (length word) none)
