-- The bytes on both sides of the first space.
use Rattle.std.proofs.Common.{◌≡◌, ◌≢◌, ℕ, ◌+◌, ◌<◌, ◌==◌, nat_lt, if◌then◌else◌, false, List, [], ◌∷◌, ◌++◌, length, get_or, take, drop, Some, None, refl, sym, ◌∙◌, ap, subst, arith}
use Rattle.std.proofs.lemmas.Bool.{eqb-false, eqb-true, lt-ltb, ne_eqb}
use Rattle.std.proofs.lemmas.List.{drop_more, get_or-take, length-append, length-take-le, take-append-drop}
use Rattle.std.proofs.lemmas.List.Elements.{All-from_get_or, All-head, All-tail}
use Rattle.std.proofs.lemmas.List.Quantifiers.{position-Some}
use Rattle.std.specs.List.{position, position_or_len}
use Rattle.script_words.specs.Words.{Lacks}

-- a space was found there: it parts the bytes
pub space_reads : (bytes : List ℕ) (i : ℕ) → position (λ c. c == 32) bytes ≡ Some i → bytes ≡ take i bytes ++ 32 ∷ drop (i + 1) bytes
space_reads bytes i is =
    let found = position-Some (λ (c : ℕ). c == 32) bytes i 0 is in
    let space : get_or bytes i 0 ≡ 32 = eqb-true (get_or bytes i 0) 32 found.1 in
    sym (take-append-drop i bytes) ∙ ap (λ (xs : List ℕ). take i bytes ++ xs) (drop_more bytes i 0 found.0 ∙ ap (λ (c : ℕ). c ∷ drop (i + 1) bytes) space)

end_of : (name rest : List ℕ) → Lacks 32 name → position_or_len (λ c. c == 32) (name ++ 32 ∷ rest) ≡ length name
end_of [] rest lacks = refl
end_of (c ∷ name) rest lacks =
    let first : (c == 32) ≡ false = ne_eqb c 32 (All-head (λ (d : ℕ). d ≢ 32) c name lacks) in
    let more : position_or_len (λ (d : ℕ). d == 32) (name ++ 32 ∷ rest) ≡ length name = end_of name rest (All-tail (λ (d : ℕ). d ≢ 32) c name lacks) in
    rw first (grind arith)

found_at : (n m k : ℕ) → n ≡ k → k < m → (if nat_lt n m then Some n else None) ≡ Some k
found_at n m k is lt = rw (is, lt-ltb k m lt) refl

-- bytes without a space, and then one
pub space_writes : (name rest : List ℕ) → Lacks 32 name → position (λ c. c == 32) (name ++ 32 ∷ rest) ≡ Some (length name)
space_writes name rest lacks =
    let long : length (name ++ 32 ∷ rest) ≡ length name + length (32 ∷ rest) = length-append name (32 ∷ rest) in
    found_at (position_or_len (λ (c : ℕ). c == 32) (name ++ 32 ∷ rest)) (length (name ++ 32 ∷ rest)) (length name) (end_of name rest lacks) (omega arith)

-- and before the first space there is none
pub space_lacks : (bytes : List ℕ) (i : ℕ) → position (λ c. c == 32) bytes ≡ Some i → Lacks 32 (take i bytes)
space_lacks bytes i is =
    let found = position-Some (λ (c : ℕ). c == 32) bytes i 0 is in
    let long : length (take i bytes) ≡ i = length-take-le i bytes (omega (arith, found.0)) in
    All-from_get_or (λ (c : ℕ). c ≢ 32) (take i bytes) 0
    (λ k lt. let within : k < i = omega arith in
    let same : get_or (take i bytes) k 0 ≡ get_or bytes k 0 = get_or-take i bytes k 0 within in
    subst (λ (c : ℕ). c ≢ 32) (sym same) (eqb-false (get_or bytes k 0) 32 (found.2 k within)))
