-- How many bytes are too few, at each exit of the code.
use Rattle.std.proofs.Common.{◌≡◌, ℕ, ◌+◌, ◌≤◌, List, [], ◌∷◌, ◌++◌, length, refl, sym, subst, arith, append_assoc, length-append}
use Rattle.std.proofs.lemmas.List.{append-nil}
use Rattle.http_stream.specs.Stream.{waits, Judged, early}
use Rattle.http_front.specs.Told.{AreTooFew}

-- a stream that waits does so with these bytes or fewer
pub too_few_here : (s : List ℕ) → Judged s (waits s) → AreTooFew s (length s)
too_few_here s j [] short = let P : List ℕ → Type 0 = λ w. Judged w (waits w) in subst P (sym (append-nil s)) j
too_few_here s j (b ∷ more) short = absurd (let k : length (s ++ b ∷ more) ≡ length s + length (b ∷ more) = length-append s (b ∷ more) in omega arith)

no_byte : (s : List ℕ) → length s ≤ 0 → Judged s (waits s)
no_byte [] h = early refl refl
no_byte (b ∷ s) h = absurd (omega arith)

pub too_few_none : (s : List ℕ) → AreTooFew s 0
too_few_none s = λ more h. no_byte (s ++ more) h

pub too_few_more : (s bytes : List ℕ) (n : ℕ) → AreTooFew s n → AreTooFew (s ++ bytes) n
too_few_more s bytes n few = λ more h.
    let e : (s ++ bytes) ++ more ≡ s ++ (bytes ++ more) = append_assoc s bytes more in
    let P : List ℕ → Type 0 = λ w. length w ≤ n → Judged w (waits w) in subst P (sym e) (few (bytes ++ more)) h

pub too_few_now : (s : List ℕ) (n : ℕ) → AreTooFew s n → length s ≤ n → Judged s (waits s)
too_few_now s n few h =
    let P : List ℕ → Type 0 = λ w. length w ≤ n → Judged w (waits w) in subst P (append-nil s) (few []) h
