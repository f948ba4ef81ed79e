-- Where the first line ends.
use Rattle.std.proofs.Common.{◌≡◌, ℕ, zero, suc, ◌<◌, List, [], ◌∷◌, ◌++◌, length, get_or, take, drop, refl, ◌∙◌, ap, arith}
use Rattle.std.proofs.lemmas.Bool.Decides.{nat_tests}
use Rattle.script_words.specs.Ends.{LacksEnd}
use Rattle.script_words.specs.Lines.{lines_of, onto}

-- no byte is an LF
abbrev pub Free : List ℕ → Type 0
Free text = LacksEnd text (length text)

starts : (c : ℕ) (cs : List ℕ) → (c ≡ 10 → ⊥) → lines_of (c ∷ cs) ≡ onto c (lines_of cs)
starts c cs other = grind (arith, nat_tests)

ends : (c : ℕ) (cs : List ℕ) → c ≡ 10 → lines_of (c ∷ cs) ≡ [] ∷ lines_of cs
ends c cs is = grind (arith, nat_tests)

-- the first line of a text, whatever comes behind
pub first_end : (text more : List ℕ) (i : ℕ) → i < length text → get_or text i 0 ≡ 10 → LacksEnd text i
    → lines_of (text ++ more) ≡ take i text ∷ lines_of (drop (suc i) text ++ more)
first_end [] more i lt is before = absurd (omega arith)
first_end (c ∷ cs) more zero lt is before = ends c (cs ++ more) is
first_end (c ∷ cs) more (suc i) lt is before =
    starts c (cs ++ more) (before 0 (omega arith)) ∙ ap (onto c) (first_end cs more i (omega arith) is (λ k less. before (suc k) (omega arith)))

pub no_end : (text : List ℕ) → Free text → lines_of text ≡ []
no_end [] none = refl
no_end (c ∷ cs) none =
    starts c cs (none 0 (omega arith)) ∙ ap (onto c) (no_end cs (λ k lt. none (suc k) (omega arith)))

-- ---- bytes before the first line

abbrev pub under : List ℕ → List (List ℕ) → List (List ℕ)
under front [] = []
under front (line ∷ lines) = (front ++ line) ∷ lines

under_none : (lines : List (List ℕ)) → lines ≡ under [] lines
under_none [] = refl
under_none (line ∷ lines) = refl

onto_under : (c : ℕ) (front : List ℕ) (lines : List (List ℕ)) → onto c (under front lines) ≡ under (c ∷ front) lines
onto_under c front [] = refl
onto_under c front (line ∷ lines) = refl

pub lines_under : (front more : List ℕ) → Free front → lines_of (front ++ more) ≡ under front (lines_of more)
lines_under [] more free = under_none (lines_of more)
lines_under (c ∷ front) more free =
    starts c (front ++ more) (free 0 (omega arith))
    ∙ (ap (onto c) (lines_under front more (λ k lt. free (suc k) (omega arith))) ∙ onto_under c front (lines_of more))
