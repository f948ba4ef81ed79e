-- The lines of a text, each with its LF, and what is behind them.
use Rattle.std.proofs.Common.{◌≡◌, ◌≢◌, ℕ, ◌==◌, Bool, true, false, if◌then◌else◌, List, [], ◌∷◌, ◌++◌, flat_map, refl, ap}
use Rattle.std.proofs.lemmas.Bool.{eqb-false, eqb-true}
use Rattle.std.proofs.lemmas.List.Elements.{All-cons, All-head, All-nil, All-tail}
use Rattle.std.specs.List.{All}
use Rattle.script_words.specs.Lines.{lines_of, onto}
use Rattle.script_words.specs.Words.{Lacks}

-- the lines, each with its LF, and bytes without one are the text
abbrev pub Parts : List (List ℕ) → List ℕ → Type 0
Parts lines text = (rest : List ℕ) × (flat_map (λ line. line ++ 10 ∷ []) lines ++ rest ≡ text) × Lacks 10 rest

none_lacks : Lacks 10 []
none_lacks = All-nil (λ (d : ℕ). d ≢ 10)

one_lacks : (c : ℕ) (bytes : List ℕ) → (c == 10) ≡ false → Lacks 10 bytes → Lacks 10 (c ∷ bytes)
one_lacks c bytes test lacks = All-cons (λ (d : ℕ). d ≢ 10) c bytes (eqb-false c 10 test) lacks

parts_on : (b : Bool) (c : ℕ) (text : List ℕ) (lines : List (List ℕ)) → (c == 10) ≡ b → Parts lines text → Parts (if b then [] ∷ lines else onto c lines) (c ∷ text)
parts_on true c text lines test parts =
    let end : c ≡ 10 = eqb-true c 10 test in
    (parts.0, cc (parts.1), parts.2)
parts_on false c text [] test parts = (c ∷ parts.0, ap (λ (xs : List ℕ). c ∷ xs) parts.1, one_lacks c parts.0 test parts.2)
parts_on false c text (line ∷ lines) test parts = (parts.0, ap (λ (xs : List ℕ). c ∷ xs) parts.1, parts.2)

pub parts_of : (text : List ℕ) → Parts (lines_of text) text
parts_of [] = ([], refl, none_lacks)
parts_of (c ∷ text) = parts_on (c == 10) c text (lines_of text) refl (parts_of text)

clean_on : (b : Bool) (c : ℕ) (lines : List (List ℕ)) → (c == 10) ≡ b → All (Lacks 10) lines → All (Lacks 10) (if b then [] ∷ lines else onto c lines)
clean_on true c lines test clean = All-cons (Lacks 10) [] lines none_lacks clean
clean_on false c [] test clean = clean
clean_on false c (line ∷ lines) test clean =
    All-cons (Lacks 10) (c ∷ line) lines (one_lacks c line test (All-head (Lacks 10) line lines clean)) (All-tail (Lacks 10) line lines clean)

-- no line has an LF
pub clean_of : (text : List ℕ) → All (Lacks 10) (lines_of text)
clean_of [] = All-nil (Lacks 10)
clean_of (c ∷ text) = clean_on (c == 10) c (lines_of text) refl (clean_of text)
