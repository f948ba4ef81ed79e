-- What a reader of lines holds and gives.
use Rattle.std.specs.Prelude.{◌≡◌, ◌+◌, ◌<◌, ◌≤◌, length, ℕ, min, take, drop, List, [], ◌∷◌, ◌++◌, None, Some}
use Rattle.script_words.specs.Ends.{LacksEnd, StopsAt}
use Rattle.script_text.specs.Items.{item_of, longest}
use Rattle.script_text.specs.Lines.{judged}
use Rattle.script_text.specs.declared.line_reader.First.{First}
use Rattle.script_text.specs.declared.line_reader.Next.{Next}
use Rattle.script_text.specs.declared.line_reader.Next.TheVariants.{Line, Bad, Nothing}

-- the first line of what is held is judged so, whatever comes behind; or there is none
abbrev pub Gives : List ℕ → Next → List ℕ → Type 0
Gives old (Line item) new =
    (length new < length old) × ((more : List ℕ) → judged (old ++ more) ≡ Some item ∷ judged (new ++ more))
Gives old Bad new =
    (length new < length old) × ((more : List ℕ) → judged (old ++ more) ≡ None ∷ judged (new ++ more))
Gives old Nothing new = (judged old ≡ []) × (new ≡ old)

-- What was held and a piece behind it are judged as what is held now, whatever comes behind. Where no line was
-- whole, of the first no more is held than one byte over the longest line.
pub record Takes (old piece new : List ℕ) : Type 0 where
  pub same : (more : List ℕ) → judged (new ++ more) ≡ judged (old ++ (piece ++ more))
  pub grows : length new ≤ length old + length piece
  pub bounded : judged old ≡ [] → length new ≤ longest + 1 + length piece

-- what a line without its LF is judged as
abbrev pub IsNext : List ℕ → Next → Type 0
IsNext line (Line item) = item_of line ≡ Some item
IsNext line Bad = item_of line ≡ None
IsNext line Nothing = ⊥

-- what is given first of these bytes, how many it takes, and how many of the others are known to have no LF
pub record IsFirst (held : List ℕ) (first : First) : Type 0 where
  pub used : first.used ≤ length held
  pub gives : Gives held first.next (drop first.used held)
  pub searched : first.searched ≤ length (drop first.used held)
  pub lacks : LacksEnd (drop first.used held) first.searched

-- the first line keeps at most one byte over the longest line, and so many of them have no LF
pub record Shortens (old new : List ℕ) (count : ℕ) : Type 0 where
  pub end : ℕ
  pub stops : StopsAt old end
  pub kept : new ≡ take (longest + 1) (take end old) ++ drop end old
  pub count_is : count ≡ min end (longest + 1)
