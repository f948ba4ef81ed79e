-- The run of the flat machine over acts.
use Rattle.std.specs.Prelude.{ℕ, ◌≡◌, ◌+◌, false, List, [], ◌∷◌, ◌++◌, map, Option, Some}
use Rattle.script_text.specs.declared.item.Item.{Item}
use Rattle.flat_machine.specs.Outcome.{AreAnswered, KeepNone, Outcome, failed_in, kept_in, short_in}
use Rattle.flat_machine.specs.Machine.{Machine, is_off}
use Rattle.flat_machine.specs.Items.{ItemStep}

-- an item, and how each of its requests went
pub record Act : Type 0 where
  pub item : Item
  pub outcomes : List Outcome

-- the lines that acts are done for
abbrev pub lines_done : List Act → List (Option Item)
lines_done acts = map (λ act. Some act.item) acts

-- from m the acts, one after another, write the text and leave n
abbrev pub Run : List Act → Machine → List ℕ → Machine → Type 0
Run [] m text n = (text ≡ []) × (m ≡ n)
Run (act ∷ acts) m text n =
    (first : List ℕ) × (mid : Machine) × (rest : List ℕ)
    × ItemStep act.item act.outcomes m first mid × Run acts mid rest n × (text ≡ first ++ rest)

-- the guest is on before each act
abbrev pub OnBefore : List Act → Machine → Type 0
OnBefore [] m = Unit {0}
OnBefore (act ∷ acts) m =
    (is_off m ≡ false)
    × ((text : List ℕ) (n : Machine) → ItemStep act.item act.outcomes m text n → OnBefore acts n)

-- how many requests were answered 500, and how many 503
abbrev pub failures : List Act → ℕ
failures [] = 0
failures (act ∷ acts) = failed_in act.outcomes + failures acts

abbrev pub shortages : List Act → ℕ
shortages [] = 0
shortages (act ∷ acts) = short_in act.outcomes + shortages acts

-- the machine answered every request
abbrev pub AllAnswered : List Act → Type 0
AllAnswered [] = Unit {0}
AllAnswered (act ∷ acts) = AreAnswered act.outcomes × AllAnswered acts

-- nothing was kept of devices in any of them
abbrev pub AllKeepNone : List Act → Type 0
AllKeepNone [] = Unit {0}
AllKeepNone (act ∷ acts) = KeepNone act.outcomes × AllKeepNone acts

-- both kept the same of their devices in each snapshot that was written, as far as both go
abbrev pub SameKept : List Act → List Act → Type 0
SameKept (act ∷ acts) (other ∷ others) = (kept_in act.outcomes ≡ kept_in other.outcomes) × SameKept acts others
SameKept acts others = Unit {0}
