-- What a sink took of a text.
use Rattle.std.specs.Prelude.{◌≡◌, ◌≢◌, ◌≤◌, ℕ, List, [], ◌++◌, length, ◌⊎◌}
use Rattle.vm_types.specs.Causes.{Rose}
use Rattle.vm_types.specs.declared.exit.Exit.{Exit}
use Rattle.vm_types.specs.declared.exit.Object.TheVariants as object
use Rattle.vm_outside.specs.Known.{SinkKnown}
use Rattle.responses.specs.Output.{last_line}

-- a front of it, and not all
pub record TookFront (text before taken : List ℕ) : Type 0 where
  pub front : List ℕ
  pub rest : List ℕ
  pub took : taken ≡ before ++ front
  pub parts : front ++ rest ≡ text
  pub lacks : rest ≢ []

-- all was taken and no fault counted, or a part is missing and the count rose; where the sink's fault is named there is
-- no last line that could be missing
abbrev pub TookBy : Exit → List ℕ → ℕ → ℕ → Type 0
TookBy (Exit.Fault object.Sink) rest before now = (rest ≡ []) × Rose before now
TookBy exit rest before now = ((rest ≡ []) × (now ≡ before)) ⊎ ((rest ≢ []) × Rose before now)

-- All of the text, behind what it had; but where its count of faults rose, it may lack the last line, or its end.
pub record TookText (exit : Exit) (text : List ℕ) (before now : SinkKnown) : Type 0 where
  pub part : List ℕ
  pub rest : List ℕ
  pub took : now.taken ≡ before.taken ++ part
  pub parts : part ++ rest ≡ text
  pub short : length rest ≤ length (last_line exit)
  pub cause : TookBy exit rest before.health.faults now.health.faults

-- no last line is written of these
abbrev pub IsQuiet : Exit → Type 0
IsQuiet Exit.Done = Unit {0}
IsQuiet (Exit.Fault object.Sink) = Unit {0}
IsQuiet exit = ⊥
