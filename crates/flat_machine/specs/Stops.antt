-- How a replay stops early: a host object's failure or want of memory ended it.
use Rattle.std.specs.Prelude.{ℕ, ◌≡◌, ◌≢◌, ◌+◌, false, List, [], ◌∷◌, ◌++◌, length, Option, Some, ◌⊎◌}
use Rattle.script_text.specs.declared.item.Item.{Item}
use Rattle.script_text.specs.declared.item.Item.TheVariants.{File}
use Rattle.vm_types.specs.declared.exit.Object.TheVariants as object
use Rattle.vm_types.specs.declared.exit.Exit.{Exit}
use Rattle.responses.specs.Output.{last_line}
use Rattle.flat_machine.specs.Items.{ItemStep, PartStep}
use Rattle.flat_machine.specs.Machine.{Machine, is_off}
use Rattle.flat_machine.specs.Outcome.{Outcome}
use Rattle.flat_machine.specs.Replay.{IsEnd, Plays, closing}
use Rattle.flat_machine.specs.Run.{Act, Run}

-- the next line is a file line
abbrev pub IsAtFile : List (Option Item) → Type 0
IsAtFile left =
    (name : List ℕ) × (content : List ℕ) × (more : List (Option Item)) × (left ≡ Some (File name content) ∷ more)

-- where it stops: for the files alone at a file line; for the source while the guest is on, when nothing of the next
-- line is done; for want of memory anywhere
abbrev pub StopsBy : Exit → List (Option Item) → List Outcome → Machine → Type 0
StopsBy (Exit.Fault object.Files) left part m = (is_off m ≡ false) × IsAtFile left
StopsBy (Exit.Fault object.Source) left part m = (is_off m ≡ false) × (part ≡ [])
StopsBy Exit.OutOfMemory left part m = Unit {0}
StopsBy exit left part m = ⊥

-- the failure at a file line is one more than those answered 500
abbrev pub stop_failures : Exit → ℕ
stop_failures (Exit.Fault object.Files) = 1
stop_failures exit = 0

-- how far the next line came: the first of its requests, or nothing
abbrev pub StopsInside : List (Option Item) → List Outcome → Machine → List ℕ → Machine → Type 0
StopsInside (Some item ∷ more) part m text n = PartStep item part m text n
StopsInside left part m text n = (part ≡ []) × (text ≡ []) × (n ≡ m)

-- The lines before were answered, and of the next line these first requests, whose text is not written; the last line
-- says why it stopped.
pub record IsStopped (script : List ℕ) (start : Machine) (acts : List Act) (part : List Outcome) (exit : Exit)
    (text : List ℕ) (end : Machine) : Type 0 where
  pub answers : List ℕ
  pub last : Machine
  pub left : List (Option Item)
  pub plays : Plays script start acts answers last left
  pub stops : StopsBy exit left part last
  pub unwritten : List ℕ
  pub inside : StopsInside left part last unwritten end
  pub on : (end ≡ last) ⊎ (is_off last ≡ false)
  pub writes : text ≡ answers ++ last_line exit

-- What is being written when the sink fails: the text of the last act, behind those of the acts before it; or the
-- closing text, behind the texts of all acts, where the script is done.
abbrev pub AtAct : Machine → List Act → List ℕ → List ℕ → Machine → Type 0
AtAct start acts whole cut last =
    (before : List Act) × (act : Act) × (mid : Machine) × (acts ≡ before ++ act ∷ [])
    × Run before start whole mid × ItemStep act.item act.outcomes mid cut last

abbrev pub AtClosing : Machine → List Act → List (Option Item) → List ℕ → List ℕ → Machine → Type 0
AtClosing start acts left whole cut last =
    Run acts start whole last × IsEnd Exit.Done left (length acts + 1) last × (cut ≡ closing Exit.Done last)

-- The sink failed: it took every text before, and a front of one more but not all of it.
pub record IsCutOff (script : List ℕ) (start : Machine) (acts : List Act) (text : List ℕ) (end : Machine) : Type 0 where
  pub answers : List ℕ
  pub left : List (Option Item)
  pub plays : Plays script start acts answers end left
  pub whole : List ℕ
  pub cut : List ℕ
  pub writing : AtAct start acts whole cut end ⊎ AtClosing start acts left whole cut end
  pub front : List ℕ
  pub rest : List ℕ
  pub writes : text ≡ whole ++ front
  pub parts : front ++ rest ≡ cut
  pub lacks : rest ≢ []
