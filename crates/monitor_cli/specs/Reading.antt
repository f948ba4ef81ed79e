-- What a replay that ended has read of the source.
use Rattle.std.specs.Prelude.{◌≡◌, true, ℕ, List, [], ◌++◌, Option, ◌⊎◌}
use Rattle.vm_types.specs.declared.exit.Exit.{Exit}
use Rattle.vm_types.specs.declared.exit.Object.TheVariants as object
use Rattle.script_text.specs.declared.item.Item.{Item}
use Rattle.script_text.specs.Lines.{judged}
use Rattle.flat_machine.specs.Machine.{Machine, is_off}
use Rattle.flat_machine.specs.Run.{Act, lines_done}

-- the bytes that came, whose first whole lines are those of the acts; the rest of the script is still in the source
pub record HasRead (script rest : List ℕ) (acts : List Act) : Type 0 where
  pub came : List ℕ
  pub parts : came ++ rest ≡ script
  pub undone : List (Option Item)
  pub lines : judged came ≡ lines_done acts ++ undone

-- where the script was done, nothing is left of it, or the guest is off; where the source failed, every whole line
-- that came was done
abbrev pub ReadsBy : Exit → List ℕ → List (Option Item) → Machine → Type 0
ReadsBy Exit.Done rest undone m = (rest ≡ []) ⊎ (is_off m ≡ true)
ReadsBy (Exit.Fault object.Source) rest undone m = undone ≡ []
ReadsBy exit rest undone m = Unit {0}
