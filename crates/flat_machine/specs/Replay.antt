-- The replay of a whole script.
use Rattle.std.specs.Prelude.{ℕ, ◌≡◌, ◌+◌, ◌^◌, nat_le, true, false, if◌then◌else◌, List, [], ◌∷◌, ◌++◌, length, take, Option, None, ◌⊎◌}
use Rattle.script_text.specs.declared.item.Item.{Item}
use Rattle.vm_types.specs.declared.exit.Exit.{Exit}
use Rattle.vm_types.specs.declared.exit.Exit.TheVariants.{Done, Script}
use Rattle.script_text.specs.Lines.{judged}
use Rattle.responses.specs.Output.{console_line, last_line, off_line}
use Rattle.flat_machine.specs.Machine.{Machine, console_of, drained, is_off}
use Rattle.flat_machine.specs.Run.{Act, OnBefore, Run, lines_done}

-- the most bytes that a script has
abbrev pub longest_script : ℕ
longest_script = 2 ^ 63

-- each line's item, and None for what is no line; the line with the first byte too many is none, and it
-- is the last that is judged
abbrev pub judged_script : List ℕ → List (Option Item)
judged_script script =
    if nat_le (length script) longest_script then judged script
    else judged (take longest_script script) ++ None ∷ []

-- the script's first lines are these acts, and the guest is on before each; they answer so, and leave this machine
-- and these lines
pub record Plays (script : List ℕ) (start : Machine) (acts : List Act) (answers : List ℕ) (last : Machine)
    (left : List (Option Item)) : Type 0 where
  pub lines : judged_script script ≡ lines_done acts ++ left
  pub on : OnBefore acts start
  pub ran : Run acts start answers last

-- where a replay comes to its end, with no host object's failure and no want of memory: no line is left, or the
-- guest is off; or the next line, of this number, is no line of a script. After the guest is off no line is
-- judged.
abbrev pub IsEnd : Exit → List (Option Item) → ℕ → Machine → Type 0
IsEnd Done left number m = (left ≡ []) ⊎ (is_off m ≡ true)
IsEnd (Script line) left number m =
    (line ≡ number) × (is_off m ≡ false) × (more : List (Option Item)) × (left ≡ None ∷ more)
IsEnd exit left number m = ⊥

-- what is written last: the console's bytes where the script was done, and that the guest is off; or the
-- number of the line that is none
abbrev pub closing : Exit → Machine → List ℕ
closing Done m = console_line (console_of m) ++ (if is_off m then off_line else [])
closing exit m = last_line exit

abbrev pub closed : Exit → Machine → Machine
closed Done m = drained m
closed exit m = m

-- From the machine at the start a script's replay comes to this exit, writes this text and leaves this
-- machine; its lines up to there are these acts.
pub record IsReplay (script : List ℕ) (start : Machine) (acts : List Act) (exit : Exit) (text : List ℕ)
    (end : Machine) : Type 0 where
  pub answers : List ℕ
  pub last : Machine
  pub left : List (Option Item)
  pub plays : Plays script start acts answers last left
  pub ends : IsEnd exit left (length acts + 1) last
  pub writes : text ≡ answers ++ closing exit last
  pub leaves : end ≡ closed exit last
