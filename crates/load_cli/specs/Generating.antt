-- What the command `generate N` owes.
use Rattle.std.specs.Prelude.{◌≡◌, ◌⊎◌, ℕ, List, ◌++◌, Some, None}
use Rattle.vm_types.specs.Causes.{Rose}
use Rattle.vm_types.specs.declared.exit.Exit.{Exit}
use Rattle.vm_types.specs.declared.exit.Object.TheVariants as object
use Rattle.vm_outside.specs.Known.{Lasts, SinkKnown, Tells}
use Rattle.vm_outside.specs.Passing.{TakesPart}
use Rattle.responses.specs.Output.{last_line}
use Rattle.monitor_cli.specs.Command.{IsRefusal}
use Rattle.monitor_cli.specs.Known.{SinkTold}
use Rattle.monitor_cli.specs.Taking.{TookText}
use Rattle.load_gen.specs.Load.{load_script}
use Rattle.command_line.specs.Commands.{generate_number}

-- the sink took the script of the number; where it failed, a front of it and not all; where there was no memory, only the last
-- line, as `refused` says
abbrev pub WroteLoad : Exit → ℕ → List ℕ → List ℕ → Type 0
WroteLoad Exit.Done number before taken = taken ≡ before ++ load_script number
WroteLoad Exit.OutOfMemory number before taken = Unit {0}
WroteLoad (Exit.Fault object.Sink) number before taken = TakesPart before taken (load_script number)
WroteLoad exit number before taken = ⊥

-- it asks no object but the sink
abbrev pub IsGenerateEnd : Exit → Type 0
IsGenerateEnd Exit.Done = Unit {0}
IsGenerateEnd Exit.Usage = Unit {0}
IsGenerateEnd Exit.OutOfMemory = Unit {0}
IsGenerateEnd (Exit.Fault object.Sink) = Unit {0}
IsGenerateEnd exit = ⊥

-- What the call answers, from what was known of the sink to what is known now.
-- usage: Usage only where the words are not the command, and there it is Usage, or want of memory.
-- refused: of either the last line is all that is written.
-- wrote: else the script of the number, where the sink tells its content.
-- cause: the sink's fault is named where its count rose, and only there; a last line that it failed at is not named.
-- complete: the command, and a sink that doesn't fail, come to the end, or to want of memory.
-- lasts: a sink that told its content still does, and its count has not fallen.
pub record Generated (words : List (List ℕ)) (exit : Exit) (before now : SinkKnown) : Type 0 where
  pub usage : exit ≡ Exit.Usage → generate_number words ≡ None
  pub unread : generate_number words ≡ None → IsRefusal exit
  pub refused : IsRefusal exit → Tells before.health → TookText exit (last_line exit) before now
  pub wrote : Tells before.health → (number : ℕ) → generate_number words ≡ Some number
      → WroteLoad exit number before.taken now.taken
  pub ends : IsGenerateEnd exit
  pub cause : SinkTold exit before.health.faults now.health.faults
  pub complete : (number : ℕ) → generate_number words ≡ Some number → (Rose before.health.faults now.health.faults → ⊥)
      → (exit ≡ Exit.Done) ⊎ (exit ≡ Exit.OutOfMemory)
  pub lasts : Lasts before.health now.health
