-- What the command `run N` owes.
use Rattle.std.specs.Prelude.{◌≡◌, ◌↔◌, ◌⊎◌, ℕ, false, List, [], ◌++◌, Some, None}
use Rattle.vm_types.specs.Causes.{Rose}
use Rattle.vm_types.specs.Saved.{nothing_saved}
use Rattle.vm_types.specs.declared.exit.Exit.{Exit}
use Rattle.vm_types.specs.declared.exit.Object.TheVariants as object
use Rattle.vm_outside.specs.Calls.{FileCall}
use Rattle.vm_outside.specs.Known.{FilesKnown, Lasts, SinkKnown, Tells}
use Rattle.vm_outside.specs.Passing.{TakesPart}
use Rattle.responses.specs.Output.{last_line}
use Rattle.command_line.specs.Commands.{run_number}
use Rattle.command_line.specs.MachineId.{default_id}
use Rattle.flat_machine.specs.Machine.{Machine, is_off, new_machine}
use Rattle.monitor_cli.specs.Known.{SinkTold}
use Rattle.monitor_cli.specs.Taking.{TookText}
use Rattle.load_gen.specs.Load.{load_script, rounds_of}
use Rattle.load_run.specs.Line.{Shows, run_line}
use Rattle.load_run.specs.Merging.{merged, pages_in}
use Rattle.load_run.specs.Restoring.{IsDone, restore_script}

-- The line of the run of a number. The flat machine replays the script of the number over files that hold nothing: that is
-- the source. The diffs of its rounds are merged in order into the memory file. A second machine over what the files hold
-- then replays the line that loads the last round's snapshot with that file. Where the source's guest is on at its end, both show
-- the same.
pub record IsRun (number : ℕ) (line : List ℕ) : Type 0 where
  pub source : Machine
  pub replayed : IsDone (load_script number) (new_machine default_id nothing_saved []) source
  pub calls : List FileCall
  pub restored : Machine
  pub loaded : IsDone (restore_script (rounds_of number)) (new_machine default_id (merged (rounds_of number) source.saved) calls) restored
  pub source_words : List ℕ
  pub source_shows : Shows source source_words
  pub restored_words : List ℕ
  pub restored_shows : Shows restored restored_words
  pub same : is_off source ≡ false → source_words ≡ restored_words
  pub says : line ≡ run_line number (rounds_of number) (pages_in (rounds_of number) source.saved) source_words restored_words

-- files that hold nothing, and on which no call was made
pub record HoldNothing (known : FilesKnown) : Type 0 where
  pub saved : known.saved ≡ nothing_saved
  pub calls : known.calls ≡ []

-- a machine over these files, that has not started and then replays the script, shows these words, and the files are its own
pub record ShowsAtEnd (script : List ℕ) (old : FilesKnown) (words : List ℕ) (new : FilesKnown) : Type 0 where
  pub last : Machine
  pub done : IsDone script (new_machine default_id old.saved old.calls) last
  pub shows : Shows last words
  pub saved : new.saved ≡ last.saved

-- the sink took the line; where it failed, a front of it and not all; and where there was no memory, the last line alone
abbrev pub WroteRun : Exit → ℕ → SinkKnown → SinkKnown → Type 0
WroteRun Exit.Done number before now = (line : List ℕ) × IsRun number line × (now.taken ≡ before.taken ++ line)
WroteRun (Exit.Fault object.Sink) number before now =
    (line : List ℕ) × IsRun number line × TakesPart before.taken now.taken line
WroteRun Exit.OutOfMemory number before now = TookText Exit.OutOfMemory (last_line Exit.OutOfMemory) before now
WroteRun exit number before now = ⊥

-- it asks no object but the sink
abbrev pub IsRunEnd : Exit → Type 0
IsRunEnd Exit.Done = Unit {0}
IsRunEnd Exit.Usage = Unit {0}
IsRunEnd (Exit.Fault object.Sink) = Unit {0}
IsRunEnd Exit.OutOfMemory = Unit {0}
IsRunEnd exit = ⊥

-- What the call answers, from what was known of the sink to what is known now.
-- usage: Usage exactly where the words are not the command, and then its last line is all that is written.
-- wrote: else the line of the run of the number, where the sink tells its content.
-- cause: the sink's fault is named where its count rose, and only there; a last line that it failed at is not named.
-- complete: the command, and a sink that doesn't fail, come to the end, or to want of memory.
-- lasts: a sink that told its content still does, and its count has not fallen.
pub record Ran (words : List (List ℕ)) (exit : Exit) (before now : SinkKnown) : Type 0 where
  pub usage : (exit ≡ Exit.Usage) ↔ (run_number words ≡ None)
  pub unbegun : exit ≡ Exit.Usage → Tells before.health → TookText Exit.Usage (last_line Exit.Usage) before now
  pub wrote : Tells before.health → (number : ℕ) → run_number words ≡ Some number → WroteRun exit number before now
  pub ends : IsRunEnd exit
  pub cause : SinkTold exit before.health.faults now.health.faults
  pub complete : (number : ℕ) → run_number words ≡ Some number → (Rose before.health.faults now.health.faults → ⊥)
      → (exit ≡ Exit.Done) ⊎ (exit ≡ Exit.OutOfMemory)
  pub lasts : Lasts before.health now.health
