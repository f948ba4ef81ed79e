-- What a replay owes: how it ended, what the sink took, what the files hold and the calls that were made on them, by the
-- flat machine.
use Rattle.std.specs.Prelude.{◌≡◌, ℕ, List, [], ◌∷◌, Option, Some}
use Rattle.vm_types.specs.Causes.{Rose}
use Rattle.vm_types.specs.Saved.{SameOthers}
use Rattle.vm_outside.specs.Calls.{MakesFront}
use Rattle.vm_outside.specs.Known.{FilesKnown}
use Rattle.gate_file.specs.Runs.{save_calls}
use Rattle.vm_types.specs.declared.exit.Exit.{Exit}
use Rattle.vm_types.specs.declared.exit.Object.TheVariants as object
use Rattle.script_text.specs.declared.item.Item.{Item}
use Rattle.flat_machine.specs.Machine.{AreFilesOf, Machine}
use Rattle.flat_machine.specs.Outcome.{Outcome}
use Rattle.flat_machine.specs.Replay.{IsReplay}
use Rattle.flat_machine.specs.Run.{Act, AllAnswered, shortages}
use Rattle.flat_machine.specs.Stops.{IsCutOff, IsStopped}
use Rattle.monitor_cli.specs.Counting.{Counted}
use Rattle.monitor_cli.specs.Known.{Known}
use Rattle.monitor_cli.specs.Reading.{HasRead, ReadsBy}
use Rattle.monitor_cli.specs.Taking.{TookText}

-- the script came to its end, or to a line that is none: its acts, its text and the files are a replay's
pub record Ended (exit : Exit) (script rest : List ℕ) (start : Machine) (acts : List Act) (part : List Outcome)
    (text : List ℕ) (known : FilesKnown) : Type 0 where
  pub end : Machine
  pub replay : IsReplay script start acts exit text end
  pub unbegun : part ≡ []
  pub files : AreFilesOf known end
  pub read : HasRead script rest acts
  pub reads : ReadsBy exit rest read.undone end

-- The files are the machine's. But files that failed at a file line may hold anything under that line's own name, and the
-- first of its calls were made behind the machine's, and not all.
abbrev pub FilesBy : Exit → List (Option Item) → Machine → FilesKnown → Type 0
FilesBy (Exit.Fault object.Files) (Some (Item.File name content) ∷ more) m known =
    SameOthers m.saved name known.saved × MakesFront (save_calls name content) m.calls known.calls
FilesBy exit left m known = AreFilesOf known m

-- a host object failed, or memory was wanted
pub record Stopped (exit : Exit) (script rest : List ℕ) (start : Machine) (acts : List Act) (part : List Outcome)
    (text : List ℕ) (known : FilesKnown) : Type 0 where
  pub end : Machine
  pub stop : IsStopped script start acts part exit text end
  pub files : FilesBy exit stop.left end known
  pub read : HasRead script rest acts
  pub reads : ReadsBy exit rest read.undone end

-- the sink failed
pub record CutOff (script rest : List ℕ) (start : Machine) (acts : List Act) (part : List Outcome) (text : List ℕ)
    (known : FilesKnown) : Type 0 where
  pub end : Machine
  pub cut : IsCutOff script start acts text end
  pub unbegun : part ≡ []
  pub files : AreFilesOf known end
  pub read : HasRead script rest acts

-- how it went, where it ended so
abbrev pub Went : Exit → List ℕ → List ℕ → Machine → List Act → List Outcome → List ℕ → FilesKnown → Type 0
Went Exit.Done script rest start acts part text known = Ended Exit.Done script rest start acts part text known
Went (Exit.Script line) script rest start acts part text known = Ended
    (Exit.Script line) script rest start acts part text known
Went (Exit.Fault object.Sink) script rest start acts part text known = CutOff script rest start acts part text known
Went Exit.Usage script rest start acts part text known = ⊥
Went exit script rest start acts part text known = Stopped exit script rest start acts part text known

-- The replay of a script from this machine, whose text the sink took behind what it had; of the line at which it
-- stopped, these first requests were answered. Where the files' count did not rise and 503 was not answered, the machine
-- answered every request, so that by `one_replay` the text of a script that came to its end, what the files hold and the
-- calls on them are determined, by what each snapshot that was written kept of the devices.
pub record Replayed (exit : Exit) (start : Machine) (before now : Known) : Type 0 where
  pub acts : List Act
  pub part : List Outcome
  pub text : List ℕ
  pub went : Went exit before.source.left now.source.left start acts part text now.files
  pub took : TookText exit text before.sink now.sink
  pub counted : Counted exit acts part before.files.health.faults now.files.health.faults
  pub plain : (Rose before.files.health.faults now.files.health.faults → ⊥) → shortages acts ≡ 0 → AllAnswered acts
