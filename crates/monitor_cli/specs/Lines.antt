-- A replay on its way, and before its last line.
use Rattle.std.specs.Prelude.{◌≡◌, ◌≤◌, ◌+◌, ◌⊎◌, ℕ, true, false, List, [], ◌∷◌, ◌++◌, length}
use Rattle.vm_types.specs.Causes.{RoseBy}
use Rattle.vm_types.specs.declared.exit.Exit.{Exit}
use Rattle.vm_types.specs.declared.exit.Object.TheVariants as object
use Rattle.vm_outside.specs.Known.{FilesKnown, SinkKnown, SourceKnown, Tells}
use Rattle.script_text.specs.Lines.{judged}
use Rattle.responses.specs.Output.{last_line}
use Rattle.flat_machine.specs.Machine.{Machine, is_off}
use Rattle.flat_machine.specs.Outcome.{Outcome}
use Rattle.flat_machine.specs.Replay.{longest_script}
use Rattle.flat_machine.specs.Run.{Act, AllAnswered, OnBefore, Run, failures, lines_done}
use Rattle.monitor_core.specs.declared.monitor.Monitor.{Monitor}
use Rattle.monitor_core.specs.State.{IsMonitor}
use Rattle.monitor_cli.specs.Counting.{Counted}
use Rattle.monitor_cli.specs.Known.{IsReplayEnd, Known}
use Rattle.monitor_cli.specs.Replay.{Went}
use Rattle.monitor_cli.specs.declared.lines.Paused.{Paused}
use Rattle.monitor_cli.specs.declared.lines.Paused.TheVariants.{Off, Empty}
use Rattle.monitor_cli.specs.declared.lines.ScriptRun.{ScriptRun}

-- From a machine at the start and what was known then: these bytes of the script came, and the source has the rest. Of
-- what came, the reader holds an end, and the lines before it are done. The monitor is the machine after them, and the
-- sink took their answers.
pub record Reached (start : Machine) (before : Known) (came rest : List ℕ) (run : ScriptRun) (sink : SinkKnown)
    (files : FilesKnown) : Type 0 where
  pub parts : came ++ rest ≡ before.source.left
  pub short : length came ≤ longest_script
  pub acts : List Act
  pub answers : List ℕ
  pub last : Machine
  pub lines : (more : List ℕ) → judged (came ++ more) ≡ lines_done acts ++ judged (run.reader ++ more)
  pub on : OnBefore acts start
  pub ran : Run acts start answers last
  pub number : run.line ≡ length acts + 1
  pub is : IsMonitor run.monitor files last
  pub takes : sink.taken ≡ before.sink.taken ++ answers
  pub rose : RoseBy (failures acts) before.files.health.faults files.health.faults
  pub kept : AllAnswered acts → files.health.faults ≡ before.files.health.faults

-- A replay that ended so, all but its last line, which is not yet written; the source has the rest.
pub record BeforeLast (exit : Exit) (start : Machine) (before : Known) (rest : List ℕ) (sink : SinkKnown)
    (files : FilesKnown) : Type 0 where
  pub acts : List Act
  pub part : List Outcome
  pub written : List ℕ
  pub went : Went exit before.source.left rest start acts part (written ++ last_line exit) files
  pub took : sink.taken ≡ before.sink.taken ++ written
  pub counted : Counted exit acts part before.files.health.faults files.health.faults

-- No line is left, or the guest is off: the answers are written, and nothing behind them.
pub record Finished (start : Machine) (before : Known) (rest : List ℕ) (run : ScriptRun) (sink : SinkKnown)
    (files : FilesKnown) : Type 0 where
  pub came : List ℕ
  pub reached : Reached start before came rest run sink files
  pub done : ((judged run.reader ≡ []) × (rest ≡ [])) ⊎ (is_off reached.last ≡ true)

-- no line is done any more: the guest is off, or no line is whole
abbrev pub PausedBy : Paused → List ℕ → Monitor → Type 0
PausedBy Off held monitor = (known : FilesKnown) (m : Machine) → IsMonitor monitor known m → is_off m ≡ true
PausedBy Empty held monitor =
    (judged held ≡ []) × ((known : FilesKnown) (m : Machine) → IsMonitor monitor known m → is_off m ≡ false)

-- how a script's run ends before its closing text; the run of the lines that are held never by the source
abbrev pub IsRunsEnd : Exit → Type 0
IsRunsEnd Exit.Done = ⊥
IsRunsEnd Exit.Usage = ⊥
IsRunsEnd exit = IsReplayEnd exit

abbrev pub IsLinesEnd : Exit → Type 0
IsLinesEnd (Exit.Fault object.Source) = ⊥
IsLinesEnd exit = IsRunsEnd exit

-- a byte came behind the longest script, or the source failed
abbrev pub PastBy : Exit → ℕ → SourceKnown → SourceKnown → Type 0
PastBy (Exit.Script line) number old new =
    (line ≡ number) × (Tells old.health → (byte : ℕ) × (old.left ≡ byte ∷ new.left))
PastBy (Exit.Fault object.Source) number old new = Tells old.health → new.left ≡ old.left
PastBy exit number old new = ⊥
