-- The end of a replay over objects in memory.
use Rattle.std.proofs.Common.{◌≡◌, ◌≤◌, ℕ, true, false, refl, sym, ap, subst, ◌∙◌, List, [], ◌++◌, map, length, Option, Some, arith}
use Rattle.vm_types.specs.declared.exit.Exit.{Exit}
use Rattle.vm_types.specs.declared.exit.Object.TheVariants as object
use Rattle.script_text.specs.declared.item.Item.{Item}
use Rattle.script_text.specs.Lines.{judged}
use Rattle.vm_outside.specs.Known.{FilesKnown, SinkKnown, SourceKnown, Tells}
use Rattle.command_line.specs.MachineId.{default_id}
use Rattle.flat_machine.specs.Machine.{Machine, drained, new_machine}
use Rattle.flat_machine.specs.Replay.{closing, longest_script}
use Rattle.flat_machine.specs.Run.{lines_done}
use Rattle.monitor_core.specs.declared.monitor.Monitor.{Monitor}
use Rattle.monitor_core.specs.State.{IsMonitor}
use Rattle.monitor_cli.specs.Known.{Known, SourceCause, all_known}
use Rattle.monitor_cli.specs.Lines.{BeforeLast, Finished, IsRunsEnd, Reached}
use Rattle.monitor_cli.specs.declared.lines.ScriptRun.{ScriptRun}
use Rattle.monitor_cli.proofs.Arriving.{begun}
use Rattle.monitor_cli.proofs.Commanding.{no_none}
use Rattle.monitor_cli.proofs.Finishing.{all, short_judged}
use Rattle.load_run.specs.Failures.{IsShortage, tells_failure}
use Rattle.load_run.specs.Restoring.{IsDone}
use Rattle.load_run.proofs.Answered.{all_answered}

-- one that came to its end, with no answer that tells of a failure
done_by : (start : Machine) (before : Known) (rest : List ℕ) (run : ScriptRun) (sink : SinkKnown) (files : FilesKnown) → before.sink.taken ≡ [] → tells_failure sink.taken ≡ false
    → Finished start before rest run sink files → (last : Machine) × IsDone before.source.left start last × IsMonitor run.monitor files last
done_by start before rest run sink files empty clean done =
    let r = done.reached in
    let whole = all start before rest run sink files done in
    let took : sink.taken ≡ r.answers = r.takes ∙ ap (λ (l : List ℕ). l ++ r.answers) empty in (
      r.last,
      record {
        acts = r.acts;
        text = r.answers ++ closing Exit.Done r.last;
        end = drained r.last;
        replay = record {
          answers = r.answers;
          last = r.last;
          left = whole.left;
          plays = whole.plays;
          ends = whole.ends;
          writes = refl;
          leaves = refl;
        };
        answered = all_answered r.acts start r.last r.answers r.ran (ap tells_failure (sym took) ∙ clean);
        last = refl;
      },
      r.is,
    )

-- one that ended early: the source never fails, and each line is an item
is_shortage : (exit : Exit) (start : Machine) (before : Known) (rest : List ℕ) (sink : SinkKnown) (files : FilesKnown) → IsRunsEnd exit → SourceCause exit 0 0
    → length before.source.left ≤ longest_script → (items : List Item) → judged before.source.left ≡ map (λ it. Some it) items
    → BeforeLast exit start before rest sink files → IsShortage exit
is_shortage Exit.OutOfMemory start before rest sink files end cause short items are so_far = tt
is_shortage (Exit.Fault object.Files) start before rest sink files end cause short items are so_far = tt
is_shortage (Exit.Fault object.Sink) start before rest sink files end cause short items are so_far = tt
is_shortage (Exit.Fault object.Source) start before rest sink files end cause short items are so_far = absurd (omega (arith, cause))
is_shortage (Exit.Fault object.Trace) start before rest sink files end cause short items are so_far = absurd end
is_shortage (Exit.Fault object.Listener) start before rest sink files end cause short items are so_far = absurd end
is_shortage (Exit.Fault object.Words) start before rest sink files end cause short items are so_far = absurd end
is_shortage Exit.Done start before rest sink files end cause short items are so_far = absurd end
is_shortage Exit.Usage start before rest sink files end cause short items are so_far = absurd end
is_shortage (Exit.Script line) start before rest sink files end cause short items are so_far =
    let replay = so_far.went.replay in
    absurd (no_none so_far.acts items replay.ends.2 (sym are ∙ sym (short_judged before.source.left short) ∙ replay.plays.lines
    ∙ ap (λ (l : List (Option Item)). lines_done so_far.acts ++ l) replay.ends.3))

pub new_by : (monitor : Monitor) (id : List ℕ) → id ≡ default_id → ((known : FilesKnown) → IsMonitor monitor known (new_machine id known.saved known.calls)) → (known : FilesKnown)
    → IsMonitor monitor known (new_machine default_id known.saved known.calls)
new_by monitor id is all known = subst (λ (i : List ℕ). IsMonitor monitor known (new_machine i known.saved known.calls)) is (all known)

-- what a sink in memory took, of which all was written
pub taken_all : (first : SinkKnown) (faults : ℕ) (last script : List ℕ) → first ≡ record { health = record { tells = true; faults = faults }; taken = [] }
    → (Tells first.health → last ≡ first.taken ++ script) → last ≡ script
taken_all first faults last script is takes =
    takes (ap (λ (k : SinkKnown). k.health.tells) is) ∙ ap (λ (k : SinkKnown). k.taken ++ script) is

-- a replay from a source that never fails to a sink in memory
module _ (script bytes : List ℕ) (source : SourceKnown) (sink : SinkKnown) (files : FilesKnown) (run : ScriptRun) (faults : ℕ)
    (given : source ≡ record { health = record { tells = true; faults = 0 }; left = bytes }) (whole : bytes ≡ script)
    (empty : sink ≡ record { health = record { tells = true; faults = faults }; taken = [] }) (told : Tells files.health) (unread : run.reader ≡ []) (first : run.line ≡ 1)
    (fresh : (known : FilesKnown) → IsMonitor run.monitor known (new_machine default_id known.saved known.calls)) where
  abbrev start : Machine
  start = new_machine default_id files.saved files.calls

  abbrev before : Known
  before = all_known source sink files

  begins : Reached start before [] source.left run sink files
  begins = begun start before run unread first (fresh files)

  left_is : source.left ≡ script
  left_is = ap (λ (k : SourceKnown). k.left) given ∙ whole

  source_tells : Tells source.health
  source_tells = ap (λ (k : SourceKnown). k.health.tells) given

  sink_tells : Tells sink.health
  sink_tells = ap (λ (k : SinkKnown). k.health.tells) empty

  pub replay_done : (rest : List ℕ) (after : ScriptRun) (took : SinkKnown) (now : FilesKnown)
      → (Tells source.health → Tells files.health → Tells sink.health → (m : Machine) (known : Known) → Reached m known [] source.left run sink files → Finished m known rest after took now)
      → tells_failure took.taken ≡ false → (last : Machine) × IsDone script start last × IsMonitor after.monitor now last
  replay_done rest after took now finished clean =
      let done = done_by start before rest after took now (ap (λ (k : SinkKnown). k.taken) empty) clean (finished source_tells told sink_tells start before begins) in
      (done.0, subst (λ (t : List ℕ). IsDone t start done.0) left_is done.1, done.2)

  pub replay_short : (exit : Exit) (rest : List ℕ) (took : SinkKnown) (now : FilesKnown) → IsRunsEnd exit → SourceCause exit 0 0 → length bytes ≤ longest_script
      → (items : List Item) → judged script ≡ map (λ it. Some it) items
      → (Tells source.health → Tells files.health → Tells sink.health → (m : Machine) (known : Known) → Reached m known [] source.left run sink files → BeforeLast exit m known rest took now)
      → IsShortage exit
  replay_short exit rest took now end cause short items are ended =
      is_shortage exit start before rest took now end cause (subst (λ (k : SourceKnown). length k.left ≤ longest_script) (sym given) short) items
      (ap judged left_is ∙ are) (ended source_tells told sink_tells start before begins)
