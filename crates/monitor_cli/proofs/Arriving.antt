-- A replay on its way: nothing has come, a piece more has come, and one more line is done.
use Rattle.std.proofs.Common.{◌≡◌, ℕ, ◌+◌, ◌-◌, ◌≤◌, nat_le, Bool, true, false, cond, List, [], ◌∷◌, ◌++◌, length, take, Option, Some, None, refl, sym, ap, subst, ◌∙◌, append_assoc, arith}
use Rattle.std.proofs.Math.Seq.{take-append-add}
use Rattle.std.proofs.lemmas.List.{append-nil}
use Rattle.script_text.specs.declared.item.Item.{Item}
use Rattle.vm_outside.specs.Known.{FilesKnown, SinkKnown, Tells}
use Rattle.script_text.specs.Lines.{judged}
use Rattle.flat_machine.specs.Machine.{Machine, is_off}
use Rattle.flat_machine.specs.Outcome.{failed_in}
use Rattle.flat_machine.specs.Replay.{Plays, longest_script}
use Rattle.flat_machine.specs.Run.{Act, OnBefore, Run, failures, lines_done}
use Rattle.flat_machine.proofs.Pushed.{answered_push, failures_push, length_push, lines_push, on_push, run_push}
use Rattle.monitor_core.specs.declared.monitor.Monitor.{Monitor}
use Rattle.monitor_core.specs.State.{IsMonitor}
use Rattle.vm_types.specs.Causes.{RoseBy}
use Rattle.monitor_cli.specs.Answering.{ItemDone}
use Rattle.monitor_cli.specs.Known.{Known}
use Rattle.monitor_cli.specs.Lines.{Reached}
use Rattle.monitor_cli.specs.Reading.{HasRead}
use Rattle.monitor_cli.specs.declared.lines.ScriptRun.{ScriptRun}
use Rattle.monitor_cli.proofs.Counts.{rose_more}

pub begun : (start : Machine) (before : Known) (run : ScriptRun) → run.reader ≡ [] → run.line ≡ 1 → IsMonitor run.monitor before.files start → Reached start before [] before.source.left run before.sink before.files
begun start before run empty first is = record {
  parts = refl;
  short = omega arith;
  acts = [];
  answers = [];
  last = start;
  lines = λ more. ap (λ (held : List ℕ). judged (held ++ more)) (sym empty);
  on = tt;
  ran = (refl, refl);
  number = first;
  is = is;
  takes = sym (append-nil before.sink.taken);
  rose = omega arith;
  kept = λ good. refl;
}

pub fed : (start : Machine) (before : Known) (came piece rest now : List ℕ) (run : ScriptRun) (sink : SinkKnown) (files : FilesKnown) → ((more : List ℕ) → judged (now ++ more) ≡ judged ((run.reader ++ piece) ++ more)) → length (came ++ piece) ≤ longest_script
    → Reached start before came (piece ++ rest) run sink files → Reached start before (came ++ piece) rest (record run { reader = now }) sink files
fed start before came piece rest now run sink files is small r = record {
  parts = append_assoc came piece rest ∙ r.parts;
  short = small;
  acts = r.acts;
  answers = r.answers;
  last = r.last;
  lines = λ more. ap judged (append_assoc came piece more) ∙ r.lines (piece ++ more)
      ∙ ap (λ (l : List (Option Item)). lines_done r.acts ++ l) (ap judged (sym (append_assoc run.reader piece more)) ∙ sym (is more));
  on = r.on;
  ran = r.ran;
  number = r.number;
  is = r.is;
  takes = r.takes;
  rose = r.rose;
  kept = r.kept;
}

module _ (start : Machine) (before : Known) (came rest : List ℕ) (run : ScriptRun) (sink : SinkKnown) (files : FilesKnown) (r : Reached start before came rest run sink files) where
  module _ (behind : List ℕ) (item : Item) (next : (more : List ℕ) → judged (run.reader ++ more) ≡ Some item ∷ judged (behind ++ more)) where
    pub lines_next : (more : List ℕ) → judged (came ++ more) ≡ lines_done r.acts ++ Some item ∷ judged (behind ++ more)
    lines_next more = r.lines more ∙ ap (λ (l : List (Option Item)). lines_done r.acts ++ l) (next more)

    module _ (on : is_off r.last ≡ false) (files_told : Tells files.health) (sink_told : Tells sink.health) (after : Monitor) (left : FilesKnown) (now : SinkKnown) where
      pub goes_on : ItemDone item run.monitor after files left sink now → Reached start before came rest (record { reader = behind; monitor = after; line = run.line + 1 }) now left
      goes_on done =
          let act : Act = record { item = item; outcomes = done.goes.outcomes } in
          let went = done.goes.went files_told r.last r.is in
          record {
            parts = r.parts;
            short = r.short;
            acts = r.acts ++ act ∷ [];
            answers = r.answers ++ done.text;
            last = went.0;
            lines = λ more. lines_next more ∙ lines_push r.acts act (judged (behind ++ more));
            on = on_push r.acts act start r.last r.answers r.on r.ran on;
            ran = run_push r.acts act start r.last went.0 r.answers done.text r.ran went.1;
            number = omega (arith, r.number, length_push r.acts act);
            is = went.2;
            takes = done.takes sink_told ∙ ap (λ (l : List ℕ). l ++ done.text) r.takes ∙ append_assoc before.sink.taken r.answers done.text;
            rose = subst (λ (n : ℕ). RoseBy n before.files.health.faults left.health.faults) (sym (failures_push r.acts act))
                (rose_more (failures r.acts) (failed_in act.outcomes) before.files.health.faults files.health.faults left.health.faults r.rose done.goes.counted.rose);
            kept = λ good. let both = answered_push r.acts act good in done.goes.counted.kept both.1 ∙ r.kept both.0;
          }

-- the lines of a script begin with those of the bytes that came
spread_by : (b : Bool) (most : ℕ) (script came left : List ℕ) → came ++ left ≡ script → length came ≤ most → (more : List ℕ) × (behind : List (Option Item)) × (cond b (judged script) (judged (take most script) ++ None ∷ []) ≡ judged (came ++ more) ++ behind)
spread_by true most script came left is small = (left, [], ap judged (sym is) ∙ sym (append-nil (judged (came ++ left))))
spread_by false most script came left is small =
    let parts : most ≡ length came + (most - length came) = omega (arith, small) in (
      take (most - length came) left,
      None ∷ [],
      ap (λ (l : List ℕ). judged l ++ None ∷ []) (ap (take most) (sym is) ∙ ap (λ (n : ℕ). take n (came ++ left)) parts ∙ take-append-add came left (most - length came)),
    )

-- where acts are done for the first lines of what came, they are for those of the script
pub record Spread (script came rest : List ℕ) (start : Machine) (acts : List Act) (answers : List ℕ) (last : Machine) (left : List ℕ → List (Option Item)) : Type 0 where
  pub more : List ℕ
  pub behind : List (Option Item)
  pub plays : Plays script start acts answers last (left more ++ behind)
  pub read : HasRead script rest acts

pub spread : (script came rest : List ℕ) (start : Machine) (acts : List Act) (answers : List ℕ) (last : Machine) (left : List ℕ → List (Option Item)) → came ++ rest ≡ script → length came ≤ longest_script
    → ((more : List ℕ) → judged (came ++ more) ≡ lines_done acts ++ left more) → OnBefore acts start → Run acts start answers last → Spread script came rest start acts answers last left
spread script came rest start acts answers last left is small lines on ran =
    let by = spread_by (nat_le (length script) longest_script) longest_script script came rest is small in
    record {
      more = by.0;
      behind = by.1;
      plays = record {
        lines = by.2 ∙ ap (λ (l : List (Option Item)). l ++ by.1) (lines by.0) ∙ append_assoc (lines_done acts) (left by.0) by.1;
        on = on;
        ran = ran;
      };
      read = record { came = came; parts = is; undone = left []; lines = ap judged (sym (append-nil came)) ∙ lines [] };
    }
