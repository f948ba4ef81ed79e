-- A trace in which the guest turned itself off, and one in which it did not.
use Rattle.std.proofs.Common.{◌≡◌, ℕ, Bool, true, false, refl, sym, ap, ◌∙◌, subst, List, [], ◌∷◌, ◌++◌, inr, append_assoc}
use Rattle.std.proofs.lemmas.List.{map-append}
use Rattle.vm_types.specs.declared.exit.Exit.{Exit}
use Rattle.flat_machine.specs.Items.{ItemStep}
use Rattle.flat_machine.specs.Machine.{Machine, drained, is_off}
use Rattle.flat_machine.specs.Replay.{closing, judged_script}
use Rattle.flat_machine.specs.Run.{Act, OnBefore, lines_done}
use Rattle.flat_machine.specs.Run as script
use Rattle.flat_machine.proofs.Determined.{item_one}
use Rattle.flat_trace.specs.Showing.{Out, Run, line_by, lines}
use Rattle.flat_trace.specs.Replays.{ReplaysToOff}
use Rattle.flat_trace.proofs.Behind.{drain_off, run_closes}
use Rattle.flat_trace.proofs.Scripts.{step_line}

-- the guest is on before an act, and before those that follow where it leads
on_first : (act : Act) (acts : List Act) (m mid : Machine) (text : List ℕ) → is_off m ≡ false
    → ItemStep act.item act.outcomes m text mid → OnBefore acts mid → OnBefore (act ∷ acts) m
on_first act acts m mid text on step more = (
  on,
  λ other k leads. subst (OnBefore acts) (item_one act.item act.outcomes m mid k text other step leads).1 more,
)

-- up to the act that turned the guest off
record Front (acts : List Act) (m : Machine) (text : List ℕ) : Type 0 where
  front : List Act
  rest : List Act
  answers : List ℕ
  last : Machine
  parts : acts ≡ front ++ rest
  on : OnBefore front m
  ran : script.Run front m answers last
  off : is_off last ≡ true
  writes : text ≡ answers ++ closing Exit.Done last

off_front : (acts : List Act) (off : Bool) (m n : Machine) (outs : List Out) → is_off m ≡ off → is_off n ≡ true
    → Run acts m outs n → Front acts m (lines outs ++ closing Exit.Done n)
off_front acts true m n outs is off run = record {
  front = [];
  rest = acts;
  answers = [];
  last = m;
  parts = refl;
  on = tt;
  ran = (refl, refl);
  off = is;
  writes = (run_closes acts m n outs is run).1;
}
off_front [] false m n outs is off run =
    let both : true ≡ false = sym off ∙ ap is_off (sym run.1) ∙ is in cc
off_front (act ∷ acts) false m n outs is off (out, mid, rest, split, step, more) =
    let line = step_line act.item act.outcomes m mid out is step in
    let later = off_front acts (is_off mid) mid n rest refl off more in record {
      front = act ∷ later.front;
      rest = later.rest;
      answers = line_by out ++ later.answers;
      last = later.last;
      parts = ap (λ (l : List Act). act ∷ l) later.parts;
      on = on_first act later.front m mid (line_by out) is line later.on;
      ran = (line_by out, mid, later.answers, line, later.ran, refl);
      off = later.off;
      writes = ap (λ (os : List Out). lines os ++ closing Exit.Done n) split
          ∙ append_assoc (line_by out) (lines rest) (closing Exit.Done n)
          ∙ ap (λ (t : List ℕ). line_by out ++ t) later.writes
          ∙ sym (append_assoc (line_by out) later.answers (closing Exit.Done later.last));
    }

pub off_replays : (text : List ℕ) (acts : List Act) (m n : Machine) (outs : List Out) → judged_script text ≡ lines_done acts
    → is_off n ≡ true → Run acts m outs n → ReplaysToOff text m acts (lines outs ++ closing Exit.Done n)
off_replays text acts m n outs judged off run =
    let it = off_front acts (is_off m) m n outs refl off run in record {
      front = it.front;
      rest = it.rest;
      end = drained it.last;
      parts = it.parts;
      off = drain_off it.last.guest ∙ it.off;
      replay = record {
        answers = it.answers;
        last = it.last;
        left = lines_done it.rest;
        plays = record {
          lines = judged ∙ ap lines_done it.parts ∙ map-append _ it.front it.rest;
          on = it.on;
          ran = it.ran;
        };
        ends = inr it.off;
        writes = it.writes;
        leaves = refl;
      };
    }

on_by : (acts : List Act) (off : Bool) (m n : Machine) (outs : List Out) → is_off m ≡ off → is_off n ≡ false
    → Run acts m outs n → OnBefore acts m
on_by [] off m n outs is on run = tt
on_by (act ∷ acts) true m n outs is on run =
    let both : true ≡ false = sym (run_closes (act ∷ acts) m n outs is run).0 ∙ on in cc
on_by (act ∷ acts) false m n outs is on (out, mid, rest, split, step, more) =
    on_first act acts m mid (line_by out) is (step_line act.item act.outcomes m mid out is step)
    (on_by acts (is_off mid) mid n rest refl on more)

pub on_before : (acts : List Act) (m n : Machine) (outs : List Out) → is_off n ≡ false → Run acts m outs n → OnBefore acts m
on_before acts m n outs on run = on_by acts (is_off m) m n outs refl on run
