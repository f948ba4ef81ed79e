-- A trace as a script.
use Rattle.std.proofs.Common.{◌≡◌, ℕ, Bool, true, false, refl, sym, ap, ◌∙◌, subst, List, [], ◌∷◌}
use Rattle.script_text.specs.declared.item.Item.{Item}
use Rattle.script_text.specs.declared.item.Item.TheVariants as item
use Rattle.flat_machine.specs.Items.{ItemStep}
use Rattle.flat_machine.specs.Machine.{Machine, is_off}
use Rattle.flat_machine.specs.Outcome.{Outcome}
use Rattle.flat_machine.specs.Run.{Act, OnBefore}
use Rattle.flat_machine.specs.Run as script
use Rattle.flat_trace.specs.Showing.{Hears, Out, Run, TraceStep, line_by, lines}
use Rattle.flat_trace.specs.Showing.Out.{Quiet, Opened, Heard, Shown}
use Rattle.flat_trace.proofs.Lines.{event_is_line, reply_is_line}

-- ---- an item of a trace is a line that writes what the item shows

abbrev Line : Item → List Outcome → Machine → Out → Machine → Type 0
Line it outcomes m out n = ItemStep it outcomes m (line_by out) n

shown_as : (it : Item) (outcomes : List Outcome) (m n : Machine) (out other : Out) (text : List ℕ) → out ≡ other
    → line_by other ≡ text → ItemStep it outcomes m text n → Line it outcomes m out n
shown_as it outcomes m n out other text is line step =
    subst (λ (t : List ℕ). ItemStep it outcomes m t n) (sym (ap line_by is ∙ line)) step

hears_line : (bytes : List ℕ) (outcomes : List Outcome) (m n : Machine) (out : Out) (off : Bool) → off ≡ false
    → Hears off bytes outcomes m out n → Line (item.Bytes bytes) outcomes m out n
hears_line bytes outcomes m n out true on hears = cc
hears_line bytes outcomes m n out false on (responses, is, talks) =
    shown_as (item.Bytes bytes) outcomes m n out (Heard bytes responses) (line_by (Heard bytes responses)) is refl
    (responses, talks, refl)

pub step_line : (it : Item) (outcomes : List Outcome) (m n : Machine) (out : Out) → is_off m ≡ false
    → TraceStep it outcomes m out n → Line it outcomes m out n
step_line (item.Step actor count) outcomes m n out on (none, is, one, event) =
    shown_as (item.Step actor count) outcomes m n out Quiet [] is refl
    (subst (λ (c : ℕ). ItemStep (item.Step actor c) outcomes m [] n) (sym one)
    (subst (λ (o : List Outcome). ItemStep (item.Step actor 1) o m [] n) (sym none)
    (event_is_line actor m n on (refl, refl, refl, event))))
step_line (item.Reply actor reply) outcomes m n out on (none, is, reply_is, given, event) =
    shown_as (item.Reply actor reply) outcomes m n out Quiet [] is refl
    (subst (λ (o : List Outcome). ItemStep (item.Reply actor reply) o m [] n) (sym none)
    (reply_is_line actor reply m n (refl, refl, reply_is, given, event)))
step_line item.Console outcomes m n out on (is, step) =
    shown_as item.Console outcomes m n out (Shown _) _ is refl step
step_line (item.Bytes bytes) outcomes m n out on hears = hears_line bytes outcomes m n out (is_off m) on hears
step_line item.Connect outcomes m n out on (is, step) = shown_as item.Connect outcomes m n out Opened [] is refl step
step_line (item.Lineage lineage) outcomes m n out on (is, step) =
    shown_as (item.Lineage lineage) outcomes m n out Quiet [] is refl step
step_line item.Nothing outcomes m n out on step = absurd step
step_line (item.File name content) outcomes m n out on step = absurd step
step_line (item.Api method path body) outcomes m n out on step = absurd step
step_line (item.Register hart number) outcomes m n out on step = absurd step
step_line (item.Memory at len) outcomes m n out on step = absurd step

-- ---- and a trace is a script

pub run_lines : (acts : List Act) (m n : Machine) (outs : List Out) → OnBefore acts m → Run acts m outs n
    → script.Run acts m (lines outs) n
run_lines [] m n outs on (none, is) = (ap lines none, is)
run_lines (act ∷ acts) m n outs on (out, mid, rest, is, step, more) =
    let line = step_line act.item act.outcomes m mid out on.0 step in (
      line_by out,
      mid,
      lines rest,
      line,
      run_lines acts mid n rest (on.1 (line_by out) mid line) more,
      ap lines is,
    )
