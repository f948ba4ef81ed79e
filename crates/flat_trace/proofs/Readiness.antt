-- A machine that is ready stays so over a trace.
use Rattle.std.proofs.Common.{◌≡◌, ℕ, Bool, true, false, refl, sym, List, [], ◌∷◌, Option, Some, None}
use Rattle.vm_types.specs.declared.ids.ActorId.{ActorId}
use Rattle.vm_types.specs.declared.reply.Reply.{Reply}
use Rattle.flat_guest.specs.Given.{Given}
use Rattle.flat_guest.specs.Given.Given.{Host, Nothing}
use Rattle.script_text.specs.declared.item.Item.{Item}
use Rattle.script_text.specs.declared.item.Item.TheVariants as item
use Rattle.responses.specs.Output.{console_line}
use Rattle.flat_guest.specs.Guest.{Guest}
use Rattle.flat_machine.specs.Items.{response_lines}
use Rattle.flat_machine.specs.Machine.{Machine, console_of, is_off, running_by}
use Rattle.flat_machine.specs.Outcome.{Outcome}
use Rattle.flat_machine.specs.Ready.{Ready, ReadyBy}
use Rattle.flat_machine.specs.Run.{Act}
use Rattle.flat_machine.proofs.Ready.{event_ready, item_ready, ready_is}
use Rattle.flat_trace.specs.Showing.{HasEvent, Hears, Out, Run, TraceStep}

event_kept : (guest : Option Guest) (paused : Bool) (actor : ActorId) (given : Given) (m n : Machine) → Ready m
    → ReadyBy m.config paused guest → m.paused ≡ paused → HasEvent (running_by guest paused) actor given m n → Ready n
event_kept guest true actor given m n ready own is x = absurd x
event_kept None false actor given m n ready own is x = absurd x
event_kept (Some g) false actor given m n ready own is x =
    ready_is (record m { guest = Some x.end }) n x.leaves
    (event_ready m g x.end (record { actor = actor; given = given }) x.entry ready own is x.step)

hears_kept : (off : Bool) (bytes : List ℕ) (outcomes : List Outcome) (m : Machine) (out : Out) (n : Machine) → Ready m
    → Hears off bytes outcomes m out n → Ready n
hears_kept true bytes outcomes m out n ready x = ready_is m n x.2 ready
hears_kept false bytes outcomes m out n ready x =
    item_ready (item.Bytes bytes) outcomes m n (response_lines x.0) ready (x.0, x.2, refl)

step_kept : (it : Item) (outcomes : List Outcome) (m : Machine) (out : Out) (n : Machine) → Ready m → TraceStep it outcomes m out n → Ready n
step_kept (item.Step actor count) outcomes m out n ready x =
    event_kept m.guest m.paused actor Nothing m n ready ready.guest refl x.3
step_kept (item.Reply actor reply) outcomes m out n ready x =
    event_kept m.guest m.paused actor (Host x.2) m n ready ready.guest refl x.4
step_kept item.Console outcomes m out n ready x = item_ready item.Console outcomes m n (console_line (console_of m)) ready x.1
step_kept (item.Bytes bytes) outcomes m out n ready x = hears_kept (is_off m) bytes outcomes m out n ready x
step_kept item.Connect outcomes m out n ready x = item_ready item.Connect outcomes m n [] ready x.1
step_kept (item.Lineage lineage) outcomes m out n ready x = item_ready (item.Lineage lineage) outcomes m n [] ready x.1
step_kept it outcomes m out n ready x = absurd x

pub run_kept : (acts : List Act) (m n : Machine) (outs : List Out) → Ready m → Run acts m outs n → Ready n
run_kept [] m n outs ready x = ready_is m n (sym x.1) ready
run_kept (act ∷ acts) m n outs ready (out, mid, rest, split, step, more) =
    run_kept acts mid n rest (step_kept act.item act.outcomes m out mid ready step) more
