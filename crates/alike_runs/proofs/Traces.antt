-- Runs over a trace, of machines that are alike.
use Rattle.std.proofs.Common.{◌≡◌, ℕ, Bool, true, false, refl, sym, ap, subst, ◌∙◌, List, [], ◌∷◌, ◌++◌, Option, Some, None}
use Rattle.vm_types.specs.declared.ids.ActorId.{ActorId}
use Rattle.board_table.specs.Board.{Board}
use Rattle.script_text.specs.declared.item.Item.{Item}
use Rattle.script_text.specs.declared.item.Item.TheVariants as item
use Rattle.responses.specs.Output.{console_line}
use Rattle.flat_guest.specs.Given.{Given}
use Rattle.flat_guest.specs.Given.Given.{Host, Nothing}
use Rattle.flat_guest.specs.Guest.{Guest}
use Rattle.flat_machine.specs.Items.{ItemStep}
use Rattle.flat_machine.specs.Machine.{Machine, console_of, is_off, off_by, running_by}
use Rattle.flat_machine.specs.Outcome.{Outcome}
use Rattle.flat_machine.specs.Run.{Act}
use Rattle.flat_trace.specs.Showing.{HasEvent, Hears, Out, Run, Shown, TraceStep}
use Rattle.alike_runs.specs.Alike.{Alike}
use Rattle.alike_runs.specs.Twins.{Twins}
use Rattle.alike_runs.proofs.Guests.{board_same}
use Rattle.alike_runs.proofs.Requests.{Led, led, led_on, moved, named_alike}
use Rattle.alike_runs.proofs.Runs.{answers_alike, console_same, item_alike, talks_alike}

module _ (twins : List Twins) (m n : Machine) (alike : Alike twins m n) where
  off_same : is_off m ≡ is_off n
  off_same =
      ap off_by alike.first ∙ ap (λ (b : Board). b.off) (board_same alike.g alike.h alike.guests) ∙ sym (ap off_by alike.second)

  event_alike : (actor : ActorId) (given : Given) (k : Machine) (b : Bool) (o p : Option Guest) → o ≡ Some alike.g → p ≡ Some alike.h
      → HasEvent (running_by o b) actor given m k → Led twins k (λ (l : Machine). HasEvent (running_by p b) actor given n l)
  event_alike actor given k true o p first second x = absurd x
  event_alike actor given k false None p first second x = absurd x
  event_alike actor given k false (Some g) None first second x = absurd cc
  event_alike actor given k false (Some g) (Some h) first second x =
      answers_alike twins m n alike g h (named_alike alike.g alike.h alike.guests g h first second) actor given [] k x

  -- of the guest that runs
  runs_alike : (actor : ActorId) (given : Given) (k : Machine) → HasEvent (running_by m.guest m.paused) actor given m k
      → Led twins k (λ (l : Machine). HasEvent (running_by n.guest n.paused) actor given n l)
  runs_alike actor given k x =
      subst (λ (b : Bool). Led twins k (λ (l : Machine). HasEvent (running_by n.guest b) actor given n l)) alike.paused
      (event_alike actor given k m.paused m.guest n.guest alike.first alike.second x)

  hears_alike : (off : Bool) (bytes : List ℕ) (outcomes : List Outcome) (out : Out) (k : Machine) → Hears off bytes outcomes m out k
      → Led twins k (λ (l : Machine). Hears off bytes outcomes n out l)
  hears_alike true bytes outcomes out k (none, shows, same) =
      led twins k n (λ (l : Machine). Hears true bytes outcomes n out l) (none, shows, refl) (moved twins k m n same alike)
  hears_alike false bytes outcomes out k (said, shows, talk) =
      let on = talks_alike twins m n alike bytes outcomes said k talk in
      record { l = on.l; front = on.front; is = (said, shows, on.is); stays = on.stays }

  abbrev Step_of : Item → List Outcome → Out → Machine → Type 0
  Step_of it outcomes out k = Led twins k (λ (l : Machine). TraceStep it outcomes n out l)

  pub step_alike : (it : Item) (outcomes : List Outcome) (out : Out) (k : Machine) → TraceStep it outcomes m out k → Step_of it outcomes out k
  step_alike (item.Step actor count) outcomes out k (none, quiet, one, x) =
      let on = runs_alike actor Nothing k x in
      record { l = on.l; front = on.front; is = (none, quiet, one, on.is); stays = on.stays }
  step_alike (item.Reply actor reply) outcomes out k (none, quiet, given, is, x) =
      let on = runs_alike actor (Host given) k x in
      record { l = on.l; front = on.front; is = (none, quiet, given, is, on.is); stays = on.stays }
  step_alike item.Console outcomes out k (shows, x) =
      let on = item_alike twins m n alike item.Console outcomes (console_line (console_of m)) k x in
      let same = console_same twins m n alike in
      record {
        l = on.l;
        front = on.front;
        is = (
          shows ∙ ap (λ (c : List ℕ). Shown c) same,
          subst (λ (c : List ℕ). ItemStep item.Console outcomes n (console_line c) on.l) same on.is,
        );
        stays = on.stays;
      }
  step_alike (item.Bytes bytes) outcomes out k x =
      let on = hears_alike (is_off m) bytes outcomes out k x in
      subst (λ (b : Bool). Led twins k (λ (l : Machine). Hears b bytes outcomes n out l)) off_same on
  step_alike item.Connect outcomes out k (shows, x) =
      let on = item_alike twins m n alike item.Connect outcomes [] k x in
      record { l = on.l; front = on.front; is = (shows, on.is); stays = on.stays }
  step_alike (item.Lineage lineage) outcomes out k (shows, x) =
      let on = item_alike twins m n alike (item.Lineage lineage) outcomes [] k x in
      record { l = on.l; front = on.front; is = (shows, on.is); stays = on.stays }
  step_alike item.Nothing outcomes out k x = absurd x
  step_alike (item.File name content) outcomes out k x = absurd x
  step_alike (item.Api method path body) outcomes out k x = absurd x
  step_alike (item.Register hart number) outcomes out k x = absurd x
  step_alike (item.Memory at len) outcomes out k x = absurd x

pub trace_alike : (acts : List Act) (twins : List Twins) (m n k : Machine) (outs : List Out) → Alike twins m n → Run acts m outs k
    → Led twins k (λ (l : Machine). Run acts n outs l)
trace_alike [] twins m n k outs alike (none, same) =
    led twins k n (λ (l : Machine). Run [] n outs l) (none, refl) (subst (λ (x : Machine). Alike twins x n) same alike)
trace_alike (act ∷ acts) twins m n k outs alike (out, mid, rest, split, step, more) =
    let now = step_alike twins m n alike act.item act.outcomes out mid step in
    let later = trace_alike acts (now.front ++ twins) mid now.l k rest now.stays more in
    led_on now.front twins k (λ (l : Machine). Run acts now.l rest l) (λ (l : Machine). Run (act ∷ acts) n outs l)
    (λ l so. (out, now.l, rest, split, now.is, so)) later
