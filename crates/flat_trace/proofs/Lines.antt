-- Items of a trace as lines of a script.
use Rattle.std.proofs.Common.{◌≡◌, ℕ, Bool, true, false, nat_lt, refl, sym, ap, ◌∙◌, subst, List, [], ◌∷◌, length, slice_get, Option, Some, None, MatchBool, inl}
use Rattle.vm_types.specs.declared.ids.ActorId.{ActorId}
use Rattle.vm_types.specs.declared.ids.PlaceId.{PlaceId}
use Rattle.vm_types.specs.declared.entry.Step.{Step}
use Rattle.vm_types.specs.declared.op.Op.{Op}
use Rattle.vm_types.specs.declared.reply.Reply.{Reply}
use Rattle.vm_types.specs.Fits.{out_fits}
use Rattle.flat_guest.specs.Given.{Given}
use Rattle.flat_guest.specs.Given.Given.{Host, Nothing}
use Rattle.script_text.specs.declared.item.HostReply.{HostReply}
use Rattle.script_text.specs.declared.item.Item.TheVariants as item
use Rattle.script_text.specs.declared.output.Misfit.TheVariants as misfit
use Rattle.rv_supervisor.specs.declared.regs.Regs.{Regs}
use Rattle.hart_trace.specs.Asks.{is_host_op}
use Rattle.guest_devices.specs.Devices.{FlatDevice}
use Rattle.flat_guest.specs.Guest.{Guest, Wants, WantsFrom, WantsOf, is_actor}
use Rattle.flat_guest.proofs.Lists.{get_lt}
use Rattle.flat_guest.specs.Steps.{Answers as AnswersAt, AnswersOut, is_given}
use Rattle.flat_machine.specs.Items.{Answers, ItemStep, Misfits, Moves, Replies, RepliesLine, StepsLine}
use Rattle.flat_machine.specs.Machine.{Machine, is_off, off_by, running, running_by}
use Rattle.flat_trace.specs.Showing.{HasEvent, TraceStep}
use Rattle.flat_trace.specs.Showing.Out.{Quiet}

own_guest : (guest : Option Guest) (paused : Bool) (g : Guest) → running_by guest paused ≡ Some g → guest ≡ Some g
own_guest guest true g is = cc
own_guest guest false g is = is

pub guest_is : (m : Machine) (g : Guest) → running m ≡ Some g → m.guest ≡ Some g
guest_is m g is = own_guest m.guest m.paused g is

there_from : (starts : List Regs) (k : ℕ) (o : Option Regs) (steps : List Step) (op : Op) → slice_get starts k ≡ o
    → WantsFrom o steps op → nat_lt k (length starts) ≡ true
there_from starts k None steps op is wants = absurd wants
there_from starts k (Some r) steps op is wants = get_lt starts k r is

device_there : (devices : List FlatDevice) (k : ℕ) (o : Option FlatDevice) (op : Op) → slice_get devices k ≡ o
    → WantsOf o op → nat_lt k (length devices) ≡ true
device_there devices k None op is wants = absurd wants
device_there devices k (Some d) op is wants = get_lt devices k d is

there : (g : Guest) (actor : ActorId) (op : Op) → Wants g actor op → is_actor g actor ≡ true
there g ActorId.Timer op wants = refl
there g (ActorId.Hart k) op wants = there_from g.starts k (slice_get g.starts k) (g.steps (ActorId.Hart k)) op refl wants
there g (ActorId.Device k) op wants = device_there g.devices k (slice_get g.devices k) op refl wants

there_at : (g : Guest) (actor : ActorId) (given : Given) (m n : Machine) → Answers g actor given m [] n → is_actor g actor ≡ true
there_at g actor given m n a =
    there g actor a.entry.op (subst (λ (x : ActorId). Wants g x a.entry.op) a.step.actor a.step.want)

-- a step line

step_line : (o : Option Guest) (actor : ActorId) (m n : Machine) → ((g : Guest) → o ≡ Some g → g.board.off ≡ false)
    → HasEvent o actor Nothing m n → StepsLine o actor 1 m [] n
step_line None actor m n on a = absurd a
step_line (Some g) actor m n on a =
    let moves : Moves g actor 1 m [] n = record {
      entries = a.entry ∷ [];
      end = a.end;
      made = record { made = (a.unstamped, a.end, a.step, refl); on = (on g refl, tt); all = inl refl };
      writes = refl;
      leaves = a.leaves;
    } in
    subst (λ (b : Bool). MatchBool b (Moves g actor 1 m [] n) (Misfits misfit.NoActor m [] n)) (sym (there_at g actor Nothing m n a)) moves

is_on : (m : Machine) → is_off m ≡ false → (g : Guest) → running m ≡ Some g → g.board.off ≡ false
is_on m on g runs = sym (ap off_by (guest_is m g runs)) ∙ on

pub event_is_line : (actor : ActorId) (m n : Machine) → is_off m ≡ false → TraceStep (item.Step actor 1) [] m Quiet n
    → ItemStep (item.Step actor 1) [] m [] n
event_is_line actor m n on step = (refl, step_line (running m) actor m n (is_on m on) step.3)

-- a reply line

given_out : (op : Op) (given reply : Reply) → AnswersOut op (Host given) reply
    → (is_host_op op ≡ true) × (is_given op (Host given) ≡ true)
given_out (Op.Out act) given reply answer =
    let same : reply ≡ given = cc in
    (refl, subst (λ (r : Reply). out_fits act r ≡ true) same answer.1)
given_out (Op.Read at len) given reply answer = cc
given_out (Op.Write at piece) given reply answer = cc
given_out (Op.Amo at value kind wide) given reply answer = cc
given_out (Op.Lr at wide) given reply answer = cc
given_out (Op.Sc at value wide) given reply answer = cc
given_out (Op.Port port act) given reply answer = cc
given_out (Op.Board act) given reply answer = cc
given_out Op.Idle given reply answer = cc

given_at : (place : PlaceId) (g : Guest) (actor : ActorId) (op : Op) (given reply : Reply)
    → AnswersAt place g actor op (Host given) reply → (is_host_op op ≡ true) × (is_given op (Host given) ≡ true)
given_at (PlaceId.Page i) g actor op given reply answer = cc
given_at PlaceId.Board g actor op given reply answer = cc
given_at (PlaceId.Port k) g actor op given reply answer = cc
given_at PlaceId.Out g actor op given reply answer = given_out op given reply answer

reply_line : (o : Option Guest) (actor : ActorId) (given : Reply) (m n : Machine) → HasEvent o actor (Host given) m n
    → RepliesLine o actor (Host given) m [] n
reply_line None actor given m n a = absurd a
reply_line (Some g) actor given m n a =
    let op = a.entry.op in
    let wants : Wants g actor op = subst (λ (x : ActorId). Wants g x op) a.step.actor a.step.want in
    let host = given_at a.entry.place g a.entry.actor op given a.entry.reply a.step.answer in
    let fit : MatchBool (is_given op (Host given)) (Answers g actor (Host given) m [] n) (Misfits misfit.Unfit m [] n) =
    subst (λ (b : Bool). MatchBool b (Answers g actor (Host given) m [] n) (Misfits misfit.Unfit m [] n)) (sym host.1) a in
    let replies : Replies g actor (Host given) m [] n = (
      op,
      wants,
      subst (λ (b : Bool). MatchBool b (MatchBool (is_given op (Host given)) (Answers g actor (Host given) m [] n) (Misfits misfit.Unfit m [] n)) (Misfits misfit.NotWaiting m [] n))
          (sym host.0) fit,
    ) in
    subst (λ (b : Bool). MatchBool b (Replies g actor (Host given) m [] n) (Misfits misfit.NoActor m [] n))
    (sym (there g actor op wants)) replies

pub reply_is_line : (actor : ActorId) (reply : HostReply) (m n : Machine) → TraceStep (item.Reply actor reply) [] m Quiet n
    → ItemStep (item.Reply actor reply) [] m [] n
reply_is_line actor reply m n step = (
  refl,
  subst (λ (o : Given). RepliesLine (running m) actor o m [] n) (sym step.3)
      (reply_line (running m) actor step.2 m n step.4),
)
