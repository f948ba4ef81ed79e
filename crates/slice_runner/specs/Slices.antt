-- What a slice is to the flat machine.
use Rattle.std.specs.Prelude.{ℕ, zero, suc, ◌≡◌, ◌<◌, All, Bool, List, [], ◌∷◌, length}
use Rattle.vm_types.specs.declared.entry.Entry.{Entry}
use Rattle.vm_types.specs.declared.ids.ActorId.{ActorId}
use Rattle.vm_types.specs.declared.op.Op.{Op}
use Rattle.vm_types.specs.declared.op.OutOp.{OutOp}
use Rattle.vm_types.specs.declared.op.OutOp.TheVariants.{Clock}
use Rattle.vm_types.specs.declared.reply.Reply.{Reply}
use Rattle.vm_types.specs.Ids.{of_actor}
use Rattle.flat_guest.specs.Given.{Event, Given}
use Rattle.flat_guest.specs.Given.Given.{Host, Nothing}
use Rattle.flat_guest.specs.Guest.{Guest}
use Rattle.flat_guest.specs.Steps.{FlatStep, written_after}
use Rattle.guest_pages.specs.Marks.{AreMarks}
use Rattle.guest_pages.specs.Flat.{ArePages}
use Rattle.guest_pages.specs.Pages.{PageValue, marks_of}
use Rattle.pause_gate.specs.Tally.{Tally}
use Rattle.stamp_merge.specs.Stamps.{StampsRun}
use Rattle.vm_host.specs.Telling.{AreNext, ClockKnown, Tells}
use Rattle.vm_world.specs.Worlds.{IsWorld, WorldValue}
use Rattle.slice_runner.specs.declared.devices.Devices.{Devices}
use Rattle.slice_runner.specs.declared.devices.Devices.TheVariants.{Act, Rest}
use Rattle.slice_runner.specs.declared.stop.Stopped.{Stopped}
use Rattle.slice_runner.specs.Runs.{AreAnswered}
use Rattle.slice_runner.specs.Stops.{AreStopped}

-- the event that an entry tells: who acted, and what a host object answered
abbrev pub given_of : Op → Reply → Given
given_of (Op.Out act) reply = Host reply
given_of op reply = Nothing

abbrev pub event_of : Entry → Event
event_of e = record { actor = e.actor; given = given_of e.op e.reply }

-- the entries are steps of the flat machine, one after another, each with the reply that it got
abbrev pub Leads : Guest → List Entry → Guest → Type 0
Leads g [] h = g ≡ h
Leads g (e ∷ es) h = (mid : Guest) × FlatStep g (event_of e) e mid × Leads mid es h

-- they lead from each guest that the world was to one that it is
abbrev pub IsSerial : WorldValue → List Entry → WorldValue → Type 0
IsSerial old events new = (g : Guest) → IsWorld old g → (h : Guest) × Leads g events h × IsWorld new h

-- of so many devices all act, or none does
abbrev pub acting_of : Devices → ℕ → ℕ
acting_of Act devices = devices
acting_of Rest devices = 0

abbrev pub acting : Devices → WorldValue → ℕ
acting how w = acting_of how (length w.devices)

-- the actor is one of the timer, so many harts and so many devices
abbrev pub IsThere : ℕ → ℕ → ActorId → Type 0
IsThere harts devices ActorId.Timer = Unit {0}
IsThere harts devices (ActorId.Hart k) = k < harts
IsThere harts devices (ActorId.Device k) = k < devices

-- stamps begin anew with each slice
abbrev pub AreStamps : List Entry → Type 0
AreStamps events = StampsRun (λ actor. 0) (λ place. 0) events

-- which pages were written, these entries among what wrote them
abbrev pub written_by : (ℕ → Bool) → List Entry → ℕ → Bool
written_by written [] = written
written_by written (e ∷ es) = written_by (written_after written e) es

-- where each page was marked exactly where it was written, it is so now, with what the events wrote
abbrev pub MarksFollow : List PageValue → List Entry → List PageValue → Type 0
MarksFollow old events new =
    (written : ℕ → Bool) → AreMarks (marks_of old) written → AreMarks (marks_of new) (written_by written events)

-- what a clock answered in these entries
abbrev pub answer_in : Op → Reply → List ℕ → List ℕ
answer_in (Op.Out Clock) (Reply.Word answer) more = answer ∷ more
answer_in op reply more = more

abbrev pub answers_of : List Entry → List ℕ
answers_of [] = []
answers_of (e ∷ es) = answer_in e.op e.reply (answers_of es)

-- the timer got the clock's next answers, in order, and the others are left
abbrev pub ClockWasAsked : ClockKnown → List Entry → ClockKnown → Type 0
ClockWasAsked old events new =
    Tells old → Tells new × AreNext old.left (answers_of (of_actor ActorId.Timer events)) new.left

-- so many devices, from the number k on, got their objects' answers, one device after another, each what it asked, in order
abbrev pub DevicesAnswered : {K : Type 0} → (ℕ → OutOp → Reply → K → K → Type 0) → List Entry → ℕ → ℕ → K → K → Type 0
DevicesAnswered Answers events k zero old new = new ≡ old
DevicesAnswered {K} Answers events k (suc count) old new =
    (mid : K) × AreAnswered Answers k old (of_actor (ActorId.Device k) events) mid × DevicesAnswered Answers events (suc k) count mid new

-- the events of a slice, in which so many devices act, lead from the world before to the world after, which has its pages and its
-- ports still
pub record IsSlice {Q K : Type 0} (tally : Q → Tally) (Answers : ℕ → OutOp → Reply → K → K → Type 0) (n devices : ℕ)
    (asked now : ClockKnown) (known left : K) (old : WorldValue)
    (events : List Entry) (new : WorldValue) (stops : List Stopped) (before after : List Q) : Type 0 where
  pub serial : IsSerial old events new
  pub there : All (λ (e : Entry). IsThere (length old.harts) devices e.actor) events
  pub stamps : AreStamps events
  pub marks : MarksFollow old.pages events new.pages
  pub stopped : AreStopped tally n devices old events new stops before after
  pub clock : ClockWasAsked asked events now
  pub answered : DevicesAnswered Answers events 0 devices known left
  pub pages : ArePages 0 new.pages
  pub count : length new.pages ≡ length old.pages
  pub ports : length new.ports ≡ length old.ports
