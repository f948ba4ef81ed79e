-- The flat step: an actor's want is done where it belongs. And several of them.
use Rattle.std.specs.Prelude.{ℕ, ◌≡◌, ◌<◌, ◌⊎◌, true, false, ◌||◌, if◌then◌else◌, Bool, Option, Some, None}
use Rattle.std.specs.Prelude.{List, [], ◌∷◌, ◌++◌, length, slice_get, slice_set}
use Rattle.vm_types.specs.declared.ids.ActorId.{ActorId}
use Rattle.vm_types.specs.declared.ids.PlaceId.{PlaceId}
use Rattle.vm_types.specs.declared.op.Op.{Op}
use Rattle.vm_types.specs.declared.reply.Reply.{Reply}
use Rattle.vm_types.specs.declared.entry.Step.{Step}
use Rattle.vm_types.specs.declared.entry.Entry.{Entry}
use Rattle.vm_types.specs.Fits.{out_fits}
use Rattle.vm_types.specs.Ids.{same_actor}
use Rattle.vm_types.specs.Serial.{OutFits}
use Rattle.guest_memory.specs.Memory as memory
use Rattle.guest_pages.specs.Marks.{writes_page}
use Rattle.board_table.specs.Board.{Board}
use Rattle.board_table.specs.Acts as board
use Rattle.port_table.specs.Acts as port
use Rattle.port_table.specs.declared.state.PortState.{PortState}
use Rattle.guest_devices.specs.Devices.{FlatDevice, device_did}
use Rattle.hart_trace.specs.Asks.{is_host_op}
use Rattle.flat_guest.specs.Given.{Event, Given}
use Rattle.flat_guest.specs.Given.Given.{Host, Nothing, Short}
use Rattle.flat_guest.specs.Guest.{Guest, Wants, layout_of}
use Rattle.flat_guest.specs.Places.{place_of}

-- a host object's reply is given, and no other is
abbrev pub IsGiven : Op → Given → Reply → Type 0
IsGiven (Op.Out act) given reply = given ≡ Host reply
IsGiven op given reply = given ≡ Nothing

-- whether an act has what it is to be given: a reply that fits, if it is on a host object, and else nothing
abbrev pub is_given : Op → Given → Bool
is_given (Op.Out act) Nothing = false
is_given (Op.Out act) (Host reply) = out_fits act reply
is_given (Op.Out act) Short = false
is_given op Nothing = true
is_given op (Host reply) = false
is_given op Short = false

-- with no place, a host object's reply fits, a wait is done, an access is a fault, and nothing else has a reply
abbrev pub AnswersOut : Op → Given → Reply → Type 0
AnswersOut op given reply = IsGiven op given reply × OutFits op reply

-- what a port answers; one that isn't there does as nothing in the machine does
abbrev pub port_reply : Option PortState → ActorId → Op → Reply
port_reply None actor op = Reply.AccessFault
port_reply (Some p) actor op = (port.touch p actor op).0

-- what an act is answered, by its place
abbrev pub Answers : PlaceId → Guest → ActorId → Op → Given → Reply → Type 0
Answers (PlaceId.Page i) g actor op given reply = (given ≡ Nothing) × (reply ≡ (memory.touch g.memory actor op).0)
Answers PlaceId.Board g actor op given reply = (given ≡ Nothing) × (reply ≡ (board.touch g.board actor op).0)
Answers (PlaceId.Port k) g actor op given reply =
    (given ≡ Nothing) × (reply ≡ port_reply (slice_get g.ports k) actor op)
Answers PlaceId.Out g actor op given reply = AnswersOut op given reply

-- what it leaves of memory, of the board and of the ports
abbrev pub memory_after : PlaceId → memory.Memory → ActorId → Op → memory.Memory
memory_after (PlaceId.Page i) m actor op = (memory.touch m actor op).1
memory_after place m actor op = m

abbrev pub board_after : PlaceId → Board → ActorId → Op → Board
board_after PlaceId.Board b actor op = (board.touch b actor op).1
board_after place b actor op = b

abbrev pub port_after : Option PortState → List PortState → ℕ → ActorId → Op → List PortState
port_after None ports k actor op = ports
port_after (Some p) ports k actor op = slice_set ports k (port.touch p actor op).1

abbrev pub ports_after : PlaceId → List PortState → ActorId → Op → List PortState
ports_after (PlaceId.Port k) ports actor op = port_after (slice_get ports k) ports k actor op
ports_after place ports actor op = ports

-- a step joins those of its actor, the timer or a hart
abbrev pub steps_after : (ActorId → List Step) → ActorId → Step → ActorId → List Step
steps_after steps actor s (ActorId.Device k) = steps (ActorId.Device k)
steps_after steps actor s a = if same_actor a actor then steps a ++ s ∷ [] else steps a

-- and is the next of a device's items
abbrev pub device_after : Option FlatDevice → List FlatDevice → ℕ → Step → List FlatDevice
device_after None devices k s = devices
device_after (Some d) devices k s = slice_set devices k (device_did d s)

abbrev pub devices_after : ActorId → List FlatDevice → Step → List FlatDevice
devices_after (ActorId.Device k) devices s = device_after (slice_get devices k) devices k s
devices_after actor devices s = devices

-- the page that an event wrote is one that was written
abbrev pub written_after : (ℕ → Bool) → Entry → ℕ → Bool
written_after written e i = written i || writes_page i e

abbrev pub guest_after : Guest → Entry → Guest
guest_after g e = record g {
  memory = memory_after e.place g.memory e.actor e.op;
  board = board_after e.place g.board e.actor e.op;
  ports = ports_after e.place g.ports e.actor e.op;
  steps = steps_after g.steps e.actor (record { op = e.op; reply = e.reply });
  devices = devices_after e.actor g.devices (record { op = e.op; reply = e.reply });
  written = written_after g.written e;
}

-- an event: the actor's want is done by its place, or with the reply that is given
pub record FlatStep (g : Guest) (event : Event) (e : Entry) (h : Guest) : Type 0 where
  pub actor : e.actor ≡ event.actor
  pub want : Wants g e.actor e.op
  pub place : e.place ≡ place_of (layout_of g) e.op
  pub answer : Answers e.place g e.actor e.op event.given e.reply
  pub after : h ≡ guest_after g e

-- outside a slice an entry has no stamps
abbrev pub IsUnstamped : Entry → Type 0
IsUnstamped e = (e.stamp ≡ 0) × (e.before ≡ 0)

-- events of one actor, one after another
abbrev pub Makes : Guest → ActorId → List Entry → Guest → Type 0
Makes g actor [] h = g ≡ h
Makes g actor (e ∷ es) h =
    IsUnstamped e × (mid : Guest) × FlatStep g (record { actor = actor; given = Nothing }) e mid × Makes mid actor es h

-- the guest is on before each of these entries
abbrev pub IsOnBefore : Guest → List Entry → Type 0
IsOnBefore g [] = Unit {0}
IsOnBefore g (e ∷ es) = (g.board.off ≡ false) × IsOnBefore (guest_after g e) es

-- the actor wants an act on a host object, whose reply isn't there
abbrev pub Waits : Guest → ActorId → Type 0
Waits g actor = (op : Op) × Wants g actor op × (is_host_op op ≡ true)

-- after them no further one is made: the guest is off, or the actor waits for a host object's reply
abbrev pub Stops : Guest → ActorId → Type 0
Stops g actor = (g.board.off ≡ true) ⊎ ((g.board.off ≡ false) × Waits g actor)

-- so many of them, or as many as there are until no further one is made
pub record StepsBy (g : Guest) (actor : ActorId) (count : ℕ) (es : List Entry) (h : Guest) : Type 0 where
  pub made : Makes g actor es h
  pub on : IsOnBefore g es
  pub all : (length es ≡ count) ⊎ ((length es < count) × Stops h actor)
