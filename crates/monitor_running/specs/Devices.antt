-- What devices ask of the host's objects, and the events that they make.
use Rattle.std.specs.Prelude.{ℕ, ◌≡◌, ◌<◌, ◌≤◌, ◌&&◌, nat_eq, nat_lt, Bool, true, false, All, List, [], ◌∷◌, Option, Some, None, length}
use Rattle.vm_types.specs.Fits.{out_fits}
use Rattle.vm_types.specs.declared.entry.Entry.{Entry}
use Rattle.vm_types.specs.declared.ids.ActorId.{ActorId}
use Rattle.vm_types.specs.declared.op.Op.{Op}
use Rattle.vm_types.specs.declared.op.OutOp.{OutOp}
use Rattle.vm_types.specs.declared.op.OutOp.TheVariants.{Clock, DiskFlush, DiskRead, DiskWrite, DrawWord, HostClose, HostDial, HostNext, HostSend, LinkEnd, LinkPart, LinkSend, LinkTake}
use Rattle.vm_types.specs.declared.reply.Reply.{Reply}
use Rattle.port_table.specs.Window.{most_ports}
use Rattle.flat_guest.specs.Guest.{Guest}
use Rattle.vm_world.specs.Worlds.{IsWorld, WorldValue}
use Rattle.slice_runner.specs.Slices.{IsSerial}
use Rattle.monitor_machine.specs.Kinds.{DevicesKnown, disks, links, vsocks, words}
use Rattle.monitor_machine.specs.Objects.{Asks, ObjectKind, Replies, Rests}

-- ---- all kinds at once

-- all are asked nothing
pub record DevicesRest (old new : DevicesKnown) : Type 0 where
  pub disk : Rests disks old.disk new.disk
  pub link : Rests links old.link new.link
  pub vsock : Rests vsocks old.vsock new.vsock
  pub words : Rests words old.words new.words

-- what an event asks: a device's call, of its own object of that kind; no other event asks any
pub record AsksDevices (op : Op) (actor : ActorId) (reply : Reply) (old new : DevicesKnown) : Type 0 where
  pub disk : Asks disks op actor reply old.disk new.disk
  pub link : Asks links op actor reply old.link new.link
  pub vsock : Asks vsocks op actor reply old.vsock new.vsock
  pub words : Asks words op actor reply old.words new.words

-- the objects were asked in these events, one after another, from what was known of them to what is known now
abbrev pub WereAsked : DevicesKnown → List Entry → DevicesKnown → Type 0
WereAsked old [] new = DevicesRest old new
WereAsked old (e ∷ es) new = (mid : DevicesKnown) × AsksDevices e.op e.actor e.reply old mid × WereAsked mid es new

-- ---- what an actor is given

-- bytes that come of a connection are at most 64
abbrev pub IsShort : Op → Reply → Type 0
IsShort (Op.Out HostNext) (Reply.Received piece connection) = length piece ≤ 64
IsShort op reply = Unit {0}

-- for an op: an answer of the object whose call it is, or nothing, and then it was not asked
abbrev pub IsGivenBy : {K : Type 0} → ObjectKind K → ℕ → Op → K → Option Reply → K → Type 0
IsGivenBy kind device op old None new = new ≡ old
IsGivenBy kind device (Op.Out act) old (Some reply) new =
    (kind.is_call act ≡ true) × (out_fits act reply ≡ true) × IsShort (Op.Out act) reply × Replies kind device act reply old new
IsGivenBy kind device op old (Some reply) new = ⊥

-- and of all kinds: an answer of its own object, which is the only one that was asked, or nothing, and then none was
abbrev pub IsGiven : ℕ → Op → DevicesKnown → Option Reply → DevicesKnown → Type 0
IsGiven device op old None new = new ≡ old
IsGiven device (Op.Out act) old (Some reply) new =
    (out_fits act reply ≡ true) × IsShort (Op.Out act) reply × AsksDevices (Op.Out act) (ActorId.Device device) reply old new
IsGiven device op old (Some reply) new = ⊥

-- a call that can be made: a sector has 8 parts of 64 bytes
abbrev pub CanBeAsked : Op → Type 0
CanBeAsked (Op.Out (DiskRead sector part)) = part < 8
CanBeAsked (Op.Out (DiskWrite sector part bytes)) = (part < 8) × (length bytes ≡ 64)
CanBeAsked (Op.Out DiskFlush) = Unit {0}
CanBeAsked (Op.Out LinkTake) = Unit {0}
CanBeAsked (Op.Out (LinkPart index count)) = Unit {0}
CanBeAsked (Op.Out (LinkSend piece)) = Unit {0}
CanBeAsked (Op.Out LinkEnd) = Unit {0}
CanBeAsked (Op.Out HostNext) = Unit {0}
CanBeAsked (Op.Out (HostDial port)) = Unit {0}
CanBeAsked (Op.Out (HostSend piece connection)) = Unit {0}
CanBeAsked (Op.Out (HostClose connection)) = Unit {0}
CanBeAsked (Op.Out DrawWord) = Unit {0}
CanBeAsked op = ⊥

-- the same, asked of the call
abbrev pub can_be_asked : OutOp → Bool
can_be_asked Clock = false
can_be_asked (DiskRead sector part) = nat_lt part 8
can_be_asked (DiskWrite sector part bytes) = nat_lt part 8 && nat_eq (length bytes) 64
can_be_asked act = true

-- the object whose call it is answers the device with this number, and no more of a socket than an act gives
abbrev pub AnswersDevice : ℕ → OutOp → Reply → DevicesKnown → DevicesKnown → Type 0
AnswersDevice device act reply old new =
    IsShort (Op.Out act) reply × AsksDevices (Op.Out act) (ActorId.Device device) reply old new

-- ---- the events of devices

-- a device heard no more at once
abbrev pub IsHeard : ActorId → Op → Reply → Type 0
IsHeard (ActorId.Device k) op reply = IsShort op reply
IsHeard actor op reply = Unit {0}

-- the event of a device, of which there are at most as many as ports
abbrev pub IsDevices : Entry → Type 0
IsDevices e = (k : ℕ) × (k < most_ports) × (e.actor ≡ ActorId.Device k) × IsShort e.op e.reply

-- From each guest that the world was they lead to one that it is; each is a device's, and was answered by its own object, where it
-- called that.
pub record HaveActed (events : List Entry) (old new : WorldValue) (asked now : DevicesKnown) : Type 0 where
  pub serial : IsSerial old events new
  pub made : (g : Guest) → IsWorld old g → All IsDevices events
  pub answered : (g : Guest) → IsWorld old g → WereAsked asked events now
