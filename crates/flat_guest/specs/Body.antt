-- The guests that a body's data are: its memory, the marks of its pages, its board and ports, its timer, its harts and its
-- devices.
use Rattle.std.specs.Prelude.{ℕ, ◌≡◌, Bool, List, Option, Some, None, length, slice_get, slice_set}
use Rattle.vm_types.specs.declared.ids.ActorId.{ActorId}
use Rattle.vm_types.specs.declared.ids.ActorId.TheVariants as actors
use Rattle.vm_types.specs.declared.ids.PlaceId.{PlaceId}
use Rattle.vm_types.specs.declared.op.Op.{Op}
use Rattle.vm_types.specs.declared.reply.Reply.{Reply}
use Rattle.guest_memory.specs.Memory as memory
use Rattle.guest_pages.specs.Marks.{AreMarks, marks_after}
use Rattle.board_table.specs.Board.{Board}
use Rattle.board_table.specs.Acts as board
use Rattle.port_table.specs.declared.state.PortState.{PortState}
use Rattle.rv_supervisor.specs.declared.regs.Regs.{Regs}
use Rattle.flat_guest.specs.Given.{Given}
use Rattle.flat_guest.specs.Given.Given.{Host, Nothing, Short}
use Rattle.hart_trace.specs.States.{Hart, LeadsTo, hart_next, hart_wants}
use Rattle.timer_trace.specs.declared.timer.Timer.{Timer}
use Rattle.timer_trace.specs.States as timer
use Rattle.guest_devices.specs.declared.change.DeviceChange.{DeviceChange}
use Rattle.guest_devices.specs.Devices.{DeviceLeads, DeviceLeft, FlatDevice, device_changed}
use Rattle.guest_devices.specs.Kept.{device_want, devices_given}
use Rattle.flat_guest.specs.declared.places.Layout.{Layout}
use Rattle.flat_guest.specs.Guest.{Guest, whole_pages}
use Rattle.flat_guest.specs.Sound.{AreSoundDevices}
use Rattle.flat_guest.specs.Steps.{board_after, memory_after, port_reply, ports_after}

pub record Body : Type 0 where
  pub memory : memory.Memory
  pub marks : List Bool
  pub board : Board
  pub ports : List PortState
  pub timer : Timer
  pub harts : List Hart
  pub devices : List DeviceLeft

-- the harts are where the steps of each lead
pub record AreHarts (harts : List Hart) (g : Guest) : Type 0 where
  pub count : length harts ≡ length g.starts
  pub each : (k : ℕ) (start : Regs) (hart : Hart) → slice_get g.starts k ≡ Some start → slice_get harts k ≡ Some hart
      → LeadsTo start (g.steps (actors.Hart k)) hart

-- each device has still to do what its items lead to, and keeps to its own port and to the guest's pages
pub record AreDevices (lefts : List DeviceLeft) (g : Guest) : Type 0 where
  pub count : length lefts ≡ length g.devices
  pub each : (k : ℕ) (d : FlatDevice) (left : DeviceLeft) → slice_get g.devices k ≡ Some d → slice_get lefts k ≡ Some left
      → DeviceLeads d left
  pub sound : AreSoundDevices (whole_pages g.memory) g.ports g.devices

-- memory, board and ports are the guest's, the pages are marked that were written, and its timer, its harts and its devices
-- are where the steps lead
pub record IsGuest (b : Body) (g : Guest) : Type 0 where
  pub memory_is : b.memory ≡ g.memory
  pub marks_are : AreMarks b.marks g.written
  pub board_is : b.board ≡ g.board
  pub ports_are : b.ports ≡ g.ports
  pub timer_is : timer.LeadsTo (g.steps actors.Timer) b.timer
  pub harts_are : AreHarts b.harts g
  pub devices_are : AreDevices b.devices g

-- what there is to act on
abbrev pub body_layout : Body → Layout
body_layout b = record { memory_size = length b.memory.bytes; ports = length b.ports }

-- what an actor wants, if it is there
abbrev pub want_of : Option Hart → Option Op
want_of None = None
want_of (Some hart) = Some (hart_wants hart)

abbrev pub wants : Timer → List Hart → List DeviceLeft → ActorId → Option Op
wants t harts devices actors.Timer = Some (timer.timer_wants t)
wants t harts devices (actors.Hart k) = want_of (slice_get harts k)
wants t harts devices (actors.Device k) = device_want (slice_get devices k)

-- and what its reply makes of it; the others stay
abbrev pub timer_after : ActorId → Timer → Reply → Timer
timer_after actors.Timer t reply = timer.timer_next t reply
timer_after actor t reply = t

abbrev pub with_reply : Option Hart → List Hart → ℕ → Reply → List Hart
with_reply None harts k reply = harts
with_reply (Some hart) harts k reply = slice_set harts k (hart_next hart reply)

abbrev pub harts_after : ActorId → List Hart → Reply → List Hart
harts_after (actors.Hart k) harts reply = with_reply (slice_get harts k) harts k reply
harts_after actor harts reply = harts

abbrev pub lefts_after : ActorId → List DeviceLeft → Reply → List DeviceLeft
lefts_after (actors.Device k) devices reply = devices_given (slice_get devices k) devices k reply
lefts_after actor devices reply = devices

-- what a change makes of a device that is there; the others stay
abbrev pub lefts_told : Option DeviceLeft → List DeviceLeft → ℕ → DeviceChange → List DeviceLeft
lefts_told None devices k change = devices
lefts_told (Some left) devices k change = slice_set devices k (device_changed change left)

-- the reply of an act with no place: what is given, where a host object is asked
abbrev pub out_reply : Op → Given → Reply
out_reply op (Host reply) = reply
out_reply Op.Idle Nothing = Reply.Done
out_reply op Nothing = Reply.AccessFault
out_reply op Short = Reply.AccessFault

-- the reply of an act by its place
abbrev pub reply_at : PlaceId → memory.Memory → Board → List PortState → ActorId → Op → Given → Reply
reply_at (PlaceId.Page i) m b ports actor op given = (memory.touch m actor op).0
reply_at PlaceId.Board m b ports actor op given = (board.touch b actor op).0
reply_at (PlaceId.Port k) m b ports actor op given = port_reply (slice_get ports k) actor op
reply_at PlaceId.Out m b ports actor op given = out_reply op given

-- the body behind an act
abbrev pub body_after : PlaceId → ActorId → Op → Reply → Body → Body
body_after place actor op reply b = record {
  memory = memory_after place b.memory actor op;
  marks = marks_after place b.marks op reply;
  board = board_after place b.board actor op;
  ports = ports_after place b.ports actor op;
  timer = timer_after actor b.timer reply;
  harts = harts_after actor b.harts reply;
  devices = lefts_after actor b.devices reply;
}
