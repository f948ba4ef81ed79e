-- The timer, the harts and the devices as actors of one kind; and the places and the actors of a world.
use Rattle.std.specs.Prelude.{ℕ, ◌*◌, List, [], Option, Some, None, length, slice_get, slice_index_or}
use Rattle.vm_types.specs.declared.ids.ActorId.{ActorId}
use Rattle.vm_types.specs.declared.ids.PlaceId.{PlaceId}
use Rattle.vm_types.specs.declared.op.Op.{Op}
use Rattle.vm_types.specs.declared.reply.Reply.{Reply}
use Rattle.board_table.specs.Board.{Board}
use Rattle.guest_devices.specs.Devices.{DeviceLeft, device_next, device_wants}
use Rattle.guest_devices.specs.Kept.{devices_left}
use Rattle.guest_memory.specs.Ram.{page_size}
use Rattle.guest_pages.specs.Pages.{PageValue, new_page}
use Rattle.hart_trace.specs.States.{Hart, fresh, hart_next, hart_wants}
use Rattle.hart_trace.specs.Stopped.{stopped_regs}
use Rattle.port_table.specs.Ports.{new_port}
use Rattle.port_table.specs.declared.kind.DeviceKind.TheVariants.{Block}
use Rattle.port_table.specs.declared.state.PortState.{PortState}
use Rattle.machine_places.specs.declared.place.MachinePlace.{MachinePlace}
use Rattle.machine_places.specs.declared.place.MachinePlace.TheVariants as holds
use Rattle.stamp_merge.specs.declared.layout.Layout.{Layout}
use Rattle.timer_trace.specs.States.{timer_next, timer_wants}
use Rattle.timer_trace.specs.declared.timer.Timer.{Timer}
use Rattle.flat_guest.specs.Places.{place_of}
use Rattle.vm_world.specs.Worlds.{WorldValue}

-- where an actor stands
pub data ActorState : Type 0 where
  TimerIs : Timer → ActorState
  HartIs : Hart → ActorState
  DeviceIs : DeviceLeft → ActorState

abbrev pub actor_wants : ActorState → Op
actor_wants (TimerIs t) = timer_wants t
actor_wants (HartIs h) = hart_wants h
actor_wants (DeviceIs left) = device_wants left

abbrev pub actor_next : ActorState → Reply → ActorState
actor_next (TimerIs t) reply = TimerIs (timer_next t reply)
actor_next (HartIs h) reply = HartIs (hart_next h reply)
actor_next (DeviceIs left) reply = DeviceIs (device_next left reply)

-- the place of an op, where there are so many pages and ports
abbrev pub route_among : Layout → Op → PlaceId
route_among layout op = place_of (record { memory_size = page_size * layout.pages; ports = layout.ports }) op

-- how the places stand; a page or a port that there isn't, and `Out`, are no places
abbrev pub page_or_none : List PageValue → ℕ → PageValue
page_or_none pages i = slice_index_or pages i (new_page 0)

abbrev pub no_port : PortState
no_port = new_port Block 0 []

abbrev pub port_or_none : List PortState → ℕ → PortState
port_or_none ports k = slice_index_or ports k no_port

abbrev pub place_among : List PageValue → List PortState → Board → PlaceId → MachinePlace
place_among pages ports b (PlaceId.Page i) = holds.Page (page_or_none pages i)
place_among pages ports b (PlaceId.Port k) = holds.Port (port_or_none ports k)
place_among pages ports b PlaceId.Board = holds.Board b
place_among pages ports b PlaceId.Out = holds.Page (new_page 0)

-- where the actors stand; a hart or a device that there isn't is no actor
abbrev pub hart_or_none : List Hart → ℕ → Hart
hart_or_none harts k = slice_index_or harts k (fresh stopped_regs)

abbrev pub device_or_none : Option DeviceLeft → ActorState
device_or_none None = HartIs (fresh stopped_regs)
device_or_none (Some left) = DeviceIs left

abbrev pub actor_among : Timer → List Hart → List DeviceLeft → ActorId → ActorState
actor_among t harts lefts ActorId.Timer = TimerIs t
actor_among t harts lefts (ActorId.Hart k) = HartIs (hart_or_none harts k)
actor_among t harts lefts (ActorId.Device k) = device_or_none (slice_get lefts k)

abbrev pub layout_in : WorldValue → Layout
layout_in w = record { pages = length w.pages; ports = length w.ports }

abbrev pub places_of : WorldValue → PlaceId → MachinePlace
places_of w = place_among w.pages w.ports w.board

abbrev pub actors_of : WorldValue → ActorId → ActorState
actors_of w = actor_among w.timer w.harts (devices_left w.devices)
