-- A world, the guests that it is, and the events that it makes.
use Rattle.std.specs.Prelude.{ℕ, ◌≡◌, List, Option, length}
use Rattle.vm_types.specs.declared.entry.Entry.{Entry}
use Rattle.vm_types.specs.declared.op.Op.{Op}
use Rattle.vm_types.specs.declared.ids.ActorId.{ActorId}
use Rattle.vm_types.specs.declared.ids.PlaceId.{PlaceId}
use Rattle.board_table.specs.Board.{Board}
use Rattle.port_table.specs.declared.state.PortState.{PortState}
use Rattle.guest_pages.specs.Made.{PagesValue}
use Rattle.guest_pages.specs.Pages.{PageValue, flat_of, marks_of}
use Rattle.hart_trace.specs.States.{Hart}
use Rattle.timer_trace.specs.declared.timer.Timer.{Timer}
use Rattle.guest_devices.specs.declared.device.Device.{Device}
use Rattle.guest_devices.specs.Kept.{AreReset, devices_left}
use Rattle.flat_guest.specs.Given.{Event}
use Rattle.flat_guest.specs.Guest.{Guest}
use Rattle.flat_guest.specs.Body.{Body, IsGuest, body_layout, wants}
use Rattle.flat_guest.specs.Places.{place_of}
use Rattle.flat_guest.specs.Steps.{FlatStep, IsUnstamped, StepsBy, guest_after}

-- pages, how many spare ones there are, the board, the ports, the timer, and the harts and the devices by their numbers
pub record WorldValue : Type 0 where
  pub pages : List PageValue
  pub spare : ℕ
  pub board : Board
  pub ports : List PortState
  pub timer : Timer
  pub harts : List Hart
  pub devices : List Device

-- no page is spare
abbrev pub world_with : List PageValue → Board → List PortState → Timer → List Hart → List Device → WorldValue
world_with pages board ports timer harts devices =
    record { pages = pages; spare = 0; board = board; ports = ports; timer = timer; harts = harts; devices = devices }

-- its pages, and how many are spare
abbrev pub pages_of : WorldValue → PagesValue
pages_of w = record { pages = w.pages; spare = w.spare }

-- it differs in how many pages are spare alone, of which no guest of it knows
abbrev pub IsSameButSpare : WorldValue → WorldValue → Type 0
IsSameButSpare old new = new ≡ record old { spare = new.spare }

-- the pages as one memory, which of them are marked, what the devices have still to do, and the rest as it is
abbrev pub body_of : WorldValue → Body
body_of w = record {
  memory = flat_of w.pages;
  marks = marks_of w.pages;
  board = w.board;
  ports = w.ports;
  timer = w.timer;
  harts = w.harts;
  devices = devices_left w.devices;
}

-- the guest's memory is the pages' one memory, the pages are marked that were written, its board and its ports are these,
-- and its steps lead to the timer, the harts and the devices
abbrev pub IsWorld : WorldValue → Guest → Type 0
IsWorld w g = IsGuest (body_of w) g

-- a world behind the Reset that comes before a create: of each device what may be kept behind it, and all else as it was
abbrev pub IsWorldReset : WorldValue → WorldValue → Type 0
IsWorldReset w now = AreReset w.devices now.devices × (now ≡ record w { devices = now.devices })

-- what an actor wants, if it is there
abbrev pub want_in : WorldValue → ActorId → Option Op
want_in w actor = wants w.timer w.harts (devices_left w.devices) actor

-- where an op acts: the pages are all memory
abbrev pub place_in : WorldValue → Op → PlaceId
place_in w op = place_of (body_layout (body_of w)) op

-- the event that this entry tells, of each guest that the world was, to the guest that it is
pub record MakesEvent (old : WorldValue) (event : Event) (e : Entry) (new : WorldValue) : Type 0 where
  pub unstamped : IsUnstamped e
  pub step : (g : Guest) → IsWorld old g → FlatStep g event e (guest_after g e)
  pub stays : (g : Guest) → IsWorld old g → IsWorld new (guest_after g e)

-- events of one actor, so many of them, or as many as there are until the guest is off or the actor waits for a host object's reply
abbrev pub Runs : WorldValue → ActorId → ℕ → ℕ → WorldValue → Type 0
Runs old actor count made new =
    (g : Guest) → IsWorld old g
    → (es : List Entry) × (h : Guest) × StepsBy g actor count es h × (length es ≡ made) × IsWorld new h
