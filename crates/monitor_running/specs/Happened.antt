-- What happened in a part of a turn before the trace is told.
use Rattle.std.specs.Prelude.{◌≡◌, ◌<◌, List}
use Rattle.std.specs.List.{AllByRecursion}
use Rattle.vm_types.specs.declared.entry.Entry.{Entry}
use Rattle.vm_types.specs.declared.ids.ActorId.{ActorId}
use Rattle.port_table.specs.Window.{most_ports}
use Rattle.script_text.specs.declared.item.Item.{Item}
use Rattle.serve_host.specs.Events.{event_items}
use Rattle.flat_guest.specs.Guest.{Guest}
use Rattle.vm_world.specs.Worlds.{IsWorld, WorldValue}
use Rattle.slice_runner.specs.Slices.{ClockWasAsked, Leads}
use Rattle.monitor_running.specs.Asked.{HostKnown}
use Rattle.monitor_running.specs.Devices.{IsHeard, WereAsked}
use Rattle.monitor_running.specs.Objects.{TurnKnown}

-- a device that acts has a port
abbrev pub HasPort : ActorId → Type 0
HasPort (ActorId.Device k) = k < most_ports
HasPort actor = Unit {0}

-- and hears no more of a socket than an act gives
abbrev pub HavePorts : List Entry → Type 0
HavePorts es = AllByRecursion (λ (e : Entry). HasPort e.actor × IsHeard e.actor e.op e.reply) es

-- events that lead from this guest to one that the world is, in which the clock and the objects of devices answered
abbrev pub GoneFrom : Guest → List Entry → WorldValue → HostKnown → HostKnown → Type 0
GoneFrom g es new asked now =
    ((h : Guest) × Leads g es h × IsWorld new h) × ClockWasAsked asked.clock es now.clock × WereAsked asked.devices es now.devices
    × HavePorts es

-- there are such from each guest that the world was, and these items tell them
abbrev pub HostGone : List Item → WorldValue → WorldValue → HostKnown → HostKnown → Type 0
HostGone its old new asked now =
    (g : Guest) → IsWorld old g → (es : List Entry) × (event_items es ≡ its) × GoneFrom g es new asked now

-- so it came from one world, and what was known then, to the other; the trace was told none of it
pub record HasHappened (its : List Item) (first : TurnKnown) (old : WorldValue) (now : TurnKnown) (new : WorldValue) : Type 0 where
  pub trace : now.trace ≡ first.trace
  pub gone : HostGone its old new first.host now.host
