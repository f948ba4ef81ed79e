-- What a run asked of the objects that actors ask: the clock, and the disks, links, sockets and words of devices.
use Rattle.std.specs.Prelude.{ℕ, ◌≡◌, List, [], ◌∷◌, Option, Some}
use Rattle.vm_types.specs.declared.ids.ActorId.{ActorId}
use Rattle.vm_types.specs.declared.op.Op.{Op}
use Rattle.vm_types.specs.declared.reply.Reply.{Reply}
use Rattle.vm_outside.specs.Known.{Health}
use Rattle.vm_host.specs.Framing.{LinkKnown}
use Rattle.vm_host.specs.Giving.{GuestWordsKnown}
use Rattle.vm_host.specs.Hosting.{VsockKnown}
use Rattle.vm_host.specs.Storing.{DiskKnown}
use Rattle.vm_host.specs.Telling.{ClockKnown}
use Rattle.vm_config.specs.declared.config.Config.{Config}
use Rattle.script_text.specs.declared.item.Item.{Item}
use Rattle.script_text.specs.declared.item.Item.TheVariants as item
use Rattle.flat_guest.specs.Given.Given.{Host as ByHost}
use Rattle.flat_guest.specs.Guest.{Guest, Wants}
use Rattle.flat_machine.specs.Given.{reply_given}
use Rattle.flat_machine.specs.Machine.{Machine, running}
use Rattle.flat_machine.specs.Run.{Act}
use Rattle.flat_trace.specs.Events.{answers_in}
use Rattle.flat_trace.specs.Showing.{Out, Run, items_of}
use Rattle.slice_runner.specs.Runs.{HasAnswered}
use Rattle.monitor_machine.specs.Kinds.{DevicesKnown, disks, links, vsocks, words}
use Rattle.monitor_machine.specs.Objects.{AreNamed, Named, Uncalled}
use Rattle.monitor_running.specs.declared.hosting.DeviceHost.{DeviceHost}
use Rattle.monitor_running.specs.declared.hosting.TurnHost.{TurnHost}
use Rattle.monitor_running.specs.Devices.{AsksDevices, DevicesRest}

-- what is known of the clock, and of the objects that devices ask
pub record HostKnown : Type 0 where
  pub clock : ClockKnown
  pub devices : DevicesKnown

abbrev pub devices_known : {D L V G : Type 0} → (D → DiskKnown) → (L → LinkKnown) → (V → VsockKnown) → (G → GuestWordsKnown)
    → DeviceHost D L V G → DevicesKnown
devices_known disk link vsock guest_words host =
    record { disk = disk host.disk; link = link host.link; vsock = vsock host.vsock; words = guest_words host.guest_words }

abbrev pub host_known : {D L V G C : Type 0} → (C → ClockKnown) → (D → DiskKnown) → (L → LinkKnown) → (V → VsockKnown) → (G → GuestWordsKnown)
    → TurnHost D L V G C → HostKnown
host_known clock disk link vsock guest_words host =
    record { clock = clock host.clock; devices = devices_known disk link vsock guest_words host.devices }

-- the health of each object that devices ask and that is attached by a name
pub record Healths : Type 0 where
  pub disk : Health
  pub link : Health
  pub vsock : Health

abbrev pub healths : DevicesKnown → Healths
healths known = record { disk = known.disk.health; link = known.link.health; vsock = known.vsock.health }

-- each object of the device with this number is the one that is configured for it; words are attached by no name
pub record HasOwn (start : Healths) (config : Config) (k : ℕ) (now : DevicesKnown) : Type 0 where
  pub disk : Named disks start.disk config k now.disk
  pub link : Named links start.link config k now.link
  pub vsock : Named vsocks start.vsock config k now.vsock

-- the same of every device of a machine, if there is a guest
pub record HaveOwn (start : Healths) (m : Machine) (now : DevicesKnown) : Type 0 where
  pub disk : AreNamed disks start.disk m now.disk
  pub link : AreNamed links start.link m now.link
  pub vsock : AreNamed vsocks start.vsock m now.vsock

-- the same of the actor, if it is a device
abbrev pub ActorHasOwn : Healths → Config → ActorId → DevicesKnown → Type 0
ActorHasOwn start config (ActorId.Device k) now = HasOwn start config k now
ActorHasOwn start config actor now = Unit {0}

-- none is called, but objects may be attached
pub record DevicesUncalled (old new : DevicesKnown) : Type 0 where
  pub disk : Uncalled disks old.disk new.disk
  pub link : Uncalled links old.link new.link
  pub vsock : Uncalled vsocks old.vsock new.vsock
  pub words : Uncalled words old.words new.words

-- A reply item tells the answer to what the actor wants; to a call of a device, its own object gave it. In every other item none is
-- called.
abbrev pub ItemAsks : Healths → Item → Config → Option Guest → DevicesKnown → DevicesKnown → Type 0
ItemAsks start (item.Reply actor reply) config (Some g) old new =
    ActorHasOwn start config actor old
    × (op : Op) × (given : Reply) × Wants g actor op × (reply_given reply ≡ ByHost given) × AsksDevices op actor given old new
ItemAsks start it config guest old new = DevicesUncalled old new

-- the objects were asked in this run, one item after another
abbrev pub DevicesAnswered : Healths → (acts : List Act) (m : Machine) (outs : List Out) (n : Machine) → Run acts m outs n → DevicesKnown
    → DevicesKnown → Type 0
DevicesAnswered start [] m outs n run old new = DevicesRest old new
DevicesAnswered start (act ∷ acts) m outs n run old new =
    (mid : DevicesKnown) × ItemAsks start act.item m.config (running m) old mid × DevicesAnswered start acts run.1 run.2 n run.5 mid new

-- In a run since a start, for which the objects had this health, the timer was given the clock's answers, and each device those of its
-- disk, its link, its socket or its words.
pub record AnsweredSince (start : Healths) (acts : List Act) (m : Machine) (outs : List Out) (n : Machine) (run : Run acts m outs n)
    (old new : HostKnown) : Type 0 where
  pub clock : HasAnswered old.clock (answers_in (items_of acts)) new.clock
  pub devices : DevicesAnswered start acts m outs n run old.devices new.devices

-- that run is all since the start
abbrev pub HostAnswered : (acts : List Act) (m : Machine) (outs : List Out) (n : Machine) → Run acts m outs n → HostKnown → HostKnown → Type 0
HostAnswered acts m outs n run old new = AnsweredSince (healths old.devices) acts m outs n run old new
