-- The objects of devices stay those that are configured.
use Rattle.std.proofs.Common.{◌≡◌, ◌<◌, ℕ, zero, suc, sym, subst, Option, List, [], ◌∷◌, take, drop, All}
use Rattle.std.specs.List.{AllByRecursion}
use Rattle.std.proofs.lemmas.List.Elements.{recursion_from_All}
use Rattle.vm_types.specs.declared.entry.Entry.{Entry}
use Rattle.vm_types.specs.declared.ids.ActorId.{ActorId}
use Rattle.vm_types.specs.declared.op.Op.{Op}
use Rattle.vm_types.specs.declared.reply.Reply.{Reply}
use Rattle.vm_outside.specs.Known.{Tells}
use Rattle.vm_config.specs.declared.config.Config.{Config}
use Rattle.port_table.specs.Window.{most_ports}
use Rattle.slice_runner.specs.Slices.{IsThere}
use Rattle.monitor_machine.specs.Kinds.{DevicesKnown, disks, links, vsocks}
use Rattle.flat_machine.specs.Machine.{Machine}
use Rattle.monitor_running.specs.Asked.{ActorHasOwn, HasOwn, HaveOwn, Healths, healths}
use Rattle.monitor_running.specs.Devices.{AsksDevices, DevicesRest, IsDevices, IsHeard, WereAsked}
use Rattle.monitor_running.specs.Happened.{HasPort, HavePorts}
use Rattle.monitor_running.specs.Waiting.{makers, turns}
use Rattle.monitor_running.proofs.Events.{all_other, others_made}
use Rattle.monitor_running.proofs.KindLaws.{disks_law, links_law, vsocks_law}
use Rattle.monitor_running.proofs.OneKind.{IsOther, SameNames}
use Rattle.monitor_running.proofs.OneKind as one

-- of each kind, if it told its content, the names are what they were
pub record SameOwn (old new : DevicesKnown) : Type 0 where
  pub disk : SameNames disks old.disk new.disk
  pub link : SameNames links old.link new.link
  pub vsock : SameNames vsocks old.vsock new.vsock

-- what told its content at a start still does
pub record StillTell (start : Healths) (now : DevicesKnown) : Type 0 where
  pub disk : Tells start.disk → Tells now.disk.health
  pub link : Tells start.link → Tells now.link.health
  pub vsock : Tells start.vsock → Tells now.vsock.health

pub own_more : (a b c : DevicesKnown) → SameOwn a b → SameOwn b c → SameOwn a c
own_more a b c first behind = record {
  disk = one.names_more disks disks_law a.disk b.disk c.disk first.disk behind.disk;
  link = one.names_more links links_law a.link b.link c.link first.link behind.link;
  vsock = one.names_more vsocks vsocks_law a.vsock b.vsock c.vsock first.vsock behind.vsock;
}

pub own_rest : (old new : DevicesKnown) → DevicesRest old new → SameOwn old new
own_rest old new rests = record {
  disk = one.names_rest disks disks_law old.disk new.disk rests.disk;
  link = one.names_rest links links_law old.link new.link rests.link;
  vsock = one.names_rest vsocks vsocks_law old.vsock new.vsock rests.vsock;
}

pub own_asked : (op : Op) (actor : ActorId) (reply : Reply) (old new : DevicesKnown) → AsksDevices op actor reply old new → SameOwn old new
own_asked op actor reply old new asks = record {
  disk = one.names_asked disks disks_law op actor reply old.disk new.disk asks.disk;
  link = one.names_asked links links_law op actor reply old.link new.link asks.link;
  vsock = one.names_asked vsocks vsocks_law op actor reply old.vsock new.vsock asks.vsock;
}

pub own_was : (es : List Entry) (old new : DevicesKnown) → WereAsked old es new → SameOwn old new
own_was [] old new was = own_rest old new was
own_was (e ∷ es) old new was =
    own_more old was.0 new (own_asked e.op e.actor e.reply old was.0 was.1) (own_was es was.0 new was.2)

-- what told before still tells
pub tell_on : (start : Healths) (old new : DevicesKnown) → StillTell start old → SameOwn old new → StillTell start new
tell_on start old new still same = record {
  disk = λ tells. same.disk.lasts.still (still.disk tells);
  link = λ tells. same.link.lasts.still (still.link tells);
  vsock = λ tells. same.vsock.lasts.still (still.vsock tells);
}

-- so what a device has still is its own
pub own_kept : (start : Healths) (config : Config) (k : ℕ) (old new : DevicesKnown) → StillTell start old → SameOwn old new
    → HasOwn start config k old → HasOwn start config k new
own_kept start config k old new still same has = record {
  disk = one.named_kept disks start.disk config k old.disk new.disk still.disk same.disk has.disk;
  link = one.named_kept links start.link config k old.link new.link still.link same.link has.link;
  vsock = one.named_kept vsocks start.vsock config k old.vsock new.vsock still.vsock same.vsock has.vsock;
}

-- and was before
pub own_before : (start : Healths) (config : Config) (actor : ActorId) (old new : DevicesKnown) → StillTell start old → SameOwn old new
    → ActorHasOwn start config actor new → ActorHasOwn start config actor old
own_before start config (ActorId.Device k) old new still same has = record {
  disk = one.named_before disks start.disk config k old.disk new.disk still.disk same.disk has.disk;
  link = one.named_before links start.link config k old.link new.link still.link same.link has.link;
  vsock = one.named_before vsocks start.vsock config k old.vsock new.vsock still.vsock same.vsock has.vsock;
}
own_before start config actor old new still same has = tt

-- objects that are configured if they told their content later are so if they did at the start
pub own_since : (start : Healths) (old : DevicesKnown) (m : Machine) (now : DevicesKnown) → StillTell start old
    → HaveOwn (healths old) m now → HaveOwn start m now
own_since start old m now still has = record {
  disk = one.named_since disks start.disk old.disk.health m.guest m.config now.disk still.disk has.disk;
  link = one.named_since links start.link old.link.health m.guest m.config now.link still.link has.link;
  vsock = one.named_since vsocks start.vsock old.vsock.health m.guest m.config now.vsock still.vsock has.vsock;
}

-- ---- events of devices that have a port, and hear no more of a socket than an act gives

pub actor_own : (start : Healths) (config : Config) (actor : ActorId) (known : DevicesKnown) → HasPort actor
    → ((k : ℕ) → k < most_ports → HasOwn start config k known) → ActorHasOwn start config actor known
actor_own start config (ActorId.Device k) known port own = own k port
actor_own start config actor known port own = tt

other_port : (actor : ActorId) (op : Op) (reply : Reply) → IsOther actor → HasPort actor × IsHeard actor op reply
other_port ActorId.Timer op reply other = (tt, tt)
other_port (ActorId.Hart k) op reply other = (tt, tt)
other_port (ActorId.Device k) op reply other = absurd other

pub ports_other : (es : List Entry) → AllByRecursion (λ (e : Entry). IsOther e.actor) es → HavePorts es
ports_other [] others = tt
ports_other (e ∷ es) others = (other_port e.actor e.op e.reply others.0, ports_other es others.1)

pub ports_there : (harts : ℕ) (es : List Entry) → All (λ (e : Entry). IsThere harts 0 e.actor) es → HavePorts es
ports_there harts es there =
    ports_other es (all_other harts es (recursion_from_All (λ (e : Entry). IsThere harts 0 e.actor) es there))

pub ports_turns : (but : Option ℕ) (harts : ℕ) (es : List Entry) → makers es ≡ turns but harts → HavePorts es
ports_turns but harts es made = ports_other es (others_made but harts es made)

pub ports_hart : (k : ℕ) (es : List Entry) → AllByRecursion (λ (e : Entry). e.actor ≡ ActorId.Hart k) es → HavePorts es
ports_hart k [] own = tt
ports_hart k (e ∷ es) own = (subst (λ (a : ActorId). HasPort a × IsHeard a e.op e.reply) (sym own.0) (tt, tt), ports_hart k es own.1)

ports_by : (es : List Entry) → AllByRecursion IsDevices es → HavePorts es
ports_by [] made = tt
ports_by (e ∷ es) made = (
  subst (λ (a : ActorId). HasPort a × IsHeard a e.op e.reply) (sym made.0.2) (made.0.1, made.0.3),
  ports_by es made.1,
)

pub ports_devices : (es : List Entry) → All IsDevices es → HavePorts es
ports_devices es made = ports_by es (recursion_from_All IsDevices es made)

-- the first of the events, and the others
pub ports_split : (n : ℕ) (es : List Entry) → HavePorts es → HavePorts (take n es) × HavePorts (drop n es)
ports_split zero es ports = (tt, ports)
ports_split (suc n) [] ports = (tt, tt)
ports_split (suc n) (e ∷ es) ports =
    let rest = ports_split n es ports.1 in
    ((ports.0, rest.0), rest.1)
