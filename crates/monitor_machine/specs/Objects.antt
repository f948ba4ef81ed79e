-- The kinds of host objects that devices ask, and what is said of each kind, once for all.
use Rattle.std.specs.Prelude.{ℕ, ◌≡◌, ◌<◌, Bool, MatchBool, List, Option, Some, None}
use Rattle.vm_types.specs.Causes.{Rose}
use Rattle.vm_types.specs.declared.ids.ActorId.{ActorId}
use Rattle.vm_types.specs.declared.op.Op.{Op}
use Rattle.vm_types.specs.declared.op.OutOp.{OutOp}
use Rattle.vm_types.specs.declared.reply.Reply.{Reply}
use Rattle.vm_outside.specs.Known.{Health, Lasts, Tells}
use Rattle.vm_host.specs.Devices.{IsOf}
use Rattle.vm_host.specs.declared.attached.Attached.{Attached}
use Rattle.vm_config.specs.declared.config.Config.{Config}
use Rattle.port_table.specs.Window.{most_ports}
use Rattle.flat_guest.specs.Guest.{Guest}
use Rattle.flat_machine.specs.Machine.{Machine}

-- Of a kind: the health of what is known of it, the name that the object of each device was attached with, and the one that is
-- configured for it; which calls are its own; whether all is as it was, or all but the names; and what a call for a device leaves, by
-- its answer.
pub record ObjectKind (K : Type 0) : Type 1 where
  pub health : K → Health
  pub names : K → ℕ → Attached
  pub configured : Config → ℕ → Option (List ℕ)
  pub is_call : OutOp → Bool
  pub Same : K → K → Type 0
  pub Beside : K → K → Type 0
  pub Holds : ℕ → OutOp → Reply → K → K → Type 0

-- It answers a call so: the count of its faults rose where the call failed, and only then.
pub record Replies {K : Type 0} (kind : ObjectKind K) (device : ℕ) (act : OutOp) (reply : Reply) (old new : K) : Type 0 where
  pub lasts : Lasts (kind.health old) (kind.health new)
  pub failed : reply ≡ Reply.Failed → Rose (kind.health old).faults (kind.health new).faults
  pub kept : (reply ≡ Reply.Failed → ⊥) → (kind.health new).faults ≡ (kind.health old).faults
  pub held : Tells (kind.health old) → kind.Holds device act reply old new

-- it is asked nothing
pub record Rests {K : Type 0} (kind : ObjectKind K) (old new : K) : Type 0 where
  pub lasts : Lasts (kind.health old) (kind.health new)
  pub kept : (kind.health new).faults ≡ (kind.health old).faults
  pub same : Tells (kind.health old) → kind.Same old new

-- it is not called; objects may have been attached
pub record Uncalled {K : Type 0} (kind : ObjectKind K) (old new : K) : Type 0 where
  pub lasts : Lasts (kind.health old) (kind.health new)
  pub kept : (kind.health new).faults ≡ (kind.health old).faults
  pub beside : Tells (kind.health old) → kind.Beside old new

-- an event's call of the actor's own object; no other event asks it
abbrev pub Calls : {K : Type 0} → ObjectKind K → ActorId → OutOp → Reply → K → K → Type 0
Calls kind (ActorId.Device k) act reply old new =
    MatchBool (kind.is_call act) (Replies kind k act reply old new) (Rests kind old new)
Calls kind actor act reply old new = Rests kind old new

abbrev pub Asks : {K : Type 0} → ObjectKind K → Op → ActorId → Reply → K → K → Type 0
Asks kind (Op.Out act) actor reply old new = Calls kind actor act reply old new
Asks kind op actor reply old new = Rests kind old new

-- If it told its content at a start, the object of the device with this number is the one that is configured for it.
abbrev pub Named : {K : Type 0} → ObjectKind K → Health → Config → ℕ → K → Type 0
Named kind start config k now =
    Tells start → (name : List ℕ) → kind.configured config k ≡ Some name → IsOf name (kind.names now k)

-- The same of every device, if there is a guest.
abbrev pub AreNamedBy : {K : Type 0} → ObjectKind K → Health → Option Guest → Config → K → Type 0
AreNamedBy kind start None config now = Unit {0}
AreNamedBy kind start (Some g) config now = (k : ℕ) → k < most_ports → Named kind start config k now

abbrev pub AreNamed : {K : Type 0} → ObjectKind K → Health → Machine → K → Type 0
AreNamed kind start m now = AreNamedBy kind start m.guest m.config now
