-- What becomes of a reply that is given to an actor of a world.
use Rattle.std.specs.Prelude.{◌≡◌, true, false, Option, Some, None}
use Rattle.vm_types.specs.declared.ids.ActorId.{ActorId}
use Rattle.vm_types.specs.declared.entry.Entry.{Entry}
use Rattle.vm_types.specs.declared.op.Op.{Op}
use Rattle.script_text.specs.declared.output.Misfit.{Misfit}
use Rattle.script_text.specs.declared.output.Misfit.TheVariants as misfit
use Rattle.hart_trace.specs.Asks.{is_host_op}
use Rattle.flat_guest.specs.Given.{Given}
use Rattle.flat_guest.specs.Guest.{Guest, Wants, is_actor}
use Rattle.flat_guest.specs.Steps.{FlatStep, IsUnstamped, is_given}
use Rattle.vm_world.specs.Worlds.{IsWorld, WorldValue}

-- the actor is there and wants this, which is an act on a host object that is given a fitting reply
pub record IsAnswered (g : Guest) (actor : ActorId) (given : Given) (after : WorldValue) : Type 0 where
  pub there : is_actor g actor ≡ true
  pub op : Op
  pub wants : Wants g actor op
  pub host : is_host_op op ≡ true
  pub fit : is_given op given ≡ true
  pub entry : Entry
  pub end : Guest
  pub unstamped : IsUnstamped entry
  pub step : FlatStep g (record { actor = actor; given = given }) entry end
  pub world : IsWorld after end

-- the actor is there, and wants no such act
pub record IsBusy (g : Guest) (actor : ActorId) : Type 0 where
  pub there : is_actor g actor ≡ true
  pub op : Op
  pub wants : Wants g actor op
  pub own : is_host_op op ≡ false

-- it wants one that can't have this reply
pub record IsUnfit (g : Guest) (actor : ActorId) (given : Given) : Type 0 where
  pub there : is_actor g actor ≡ true
  pub op : Op
  pub wants : Wants g actor op
  pub host : is_host_op op ≡ true
  pub unfit : is_given op given ≡ false

-- it is taken, which makes an event; or nothing changes, for one of these reasons
abbrev pub TakesReply : Option Misfit → WorldValue → ActorId → Given → WorldValue → Type 0
TakesReply None w actor given after = (g : Guest) → IsWorld w g → IsAnswered g actor given after
TakesReply (Some misfit.NoActor) w actor given after =
    (after ≡ w) × ((g : Guest) → IsWorld w g → is_actor g actor ≡ false)
TakesReply (Some misfit.NotWaiting) w actor given after =
    (after ≡ w) × ((g : Guest) → IsWorld w g → IsBusy g actor)
TakesReply (Some misfit.Unfit) w actor given after =
    (after ≡ w) × ((g : Guest) → IsWorld w g → IsUnfit g actor given)
TakesReply (Some why) w actor given after = ⊥
