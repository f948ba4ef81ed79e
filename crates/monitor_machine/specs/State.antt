-- The flat machines that a live machine beside its files is.
use Rattle.std.specs.Prelude.{◌≡◌, Option, Some, None}
use Rattle.vm_outside.specs.Known.{FilesKnown}
use Rattle.flat_guest.specs.Guest as flat
use Rattle.flat_machine.specs.Machine.{AreFilesOf, Machine}
use Rattle.vm_world.specs.Worlds.{IsWorld, WorldValue}
use Rattle.monitor_machine.specs.Live.{Live}

-- both have started, and the world is the guest; or neither has
abbrev pub IsGuestBy : Option WorldValue → Option flat.Guest → Type 0
IsGuestBy None None = Unit {0}
IsGuestBy (Some w) (Some g) = IsWorld w g
IsGuestBy w g = ⊥

-- its own data are the machine's, and its guest is where the steps lead
pub record IsLive (live : Live) (m : Machine) : Type 0 where
  pub id_is : live.id ≡ m.id
  pub ids_is : live.ids ≡ m.ids
  pub config_is : live.config ≡ m.config
  pub metadata_is : live.metadata ≡ m.metadata
  pub guest_is : IsGuestBy live.guest m.guest
  pub paused_is : live.paused ≡ m.paused

-- and what is known of the files is what the machine has of them
pub record IsMachine (live : Live) (known : FilesKnown) (m : Machine) : Type 0 where
  pub own : IsLive live m
  pub files : AreFilesOf known m
