-- What a run leaves of a machine that has started.
use Rattle.std.specs.Prelude.{◌≡◌, ◌≤◌, ◌⊎◌, Some, length}
use Rattle.vm_types.specs.declared.identity.Identity.{Identity}
use Rattle.flat_guest.specs.Guest.{Guest}
use Rattle.flat_snapshot.specs.Unwritten.{KeepsUnwritten}
use Rattle.flat_machine.specs.Machine.{Machine}

-- no create was answered: the base is the same, and so is each page that is unwritten
pub record NoCreate (m n : Machine) (g h : Guest) : Type 0 where
  pub base : n.ids.base ≡ m.ids.base
  pub keeps : KeepsUnwritten g h

-- one was: the base is a snapshot with a number that was not spent before
pub record SomeCreate (m n : Machine) : Type 0 where
  pub base : Identity
  pub base_is : n.ids.base ≡ Some base
  pub new : m.ids.next ≤ base.number

-- The second machine is the first, whose guest is this one, after a run. It has a guest, with as many devices, and no number
-- of a snapshot is given again.
pub record GoesOn (g : Guest) (m n : Machine) : Type 0 where
  pub guest : Guest
  pub there : n.guest ≡ Some guest
  pub devices : length guest.devices ≡ length g.devices
  pub numbers : m.ids.next ≤ n.ids.next
  pub since : NoCreate m n g guest ⊎ SomeCreate m n
