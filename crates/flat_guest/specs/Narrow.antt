-- A guest of which each number has its width, and what a host object answers that leaves it so.
use Rattle.std.specs.Prelude.{ℕ, ◌≡◌, Some, List, slice_get}
use Rattle.queue_device.specs.Sizes.{IsSmallReply}
use Rattle.guest_devices.specs.Devices.{FlatDevice}
use Rattle.guest_devices.specs.Narrow.{IsNarrowDevice}
use Rattle.flat_guest.specs.Given.{Given}
use Rattle.flat_guest.specs.Given.Given.{Host, Nothing, Short}
use Rattle.flat_guest.specs.Guest.{Guest}
use Rattle.flat_guest.specs.Savable.{IsSavable}

-- bytes, and numbers of 64 bits
abbrev pub IsSmallGiven : Given → Type 0
IsSmallGiven Nothing = Unit {0}
IsSmallGiven (Host reply) = IsSmallReply reply
IsSmallGiven Short = Unit {0}

-- each device, at the port of its number
abbrev pub AreNarrowDevices : ℕ → List FlatDevice → Type 0
AreNarrowDevices pages devices = (k : ℕ) (d : FlatDevice) → slice_get devices k ≡ Some d → IsNarrowDevice k pages d

-- of so many pages and harts
pub record HasWidths (pages harts : ℕ) (g : Guest) : Type 0 where
  pub savable : IsSavable pages harts g
  pub devices : AreNarrowDevices pages g.devices
