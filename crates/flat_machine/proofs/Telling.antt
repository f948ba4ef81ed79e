-- What a balloon tells is determined, and a machine that is ready has something to tell.
use Rattle.std.proofs.Common.{◌≡◌, ℕ, Bool, refl, sym, ap, ◌∙◌, Option, Some, None, slice_get}
use Rattle.vm_config.specs.declared.config.Config.{Config}
use Rattle.vm_config.specs.declared.statistics.Statistics.{Statistics}
use Rattle.port_table.specs.declared.state.PortState.{PortState}
use Rattle.guest_devices.specs.Devices.{DeviceLeads, DeviceLeft, FlatDevice}
use Rattle.guest_devices.proofs.Follows.{one_left}
use Rattle.flat_guest.specs.Guest.{Guest}
use Rattle.flat_machine.specs.Balloon.{DeviceTells, TellsBalloon, statistics_left}
use Rattle.flat_machine.specs.Ready.{ReadyBy}

device_one : (d : Option FlatDevice) (p : Option PortState) (s t : Option Statistics) → DeviceTells d p s → DeviceTells d p t → s ≡ t
device_one (Some d) (Some p) s t (left, leads, is) (other, lead, be) =
    is ∙ ap (statistics_left p) (one_left d left other leads lead) ∙ sym be
device_one (Some d) None s t x y = x ∙ sym y
device_one None (Some p) s t x y = x ∙ sym y
device_one None None s t x y = x ∙ sym y

pub tells_one : (guest : Option Guest) (number : Option ℕ) (s t : Option Statistics) → TellsBalloon guest number s
    → TellsBalloon guest number t → s ≡ t
tells_one (Some g) (Some k) s t x y = device_one (slice_get g.devices k) (slice_get g.ports k) s t x y
tells_one (Some g) None s t x y = x ∙ sym y
tells_one None (Some k) s t x y = x ∙ sym y
tells_one None None s t x y = x ∙ sym y

device_some : (d : Option FlatDevice) (p : Option PortState)
    → ((it : FlatDevice) → d ≡ Some it → (left : DeviceLeft) × DeviceLeads it left) → (s : Option Statistics) × DeviceTells d p s
device_some (Some d) (Some p) leads = let left = leads d refl in (statistics_left p left.0, (left.0, left.1, refl))
device_some (Some d) None leads = (None, refl)
device_some None (Some p) leads = (None, refl)
device_some None None leads = (None, refl)

pub tells_some : (config : Config) (paused : Bool) (guest : Option Guest) (number : Option ℕ) → ReadyBy config paused guest
    → (s : Option Statistics) × TellsBalloon guest number s
tells_some config paused (Some g) (Some k) is =
    device_some (slice_get g.devices k) (slice_get g.ports k)
    (λ d there. let own = is.sound.devices_on.each k d there in (own.0, own.1))
tells_some config paused (Some g) None is = (None, refl)
tells_some config paused None (Some k) is = (None, refl)
tells_some config paused None None is = (None, refl)
