use Rattle.std.proofs.Common.{◌≡◌, refl, sym, subst}
use Rattle.guest_devices.specs.declared.device.Device.{Device}
use Rattle.guest_devices.specs.declared.device.Device.TheVariants as device
use Rattle.guest_devices.specs.Devices.{left_reset}
use Rattle.guest_devices.specs.Kept.{device_left}
use Rattle.guest_devices.proofs.device.Device.reset_of_kind.Goals as goal

pub returns-in-Block : goal.returns-in-Block
returns-in-Block c = subst (λ (d : Device). device_left d ≡ left_reset (device_left d)) (sym c.in-Block.is) refl

pub returns-in-Net : goal.returns-in-Net
returns-in-Net c = subst (λ (d : Device). device_left d ≡ left_reset (device_left d)) (sym c.in-Net.is) refl

pub returns-in-Vsock : goal.returns-in-Vsock
returns-in-Vsock c = c.reset_vsock.ensures c.args.self.now (device.Vsock c.reset_vsock.new.vsock) c.in-Vsock.is refl

pub returns-in-Balloon : goal.returns-in-Balloon
returns-in-Balloon c = subst (λ (d : Device). device_left d ≡ left_reset (device_left d)) (sym c.in-Balloon.is) refl

pub returns-in-Entropy : goal.returns-in-Entropy
returns-in-Entropy c = subst (λ (d : Device). device_left d ≡ left_reset (device_left d)) (sym c.in-Entropy.is) refl
