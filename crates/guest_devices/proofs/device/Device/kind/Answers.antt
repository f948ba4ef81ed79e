use Rattle.std.proofs.Common.{ap, sym}
use Rattle.guest_devices.specs.declared.device.Device.{Device}
use Rattle.guest_devices.specs.Kept.{kept_of}
use Rattle.guest_devices.specs.Ports.{number_of}
use Rattle.guest_devices.proofs.device.Device.kind.Goals as goal

pub returns-in-Block : goal.returns-in-Block
returns-in-Block c = ap (λ (d : Device). number_of (kept_of d).kind) (sym c.in-Block.is)

pub returns-in-Net : goal.returns-in-Net
returns-in-Net c = ap (λ (d : Device). number_of (kept_of d).kind) (sym c.in-Net.is)

pub returns-in-Vsock : goal.returns-in-Vsock
returns-in-Vsock c = ap (λ (d : Device). number_of (kept_of d).kind) (sym c.in-Vsock.is)

pub returns-in-Balloon : goal.returns-in-Balloon
returns-in-Balloon c = ap (λ (d : Device). number_of (kept_of d).kind) (sym c.in-Balloon.is)

pub returns-in-Entropy : goal.returns-in-Entropy
returns-in-Entropy c = ap (λ (d : Device). number_of (kept_of d).kind) (sym c.in-Entropy.is)
