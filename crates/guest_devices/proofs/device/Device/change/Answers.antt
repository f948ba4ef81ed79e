use Rattle.std.proofs.Common.{refl}
use Rattle.guest_devices.specs.declared.device.Device.TheVariants as device
use Rattle.guest_devices.proofs.device.Device.change.Goals as goal

pub returns-in-Block : goal.returns-in-Block
returns-in-Block c = c.tell_block.ensures c.args.self.now (device.Block c.tell_block.new.block) c.in-Block.is refl

pub returns-in-Net : goal.returns-in-Net
returns-in-Net c = c.tell_net.ensures c.args.self.now (device.Net c.tell_net.new.net) c.in-Net.is refl

pub returns-in-Vsock : goal.returns-in-Vsock
returns-in-Vsock c = c.tell_vsock.ensures c.args.self.now (device.Vsock c.tell_vsock.new.vsock) c.in-Vsock.is refl

pub returns-in-Balloon : goal.returns-in-Balloon
returns-in-Balloon c = c.tell_balloon.ensures c.args.self.now (device.Balloon c.tell_balloon.new.balloon) c.in-Balloon.is refl

pub returns-in-Entropy : goal.returns-in-Entropy
returns-in-Entropy c = c.tell_entropy.ensures c.args.self.now (device.Entropy c.tell_entropy.new.entropy) c.in-Entropy.is refl
