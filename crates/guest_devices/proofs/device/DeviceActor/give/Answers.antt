use Rattle.std.proofs.Common.{refl}
use Rattle.guest_devices.specs.declared.device.Device.TheVariants as device
use Rattle.guest_devices.proofs.device.DeviceActor.give.Goals as goal

pub returns-in-Block : goal.returns-in-Block
returns-in-Block c = c.give_block.ensures c.args.self.now (device.Block c.give_block.new.block) c.in-Block.is refl

pub returns-in-Net : goal.returns-in-Net
returns-in-Net c = c.give_net.ensures c.args.self.now (device.Net c.give_net.new.net) c.in-Net.is refl

pub returns-in-Vsock : goal.returns-in-Vsock
returns-in-Vsock c = c.give_vsock.ensures c.args.self.now (device.Vsock c.give_vsock.new.vsock) c.in-Vsock.is refl

pub returns-in-Balloon : goal.returns-in-Balloon
returns-in-Balloon c = c.give_balloon.ensures c.args.self.now (device.Balloon c.give_balloon.new.balloon) c.in-Balloon.is refl

pub returns-in-Entropy : goal.returns-in-Entropy
returns-in-Entropy c = c.give_entropy.ensures c.args.self.now (device.Entropy c.give_entropy.new.entropy) c.in-Entropy.is refl
