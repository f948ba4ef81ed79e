use Rattle.guest_devices.proofs.device.DeviceActor.want.Goals as goal

pub returns-in-Block : goal.returns-in-Block
returns-in-Block c = c.want_of_block.ensures c.args.self.now c.in-Block.is

pub returns-in-Net : goal.returns-in-Net
returns-in-Net c = c.want_of_net.ensures c.args.self.now c.in-Net.is

pub returns-in-Vsock : goal.returns-in-Vsock
returns-in-Vsock c = c.want_of_vsock.ensures c.args.self.now c.in-Vsock.is

pub returns-in-Balloon : goal.returns-in-Balloon
returns-in-Balloon c = c.want_of_balloon.ensures c.args.self.now c.in-Balloon.is

pub returns-in-Entropy : goal.returns-in-Entropy
returns-in-Entropy c = c.want_of_entropy.ensures c.args.self.now c.in-Entropy.is
