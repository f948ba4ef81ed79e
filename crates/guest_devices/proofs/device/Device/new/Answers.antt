use Rattle.guest_devices.proofs.device.Device.new.Goals as goal

pub returns-in-Block : goal.returns-in-Block
returns-in-Block c = c.new_block.ensures c.args.what.now c.in-Block.is

pub returns-in-Net : goal.returns-in-Net
returns-in-Net c = c.new_net.ensures c.args.what.now c.in-Net.is

pub returns-in-Vsock : goal.returns-in-Vsock
returns-in-Vsock c = c.new_vsock.ensures c.args.what.now c.in-Vsock.is

pub returns-in-Balloon : goal.returns-in-Balloon
returns-in-Balloon c = c.new_balloon.ensures c.args.what.now c.in-Balloon.is

pub returns-in-Entropy : goal.returns-in-Entropy
returns-in-Entropy c = c.new_entropy.ensures c.args.what.now c.in-Entropy.is
