use Rattle.guest_devices.proofs.device.Device.port.Goals as goal

pub returns-in-Block-clause-kept : goal.returns-in-Block-clause-kept
returns-in-Block-clause-kept c = c.port_of_block.ensures.kept c.args.self.now c.in-Block.is

pub returns-in-Net-clause-kept : goal.returns-in-Net-clause-kept
returns-in-Net-clause-kept c = c.port_of_net.ensures.kept c.args.self.now c.in-Net.is

pub returns-in-Vsock-clause-kept : goal.returns-in-Vsock-clause-kept
returns-in-Vsock-clause-kept c = c.port_of_vsock.ensures.kept c.args.self.now c.in-Vsock.is

pub returns-in-Balloon-clause-kept : goal.returns-in-Balloon-clause-kept
returns-in-Balloon-clause-kept c = c.port_of_balloon.ensures.kept c.args.self.now c.in-Balloon.is

pub returns-in-Entropy-clause-kept : goal.returns-in-Entropy-clause-kept
returns-in-Entropy-clause-kept c = c.port_of_entropy.ensures.kept c.args.self.now c.in-Entropy.is
