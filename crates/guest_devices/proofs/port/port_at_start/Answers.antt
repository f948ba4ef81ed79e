use Rattle.guest_devices.proofs.port.port_at_start.Goals as goal

pub returns-in-Block-clause-fits : goal.returns-in-Block-clause-fits
returns-in-Block-clause-fits c = c.block_port.ensures.fits c.args.what.now c.in-Block.is

pub returns-in-Net-clause-fits : goal.returns-in-Net-clause-fits
returns-in-Net-clause-fits c = c.net_port.ensures.fits c.args.what.now c.in-Net.is

pub returns-in-Vsock-clause-fits : goal.returns-in-Vsock-clause-fits
returns-in-Vsock-clause-fits c = c.vsock_port.ensures.fits c.args.what.now c.in-Vsock.is

pub returns-in-Balloon-clause-fits : goal.returns-in-Balloon-clause-fits
returns-in-Balloon-clause-fits c = c.balloon_port.ensures.fits c.args.what.now c.in-Balloon.is

pub returns-in-Entropy-clause-fits : goal.returns-in-Entropy-clause-fits
returns-in-Entropy-clause-fits c = c.entropy_port.ensures.fits c.args.what.now c.in-Entropy.is
