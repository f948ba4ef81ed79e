-- The byte of its kind is put at the end, and what is kept of it.
use Rattle.std.proofs.Common.{◌≡◌, subst, true}
use Rattle.guest_devices.specs.declared.device.Device.{Device}
use Rattle.guest_devices.specs.Kept.{is_saved}
use Rattle.snap_devices.proofs.Writing.{balloon_device, block_device, entropy_device, net_device, vsock_device}
use Rattle.snap_devices.proofs.device.write_device.Goals as goal

-- no connection is written
pub write_vsock-requires : goal.write_vsock-requires
write_vsock-requires c = subst (λ (d : Device). is_saved d ≡ true) c.in-Vsock.is c.requires

pub returns-in_ok-write_block-in-Block-clause-fits : goal.returns-in_ok-write_block-in-Block-clause-fits
returns-in_ok-write_block-in-Block-clause-fits c =
    (block_device c.args.it.now c.in-Block.block c.args.out.now.items c.write.new.out.items c.write_block.new.out.items c.in-Block.is
    c.in_ok-write_block-in-Block.ensures.fits c.in_ok-write-in-Block.ensures.bytes c.in_ok-write_block-in-Block.ensures.bytes).fits

pub returns-in_ok-write_block-in-Block-clause-bytes : goal.returns-in_ok-write_block-in-Block-clause-bytes
returns-in_ok-write_block-in-Block-clause-bytes c =
    (block_device c.args.it.now c.in-Block.block c.args.out.now.items c.write.new.out.items c.write_block.new.out.items c.in-Block.is
    c.in_ok-write_block-in-Block.ensures.fits c.in_ok-write-in-Block.ensures.bytes c.in_ok-write_block-in-Block.ensures.bytes).bytes

pub returns-in_ok-write_net-in-Net-clause-fits : goal.returns-in_ok-write_net-in-Net-clause-fits
returns-in_ok-write_net-in-Net-clause-fits c =
    (net_device c.args.it.now c.in-Net.net c.args.out.now.items c.write-in-Net.new.out.items c.write_net.new.out.items c.in-Net.is
    c.in_ok-write_net-in-Net.ensures.fits c.in_ok-write-in-Net.ensures.bytes c.in_ok-write_net-in-Net.ensures.bytes).fits

pub returns-in_ok-write_net-in-Net-clause-bytes : goal.returns-in_ok-write_net-in-Net-clause-bytes
returns-in_ok-write_net-in-Net-clause-bytes c =
    (net_device c.args.it.now c.in-Net.net c.args.out.now.items c.write-in-Net.new.out.items c.write_net.new.out.items c.in-Net.is
    c.in_ok-write_net-in-Net.ensures.fits c.in_ok-write-in-Net.ensures.bytes c.in_ok-write_net-in-Net.ensures.bytes).bytes

pub returns-in_ok-write_balloon-in-Balloon-clause-fits : goal.returns-in_ok-write_balloon-in-Balloon-clause-fits
returns-in_ok-write_balloon-in-Balloon-clause-fits c =
    (balloon_device c.args.it.now c.in-Balloon.balloon c.args.out.now.items c.write-in-Balloon.new.out.items
    c.write_balloon.new.out.items c.in-Balloon.is c.in_ok-write_balloon-in-Balloon.ensures.fits
    c.in_ok-write-in-Balloon.ensures.bytes c.in_ok-write_balloon-in-Balloon.ensures.bytes).fits

pub returns-in_ok-write_balloon-in-Balloon-clause-bytes : goal.returns-in_ok-write_balloon-in-Balloon-clause-bytes
returns-in_ok-write_balloon-in-Balloon-clause-bytes c =
    (balloon_device c.args.it.now c.in-Balloon.balloon c.args.out.now.items c.write-in-Balloon.new.out.items
    c.write_balloon.new.out.items c.in-Balloon.is c.in_ok-write_balloon-in-Balloon.ensures.fits
    c.in_ok-write-in-Balloon.ensures.bytes c.in_ok-write_balloon-in-Balloon.ensures.bytes).bytes

pub returns-in_ok-write_vsock-in-Vsock-clause-fits : goal.returns-in_ok-write_vsock-in-Vsock-clause-fits
returns-in_ok-write_vsock-in-Vsock-clause-fits c =
    (vsock_device c.args.it.now c.in-Vsock.vsock c.args.out.now.items c.write-in-Vsock.new.out.items
    c.write_vsock.new.out.items c.in-Vsock.is c.in_ok-write_vsock-in-Vsock.ensures.fits
    c.in_ok-write-in-Vsock.ensures.bytes c.in_ok-write_vsock-in-Vsock.ensures.bytes).fits

pub returns-in_ok-write_vsock-in-Vsock-clause-bytes : goal.returns-in_ok-write_vsock-in-Vsock-clause-bytes
returns-in_ok-write_vsock-in-Vsock-clause-bytes c =
    (vsock_device c.args.it.now c.in-Vsock.vsock c.args.out.now.items c.write-in-Vsock.new.out.items
    c.write_vsock.new.out.items c.in-Vsock.is c.in_ok-write_vsock-in-Vsock.ensures.fits
    c.in_ok-write-in-Vsock.ensures.bytes c.in_ok-write_vsock-in-Vsock.ensures.bytes).bytes

pub returns-in_ok-write_entropy-in-Entropy-clause-fits : goal.returns-in_ok-write_entropy-in-Entropy-clause-fits
returns-in_ok-write_entropy-in-Entropy-clause-fits c =
    (entropy_device c.args.it.now c.in-Entropy.entropy c.args.out.now.items c.write-in-Entropy.new.out.items
    c.write_entropy.new.out.items c.in-Entropy.is c.in_ok-write_entropy-in-Entropy.ensures.fits
    c.in_ok-write-in-Entropy.ensures.bytes c.in_ok-write_entropy-in-Entropy.ensures.bytes).fits

pub returns-in_ok-write_entropy-in-Entropy-clause-bytes : goal.returns-in_ok-write_entropy-in-Entropy-clause-bytes
returns-in_ok-write_entropy-in-Entropy-clause-bytes c =
    (entropy_device c.args.it.now c.in-Entropy.entropy c.args.out.now.items c.write-in-Entropy.new.out.items
    c.write_entropy.new.out.items c.in-Entropy.is c.in_ok-write_entropy-in-Entropy.ensures.fits
    c.in_ok-write-in-Entropy.ensures.bytes c.in_ok-write_entropy-in-Entropy.ensures.bytes).bytes
