use Rattle.std.proofs.Common.{◌<◌, ◌^◌, rules}
use Rattle.guest_devices.specs.declared.new_device.NewDevice.TheVariants as starts
use Rattle.guest_devices.proofs.OfKind.{fits_is}
use Rattle.guest_devices.proofs.port.block_port.Goals as goal

pub returns-clause-fits : goal.returns-clause-fits
returns-clause-fits c =
    let small : c.args.drive.now.sectors < 2 ^ 64 = search rules in
    fits_is (starts.Block c.args.drive.now) small
