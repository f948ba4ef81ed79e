use Rattle.guest_devices.specs.declared.new_device.NewDevice.TheVariants as starts
use Rattle.guest_devices.proofs.OfKind.{fits_is}
use Rattle.guest_devices.proofs.port.entropy_port.Goals as goal

pub returns-clause-fits : goal.returns-clause-fits
returns-clause-fits c = fits_is (starts.Entropy c.args.what.now) tt
