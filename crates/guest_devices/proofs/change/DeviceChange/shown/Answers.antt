use Rattle.std.proofs.Common.{subst, sym}
use Rattle.guest_devices.specs.declared.change.DeviceChange.{DeviceChange}
use Rattle.guest_devices.specs.Kinds.{FitsChange}
use Rattle.guest_devices.proofs.change.DeviceChange.shown.Goals as goal

pub returns-in-Net-clause-fits : goal.returns-in-Net-clause-fits
returns-in-Net-clause-fits c = subst (λ (change : DeviceChange). FitsChange change) (sym c.in-Net.is) tt

pub returns-in-Balloon-clause-fits : goal.returns-in-Balloon-clause-fits
returns-in-Balloon-clause-fits c = subst (λ (change : DeviceChange). FitsChange change) (sym c.in-Balloon.is) tt
