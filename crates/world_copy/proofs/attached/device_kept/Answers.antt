-- The device that keeps the same is reset.
use Rattle.std.proofs.Common.{subst, sym}
use Rattle.guest_devices.specs.declared.device.Device.{Device}
use Rattle.guest_devices.specs.Kept.{IsReset}
use Rattle.world_copy.proofs.attached.device_kept.Goals as goal

pub returns : goal.returns
returns c =
    subst (λ (d : Device). IsReset c.args.device.now d) (sym c.new.ensures)
    (subst (λ (d : Device). IsReset d c.reset.new.self) c.again-kept.ensures.device c.reset.ensures.reset)
