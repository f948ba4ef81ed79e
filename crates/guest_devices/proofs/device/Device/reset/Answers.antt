-- The device could be kept before, and can be behind.
use Rattle.guest_devices.proofs.Placed.{kept_state}
use Rattle.guest_devices.proofs.Saved.{reset_saved}
use Rattle.guest_devices.proofs.device.Device.reset.Goals as goal

pub returns-clause-reset : goal.returns-clause-reset
returns-clause-reset c = (c.port-2.ensures.kept, c.reset_of_kind.ensures)

pub returns-clause-saved : goal.returns-clause-saved
returns-clause-saved c =
    reset_saved c.args.self.now c.reset_of_kind.new.self (kept_state c.args.self.now c.port.ensures.kept)
    (kept_state c.reset_of_kind.new.self c.port-2.ensures.kept) c.reset_of_kind.ensures
