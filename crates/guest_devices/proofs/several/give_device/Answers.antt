-- The reply is given to the device of the number.
use Rattle.std.proofs.lemmas.Option.{slice_get-get_or}
use Rattle.guest_devices.proofs.Among.{given}
use Rattle.guest_devices.proofs.several.give_device.Goals as goal

pub returns-then-number-devices : goal.returns-then-number-devices
returns-then-number-devices c =
    let here = slice_get-get_or c.args.devices.now c.args.number c.index-devices-number.result
    c.if-number-devices.true in
    given c.args.devices.now c.args.number _ c.give.new.self c.args.reply here c.give.ensures
