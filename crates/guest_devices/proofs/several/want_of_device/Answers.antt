-- What the device of the number wants, or nothing behind the last.
use Rattle.std.proofs.Common.{◌∙◌, Some, ap, sym}
use Rattle.std.proofs.lemmas.Option.{slice_get-get_or}
use Rattle.vm_types.specs.declared.op.Op.{Op}
use Rattle.guest_devices.specs.declared.device.Device.{Device}
use Rattle.guest_devices.proofs.Among.{none_wants, some_wants}
use Rattle.guest_devices.proofs.several.want_of_device.Goals as goal

pub returns-in-Some : goal.returns-in-Some
returns-in-Some c =
    let devices = c.args.devices.now in
    let device = c.in-Some.device.now in
    let found = c.in-Some.ensures.lookup in
    let here = slice_get-get_or devices c.args.number device found.3.0 ∙ ap (λ (d : Device). Some d) (sym found.1) in
    ap (λ (op : Op). Some op) c.want.ensures ∙ sym (some_wants devices c.args.number device here)

pub returns-in-None : goal.returns-in-None
returns-in-None c = sym (none_wants c.args.devices.now c.args.number c.in-None.ensures.lookup.3)
