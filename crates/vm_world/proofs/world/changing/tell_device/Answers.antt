-- The device of the number is told.
use Rattle.std.proofs.Common.{◌≡◌, ◌<◌, ◌∙◌, sym, ap, arith, length, Some, slice_get}
use Rattle.std.proofs.lemmas.Option.{slice_get-get_or}
use Rattle.guest_devices.specs.declared.device.Device.{Device}
use Rattle.vm_world.proofs.Beginning.{one_told}
use Rattle.vm_world.proofs.world.changing.tell_device.Goals as goal

pub returns-then-number-len-clause-told : goal.returns-then-number-len-clause-told
returns-then-number-len-clause-told c =
    let devices = c.args.devices.now.items in
    let device = c.index_mut.result.now in
    let below : c.args.number < length devices = omega (arith, c.if-number-len.true, c.len.ensures) in
    let here : slice_get devices c.args.number ≡ Some device =
    slice_get-get_or devices c.args.number device below
    ∙ ap (λ (d : Device). Some d) (sym c.index_mut.ensures.value) in
    one_told devices c.args.number c.args.change device c.change.new.self here c.change.ensures
