-- One device more.
use Rattle.std.proofs.Common.{◌∙◌, ap}
use Rattle.guest_devices.specs.Devices.{new_left}
use Rattle.guest_devices.specs.Kept.{devices_left}
use Rattle.vm_world.proofs.Beginning.{one_made}
use Rattle.vm_world.proofs.starting.devices_at_start.Goals as goal

pub loop-number-preserved : goal.loop-number-preserved
loop-number-preserved c =
    let what = c.index-devices-number.result in
    ap devices_left c.in_ok-push.ensures.items
    ∙ one_made c.args.pages c.loop-number.number c.loop-number.made.items c.args.devices.now c.new.result what
    c.loop-number-test.true c.loop-number.invariant
    (c.new.ensures ∙ ap (new_left c.loop-number.number c.args.pages) c.index-devices-number.is)
