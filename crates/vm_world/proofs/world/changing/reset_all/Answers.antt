-- One device more is reset, and then all are.
use Rattle.std.proofs.Common.{arith, refl}
use Rattle.vm_world.proofs.Resets.{all_reset, reset_more}
use Rattle.vm_world.proofs.world.changing.reset_all.Goals as goal

pub loop-device-init : goal.loop-device-init
loop-device-init c = refl

pub loop-device-preserved : goal.loop-device-preserved
loop-device-preserved c =
    reset_more c.loop-device.device-index c.args.devices.now c.loop-device.devices c.device-item.result c.reset.new.self (omega arith)
    c.loop-device.invariant c.reset.ensures.reset

pub returns : goal.returns
returns c =
    all_reset c.loop-device.device-index c.args.devices.now c.loop-device.devices (omega arith) c.loop-device.invariant
