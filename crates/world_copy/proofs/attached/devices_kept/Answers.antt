-- One device more is kept, and then all are.
use Rattle.std.proofs.Common.{List, [], arith, subst, sym, take_all}
use Rattle.guest_devices.specs.declared.device.Device.{Device}
use Rattle.guest_devices.specs.Kept.{AreReset}
use Rattle.world_copy.proofs.Resets.{one_more}
use Rattle.world_copy.proofs.attached.devices_kept.Goals as goal

pub loop-device-init : goal.loop-device-init
loop-device-init c = subst (λ (l : List Device). AreReset [] l) (sym c.new-kept.ensures) tt

pub loop-device-preserved : goal.loop-device-preserved
loop-device-preserved c =
    one_more c.args.devices.now c.loop-device.device-index c.device-item.result c.device_kept.result c.loop-device.kept c.push.new.self
    (omega arith) c.device-item.is c.loop-device.invariant c.device_kept.ensures c.in_ok-push.ensures.ok

pub returns : goal.returns
returns c =
    subst (λ (l : List Device). AreReset l c.loop-device.kept) (take_all c.loop-device.device-index c.args.devices.now (omega arith))
    c.loop-device.invariant
