use Rattle.devtree.specs.Coding.{all_of}
use Rattle.devtree.specs.Machine as machine
use Rattle.devtree.proofs.Nodes.{pushed_more}
use Rattle.devtree.proofs.machine.push_devices.Goals as goal

pub loop-device-preserved : goal.loop-device-preserved
loop-device-preserved c =
    pushed_more machine.device (all_of c.args.tokens.now.items) _ _ c.loop-device.device c.loop-device.invariant c.in_ok-push_device.ensures
