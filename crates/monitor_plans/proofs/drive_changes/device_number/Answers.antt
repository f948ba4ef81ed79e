use Rattle.std.proofs.Common.{arith}
use Rattle.vm_config.specs.declared.config.Config.{Config}
use Rattle.flat_machine.proofs.Taken.{bounded}
use Rattle.monitor_plans.proofs.DrivesAsked.{below_most}
use Rattle.monitor_plans.proofs.drive_changes.device_number.Goals as goal

pub overflow_cast-device : goal.overflow_cast-device
overflow_cast-device c =
    let config : Config = c.get.result.now in
    let few = (bounded config c.get.ensures.taken).drives in
    let below = below_most config.drives c.args.id.now 16 c.in-Some.number (omega (arith, few)) c.in-Some.ensures in
    omega (arith, below)
