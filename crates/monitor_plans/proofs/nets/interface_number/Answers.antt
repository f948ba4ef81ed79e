use Rattle.std.proofs.Common.{arith}
use Rattle.vm_config.specs.declared.config.Config.{Config}
use Rattle.monitor_plans.proofs.NetsMade.{interface_below}
use Rattle.monitor_plans.proofs.nets.interface_number.Goals as goal

pub overflow_cast-device : goal.overflow_cast-device
overflow_cast-device c =
    let config : Config = c.get.result.now in
    let below = interface_below config c.args.id.now c.in-Some.number c.get.ensures.taken c.in-Some.ensures in
    omega (arith, below)
