use Rattle.std.proofs.Common.{subst}
use Rattle.vm_config.specs.declared.config.Config.{Config}
use Rattle.monitor_plans.specs.Plans.{KeepsReady}
use Rattle.monitor_plans.specs.Starting.{StartGives}
use Rattle.monitor_plans.proofs.starting.start.Goals as goal

pub returns-clause-gives : goal.returns-clause-gives
returns-clause-gives g c = λ told.
    subst (λ (k : Config). StartGives c.start_by.result k (g.F.Files.known c.args.files.now).saved) c.get.ensures.same
    (c.start_by.ensures.gives told)

pub returns-clause-keeps : goal.returns-clause-keeps
returns-clause-keeps g c = λ world.
    subst (λ (k : Config). KeepsReady c.start_by.result k world) c.get.ensures.same (c.start_by.ensures.keeps world)
