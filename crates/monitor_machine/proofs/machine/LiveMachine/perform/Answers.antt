use Rattle.std.proofs.Common.{subst}
use Rattle.monitor_plans.specs.declared.plan.Plan.{Plan}
use Rattle.monitor_plans.specs.Plans.{KeepsReady}
use Rattle.monitor_machine.proofs.machine.LiveMachine.perform.Goals as goal

pub take_change-requires-clause-fits : goal.take_change-requires-clause-fits
take_change-requires-clause-fits c =
    (subst (λ (p : Plan). KeepsReady p c.args.self.now.config c.args.self.now.guest) c.in-Changes.is c.requires).0

pub take_change-requires-clause-early : goal.take_change-requires-clause-early
take_change-requires-clause-early c =
    (subst (λ (p : Plan). KeepsReady p c.args.self.now.config c.args.self.now.guest) c.in-Changes.is c.requires).1

pub take_drives-requires-clause-fit : goal.take_drives-requires-clause-fit
take_drives-requires-clause-fit c =
    (subst (λ (p : Plan). KeepsReady p c.args.self.now.config c.args.self.now.guest) c.in-Drives.is c.requires).0

pub take_drives-requires-clause-early : goal.take_drives-requires-clause-early
take_drives-requires-clause-early c =
    (subst (λ (p : Plan). KeepsReady p c.args.self.now.config c.args.self.now.guest) c.in-Drives.is c.requires).1

pub take_interfaces-requires-clause-fit : goal.take_interfaces-requires-clause-fit
take_interfaces-requires-clause-fit c =
    (subst (λ (p : Plan). KeepsReady p c.args.self.now.config c.args.self.now.guest) c.in-Interfaces.is c.requires).0

pub take_interfaces-requires-clause-early : goal.take_interfaces-requires-clause-early
take_interfaces-requires-clause-early c =
    (subst (λ (p : Plan). KeepsReady p c.args.self.now.config c.args.self.now.guest) c.in-Interfaces.is c.requires).1

pub take_file-requires : goal.take_file-requires
take_file-requires c =
    (subst (λ (p : Plan). KeepsReady p c.args.self.now.config c.args.self.now.guest) c.in-Resizes.is c.requires).0

pub begin-requires : goal.begin-requires
begin-requires c =
    (subst (λ (p : Plan). KeepsReady p c.args.self.now.config c.args.self.now.guest) c.in-Starts.is c.requires).2

pub go_on-requires : goal.go_on-requires
go_on-requires c =
    (subst (λ (p : Plan). KeepsReady p c.args.self.now.config c.args.self.now.guest) c.in-Restores.is c.requires).2
