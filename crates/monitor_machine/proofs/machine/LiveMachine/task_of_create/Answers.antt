use Rattle.std.proofs.Common.{◌≡◌, ◌<◌, ◌^◌, refl, sym, subst}
use Rattle.vm_types.specs.declared.identity.Identity.{Identity}
use Rattle.flat_machine.specs.Requests.{parent_of}
use Rattle.vm_config.specs.declared.config.Config.{Config}
use Rattle.monitor_plans.specs.Creating.{CreateGives}
use Rattle.monitor_machine.proofs.Creating.{create_keeps, create_task}
use Rattle.monitor_machine.proofs.Standing.{has_parent, next_numbered, ready_world}
use Rattle.monitor_machine.specs.Live.{Live}
use Rattle.monitor_machine.specs.Seen.{live_of}
use Rattle.monitor_machine.proofs.machine.LiveMachine.task_of_create.Goals as goal

pub returns-clause-task : goal.returns-clause-task
returns-clause-task c =
    let own : Identity = record { lineage = c.self.inside.ids.lineage; number = c.self.inside.ids.next } in
    rw (← c.self.view_is)
    (create_task c.create.result (live_of c.self.inside) c.in-Some.guest c.args.it c.parent-parent.result own c.in-Some.is
    (subst (λ (l : Live). c.parent-parent.result ≡ parent_of c.args.it.snapshot_type l.ids.base) (sym c.self.view_is) c.parent-parent.ensures) refl
    (subst (λ (k : Config). CreateGives c.create.result k c.parent-parent.result own c.in-Some.guest c.args.it.files) c.get-config.ensures.same c.create.ensures))

pub create-requires-clause-numbered : goal.create-requires-clause-numbered
create-requires-clause-numbered c =
    next_numbered (live_of c.self.inside) (subst (λ (l : Live). l.ids.next < 2 ^ 63) (sym c.self.view_is) c.requires.number) c.self.invariant

pub create-requires-clause-parent : goal.create-requires-clause-parent
create-requires-clause-parent c =
    rw (c.parent-parent.ensures, ← c.self.view_is)
    (has_parent (live_of c.self.inside) c.args.it.snapshot_type (subst (λ (l : Live). l.ids.next < 2 ^ 63) (sym c.self.view_is) c.requires.number) c.self.invariant)

pub create-requires-clause-ready : goal.create-requires-clause-ready
create-requires-clause-ready c =
    rw c.get-config.ensures.same (ready_world (live_of c.self.inside) c.in-Some.guest c.in-Some.is c.self.invariant)

pub returns-clause-keeps : goal.returns-clause-keeps
returns-clause-keeps c =
    let own : Identity = record { lineage = c.self.inside.ids.lineage; number = c.self.inside.ids.next } in
    rw (← c.self.view_is)
    (create_keeps c.create.result (live_of c.self.inside) c.get-config.result.now c.parent-parent.result own c.in-Some.guest c.args.it.files refl c.create.ensures)
