use Rattle.std.proofs.Common.{◌∙◌, ap, subst}
use Rattle.api_rules.specs.Table.{decision}
use Rattle.flat_machine.specs.Ready.{IsTaken}
use Rattle.monitor_machine.specs.Live.{Live}
use Rattle.monitor_machine.proofs.machine.LiveMachine.decided.Goals as goal

pub returns-clause-taken : goal.returns-clause-taken
returns-clause-taken c = subst IsTaken (c.get.ensures.same ∙ ap (λ (l : Live). l.config) c.self.view_is) c.get.ensures.taken

pub returns-clause-is : goal.returns-clause-is
returns-clause-is c =
    c.decide.ensures
    ∙ (λ i. decision (c.phase.ensures i) ((c.get.ensures.same ∙ ap (λ (l : Live). l.config) c.self.view_is) i) (c.self.view_is i).ids c.args.call)
