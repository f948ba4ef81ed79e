use Rattle.std.proofs.Common.{◌∙◌, sym}
use Rattle.monitor_machine.proofs.Telling.{no_target, some_target}
use Rattle.monitor_machine.proofs.machine.telling.target_by.Goals as goal

pub returns-in-None : goal.returns-in-None
returns-in-None c = no_target c.args.balloon.now _ (sym c.in-None.is ∙ c.shown.ensures)

pub returns-in-Some : goal.returns-in-Some
returns-in-Some c = some_target c.args.balloon.now _ c.in-Some.bytes c.target_shown.result (sym c.in-Some.is ∙ c.shown.ensures) c.target_shown.ensures
