use Rattle.flat_guest.proofs.Shaped.{shaped_next, shaped_reset, shaped_told, shaped_restart, shaped_start}
use Rattle.flat_guest.proofs.law.same_shape.Goals as goal

pub returns-clause-start : goal.returns-clause-start
returns-clause-start c = shaped_start

pub returns-clause-restart : goal.returns-clause-restart
returns-clause-restart c = shaped_restart

pub returns-clause-told : goal.returns-clause-told
returns-clause-told c = shaped_told

pub returns-clause-reset : goal.returns-clause-reset
returns-clause-reset c = shaped_reset

pub returns-clause-stays : goal.returns-clause-stays
returns-clause-stays c = shaped_next
