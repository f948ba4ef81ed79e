use Rattle.flat_guest.proofs.Soundness.{sound_start, sound_reset, sound_restart, sound_told, sound_next, actor_step, hart_step, actor_steps}
use Rattle.flat_guest.proofs.law.some_step.Goals as goal

pub returns-clause-start : goal.returns-clause-start
returns-clause-start c = sound_start

pub returns-clause-restart : goal.returns-clause-restart
returns-clause-restart c = sound_restart

pub returns-clause-told : goal.returns-clause-told
returns-clause-told c = sound_told

pub returns-clause-reset : goal.returns-clause-reset
returns-clause-reset c = sound_reset

pub returns-clause-step : goal.returns-clause-step
returns-clause-step c = actor_step

pub returns-clause-harts : goal.returns-clause-harts
returns-clause-harts c = hart_step

pub returns-clause-stays : goal.returns-clause-stays
returns-clause-stays c = λ g h event e sound step. sound_next g event e h sound step

pub returns-clause-several : goal.returns-clause-several
returns-clause-several c = actor_steps
