use Rattle.std.proofs.Common.{refl}
use Rattle.monitor_running.proofs.Told.{told_then}
use Rattle.monitor_running.proofs.telling.steps_to.Goals as goal

pub returns-in_default-clause-told : goal.returns-in_default-clause-told
returns-in_default-clause-told g c = λ t k.
    let adds = c.in_default.ensures.adds t in
    (refl, (adds.0, adds.2), refl)

pub returns-clause-told : goal.returns-clause-told
returns-clause-told g c = λ t k.
    let adds = c.in-Ok.ensures in
    told_then _ _ _ _ _ _ _ _ _ (adds.adds t) (c.drain_if_ready.ensures.drains (adds.called.lasts.still t) k)
