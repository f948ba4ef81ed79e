use Rattle.std.proofs.Common.{refl}
use Rattle.queue_device.proofs.Confined.{act_confined, leads_confined}
use Rattle.queue_device.proofs.Keeping.{new_are}
use Rattle.queue_device.proofs.law.queue_stays.Goals as goal

pub returns-clause-begins : goal.returns-clause-begins
returns-clause-begins g c port pages = (refl, λ few. new_are g.T.Kind.service port pages)

pub returns-clause-leads : goal.returns-clause-leads
returns-clause-leads g c port pages start left items kind confined leads =
    leads_confined g.T.Kind.service g.T.Kind.changing g.T.Kind.times g.T.Kind.calls port pages kind
    start items left confined leads

pub returns-clause-acts : goal.returns-clause-acts
returns-clause-acts g c port pages left kind confined =
    act_confined g.T.Kind.service g.T.Kind.changing g.T.Kind.times g.T.Kind.calls port pages kind left confined
