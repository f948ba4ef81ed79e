use Rattle.device_trace.specs.Script.{Ends}
use Rattle.filler_device.specs.Filler.{new_filler}
use Rattle.filler_device.proofs.Filler.{owes}
use Rattle.filler_device.proofs.law.filler_stays.Goals as goal

pub returns : goal.returns
returns c port pages limits items left leads =
    c.queue_stays.ensures.acts port pages left owes
    (c.queue_stays.ensures.leads port pages (Ends (new_filler port pages limits)) left items owes
    (c.queue_stays.ensures.begins port pages) leads)
