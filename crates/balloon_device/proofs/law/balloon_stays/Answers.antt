use Rattle.device_trace.specs.Script.{Ends}
use Rattle.balloon_device.specs.Balloon.{new_balloon}
use Rattle.balloon_device.proofs.Balloon.{owes}
use Rattle.balloon_device.proofs.law.balloon_stays.Goals as goal

pub returns : goal.returns
returns c port pages interval items left leads =
    c.queue_stays.ensures.acts port pages left owes
    (c.queue_stays.ensures.leads port pages (Ends (new_balloon port pages interval)) left items owes
    (c.queue_stays.ensures.begins port pages) leads)
