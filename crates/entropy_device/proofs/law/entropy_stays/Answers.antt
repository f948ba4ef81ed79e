use Rattle.device_trace.specs.Script.{Ends}
use Rattle.entropy_device.specs.Entropy.{new_entropy}
use Rattle.entropy_device.proofs.Entropy.{owes}
use Rattle.entropy_device.proofs.law.entropy_stays.Goals as goal

pub returns : goal.returns
returns c port pages limits items left leads =
    c.queue_stays.ensures.acts port pages left owes
    (c.queue_stays.ensures.leads port pages (Ends (new_entropy port pages limits)) left items owes
    (c.queue_stays.ensures.begins port pages) leads)
