use Rattle.device_trace.specs.Script.{Ends}
use Rattle.net_device.specs.Net.{new_net}
use Rattle.net_device.proofs.Net.{owes}
use Rattle.net_device.proofs.law.net_stays.Goals as goal

pub returns : goal.returns
returns c port pages rx tx items left leads =
    c.queue_stays.ensures.acts port pages left owes
    (c.queue_stays.ensures.leads port pages (Ends (new_net port pages rx tx)) left items owes
    (c.queue_stays.ensures.begins port pages) leads)
