use Rattle.device_trace.specs.Script.{Ends}
use Rattle.device_trace.specs.Acts.{is_disk_call}
use Rattle.queue_device.specs.Timing.{is_timed_left}
use Rattle.queue_device.proofs.Timed.{time_is, timed_left}
use Rattle.block_device.specs.Block.{block}
use Rattle.block_device.proofs.Owes.{owes}
use Rattle.block_device.proofs.law.block_stays.Goals as goal

pub returns-clause-leads : goal.returns-clause-leads
returns-clause-leads c port pages start items left has leads =
    c.queue_stays.ensures.acts port pages left owes
    (c.queue_stays.ensures.leads port pages (Ends start) left items owes has leads)

pub returns-clause-timed : goal.returns-clause-timed
returns-clause-timed c port pages start items left has leads is =
    let act = returns-clause-leads c port pages start items left has leads in
    (timed_left block left (time_is (is_timed_left block left) is_disk_call port _ is act.1)).1.1

pub returns-clause-begins : goal.returns-clause-begins
returns-clause-begins c port pages facts = c.queue_stays.ensures.begins port pages
