use Rattle.std.proofs.Common.{false}
use Rattle.block_device.specs.States.{block_left}
use Rattle.block_device.proofs.Owes.{owes}
use Rattle.block_device.proofs.Resuming.{resumes}
use Rattle.block_device.proofs.law.block_kept.Goals as goal

pub returns-clause-left : goal.returns-clause-left
returns-clause-left c b is =
    c.queue_kept.ensures false b.phase b.rounds b.kind.facts b.kind.work owes resumes is

pub returns-clause-stays : goal.returns-clause-stays
returns-clause-stays c b items left is leads =
    c.queue_stays.ensures.acts b.rounds.port b.rounds.pages left owes
    (c.queue_stays.ensures.leads b.rounds.port b.rounds.pages (block_left b) left items owes
    (c.queue_kept.ensures false b.phase b.rounds b.kind.facts b.kind.work owes resumes is) leads)
