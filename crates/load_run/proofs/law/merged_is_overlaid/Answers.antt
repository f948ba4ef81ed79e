use Rattle.load_run.proofs.Overlaid.{all_merged}
use Rattle.load_run.proofs.law.merged_is_overlaid.Goals as goal

pub returns : goal.returns
returns c = λ rounds saved memory files m diffs is there are good join room.
    let some = c.merged_in_order.ensures.some files diffs memory m is good join room in (
      some.0,
      all_merged rounds saved memory files some.0 there are some.1,
      c.merged_in_order.ensures.last files diffs memory some.0 m is good join room some.1,
    )
