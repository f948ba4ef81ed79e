-- The part behind the last one of a sector is the first one of the next.
use Rattle.std.proofs.Common.{◌∙◌}
use Rattle.queue_device.specs.Chains.{got_of}
use Rattle.block_device.proofs.Moves.{out_wrapped}
use Rattle.block_device.proofs.stage.next_stage.Goals as goal

pub returns-then-part-eq7-clause-left : goal.returns-then-part-eq7-clause-left
returns-then-part-eq7-clause-left c =
    λ at. c.collect_stage.ensures.left at
    ∙ out_wrapped c.args.units c.args.part c.args.sector at (got_of c.args.from.now) c.if-part-eq7.true
