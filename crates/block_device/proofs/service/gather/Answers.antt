-- What is left of the parts that are read lies where they did.
use Rattle.std.proofs.Common.{sym, subst, arith, List}
use Rattle.vq_split.specs.declared.queue.Part.{Part}
use Rattle.vq_split.specs.Inside.{AreInside}
use Rattle.dev_core.specs.Pieces.{room}
use Rattle.dev_core.proofs.Inside.{past_inside}
use Rattle.block_device.proofs.service.gather.Goals as goal

pub returns-clause-placed : goal.returns-clause-placed
returns-clause-placed c =
    let parts = c.args.from.now.from in
    λ pages few placed. c.collect_stage.ensures.placed pages few (
      subst (λ (x : List Part). AreInside pages x) (sym c.give.ensures.parts)
          (past_inside pages (room parts) parts few placed.0 (omega arith)),
      placed.1,
    )
