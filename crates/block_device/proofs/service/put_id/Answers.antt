-- What is left of the bytes goes into what is left of the parts.
use Rattle.std.proofs.Common.{List, arith, sym, subst, ◌∙◌}
use Rattle.block_device.specs.Service.{ok, status_written}
use Rattle.vq_split.specs.declared.queue.Part.{Part}
use Rattle.vq_split.specs.Inside.{AreInside}
use Rattle.dev_core.proofs.Inside.{past_inside}
use Rattle.block_device.proofs.Steps.{put_next}
use Rattle.block_device.proofs.service.put_id.Goals as goal

pub returns-clause-left : goal.returns-clause-left
returns-clause-left c =
    c.id_stage.ensures.left c.args.at
    ∙ put_next c.args.from.now.held c.skip.new.self c.args.to.now c.pass.new.self c.share-n.result
    (λ left. status_written c.args.at ok 21) c.args.reply.now c.requires.stage.1 c.share-n.ensures.share c.skip.ensures
    c.pass.ensures

-- what is left of the parts lies where they did
pub returns-clause-placed : goal.returns-clause-placed
returns-clause-placed c =
    let parts = c.args.to.now in
    let n = c.share-n.result in
    λ pages few placed. c.id_stage.ensures.placed pages few (
      placed.0,
      subst (λ (x : List Part). AreInside pages x) (sym c.pass.ensures)
          (past_inside pages n parts few placed.1 (omega (arith, c.share-n.ensures.share))),
    )
