-- The parts of a chain lie where they did.
use Rattle.std.proofs.Common.{ap, ◌∙◌}
use Rattle.dev_core.specs.Pieces.{last_byte}
use Rattle.queue_device.specs.Chains.{got_of}
use Rattle.block_device.proofs.Works.{serve_begun}
use Rattle.block_device.proofs.work.BlockWork.serving.Goals as goal

pub returns-clause-work : goal.returns-clause-work
returns-clause-work c pages which small chain =
    serve_begun pages which c.args.chain.now c.last_byte-at.result c.begin-stage.result c.collect_again-from.result
    c.begin-stage.new.from c.new-to.result c.begin-stage.new.to small chain
    (ap got_of c.collect_again-from.ensures ∙ c.got.ensures)
    (c.new-to.ensures ∙ c.parts_again.ensures ∙ c.as_slice-2.ensures.parts ∙ c.parts.ensures)
    (c.last_byte-at.ensures ∙ ap (last_byte 0) c.parts-2.ensures.parts) c.begin-stage.ensures.placed
    c.begin-stage.ensures.stage c.are_few.ensures
