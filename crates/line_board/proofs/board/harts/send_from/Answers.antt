use Rattle.std.proofs.Common.{Bool, false, ◌||◌, ap, ◌∙◌, arith, slice_index_or}
use Rattle.line_board.proofs.Sending.{sent_one}
use Rattle.line_board.proofs.board.harts.send_from.Goals as goal

pub loop-k-preserved : goal.loop-k-preserved
loop-k-preserved c =
    let here : Bool = slice_index_or c.loop-k.software c.loop-k.k false in
    sent_one c.args.mask c.args.base c.loop-k.k c.args.software.now c.loop-k.software false c.either.result (omega arith) c.loop-k.invariant
    (c.either.ensures ∙ ap (λ (h : Bool). here || h) c.is_named.ensures)
