use Rattle.std.proofs.Common.{arith, sym, ◌∙◌}
use Rattle.http_front.proofs.ByHead.{found_bad, found_few, found_whole}
use Rattle.http_front.proofs.head.by_head.Goals as goal

pub returns-in-Err : goal.returns-in-Err
returns-in-Err c = found_bad c.args.stream.now c.args.front.now c.args.spans.now c.args.head c.in-Err.why c.requires.late
    c.requires.front c.requires.found (sym c.in-Err.is ∙ c.body_length.ensures.value)

pub returns-then-body-stream : goal.returns-then-body-stream
returns-then-body-stream c = found_few c.args.stream.now c.args.front.now c.args.spans.now c.args.head c.in-Ok.body _ c.requires.late
    c.requires.front c.requires.found (sym c.in-Ok.is ∙ c.body_length.ensures.value) c.requires.fits (omega arith) (omega arith)

pub returns : goal.returns
returns c = found_whole c.args.stream.now c.args.front.now c.args.spans.now c.args.head c.in-Ok.body c.requires.late
    c.requires.front c.requires.within c.requires.found (sym c.in-Ok.is ∙ c.body_length.ensures.value) (omega arith)
