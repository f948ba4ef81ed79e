use Rattle.std.proofs.Common.{arith, length}
use Rattle.http_front.proofs.GrammarLemmas.{not_exceeds}
use Rattle.http_front.proofs.Judging.{error_is_hopeless}
use Rattle.http_front.proofs.head.find_head.Goals as goal

pub returns-in-Err : goal.returns-in-Err
returns-in-Err c =
    error_is_hopeless c.in-Err.field-0 c.args.front.now (length c.args.spans.now) c.in-Err.ensures.invalid c.in-Err.ensures.too_many
    (not_exceeds (length c.args.spans.now) c.args.front.now c.requires.short (omega arith))
