use Rattle.std.proofs.Common.{arith}
use Rattle.snapshot_merge.proofs.Judged.{other_size}
use Rattle.snapshot_merge.proofs.judging.size_diff.Goals as goal

pub returns-else-size-size_behind-clause-judged : goal.returns-else-size-size_behind-clause-judged
returns-else-size-size_behind-clause-judged c = λ given begins size.
    other_size given c.args.header begins (λ same. c.if-size-size_behind.false (omega (arith, same, size, c.size_behind.ensures.size)))
