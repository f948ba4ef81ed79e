use Rattle.std.proofs.Common.{true, false, refl}
use Rattle.snapshot_merge.proofs.Judged.{are_full, pages_bad, pages_good}
use Rattle.snapshot_merge.proofs.checking.check_filled.Goals as goal

pub returns-in-Ok-true-clause-finds : goal.returns-in-Ok-true-clause-finds
returns-in-Ok-true-clause-finds g c = λ told given there has.
    let h = c.args.start.header in
    pages_good given h c.args.start.runs has
    (are_full given h c.args.start.runs has c.requires.version _ c.table_size.ensures.size _ true (c.in-Ok-true.ensures.filled told given there) c.in-Ok-true.field-0-test)
    c.args.start refl refl

pub returns-in-Ok-false-clause-finds : goal.returns-in-Ok-false-clause-finds
returns-in-Ok-false-clause-finds g c = λ told given there has.
    let h = c.args.start.header in
    pages_bad given h c.args.start.runs has
    (are_full given h c.args.start.runs has c.requires.version _ c.table_size.ensures.size _ false (c.in-Ok-false.ensures.filled told given there) c.in-Ok-false.field-0-test)
