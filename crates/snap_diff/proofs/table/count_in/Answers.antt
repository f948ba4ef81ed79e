use Rattle.std.proofs.Common.{false, arith, slice_index_or}
use Rattle.std.proofs.lemmas.List.{get_or_default}
use Rattle.snap_diff.specs.declared.run.Run.{Run}
use Rattle.snap_diff.proofs.Loops.{many_next}
use Rattle.snap_diff.proofs.table.count_in.Goals as goal

pub overflow_add-pages : goal.overflow_add-pages
overflow_add-pages c =
    let runs = c.args.runs.now in
    let i = c.loop-run.run-index in
    let r : Run = slice_index_or runs i (record { first = 0; length = 0; stored = false }) in
    let next = many_next runs i r (omega arith) (get_or_default runs i _ _ (omega arith)) in
    let small = c.ranges.most.fits in
    omega (arith, next, c.loop-run.invariant, c.requires, small)

pub loop-run-preserved : goal.loop-run-preserved
loop-run-preserved c =
    let runs = c.args.runs.now in
    let i = c.loop-run.run-index in
    let r : Run = slice_index_or runs i (record { first = 0; length = 0; stored = false }) in
    let next = many_next runs i r (omega arith) (get_or_default runs i _ _ (omega arith)) in
    omega (arith, next, c.loop-run.invariant)
