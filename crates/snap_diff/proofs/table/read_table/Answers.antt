use Rattle.std.proofs.Common.{List, ℕ, ◌==◌, ◌&&◌, length, Err, subst, ap, ◌∙◌, arith}
use Rattle.std.proofs.lemmas.Result.{err_from_is_err_and}
use Rattle.file_format.specs.Kinds.{times}
use Rattle.file_format.specs.Reading.{Takes}
use Rattle.snap_diff.specs.declared.run.Run.{Run}
use Rattle.snap_diff.specs.Diffs.{entry, is_table}
use Rattle.snap_diff.proofs.Judging.{table_not, table_stuck, table_taken}
use Rattle.snap_diff.proofs.table.read_table.Goals as goal

pub returns-in_err-runs : goal.returns-in_err-runs
returns-in_err-runs c =
    let p = err_from_is_err_and c.from_residual.result c.from_residual.ensures.1 in
    let h = c.args.header.now in
    rw (p.1, p.2) (table_stuck h c.args.table.now c.in_err-runs.field-0.0 c.read_entries.new.input
    (subst (λ (given : List ℕ). Takes (times h.count (entry h.version)) given c.read_entries.new.input (Err c.in_err-runs.field-0.0)) c.new-input.ensures c.in_err-runs.ensures))

pub returns-then-is_whole : goal.returns-then-is_whole
returns-then-is_whole c =
    let h = c.args.header.now in
    table_taken h c.args.table.now c.in_ok-runs.runs c.read_entries.new.input c.is_whole.result (λ i. omega (arith, c.type_inv.table i)) (rw c.new-input.ensures at c.in_ok-runs.ensures)
    (c.is_whole.ensures ∙ ap (λ (n : ℕ). (n == 0) && is_table h c.as_slice.result.now) c.len.ensures ∙ ap (λ (rs : List Run). (length c.read_entries.new.input == 0) && is_table h rs) c.as_slice.ensures)
    c.if-is_whole.true

pub returns-else-is_whole : goal.returns-else-is_whole
returns-else-is_whole c =
    let h = c.args.header.now in
    table_not h c.args.table.now c.in_ok-runs.runs c.read_entries.new.input c.is_whole.result (rw c.new-input.ensures at c.in_ok-runs.ensures)
    (c.is_whole.ensures ∙ ap (λ (n : ℕ). (n == 0) && is_table h c.as_slice.result.now) c.len.ensures ∙ ap (λ (rs : List Run). (length c.read_entries.new.input == 0) && is_table h rs) c.as_slice.ensures)
    c.if-is_whole.false
