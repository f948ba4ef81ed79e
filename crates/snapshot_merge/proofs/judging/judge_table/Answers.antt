use Rattle.std.proofs.Common.{ℕ, ◌-◌, length, take, drop, Err, subst, arith}
use Rattle.std.proofs.lemmas.List.{take_rest}
use Rattle.file_format.specs.declared.error.ReadError.{ReadError}
use Rattle.snap_diff.specs.Diffs.{TableFound}
use Rattle.snapshot_merge.proofs.Judged.{table_lacks, table_there}
use Rattle.snapshot_merge.proofs.judging.judge_table.Goals as goal

pub returns-in-Ok-clause-judged : goal.returns-in-Ok-clause-judged
returns-in-Ok-clause-judged c = λ given front begins size.
    table_there given c.args.bytes.now _ c.args.header c.in-Ok.runs (take_rest c.args.bytes.now 64) front c.in-Ok.ensures

pub returns-in-Err-Bad-clause-judged : goal.returns-in-Err-Bad-clause-judged
returns-in-Err-Bad-clause-judged c = λ given front begins size.
    table_lacks given c.args.bytes.now _ c.args.header begins size (λ i. omega (arith, c.type_inv.bytes i)) (take_rest c.args.bytes.now 64) front
    (subst (λ (e : ReadError). TableFound c.args.header (take (length c.args.bytes.now - 64) (drop 64 c.args.bytes.now)) (Err e)) c.in-Err-Bad.field-0-is c.in-Err-Bad.ensures)

pub returns-in-Ok-clause-runs : goal.returns-in-Ok-clause-runs
returns-in-Ok-clause-runs c = record { count = c.in-Ok.ensures.count; fit = c.in-Ok.ensures.fit; table = c.in-Ok.ensures.valid }
