use Rattle.std.proofs.Common.{List, ℕ, Err, subst, arith}
use Rattle.std.proofs.lemmas.Result.{err_from_is_err_and}
use Rattle.file_format.specs.Reading.{Takes}
use Rattle.snap_diff.specs.Headers.{header}
use Rattle.snap_diff.proofs.Fronts.{stuck, not_valid, begun}
use Rattle.snap_diff.proofs.header.header_at.Goals as goal

pub returns-in_err-header : goal.returns-in_err-header
returns-in_err-header c =
    let p = err_from_is_err_and c.from_residual.result c.from_residual.ensures.1 in
    rw (p.1, p.2) (stuck c.in_err-header.field-0.0 c.args.bytes.now c.read_header.new.input (subst (λ (given : List ℕ). Takes header given c.read_header.new.input (Err c.in_err-header.field-0.0)) c.new-input.ensures c.in_err-header.ensures))

pub returns-then-is_valid : goal.returns-then-is_valid
returns-then-is_valid c =
    begun c.args.bytes.now c.in_ok-header.header c.read_header.new.input c.is_valid.result (λ i. omega (arith, c.type_inv.bytes i)) (rw c.new-input.ensures at c.in_ok-header.ensures) c.is_valid.ensures c.if-is_valid.true

pub returns-else-is_valid : goal.returns-else-is_valid
returns-else-is_valid c =
    not_valid c.args.bytes.now c.in_ok-header.header c.read_header.new.input c.is_valid.result (rw c.new-input.ensures at c.in_ok-header.ensures) c.is_valid.ensures c.if-is_valid.false
