use Rattle.std.proofs.Common.{ℕ, List, Err, subst, arith}
use Rattle.std.proofs.lemmas.Result.{err_from_is_err_and}
use Rattle.file_format.specs.Reading.{Takes}
use Rattle.snap_state.specs.Files.{contents}
use Rattle.snap_state.proofs.Copies.{accepted, not_accepted, stuck}
use Rattle.snap_state.proofs.file.contents_at.Goals as goal

pub returns-in_err-len : goal.returns-in_err-len
returns-in_err-len c =
    let p = err_from_is_err_and c.from_residual.result c.from_residual.ensures.1 in
    rw (p.1, p.2) (stuck c.args.version c.in_err-len.field-0.0 c.args.rest.now c.read_contents.new.input (subst (λ (given : List ℕ). Takes (contents c.args.version) given c.read_contents.new.input (Err c.in_err-len.field-0.0)) c.new-input.ensures c.in_err-len.ensures))

pub returns-then-is_accepted : goal.returns-then-is_accepted
returns-then-is_accepted c =
    accepted c.args.version c.args.rest.now c.in_ok-len.len c.in_ok-len.identity c.in_ok-len.copy c.read_contents.new.input (λ i. omega (arith, c.type_inv.rest i)) (rw c.new-input.ensures at c.in_ok-len.ensures)
    c.len.result c.is_accepted.result c.len.ensures c.is_accepted.ensures c.if-is_accepted.true

pub returns-else-is_accepted : goal.returns-else-is_accepted
returns-else-is_accepted c =
    not_accepted c.args.version c.args.rest.now c.in_ok-len.len c.in_ok-len.identity c.in_ok-len.copy c.read_contents.new.input (rw c.new-input.ensures at c.in_ok-len.ensures)
    c.len.result c.is_accepted.result c.len.ensures c.is_accepted.ensures c.if-is_accepted.false
