use Rattle.std.proofs.Common.{lit<, sym, ◌∙◌}
use Rattle.serde_json.specs.View.{view}
use Rattle.metadata_service.proofs.Keys.{IsCut, found_here, found_later, found_none}
use Rattle.metadata_service.proofs.paths.found.Goals as goal

pub returns-in_err-before-clause-value : goal.returns-in_err-before-clause-value
returns-in_err-before-clause-value c =
    rw c.from_residual.ensures (found_none c.args.path.now (view c.args.store.now) (c.in_err-before.ensures.byte (lit< tt) (λ w o f. f)))

pub returns-then-is_empty-clause-value : goal.returns-then-is_empty-clause-value
returns-then-is_empty-clause-value c =
    let cut : IsCut c.args.path.now c.in_ok-before.before.now c.in_ok-before.keys.now = c.in_ok-before.ensures.byte (lit< tt) (λ w o f. f) in
    c.walk.ensures.value
    ∙ found_here c.args.path.now c.in_ok-before.before.now c.in_ok-before.keys.now (view c.args.store.now) cut (sym c.is_empty.ensures ∙ c.if-is_empty.true)

pub returns-else-is_empty-clause-value : goal.returns-else-is_empty-clause-value
returns-else-is_empty-clause-value c =
    let cut : IsCut c.args.path.now c.in_ok-before.before.now c.in_ok-before.keys.now = c.in_ok-before.ensures.byte (lit< tt) (λ w o f. f) in
    found_later c.args.path.now c.in_ok-before.before.now c.in_ok-before.keys.now (view c.args.store.now) cut (sym c.is_empty.ensures ∙ c.if-is_empty.false)
