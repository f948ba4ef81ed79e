use Rattle.std.proofs.Common.{lit<, sym, ◌∙◌, rules}
use Rattle.serde_json.specs.View.{view}
use Rattle.metadata_service.proofs.Keys.{IsCut, get_whole, seen_whole, walk_last, walk_step, walk_stops}
use Rattle.metadata_service.proofs.paths.walk.Goals as goal

pub returns-in_err-value-clause-value : goal.returns-in_err-value-clause-value
returns-in_err-value-clause-value c =
    let cut : IsCut c.loop-key.rest.now c.in-Some.key.now c.in-Some.more.now = c.in-Some.ensures.byte (lit< tt) (λ w o f. f) in
    rw c.from_residual.ensures
    (walk_stops c.loop-key.rest.now c.in-Some.key.now c.in-Some.more.now (view c.loop-key.value.now) cut c.in_err-value.ensures
    ∙ sym c.loop-key.invariant.1)

pub loop-key-preserved : goal.loop-key-preserved
loop-key-preserved c =
    let cut : IsCut c.loop-key.rest.now c.in-Some.key.now c.in-Some.more.now = c.in-Some.ensures.byte (lit< tt) (λ w o f. f) in (
      search rules,
      c.loop-key.invariant.1
          ∙ walk_step c.loop-key.rest.now c.in-Some.key.now c.in-Some.more.now (view c.loop-key.value.now) (view c.in_ok-value.value.now) cut c.in_ok-value.ensures,
      rw (← c.in_ok-value.ensures) at (get_whole c.in-Some.key.now (view c.loop-key.value.now) c.loop-key.invariant.2),
    )

pub returns-else-is_empty-clause-value : goal.returns-else-is_empty-clause-value
returns-else-is_empty-clause-value c =
    c.get-else-is_empty.ensures
    ∙ walk_last c.loop-key.rest.now (view c.loop-key.value.now) (c.in_default.ensures.byte (lit< tt) (λ w o f. f)) (sym c.is_empty.ensures ∙ c.if-is_empty.false)
    ∙ sym c.loop-key.invariant.1

pub returns-else-is_empty-clause-whole : goal.returns-else-is_empty-clause-whole
returns-else-is_empty-clause-whole c =
    seen_whole c.get-else-is_empty.result c.loop-key.rest.now (view c.loop-key.value.now) c.get-else-is_empty.ensures c.loop-key.invariant.2
