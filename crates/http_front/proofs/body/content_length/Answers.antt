use Rattle.std.proofs.Common.{sym, ◌∙◌}
use Rattle.std.specs.Prelude.{codes}
use Rattle.http_front.specs.Told.{is_named_at, value_at}
use Rattle.http_front.proofs.BodyLemmas.{second_found, first_found, none_passes}
use Rattle.http_front.proofs.body.content_length.Goals as goal
use Rattle.http_front.proofs.body.content_length.Goals.{then-is_named+else-is_some, else-is_named}

pub returns-then-is_some-clause-value : goal.returns-then-is_some-clause-value
returns-then-is_some-clause-value c =
    sym (second_found (is_named_at (codes "content-length") c.args.front.now) (value_at c.args.front.now) c.args.spans.now c.loop-span.span-index
    _ c.loop-span.found c.loop-span-test.true c.loop-span.invariant (sym c.if-is_some.ensures) (sym c.if-is_named.ensures))

pub loop-span-preserved : goal.loop-span-preserved
loop-span-preserved c = elim c.if-is_named.branch [
  | then-is_named+else-is_some w ↦ rw w.found-is
      (first_found (is_named_at (codes "content-length") c.args.front.now) (value_at c.args.front.now) c.args.spans.now c.loop-span.span-index
      _ _ c.loop-span.found c.loop-span-test.true c.loop-span.invariant (sym w.if-is_some.ensures) (sym w.if-is_named.ensures) w.of.ensures)
  | else-is_named w ↦ rw w.found-is
      (none_passes (is_named_at (codes "content-length") c.args.front.now) (value_at c.args.front.now) c.args.spans.now c.loop-span.span-index
      _ c.loop-span-test.true (sym w.if-is_named.ensures) ∙ c.loop-span.invariant)
]
