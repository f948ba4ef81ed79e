use Rattle.std.proofs.Common.{sym, ◌∙◌, arith}
use Rattle.load_run.proofs.Answered.{past_it}
use Rattle.load_run.proofs.failures.tells_failure.Goals as goal

pub loop-at-preserved : goal.loop-at-preserved
loop-at-preserved c = record {
  within = omega (arith, c.loop-at-test.true);
  rest = past_it _ _ c.loop-at-test.true (sym c.begins_failure.ensures ∙ c.if-begins_failure.false) ∙ c.loop-at.invariant.rest;
}
