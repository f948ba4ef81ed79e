use Rattle.std.proofs.Common.{◌∙◌, refl, arith, rules}
use Rattle.std.proofs.lemmas.Result.{err_from_is_err_and}
use Rattle.outside_mem.proofs.Steps.{steps_first, steps_more}
use Rattle.outside_mem.proofs.memory_trace.MemoryTraceTrace.add_steps.Goals as goal

pub loop-taken-preserved : goal.loop-taken-preserved
loop-taken-preserved c =
    let before = c.loop-taken.invariant in
    let added = c.in_ok-add.ensures in
    record {
      path = search rules;
      took = steps_more _ _ _ _ _ before.took (added.adds refl);
      finished = added.keeps refl ∙ before.finished;
      kept = added.called.kept ∙ before.kept;
    }

pub returns-in_err-add-clause-adds : goal.returns-in_err-add-clause-adds
returns-in_err-add-clause-adds c = λ tells.
    let failed = err_from_is_err_and c.from_residual.result c.from_residual.ensures.1 in
    let before = c.loop-taken.invariant in
    rw failed.1 (steps_first _ _ _ c.args.actor c.args.count c.loop-taken._taken (omega (arith, c.loop-taken-test.true)) before.took
    (c.in_err-add.ensures.adds refl))
