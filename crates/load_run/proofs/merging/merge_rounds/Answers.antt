use Rattle.std.proofs.Common.{arith}
use Rattle.vm_outside.proofs.Passing.{lasts_more}
use Rattle.load_run.proofs.Merges.{merged_more}
use Rattle.load_run.proofs.merging.merge_rounds.Goals as goal

pub loop-before-preserved : goal.loop-before-preserved
loop-before-preserved g c =
    let was = c.loop-before.invariant in
    record {
      within = omega (arith, c.loop-before-test.true);
      merged = λ told. merged_more c.loop-before.before _ _ _ (was.merged told) (c.in_ok-merge_round.ensures.merged (was.lasts.still told));
      lasts = lasts_more _ _ _ was.lasts c.in_ok-merge_round.ensures.lasts;
    }
