use Rattle.std.proofs.Common.{arith}
use Rattle.vm_outside.proofs.Passing.{lasts_more, same_more}
use Rattle.load_run.proofs.Merges.{pages_more}
use Rattle.load_run.proofs.merging.pages_in.Goals as goal

pub loop-before-preserved : goal.loop-before-preserved
loop-before-preserved g c =
    let was = c.loop-before.invariant in
    record {
      within = omega (arith, c.loop-before-test.true);
      few = omega (arith, was.few);
      pages = λ told. pages_more c.loop-before.before _ _ _ _ (was.pages told) (was.same told).saved (c.in_ok-pages.ensures.pages (was.lasts.still told));
      same = λ told. same_more _ _ _ (was.same told) (c.in_ok-pages.ensures.same (was.lasts.still told));
      lasts = lasts_more _ _ _ was.lasts c.in_ok-pages.ensures.lasts;
    }
