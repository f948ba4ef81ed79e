use Rattle.std.proofs.Common.{◌∙◌, arith}
use Rattle.vm_outside.proofs.Takes.{sent_more}
use Rattle.serve_host.proofs.sending.put_all.Goals as goal

pub loop-sent-preserved : goal.loop-sent-preserved
loop-sent-preserved g c =
    let so_far = c.loop-sent.invariant in
    let wrote = c.in_ok-count.ensures in
    record {
      bound = omega (arith, wrote.bound);
      still = λ t. wrote.called.lasts.still (so_far.still t);
      kept = wrote.called.kept ∙ so_far.kept;
      taken = λ t. sent_more _ _ _ _ _ _ (so_far.taken t) (wrote.bytes (so_far.still t));
      waits = λ t. record {
        gave = (wrote.waits (so_far.still t)).gave ∙ (so_far.waits t).gave;
        left = (wrote.waits (so_far.still t)).left ∙ (so_far.waits t).left;
      };
    }
