use Rattle.std.proofs.Common.{refl}
use Rattle.monitor_running.proofs.asking.draw.Goals as goal

pub returns-in-Ok-clause-given : goal.returns-in-Ok-clause-given
returns-in-Ok-clause-given g c =
    let call = c.in-Ok.ensures in (
      refl,
      refl,
      tt,
      record {
        lasts = call.called.lasts;
        failed = λ is. cc;
        kept = λ not. call.called.kept;
        held = λ tells. record { left = call.gives tells };
      },
    )

pub returns-in-Err-clause-given : goal.returns-in-Err-clause-given
returns-in-Err-clause-given g c =
    let call = c.in-Err.ensures in (
      refl,
      refl,
      tt,
      record {
        lasts = call.called.lasts;
        failed = λ is. call.called.failed;
        kept = λ not. absurd (not refl);
        held = λ tells. record { left = call.gives tells };
      },
    )
