use Rattle.std.proofs.Common.{List, ℕ, ◌++◌, drop, replicate, ap, ◌∙◌}
use Rattle.monitor_plans.proofs.DrivesAsked.{cut_or_filled}
use Rattle.monitor_plans.proofs.drives.id_bytes.Goals as goal

pub returns : goal.returns
returns c =
    ap (λ (l : List ℕ). l ++ drop c.min-len.result (replicate 20 0)) c.copy_from_slice.ensures.after
    ∙ cut_or_filled c.args.id.now c.min-len.result 20 c.min-len.ensures
