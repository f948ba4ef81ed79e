use Rattle.std.proofs.Common.{sym, ap, ◌∙◌}
use Rattle.std.proofs.lemmas.List.{take_rest}
use Rattle.snap_diff.specs.Runs.{heads}
use Rattle.snap_diff.proofs.Loops.{runs_next}
use Rattle.snap_diff.proofs.run.are_runs.Goals as goal

pub loop-i-preserved : goal.loop-i-preserved
loop-i-preserved c =
    let runs = c.args.runs.now in
    runs_next c.args.version c.args.pages c.loop-i.i runs (sym (ap (heads c.args.version c.args.pages) (take_rest runs c.loop-i.i)) ∙ sym c.heads.ensures ∙ c.if-heads.true)
    ∙ c.loop-i.invariant
