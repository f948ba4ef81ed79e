use Rattle.std.proofs.Common.{sym, ap, ◌∙◌, arith}
use Rattle.load_run.specs.Failures.{tells_failure}
use Rattle.load_run.proofs.Ends.{replay_done, replay_short}
use Rattle.load_run.proofs.replaying.replay.Goals as goal

pub shortage-requires : goal.shortage-requires
shortage-requires g c =
    let held = c.into_vec.result in
    replay_short c.args.script held.items _ _ _ _ _ c.new-source.ensures c.into_vec.ensures c.new-answers.ensures c.requires.tells c.in-Ok.ensures.reader
    c.in-Ok.ensures.line c.in-Ok.ensures.monitor c.in-Err.exit _ _ _ c.in-Err.ensures.some c.in-Err.ensures.source (omega (arith, held.ok.0, held.ok.1, held.small))
    c.requires.lines.0 c.requires.lines.1 c.in-Err.ensures.ended

pub returns-clause-done : goal.returns-clause-done
returns-clause-done g c =
    replay_done c.args.script c.into_vec.result.items _ _ _ _ _ c.new-source.ensures c.into_vec.ensures c.new-answers.ensures c.requires.tells c.in-Ok.ensures.reader
    c.in-Ok.ensures.line c.in-Ok.ensures.monitor _ _ _ _ c.in_default-run_script.ensures.finished
    (ap tells_failure (sym c.taken.ensures) ∙ sym c.tells_failure.ensures ∙ c.if-tells_failure.false)
