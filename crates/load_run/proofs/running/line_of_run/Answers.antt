use Rattle.std.proofs.Common.{[], ◌∷◌, arith}
use Rattle.load_gen.specs.Load.{rounds_of}
use Rattle.load_run.specs.Restoring.{load_last}
use Rattle.load_run.proofs.Readable.{all_writable}
use Rattle.load_run.proofs.Runs.{run_is}
use Rattle.load_run.proofs.running.line_of_run.Goals as goal

pub words_at_end-requires-2-clause-tells : goal.words_at_end-requires-2-clause-tells
words_at_end-requires-2-clause-tells g c =
    c.in_ok-merge_rounds.ensures.lasts.still (c.in_ok-pages.ensures.lasts.still (c.in_ok-source.ensures.lasts.still c.requires.tells))

pub returns : goal.returns
returns g c =
    let shown = c.in_ok-source.ensures in
    let counted = c.in_ok-pages.ensures in
    let told = shown.lasts.still c.requires.tells in
    let writable = all_writable (rounds_of c.args.number) (omega arith) in
    run_is c.hart_follows.ensures.one c.every_trace_ready.ensures c.restored_chain.ensures.alike _ _ _ _ _ _ _ _ _ _ _ _ _ _ _ c.rounds_of-rounds.ensures.is c.requires.empty c.in_ok-script.ensures.is c.in_ok-load.ensures.is shown.shows (counted.same told)
    (counted.pages told) (c.in_ok-merge_rounds.ensures.merged (counted.lasts.still told)) c.in_ok-restored.ensures.shows c.as_slice.ensures
    c.as_slice-2.ensures c.in_ok-line.ensures (c.load_is_read.ensures c.args.number (omega (arith, c.ranges.number.fits)))
    (c.whole_text.ensures.script (load_last (rounds_of c.args.number) ∷ []) writable)
