use Rattle.std.proofs.Common.{refl}
use Rattle.vm_outside.proofs.Passing.{lasts_more}
use Rattle.monitor_cli.proofs.Arriving.{begun}
use Rattle.monitor_cli.proofs.Commanding.{closing_not_usage, not_usage, nothing_begun}
use Rattle.monitor_cli.proofs.Counts.{closing_files, closing_named, closing_sink, closing_source, runs_named}
use Rattle.monitor_cli.proofs.Finishing.{closes}
use Rattle.monitor_cli.proofs.replaying.replay.Goals as goal

pub returns-in_default-clause-so_far : goal.returns-in_default-clause-so_far
returns-in_default-clause-so_far g c = λ told. nothing_begun _ _ (record { saved_is = refl; calls_is = refl })

pub returns-in-Err-clause-so_far : goal.returns-in-Err-clause-so_far
returns-in-Err-clause-so_far g c = λ told.
    c.in-Err.ensures.ended told.source told.files told.sink _ _ (begun _ _ _ c.in-Ok.ensures.reader c.in-Ok.ensures.line (c.in-Ok.ensures.monitor _))

pub returns-in-Err-clause-caused : goal.returns-in-Err-clause-caused
returns-in-Err-clause-caused g c = record {
  named = runs_named c.in-Err.exit c.in-Err.ensures.some;
  source = c.in-Err.ensures.source;
  sink = c.in-Err.ensures.sink;
  files = c.in-Err.ensures.files;
}

pub returns-in-Err-clause-no_usage : goal.returns-in-Err-clause-no_usage
returns-in-Err-clause-no_usage g c = not_usage c.in-Err.exit c.in-Err.ensures.some

pub returns-clause-so_far : goal.returns-clause-so_far
returns-clause-so_far g c = λ told.
    let done = c.in_default-run_script.ensures.finished told.source told.files told.sink _ _ (begun _ _ _ c.in-Ok.ensures.reader c.in-Ok.ensures.line (c.in-Ok.ensures.monitor _)) in
    closes _ _ _ _ _ _ done c.write_closing.result _ (c.write_closing.ensures.closes (c.run_script.ensures.lasts.2.still told.sink) _ done.reached.last done.reached.is)

pub returns-clause-caused : goal.returns-clause-caused
returns-clause-caused g c =
    let end = c.write_closing.ensures.some in
    record {
      named = closing_named c.write_closing.result end;
      source = closing_source c.write_closing.result _ _ end c.in_default-run_script.ensures.source;
      sink = closing_sink c.write_closing.result _ _ _ end c.in_default-run_script.ensures.sink c.write_closing.ensures.cause;
      files = closing_files c.write_closing.result _ _ end;
    }

pub returns-clause-no_usage : goal.returns-clause-no_usage
returns-clause-no_usage g c = closing_not_usage c.write_closing.result c.write_closing.ensures.some

pub returns-clause-lasts : goal.returns-clause-lasts
returns-clause-lasts g c =
    let ran = c.run_script.ensures.lasts in
    record { source = ran.0; files = ran.1; sink = lasts_more _ _ _ ran.2 c.write_closing.ensures.lasts }
