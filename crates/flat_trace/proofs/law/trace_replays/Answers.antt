use Rattle.std.proofs.Common.{refl, sym, ◌∙◌, inl, [], append-nil}
use Rattle.flat_trace.proofs.Off.{off_replays, on_before}
use Rattle.flat_trace.proofs.Scripts.{run_lines}
use Rattle.flat_trace.proofs.law.trace_replays.Goals as goal

pub returns-clause-run : goal.returns-clause-run
returns-clause-run c = run_lines

pub returns-clause-replay : goal.returns-clause-replay
returns-clause-replay c = λ script acts m n outs judged on run. record {
  answers = _;
  last = n;
  left = [];
  plays = record { lines = judged ∙ sym (append-nil _); on = on; ran = run_lines acts m n outs on run };
  ends = inl refl;
  writes = refl;
  leaves = refl;
}

pub returns-clause-off : goal.returns-clause-off
returns-clause-off c = off_replays

pub returns-clause-on : goal.returns-clause-on
returns-clause-on c = on_before
