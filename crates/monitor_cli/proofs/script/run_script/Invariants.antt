use Rattle.std.proofs.Common.{◌≡◌, ◌≤◌, ◌+◌, ◌-◌, ◌^◌, [], ℕ, List, length}
use Rattle.vm_outside.specs.Known.{Lasts, Tells}
use Rattle.flat_machine.specs.Machine.{Machine}
use Rattle.monitor_cli.specs.Known.{Known}
use Rattle.monitor_cli.specs.Lines.{Reached}
use Rattle.monitor_cli.proofs.script.run_script.Given as goal

abbrev pub invariant-pieces : goal.invariant-pieces
invariant-pieces g l =
    let source = g.I.Source.known in
    let files = g.F.Files.known in
    let sink = g.K.Sink.known in
    record {
      count : l.run.line + length l.run.reader ≤ 1 + l.came;
      small : l.came ≤ 2 ^ 63;
      lasts_source : Lasts (source l.fn.source).health (source l.source).health;
      lasts_files : Lasts (files l.fn.files).health (files l.files).health;
      lasts_sink : Lasts (sink l.fn.sink).health (sink l.sink).health;
      kept_source : (source l.source).health.faults ≡ (source l.fn.source).health.faults;
      kept_sink : (sink l.sink).health.faults ≡ (sink l.fn.sink).health.faults;
      went : Tells (source l.fn.source).health → Tells (files l.fn.files).health → Tells (sink l.fn.sink).health →
          (start : Machine) (before : Known) → Reached start before [] (source l.fn.source).left l.fn.run (sink l.fn.sink) (files l.fn.files) →
          (bytes : List ℕ) × (length bytes ≡ l.came) × Reached start before bytes (source l.source).left l.run (sink l.sink) (files l.files);
    }

abbrev pub decreases-pieces : goal.decreases-pieces
decreases-pieces g l = 2 ^ 63 - l.came
