use Rattle.std.proofs.Common.{◌≡◌, ◌+◌, ◌≤◌, List, ℕ, length}
use Rattle.vm_outside.specs.Known.{Lasts, Tells}
use Rattle.flat_machine.specs.Machine.{Machine}
use Rattle.monitor_cli.specs.Known.{Known}
use Rattle.monitor_cli.specs.Lines.{Reached}
use Rattle.monitor_cli.proofs.lines.ScriptRun.run_lines.Given as goal

abbrev pub invariant-lines : goal.invariant-lines
invariant-lines g l =
    let files = g.F.Files.known in
    let sink = g.K.Sink.known in
    record {
      count : l.self.line + length l.self.reader ≤ l.fn.self.line + length l.fn.self.reader;
      lasts_files : Lasts (files l.fn.files).health (files l.files).health;
      lasts_sink : Lasts (sink l.fn.sink).health (sink l.sink).health;
      kept : (sink l.sink).health.faults ≡ (sink l.fn.sink).health.faults;
      went : Tells (files l.fn.files).health → Tells (sink l.fn.sink).health →
          (start : Machine) (before : Known) (came rest : List ℕ) → Reached start before came rest l.fn.self (sink l.fn.sink) (files l.fn.files) →
          Reached start before came rest l.self (sink l.sink) (files l.files);
    }

abbrev pub decreases-lines : goal.decreases-lines
decreases-lines g l = length l.self.reader
