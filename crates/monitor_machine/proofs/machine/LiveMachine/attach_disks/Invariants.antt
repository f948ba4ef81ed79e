use Rattle.std.proofs.Common.{ℕ, ◌<◌}
use Rattle.monitor_machine.specs.Kinds.{disks}
use Rattle.monitor_machine.specs.Objects.{Named, Uncalled}
use Rattle.monitor_machine.proofs.machine.LiveMachine.attach_disks.Given as goal

abbrev pub invariant-loop-device : goal.invariant-loop-device
invariant-loop-device g l =
    let D = g.D.Disk in
    record {
      attached : (k : ℕ) → k < l.device → Named disks (D.known l.fn.disk).health l.self-inside.config k (D.known l.disk);
      uncalled : Uncalled disks (D.known l.fn.disk) (D.known l.disk);
    }
