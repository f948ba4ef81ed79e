use Rattle.std.proofs.Common.{◌≡◌, ◌+◌, ◌*◌, ◌-◌, List, ℕ, Some, drop, length}
use Rattle.std.specs.FinMap.{get}
use Rattle.vm_outside.specs.Filing.{SameFiles}
use Rattle.vm_outside.specs.Known.{Tells}
use Rattle.snap_diff.specs.Runs.{kinds_of}
use Rattle.snap_diff.proofs.Filled.{all_of}
use Rattle.snapshot_merge.proofs.checking.are_filled.Given as goal

abbrev pub invariant-loop-i : goal.invariant-loop-i
invariant-loop-i g l =
    let known = g.F.Files.known in
    record {
      room : length l.page ≡ 4096;
      still : Tells (known l.initial.files).health → Tells (known l.files).health;
      later : (known l.initial.files).health.faults ≡ (known l.files).health.faults;
      same : Tells (known l.initial.files).health → SameFiles (known l.initial.files) (known l.files);
      rest : Tells (known l.initial.files).health → (given : List ℕ) → get (known l.initial.files).saved l.name ≡ Some given
          → all_of (kinds_of (l.count - l.i) (drop (l.at + 4096 * l.i) given)) ≡ all_of (kinds_of l.count (drop l.at given));
    }
