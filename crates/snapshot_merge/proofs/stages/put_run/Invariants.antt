use Rattle.std.proofs.Common.{◌≡◌, ◌≢◌, List, ℕ, Some, drop, length}
use Rattle.std.specs.FinMap.{get}
use Rattle.vm_outside.specs.Known.{Tells}
use Rattle.snapshot_merge.specs.Answering.{run_writes}
use Rattle.snapshot_merge.proofs.Paging.{Wrote}
use Rattle.snapshot_merge.proofs.stages.put_run.Given as goal

abbrev pub invariant-loop-i : goal.invariant-loop-i
invariant-loop-i g l =
    let known = g.F.Files.known in
    record {
      room : length l.page ≡ 4096;
      still : Tells (known l.initial.files).health → Tells (known l.files).health;
      later : (known l.initial.files).health.faults ≡ (known l.files).health.faults;
      wrote : Tells (known l.initial.files).health → (text given : List ℕ) (there : get (known l.initial.files).saved l.base ≡ Some text)
          → get (known l.initial.files).saved l.diff ≡ Some given → l.diff ≢ l.base
          → Wrote l.base text (run_writes l.run (drop l.at given)) (known l.initial.files) there l.i (known l.files);
    }
