use Rattle.std.proofs.Common.{◌≡◌, ◌+◌, ◌*◌, List, ℕ, Some, drop, length}
use Rattle.std.specs.FinMap.{get}
use Rattle.vm_outside.specs.Known.{Tells}
use Rattle.snap_diff.specs.Copies.{DiffCopy}
use Rattle.snap_diff.specs.Diffs.{size_behind}
use Rattle.snap_diff.specs.Runs.{stored_in}
use Rattle.snapshot_merge.specs.Answering.{AreThere}
use Rattle.snapshot_merge.proofs.PagingRuns.{Put}
use Rattle.snapshot_merge.proofs.stages.put_pages.Given as goal

abbrev pub invariant-loop-run : goal.invariant-loop-run
invariant-loop-run g l =
    let known = g.F.Files.known in
    record {
      room : length l.page ≡ 4096;
      place : l.at + 4096 * stored_in (drop l.run-index l.runs) ≡ 64 + size_behind l.start.header;
      still : Tells (known l.initial.files).health → Tells (known l.files).health;
      later : (known l.initial.files).health.faults ≡ (known l.files).health.faults;
      put : Tells (known l.initial.files).health → (d : DiffCopy) (text : List ℕ) (there : get (known l.initial.files).saved l.base ≡ Some text)
          (are : AreThere l.base l.diff l.start d (known l.initial.files).saved)
          → Put l.base l.diff l.start d text (known l.initial.files) there are (drop l.run-index l.runs) l.at (known l.files);
    }
