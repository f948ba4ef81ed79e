use Rattle.std.proofs.Common.{◌≡◌, ◌≤◌, ◌-◌, ◌++◌, List, ℕ, Some, length, take, drop}
use Rattle.std.specs.FinMap.{get}
use Rattle.vm_outside.specs.Filing.{SameFiles}
use Rattle.vm_outside.specs.Known.{Tells}
use Rattle.guest_pages.specs.Pages.{flat_of, marks_of}
use Rattle.snap_writer.specs.Blocks.{block_size}
use Rattle.snap_restore.proofs.loading.read_pages.Given as goal

abbrev pub invariant-loop-done : goal.invariant-loop-done
invariant-loop-done g l =
    let known = g.F.Files.known in
    record {
      some : l.done ≤ l.size;
      room : length l.block ≡ block_size;
      count : length l.pages.pages ≡ length l.initial.pages.pages;
      reserved : (flat_of l.pages.pages).reserved ≡ (flat_of l.initial.pages.pages).reserved;
      marks : marks_of l.pages.pages ≡ marks_of l.initial.pages.pages;
      still : Tells (known l.initial.files).health → Tells (known l.files).health;
      kept : (known l.files).health.faults ≡ (known l.initial.files).health.faults;
      same : Tells (known l.initial.files).health → SameFiles (known l.initial.files) (known l.files);
      read : Tells (known l.initial.files).health → (content : List ℕ) → get (known l.initial.files).saved l.name ≡ Some content
          → (flat_of l.pages.pages).bytes ≡ take l.done (drop l.at content) ++ drop l.done (flat_of l.initial.pages.pages).bytes;
    }

abbrev pub decreases-loop-done : goal.decreases-loop-done
decreases-loop-done g l = l.size - l.done
