use Rattle.std.proofs.Common.{◌≡◌, List, ℕ, ◌∷◌, Some, length}
use Rattle.std.specs.FinMap.{get}
use Rattle.vm_outside.specs.Known.{Tells}
use Rattle.snap_writer.specs.Blocks.{block_size}
use Rattle.snap_writer.proofs.Runs.{Wrote}
use Rattle.snap_writer.proofs.pages.write_pages.Given as goal

abbrev pub invariant-loop-number : goal.invariant-loop-number
invariant-loop-number g l =
    let known = g.F.Files.known in
    record {
      room : length l.block ≡ block_size;
      still : Tells (known l.initial.files).health → Tells (known l.files).health;
      kept : (known l.files).health.faults ≡ (known l.initial.files).health.faults;
      wrote : Tells (known l.initial.files).health → (front : List ℕ) → get (known l.initial.files).saved l.name ≡ Some (0 ∷ front) → l.at ≡ length (0 ∷ front)
          → Wrote l.name l.at l.pages front (known l.initial.files) l.number (known l.files);
    }
