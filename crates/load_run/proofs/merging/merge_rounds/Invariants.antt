use Rattle.std.proofs.Common.{◌≡◌, ◌≤◌, ◌-◌}
use Rattle.vm_outside.specs.Known.{Lasts, Tells}
use Rattle.load_run.specs.Merging.{merged}
use Rattle.load_run.proofs.merging.merge_rounds.Given as goal

abbrev pub invariant-loop-before : goal.invariant-loop-before
invariant-loop-before g l =
    let known = g.F.Files.known in
    record {
      within : l.before ≤ l.rounds;
      merged : Tells (known l.fn.files).health → (known l.files).saved ≡ merged l.before (known l.fn.files).saved;
      lasts : Lasts (known l.fn.files).health (known l.files).health;
    }

abbrev pub decreases-loop-before : goal.decreases-loop-before
decreases-loop-before g l = l.rounds - l.before
