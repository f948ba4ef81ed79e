use Rattle.std.proofs.Common.{◌≡◌, ◌≤◌, ◌*◌, ◌^◌, ◌-◌}
use Rattle.vm_outside.specs.Filing.{SameFiles}
use Rattle.vm_outside.specs.Known.{Lasts, Tells}
use Rattle.load_run.specs.Merging.{pages_in}
use Rattle.load_run.proofs.merging.pages_in.Given as goal

abbrev pub invariant-loop-before : goal.invariant-loop-before
invariant-loop-before g l =
    let known = g.F.Files.known in
    record {
      within : l.before ≤ l.rounds;
      few : l.pages ≤ l.before * 2 ^ 32;
      pages : Tells (known l.fn.files).health → l.pages ≡ pages_in l.before (known l.fn.files).saved;
      same : Tells (known l.fn.files).health → SameFiles (known l.fn.files) (known l.files);
      lasts : Lasts (known l.fn.files).health (known l.files).health;
    }

abbrev pub decreases-loop-before : goal.decreases-loop-before
decreases-loop-before g l = l.rounds - l.before
