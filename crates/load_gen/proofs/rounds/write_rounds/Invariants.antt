use Rattle.std.proofs.Common.{◌≡◌, ◌-◌, ◌*◌, ◌≤◌, ◌++◌}
use Rattle.vm_outside.specs.Known.{Tells}
use Rattle.load_gen.specs.Load.{rounds, text_of, turned}
use Rattle.load_gen.proofs.rounds.write_rounds.Given as goal

abbrev pub invariant-loop-before : goal.invariant-loop-before
invariant-loop-before g l =
    let known = g.K.Sink.known in
    record {
      within : l.before ≤ l.count;
      few : l.count ≤ 64;
      drawn : l.drawn ≡ turned l.number (2 * l.before);
      still : Tells (known l.fn.sink).health → Tells (known l.sink).health;
      kept : (known l.sink).health.faults ≡ (known l.fn.sink).health.faults;
      taken : Tells (known l.fn.sink).health
          → (known l.sink).taken ≡ (known l.fn.sink).taken ++ text_of (rounds l.number l.before);
    }

abbrev pub decreases-loop-before : goal.decreases-loop-before
decreases-loop-before g l = l.count - l.before
