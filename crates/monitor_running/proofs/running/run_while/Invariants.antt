use Rattle.std.proofs.Common.{◌≡◌, ℕ, None}
use Rattle.monitor_machine.specs.State.{IsLive}
use Rattle.monitor_running.specs.Objects.{known_with}
use Rattle.monitor_running.specs.Paced.{ArePaced}
use Rattle.monitor_running.specs.Passes.{ArePassed}
use Rattle.monitor_running.specs.Ran.{IsOff, Went}
use Rattle.monitor_running.proofs.running.run_while.Given as goal

abbrev pub invariant-loop : goal.invariant-loop
invariant-loop g l =
    let W = g.W.TurnObjects in
    let K = g.K.Sink in
    let G = g.G.Gate in
    record {
      can : (goal.iterator-loop g).can_next l.iterator';
      finite : (goal.iterator-loop g).is_finite l.iterator';
      went : Went IsLive None (known_with (W.known l.fn.with) (K.known l.fn.sink)) l.fn.machine
          (known_with (W.known l.with) (K.known l.sink)) l.machine;
      off : IsOff l.fn.machine → l.machine ≡ l.fn.machine;
      passes : ArePassed (G.serves l.gate) G.tally None l.fn.steering.passes.items l.steering.passes.items;
      steps : l.steering.pace.steps ≡ l.fn.steering.pace.steps;
      paced : (n : ℕ) × ArePaced (G.serves l.gate) G.tally n l.fn.steering l.fn.machine l.steering l.machine;
    }
