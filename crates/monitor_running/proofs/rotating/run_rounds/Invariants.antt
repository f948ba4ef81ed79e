use Rattle.std.proofs.Common.{◌<◌, All, None, length}
use Rattle.monitor_running.specs.Objects.{known_with}
use Rattle.monitor_running.specs.Turned.{IsTurn}
use Rattle.monitor_running.proofs.rotating.run_rounds.Given as goal

abbrev pub invariant-loop : goal.invariant-loop
invariant-loop g l =
    let W = g.W.TurnObjects in
    let K = g.K.Sink in
    let G = g.G.Gate in
    record {
      some : 0 < length l.passes.items;
      serve : All (G.serves l.gate) l.passes.items;
      turn : IsTurn (G.serves l.gate) G.tally None
          (known_with (W.known l.fn.with) (K.known l.fn.sink)) l.fn.world l.fn.passes.items
          (known_with (W.known l.with) (K.known l.sink)) l.world l.passes.items;
    }
