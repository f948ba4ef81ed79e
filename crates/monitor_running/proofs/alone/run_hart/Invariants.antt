use Rattle.std.proofs.Common.{◌≤◌, ◌<◌, ◌-◌, length, None}
use Rattle.monitor_running.specs.Alone.{HasRun}
use Rattle.monitor_running.specs.Passes.{ArePassed}
use Rattle.monitor_running.proofs.alone.run_hart.Given as goal

abbrev pub invariant-loop-made : goal.invariant-loop-made
invariant-loop-made g l =
    let G = g.G.Gate in
    record {
      run : HasRun l.turn.hart l.made l.fn.world l.world;
      most : l.made ≤ l.most;
      some : 0 < length l.passes.items;
      passes : ArePassed (G.serves l.gate) G.tally None l.fn.passes.items l.passes.items;
    }

abbrev pub decreases-loop-made : goal.decreases-loop-made
decreases-loop-made g l = l.most - l.made
