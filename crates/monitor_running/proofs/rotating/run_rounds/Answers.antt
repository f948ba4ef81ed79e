use Rattle.std.proofs.Common.{None, Some, arith}
use Rattle.monitor_running.proofs.Turns.{part_nowhere, turn_by, turn_on}
use Rattle.monitor_running.proofs.rotating.run_rounds.Goals as goal

pub loop-init : goal.loop-init
loop-init g c = record {
  some = c.requires.some;
  serve = c.requires.serve;
  turn = turn_by _ _ None _ _ _ _ _ c.requires.serve (part_nowhere _ _);
}

pub loop-preserved : goal.loop-preserved
loop-preserved g c =
    let before = c.loop.invariant in
    let after = c.in_default.ensures in record {
      some = let same = after.passes.same in let some = before.some in omega (arith, same, some);
      serve = after.passes.serve;
      turn = turn_on _ _ None _ _ _ _ _ _ _ c.loop.passes.items _ c.requires.some before.turn after;
    }

pub returns-in-Some : goal.returns-in-Some
returns-in-Some g c =
    turn_on _ _ (Some c.in-Some.end) _ _ _ _ _ _ _ c.loop.passes.items _ c.requires.some c.loop.invariant.turn c.in-Some.ensures

pub returns-then-device_works : goal.returns-then-device_works
returns-then-device_works g c =
    turn_on _ _ None _ _ _ _ _ _ _ c.loop.passes.items _ c.requires.some c.loop.invariant.turn c.in_default.ensures
