use Rattle.std.proofs.Common.{refl, None, Some}
use Rattle.monitor_running.specs.declared.ran.Ran.TheVariants as ran
use Rattle.monitor_running.proofs.Lone.{run_from_reserved, steps_happened}
use Rattle.monitor_running.proofs.Turns.{part_nowhere, turn_by, turn_with, wanting_part}
use Rattle.monitor_running.proofs.alone.run_burst.Goals as goal

pub returns-then-waits : goal.returns-then-waits
returns-then-waits g c = turn_by _ _ None _ _ _ _ _ c.requires.serve (part_nowhere _ _)

pub returns-in_default : goal.returns-in_default
returns-in_default g c =
    turn_by _ _ (Some ran.OutOfMemory) _ _ _ _ _ c.requires.serve
    (wanting_part (g.W.TurnObjects.known c.args.with.now) _ _ _ _ refl c.in_default.ensures.err)

pub returns : goal.returns
returns g c =
    let hart = c.args.turn.now.hart in
    let made = c.run_hart-made.result in
    let was = g.W.TurnObjects.known c.args.with.now in
    let run =
    run_from_reserved hart made c.args.world.now c.reserve.new.self c.run_hart-made.new.world c.reserve.ensures.ok c.run_hart-made.ensures.run in
    turn_with _ _ c.tell_steps.result _ _ _ _ _ _ c.run_hart-made.ensures.passes
    (c.tell_steps.ensures.part was c.args.world.now
    (steps_happened hart made c.args.world.now c.run_hart-made.new.world was run))
