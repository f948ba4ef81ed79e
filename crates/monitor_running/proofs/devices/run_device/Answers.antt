use Rattle.std.proofs.Common.{arith}
use Rattle.monitor_running.proofs.Lent.{beside_more}
use Rattle.monitor_running.proofs.devices.run_device.Goals as goal

pub returns-then-not-step_device-clause-acted : goal.returns-then-not-step_device-clause-acted
returns-then-not-step_device-clause-acted g c = λ first asked less acted.
    c.step_device.ensures.acted first asked less (c.loop-made.invariant.acted first asked less acted)

pub returns-then-not-step_device-clause-beside : goal.returns-then-not-step_device-clause-beside
returns-then-not-step_device-clause-beside g c =
    let all = g.W.TurnObjects.known in
    beside_more (all c.args.with.now) (all c.loop-made.with) (all c.step_device.new.with) c.loop-made.invariant.beside
    c.step_device.ensures.beside

pub loop-made-preserved : goal.loop-made-preserved
loop-made-preserved g c =
    let all = g.W.TurnObjects.known in
    let before = c.loop-made.invariant in
    let after = c.step_device.ensures in record {
      acted = λ first asked less acted. after.acted first asked less (before.acted first asked less acted);
      beside = beside_more (all c.args.with.now) (all c.loop-made.with) (all c.step_device.new.with) before.beside after.beside;
      room = omega (arith, after.room, before.room);
      most = omega (arith, after.most, before.most);
    }
