use Rattle.std.proofs.Common.{arith, refl}
use Rattle.monitor_running.proofs.Acting.{acted_reserved}
use Rattle.monitor_running.proofs.Lent.{beside_more}
use Rattle.monitor_running.proofs.devices.run_devices.Goals as goal

pub loop-number-preserved : goal.loop-number-preserved
loop-number-preserved g c =
    let all = g.W.TurnObjects.known in
    let before = c.loop-number.invariant in
    let after = c.run_device.ensures in record {
      acted = after.acted c.args.world.now (all c.args.with.now).host.devices
          (let less = c.loop-number-test.true in let few = c.min-devices.ensures in omega (arith, less, few)) before.acted;
      beside = beside_more (all c.args.with.now) (all c.loop-number.with) (all c.run_device.new.with) before.beside after.beside;
      none = λ is. let less = c.loop-number-test.true in absurd (omega (arith, is, less));
      most = omega (arith, after.most, before.most);
      room = omega (arith, after.room, before.room);
    }

pub loop-number-init : goal.loop-number-init
loop-number-init g c =
    let made = c.in_ok-events.ensures in record {
      acted =
          acted_reserved c.args.world.now c.make_room.new.world (g.W.TurnObjects.known c.args.with.now).host.devices
          c.in_ok-events.events.items made.items c.make_room.ensures.ok;
      beside = refl;
      none = λ is. made.items;
      most = omega (arith, made.len);
      room = omega (arith, made.capacity);
    }
