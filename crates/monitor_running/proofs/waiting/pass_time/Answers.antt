use Rattle.std.proofs.Common.{◌+◌, ◌*◌, arith, refl, sym, subst, List, []}
use Rattle.vm_types.specs.declared.entry.Entry.{Entry}
use Rattle.vm_types.specs.declared.ids.ActorId.{ActorId}
use Rattle.guest_pages.proofs.Making.{less_room}
use Rattle.monitor_running.specs.Waiting.{HasGone, HasMade, turns}
use Rattle.monitor_running.proofs.Going.{gone_none}
use Rattle.vm_world.specs.Worlds.{WorldValue, pages_of}
use Rattle.monitor_running.proofs.Making.{hart_there, left_first, left_next, made_none, room_for, turns_more}
use Rattle.monitor_running.proofs.waiting.pass_time.Goals as goal

pub loop-number-init : goal.loop-number-init
loop-number-init g c =
    let w = c.args.world.now in
    let k = g.C.Clock.known c.args.clock.now in
    let made = c.in_ok-events.ensures in
    let after = c.step_twice.ensures in record {
      gone =
          after.gone w k
          (subst (λ (v : WorldValue). HasGone c.in_ok-events.events.items w v k k) (sym c.reserve.ensures.ok)
          (subst (λ (es : List Entry). HasGone es w w k k) (sym made.items) (gone_none w k)));
      made =
          after.made w [] (λ g is. refl)
          (subst (λ (v : WorldValue). HasMade [] c.in_ok-events.events.items w v) (sym c.reserve.ensures.ok)
          (subst (λ (es : List Entry). HasMade [] es w w) (sym made.items) (made_none w)));
      most = omega (arith, after.most, made.len);
      room = omega (arith, after.room, made.capacity);
      spare = left_first c.hart_count-harts.result (pages_of c.reserve.new.self) (pages_of c.step_twice.new.world) c.in_ok-reserve.ensures.room after.spends;
    }

pub loop-number-preserved : goal.loop-number-preserved
loop-number-preserved g c =
    let before = c.loop-number.invariant in
    let after = c.step_hart.ensures in record {
      gone = after.gone c.args.world.now (g.C.Clock.known c.args.clock.now) before.gone;
      made =
          let w = c.args.world.now in
          let k = c.loop-number.number in
          let there = hart_there w k (omega (arith, c.loop-number-test.true, c.hart_count-harts.ensures)) in
          subst (λ (l : List ActorId). HasMade l c.step_hart.new.events.items w c.step_hart.new.world)
          (turns_more c.args.but k) (after.made w (turns c.args.but k) there before.made);
      most = omega (arith, after.most, before.most);
      room = omega (arith, after.room, before.room);
      spare =
          left_next c.loop-number.number c.hart_count-harts.result (pages_of c.loop-number.world) (pages_of c.step_hart.new.world) c.loop-number-test.true before.spare after.spends;
    }

pub step_twice-requires-clause-room : goal.step_twice-requires-clause-room
step_twice-requires-clause-room g c = less_room 2 (2 * c.hart_count-harts.result + 2) (pages_of c.reserve.new.self) (omega arith) c.in_ok-reserve.ensures.room

pub step_hart-requires-clause-room : goal.step_hart-requires-clause-room
step_hart-requires-clause-room g c =
    room_for c.loop-number.number c.hart_count-harts.result (pages_of c.loop-number.world) c.loop-number-test.true c.loop-number.invariant.spare
