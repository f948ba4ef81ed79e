use Rattle.std.proofs.Common.{◌≡◌, ◌+◌, sym, subst, ◌∙◌, inr, arith}
use Rattle.flat_guest.proofs.Stepping.{has_made_none}
use Rattle.guest_pages.proofs.Making.{less_room, no_spends, room_left, spends_more}
use Rattle.vm_world.specs.Worlds.{Runs, WorldValue, body_of, pages_of}
use Rattle.vm_world.proofs.Events.{run_more, runs}
use Rattle.vm_world.proofs.world.World.run_actor.Goals as goal

pub loop-made-init : goal.loop-made-init
loop-made-init c = record {
  within = omega arith;
  has = has_made_none c.args.actor (body_of c.args.self.now);
  spent = no_spends 0 (pages_of c.args.self.now);
  there = c.requires.want;
}

pub advance-requires-clause-room : goal.advance-requires-clause-room
advance-requires-clause-room c =
    room_left c.loop-made.made 1 (pages_of c.args.self.now) (pages_of c.loop-made.self)
    (less_room (c.loop-made.made + 1) c.args.count (pages_of c.args.self.now) (omega (arith, c.loop-made-test.true)) c.requires.room)
    c.loop-made.invariant.spent

pub loop-made-preserved : goal.loop-made-preserved
loop-made-preserved c = record {
  within = omega arith;
  has = run_more c.args.actor c.args.self.now c.loop-made.self c.advance.new.self c.loop-made.made
      c.loop-made.invariant.has (sym c.is_off.ensures ∙ c.if-is_off.false)
      (c.advance.ensures.made c.if-not-advance.false);
  spent = spends_more c.loop-made.made 1 (pages_of c.args.self.now) (pages_of c.loop-made.self) (pages_of c.advance.new.self) c.loop-made.invariant.spent c.advance.ensures.spends;
  there = c.advance.ensures.there;
}

pub returns-then-not-advance : goal.returns-then-not-advance
returns-then-not-advance c =
    let stays : c.advance.new.self ≡ c.loop-made.self = c.advance.ensures.stays c.if-not-advance.true in
    let waits = c.advance.ensures.waits c.if-not-advance.true in
    subst (λ (w : WorldValue). Runs c.args.self.now c.args.actor c.args.count c.loop-made.made w) (sym stays)
    (runs c.args.actor c.args.self.now c.loop-made.self c.args.count c.loop-made.made c.loop-made.invariant.has
    (inr (omega arith, inr (sym c.is_off.ensures ∙ c.if-is_off.false, waits.0, waits.1, waits.2))))
