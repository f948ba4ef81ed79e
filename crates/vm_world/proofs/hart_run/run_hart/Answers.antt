use Rattle.std.proofs.Common.{◌+◌, ◌-◌, refl, sym, ◌∙◌, inl, arith, slice_set}
use Rattle.vm_types.specs.declared.ids.ActorId.{ActorId}
use Rattle.guest_pages.proofs.Making.{less_room, no_spends, room_left, spends_more}
use Rattle.vm_world.specs.Worlds.{world_with}
use Rattle.vm_world.proofs.Events.{runs}
use Rattle.vm_world.proofs.Running.{none_run, off_at, one_more}
use Rattle.vm_world.proofs.Bursting.{has_burst}
use Rattle.vm_world.proofs.hart_run.run_hart.Goals as goal

pub returns-then-is_off-clause-runs : goal.returns-then-is_off-clause-runs
returns-then-is_off-clause-runs c = λ timer harts devices there.
    runs (ActorId.Hart c.args.number) (world_with c.args.pages.now.pages c.args.board.now c.args.ports.now.items timer harts devices)
    (world_with c.args.pages.now.pages c.args.board.now c.args.ports.now.items timer (slice_set harts c.args.number c.args.hart.now)
    devices) c.args.count 0
    (none_run c.args.number c.args.pages.now.pages c.args.pages.now.pages c.args.pages.now.pages c.args.board.now
    c.args.board.now c.args.board.now c.args.ports.now.items c.args.ports.now.items c.args.ports.now.items c.args.hart.now c.args.hart.now
    c.args.hart.now 0 timer harts devices there)
    (off_at c.args.number 0 c.args.count
    (world_with c.args.pages.now.pages c.args.board.now c.args.ports.now.items timer (slice_set harts c.args.number c.args.hart.now)
    devices) (omega arith) (sym c.is_off.ensures ∙ c.if-is_off.true))

pub loop-made-init : goal.loop-made-init
loop-made-init c = record {
  within = omega arith;
  on = sym c.is_off.ensures ∙ c.if-is_off.false;
  has = λ timer harts devices there. none_run c.args.number c.args.pages.now.pages c.args.pages.now.pages c.args.pages.now.pages c.args.board.now
      c.args.board.now c.args.board.now c.args.ports.now.items c.args.ports.now.items c.args.ports.now.items c.args.hart.now c.args.hart.now
      c.args.hart.now 0 timer harts devices there;
  many = refl;
  spent = no_spends 0 c.args.pages.now;
  many_ports = refl;
}

pub loop-made-preserved : goal.loop-made-preserved
loop-made-preserved c = record {
  within = omega (arith, c.run_burst-made.ensures.within, c.loop-made.invariant.within);
  on = c.loop-made.invariant.on;
  has = λ timer harts devices there. has_burst c.args.number c.args.pages.now.pages c.args.board.now c.loop-made.board c.args.ports.now.items
      c.loop-made.ports.items c.args.hart.now timer harts devices there c.loop-made.invariant.on c.loop-made.pages.pages
      c.run_burst-made.new.pages.pages c.loop-made.hart c.run_burst-made.new.hart c.loop-made.made c.run_burst-made.result
      (c.loop-made.invariant.has timer harts devices there) c.run_burst-made.ensures.events;
  many = c.run_burst-made.ensures.count ∙ c.loop-made.invariant.many;
  spent = spends_more c.loop-made.made c.run_burst-made.result c.args.pages.now c.loop-made.pages c.run_burst-made.new.pages c.loop-made.invariant.spent c.run_burst-made.ensures.spends;
  many_ports = c.loop-made.invariant.many_ports;
}

pub loop-made-preserved-else-is_off-2 : goal.loop-made-preserved-else-is_off-2
loop-made-preserved-else-is_off-2 c = record {
  within = omega (arith, c.if-made-count.true);
  on = sym c.is_off-then-made-count.ensures ∙ c.if-is_off-2.false;
  has = λ timer harts devices there. one_more c.args.number c.args.pages.now.pages c.run_burst-made.new.pages.pages c.advance.new.pages.pages c.args.board.now c.loop-made.board
      c.advance.new.board c.args.ports.now.items c.loop-made.ports.items c.advance.new.ports.items c.args.hart.now
      c.run_burst-made.new.hart c.advance.new.hart (c.loop-made.made + c.run_burst-made.result) timer harts devices there
      (has_burst c.args.number c.args.pages.now.pages c.args.board.now c.loop-made.board c.args.ports.now.items
      c.loop-made.ports.items c.args.hart.now timer harts devices there c.loop-made.invariant.on c.loop-made.pages.pages
      c.run_burst-made.new.pages.pages c.loop-made.hart c.run_burst-made.new.hart c.loop-made.made c.run_burst-made.result
      (c.loop-made.invariant.has timer harts devices there) c.run_burst-made.ensures.events)
      c.loop-made.invariant.on c.advance.ensures.event;
  many = c.advance.ensures.count ∙ c.run_burst-made.ensures.count ∙ c.loop-made.invariant.many;
  spent = spends_more (c.loop-made.made + c.run_burst-made.result) 1 c.args.pages.now c.run_burst-made.new.pages c.advance.new.pages
      (spends_more c.loop-made.made c.run_burst-made.result c.args.pages.now c.loop-made.pages c.run_burst-made.new.pages c.loop-made.invariant.spent c.run_burst-made.ensures.spends)
      c.advance.ensures.spends;
  many_ports = c.advance.ensures.many ∙ c.loop-made.invariant.many_ports;
}

pub returns-then-is_off-2-clause-runs : goal.returns-then-is_off-2-clause-runs
returns-then-is_off-2-clause-runs c = λ timer harts devices there.
    runs (ActorId.Hart c.args.number) (world_with c.args.pages.now.pages c.args.board.now c.args.ports.now.items timer harts devices)
    (world_with c.advance.new.pages.pages c.advance.new.board c.advance.new.ports.items timer
    (slice_set harts c.args.number c.advance.new.hart) devices) c.args.count (c.loop-made.made + c.run_burst-made.result + 1)
    (one_more c.args.number c.args.pages.now.pages c.run_burst-made.new.pages.pages c.advance.new.pages.pages c.args.board.now c.loop-made.board
    c.advance.new.board c.args.ports.now.items c.loop-made.ports.items c.advance.new.ports.items c.args.hart.now
    c.run_burst-made.new.hart c.advance.new.hart (c.loop-made.made + c.run_burst-made.result) timer harts devices there
    (has_burst c.args.number c.args.pages.now.pages c.args.board.now c.loop-made.board c.args.ports.now.items
    c.loop-made.ports.items c.args.hart.now timer harts devices there c.loop-made.invariant.on c.loop-made.pages.pages
    c.run_burst-made.new.pages.pages c.loop-made.hart c.run_burst-made.new.hart c.loop-made.made c.run_burst-made.result
    (c.loop-made.invariant.has timer harts devices there) c.run_burst-made.ensures.events)
    c.loop-made.invariant.on c.advance.ensures.event)
    (off_at c.args.number (c.loop-made.made + c.run_burst-made.result + 1) c.args.count
    (world_with c.advance.new.pages.pages c.advance.new.board c.advance.new.ports.items timer
    (slice_set harts c.args.number c.advance.new.hart) devices) (omega (arith, c.if-made-count.true))
    (sym c.is_off-then-made-count.ensures ∙ c.if-is_off-2.true))

pub returns-clause-runs : goal.returns-clause-runs
returns-clause-runs c = λ timer harts devices there.
    runs (ActorId.Hart c.args.number) (world_with c.args.pages.now.pages c.args.board.now c.args.ports.now.items timer harts devices)
    (world_with c.loop-made.pages.pages c.loop-made.board c.loop-made.ports.items timer (slice_set harts c.args.number c.loop-made.hart)
    devices) c.args.count c.loop-made.made (c.loop-made.invariant.has timer harts devices there) (inl (omega arith))

pub run_burst-made-requires : goal.run_burst-made-requires
run_burst-made-requires c =
    room_left c.loop-made.made (c.args.count - c.loop-made.made) c.args.pages.now c.loop-made.pages
    (less_room (c.loop-made.made + (c.args.count - c.loop-made.made)) c.args.count c.args.pages.now (omega (arith, c.loop-made.invariant.within)) c.requires.room)
    c.loop-made.invariant.spent

pub advance-requires-clause-room : goal.advance-requires-clause-room
advance-requires-clause-room c =
    room_left (c.loop-made.made + c.run_burst-made.result) 1 c.args.pages.now c.run_burst-made.new.pages
    (less_room (c.loop-made.made + c.run_burst-made.result + 1) c.args.count c.args.pages.now (omega (arith, c.if-made-count.true)) c.requires.room)
    (spends_more c.loop-made.made c.run_burst-made.result c.args.pages.now c.loop-made.pages c.run_burst-made.new.pages c.loop-made.invariant.spent c.run_burst-made.ensures.spends)

pub returns-then-is_off-clause-spends : goal.returns-then-is_off-clause-spends
returns-then-is_off-clause-spends c = no_spends 0 c.args.pages.now

pub returns-then-is_off-2-clause-spends : goal.returns-then-is_off-2-clause-spends
returns-then-is_off-2-clause-spends c =
    spends_more (c.loop-made.made + c.run_burst-made.result) 1 c.args.pages.now c.run_burst-made.new.pages c.advance.new.pages
    (spends_more c.loop-made.made c.run_burst-made.result c.args.pages.now c.loop-made.pages c.run_burst-made.new.pages c.loop-made.invariant.spent c.run_burst-made.ensures.spends)
    c.advance.ensures.spends
