use Rattle.std.proofs.Common.{length, sym, ◌∙◌, subst}
use Rattle.vm_types.specs.declared.reply.Reply.{Reply}
use Rattle.flat_guest.specs.Given.{as_given}
use Rattle.turn_work.specs.Work.{IsOutEntry}
use Rattle.machine_places.specs.Laid.{index_among}
use Rattle.slice_runner.proofs.Routes.{at_none, at_place, inside_of, laid_out}
use Rattle.slice_runner.proofs.Feeding.{can_feed}
use Rattle.slice_runner.proofs.Seats.{seated_on}
use Rattle.slice_runner.proofs.acting.act_once.Goals as goal

pub index_of-requires-clause-place : goal.index_of-requires-clause-place
index_of-requires-clause-place g c =
    laid_out c.args.places.now.layout c.args.op.now c.place.result c.place.ensures (inside_of c.place.result c.in_default.not-Out)

pub act-requires-clause-fed : goal.act-requires-clause-fed
act-requires-clause-fed g c =
    let w = c.args.track.now.work in
    can_feed c.args.places.now.made.items c.args.places.now.layout w.seat.me.0 c.args.op.now c.place.result c.index_of.result
    (length c.args.track.now.pool.items) c.requires.seat.named c.requires.seat.made (inside_of c.place.result c.in_default.not-Out) c.place.ensures c.index_of.ensures.index c.index_of.ensures.below
    c.requires.fed

pub returns-in_default-clause-seat : goal.returns-in_default-clause-seat
returns-in_default-clause-seat g c =
    let h = c.requires.seat in
    let w = c.args.track.now.work in
    seated_on c.args.places.now w c.act.new.self h c.act.ensures.work (c.act.ensures.noted w.seat.me.0.round (index_among c.args.places.now.layout) h.named h.noted)

pub returns-in_default-clause-entry : goal.returns-in_default-clause-entry
returns-in_default-clause-entry g c =
    let w = c.args.track.now.work in
    at_place c.args.places.now.layout w.clock w.actor c.args.op.now (as_given c.args.given) w.seat.me.0 c.place.result c.index_of.result c.act.result c.requires.seat.named (inside_of c.place.result c.in_default.not-Out) c.place.ensures c.index_of.ensures.index c.index_of.ensures.below c.act.ensures.entry

pub returns-in-Out-clause-seat : goal.returns-in-Out-clause-seat
returns-in-Out-clause-seat g c =
    let h = c.requires.seat in
    let w = c.args.track.now.work in
    let p = c.args.places.now in
    seated_on p w c.act_out.new.self h (c.act_out.ensures.work p.turns.table.shared.table_id p.turns.round h.work) (c.act_out.ensures.noted w.seat.me.0.round (index_among p.layout) h.noted)

pub returns-in-Out-clause-entry : goal.returns-in-Out-clause-entry
returns-in-Out-clause-entry g c =
    let w = c.args.track.now.work in
    at_none c.args.places.now.layout w.clock w.actor c.args.op.now (as_given c.args.given) c.act_out.result c.requires.port c.requires.given (sym c.place.ensures ∙ c.in-Out.is)
    (subst (λ (r : Reply). IsOutEntry c.act_out.result w.actor c.args.op.now r w.clock) c.answer_out.ensures c.act_out.ensures.entry)
