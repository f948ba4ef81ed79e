use Rattle.std.proofs.Common.{◌++◌, ap, ◌∙◌, refl, sym, subst, arith, length, All}
use Rattle.std.specs.Vec.Iter.{into_iter_items}
use Rattle.stamp_merge.specs.Journals.{all_of}
use Rattle.stamp_merge.specs.Merged.{journals_of}
use Rattle.turn_work.specs.Work.{HasNoted}
use Rattle.machine_places.specs.Laid.{index_among}
use Rattle.slice_runner.specs.Seats.{IsSeatedIn}
use Rattle.slice_runner.specs.Staff.{journal_of, journals_from, passes_of, stop_of, stops_from}
use Rattle.slice_runner.proofs.Seats.{bare_noted}
use Rattle.slice_runner.proofs.Staff.{fewer_by_one, first_of, poured}
use Rattle.slice_runner.proofs.places.Places.dismiss.Goals as goal

pub stand_down-requires-clause-seated : goal.stand_down-requires-clause-seated
stand_down-requires-clause-seated g c =
    (first_of (λ t. IsSeatedIn c.args.self.now c.args.seat.now.me.0.round t.work) _ _ _ c.in-Some.ensures.items c.loop-track.invariant.seated).0.seat

pub stand_down-requires-clause-noted : goal.stand_down-requires-clause-noted
stand_down-requires-clause-noted g c =
    let h = c.loop-track.invariant in
    let one = (first_of (λ t. IsSeatedIn c.args.self.now c.args.seat.now.me.0.round t.work) _ _ _ c.in-Some.ensures.items h.seated).0 in
    subst (λ r. HasNoted r (index_among c.args.self.now.layout) c.loop-track.seat.me.0 (all_of (journals_of c.loop-track.home.journals.items))) (sym one.round_is) h.noted

pub loop-track-init : goal.loop-track-init
loop-track-init g c =
    let rest = c.into_iter-rest.ensures.rest in
    let home = c.requires.home in
    let seat = c.args.seat.now in
    record {
      ready = c.requires.seat.ready;
      parts = omega (arith, ap length rest);
      noted = subst (λ es. HasNoted seat.me.0.round (index_among c.args.self.now.layout) seat.me.0 es) (sym (ap (λ js. all_of (journals_of js)) home.no_journals))
          (bare_noted c.args.self.now seat c.requires.seat);
      seated = subst (All (λ t. IsSeatedIn c.args.self.now seat.me.0.round t.work)) (sym rest) c.requires.seated;
      passes = λ i. c.requires.empty i ++ passes_of (rest i);
      journals = λ i. home.no_journals i ++ journals_from (rest i);
      stops = λ i. home.no_stops i ++ stops_from (rest i);
      others = (refl, refl);
      room_passes = omega (arith, c.requires.passes, ap length rest, ap length c.requires.empty, c.args.passes.now.ok.0);
      room_journals = omega (arith, home.for_journals, ap length rest, ap length home.no_journals, c.args.home.now.journals.ok.0);
      room_stops = omega (arith, home.for_stops, ap length rest, ap length home.no_stops, c.args.home.now.stops.ok.0);
      room_pools = omega (arith, home.for_pools, ap length rest, ap length home.no_pools, c.args.home.now.pools.ok.0);
    }

pub loop-track-preserved : goal.loop-track-preserved
loop-track-preserved g c =
    let h = c.loop-track.invariant in
    let l = c.loop-track in
    let items = c.in-Some.ensures.items in
    let track = c.in-Some.track in
    let sd = c.stand_down.ensures in
    let new = c.stand_down.new in
    let ys = into_iter_items l.rest in
    let rest = into_iter_items c.next.new.self in
    let seated = first_of (λ t. IsSeatedIn c.args.self.now c.args.seat.now.me.0.round t.work) _ _ _ items h.seated in
    record {
      ready = sd.seat;
      parts = omega (arith, h.parts, sd.parts, ap length items);
      noted = subst (λ r. HasNoted r (index_among c.args.self.now.layout) new.seat.me.0 (all_of (journals_of new.home.journals.items))) seated.0.round_is sd.noted;
      seated = seated.1;
      passes = poured (λ t. t.pass) l.passes.items new.passes.items ys rest track _ sd.passes items h.passes;
      journals = poured (λ t. journal_of t) l.home.journals.items new.home.journals.items ys rest track _ sd.journals items h.journals;
      stops = poured (λ t. stop_of t) l.home.stops.items new.home.stops.items ys rest track _ sd.stops items h.stops;
      others = (sd.others.0 ∙ h.others.0, sd.others.1 ∙ h.others.1);
      room_passes = omega (arith, h.room_passes, ap length items, fewer_by_one _ _ _ sd.passes, sd.room, new.passes.ok.0, l.passes.ok.0);
      room_journals = omega (arith, h.room_journals, ap length items, fewer_by_one _ _ _ sd.journals, sd.more.for_journals, new.home.journals.ok.0, l.home.journals.ok.0);
      room_stops = omega (arith, h.room_stops, ap length items, fewer_by_one _ _ _ sd.stops, sd.more.for_stops, new.home.stops.ok.0, l.home.stops.ok.0);
      room_pools = omega (arith, h.room_pools, ap length items, sd.more.pools, sd.more.for_pools, new.home.pools.ok.0, l.home.pools.ok.0);
    }

pub returns-clause-parts : goal.returns-clause-parts
returns-clause-parts g c =
    omega (arith, c.loop-track.invariant.parts, c.in_default.ensures.cases.0, c.loop-track.rest.rest.ok)
