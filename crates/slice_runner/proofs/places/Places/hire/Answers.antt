use Rattle.std.proofs.Common.{◌≡◌, ◌≤◌, [], refl, sym, ap, ◌∙◌, ◌++◌, ◌∷◌, length, subst, vec_capacity, All, arith}
use Rattle.std.specs.Vec.Iter.{into_iter_items}
use Rattle.std.proofs.lemmas.List.Elements.{All-nil, All-push, All-same}
use Rattle.slice_runner.specs.Runs.{Begins}
use Rattle.slice_runner.specs.Seats.{IsSeatedIn}
use Rattle.slice_runner.specs.Staff.{AreNumbered, passes_of}
use Rattle.slice_runner.proofs.Staff.{all_but_last, all_over, begin_more, begins_with, fewer_by_one, last_one, moved, none_left, numbered_more}
use Rattle.slice_runner.proofs.places.Places.hire.Goals as goal

pub track_of-track-requires-clause-journal : goal.track_of-track-requires-clause-journal
track_of-track-requires-clause-journal g c =
    last_one (λ journal. journal.items ≡ []) _ _ _ c.take_last-journal.ensures c.loop-number.invariant.blank

pub track_of-track-requires-clause-parts : goal.track_of-track-requires-clause-parts
track_of-track-requires-clause-parts g c =
    omega (arith, c.loop-number.invariant.parts, c.requires.parts, c.loop-number-test.true)

pub loop-number-init : goal.loop-number-init
loop-number-init g c =
    let none = c.requires.room.1.no_tracks in
    let room = c.requires.room.1 in
    let same = ap length c.into_iter-rest.ensures.rest in
    record {
      seat = c.requires.seat;
      parts = omega arith;
      round = refl;
      sit = subst (All (λ t. IsSeatedIn c.args.self.now c.args.seat.now.me.0.round t.work)) (sym none) (All-nil (λ t. IsSeatedIn c.args.self.now c.args.seat.now.me.0.round t.work));
      passes = ap (λ ts. passes_of ts ++ into_iter_items c.into_iter-rest.result) none ∙ c.into_iter-rest.ensures.rest;
      numbered = subst (AreNumbered c.args.harts 0) (sym none) tt;
      begin = λ n blanks hold filled. subst (All (λ t. Begins n blanks t)) (sym none) (All-nil (λ t. Begins n blanks t));
      number = sym (ap length none);
      passes_left = omega (arith, same, c.requires.passes);
      fewer = omega (arith, same);
      journals = omega (arith, room.blank);
      blank = room.are_blank;
      hold = λ n hold. hold;
      pools = omega (arith, room.pools);
      filled = λ blanks filled. filled;
      room = room.for_tracks;
    }

pub loop-number-preserved : goal.loop-number-preserved
loop-number-preserved g c =
    let h = c.loop-number.invariant in
    let l = c.loop-number in
    let passes = c.in-Some.ensures.items in
    let items = c.push_reserved.ensures.items in
    let made = c.track_of-track.ensures in
    let taken = c.take_last-journal.ensures in
    let track = c.track_of-track.result in
    record {
      seat = made.seat;
      parts = omega (arith, ap (λ v. v.parts) made.fewer, h.parts, c.requires.parts, c.loop-number-test.true);
      round = ap (λ v. v.round) made.fewer ∙ h.round;
      sit =
          All-same (λ t. IsSeatedIn c.args.self.now c.args.seat.now.me.0.round t.work) _ _ items
          (All-push (λ t. IsSeatedIn c.args.self.now c.args.seat.now.me.0.round t.work) l.tracks.items track h.sit
          (subst (λ r. IsSeatedIn c.args.self.now r track.work) h.round made.seated));
      passes = moved (λ t. t.pass) l.tracks.items c.push_reserved.new.self.items track (into_iter_items l.rest) (into_iter_items c.next.new.self) _ items
          (passes ∙ ap (λ p. p ∷ into_iter_items c.next.new.self) (sym made.pass)) h.passes;
      numbered = numbered_more c.args.harts l.tracks.items c.push_reserved.new.self.items track l.number h.numbered h.number (made.id ∙ c.actor_at.ensures) items;
      begin = λ n blanks hold filled. begin_more n blanks l.tracks.items c.push_reserved.new.self.items track (h.begin n blanks hold filled)
          (begins_with n blanks track (length c.take_last-pool.result.items)
          (last_one (λ pool. length pool.items ≡ blanks) _ _ _ c.take_last-pool.ensures (h.filled blanks filled))
          (made.begins n (last_one (λ journal. n ≤ vec_capacity journal) _ _ _ taken (h.hold n hold)))) items;
      number = omega (arith, h.number, fewer_by_one _ _ _ items);
      passes_left = omega (arith, h.passes_left, ap length passes);
      fewer = omega (arith, h.fewer, ap length passes);
      journals = omega (arith, h.journals, fewer_by_one _ _ _ taken);
      blank = all_but_last (λ journal. journal.items ≡ []) _ _ _ taken h.blank;
      hold = λ n hold. all_but_last (λ journal. n ≤ vec_capacity journal) _ _ _ taken (h.hold n hold);
      pools = omega (arith, h.pools, fewer_by_one _ _ _ c.take_last-pool.ensures);
      filled = λ blanks filled. all_but_last (λ pool. length pool.items ≡ blanks) _ _ _ c.take_last-pool.ensures (h.filled blanks filled);
      room = omega (arith, h.room, c.push_reserved.ensures.capacity);
    }

pub returns-clause-hired : goal.returns-clause-hired
returns-clause-hired g c = λ n blanks hold filled.
    let h = c.loop-number.invariant in
    let l = c.loop-pass in
    let passes = none_left (into_iter_items l.rest) (omega (arith, c.in_default-next.ensures.cases.0, l.rest.rest.ok)) in
    record {
      passes_are = sym (ap (λ xs. passes_of c.loop-number.tracks.items ++ (l.left.items ++ xs)) passes ∙ ap (λ xs. passes_of c.loop-number.tracks.items ++ xs) (all_over l.left.items)) ∙ l.invariant.passes;
      numbered = h.numbered;
      begin = h.begin n blanks hold filled;
    }
