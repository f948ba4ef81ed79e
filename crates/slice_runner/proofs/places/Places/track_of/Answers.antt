use Rattle.std.proofs.Common.{◌≤◌, ap, ◌∙◌, sym, subst, refl, vec_capacity}
use Rattle.machine_places.specs.Laid.{index_among}
use Rattle.slice_runner.proofs.Seats.{bare_fewer, seated_first}
use Rattle.slice_runner.proofs.places.Places.track_of.Goals as goal

pub returns-clause-seat : goal.returns-clause-seat
returns-clause-seat g c =
    bare_fewer c.args.self.now c.args.seat.now c.new.new.seat c.requires.seat c.new.ensures.left c.new.ensures.seat

pub returns-clause-seated : goal.returns-clause-seated
returns-clause-seated g c =
    seated_first c.args.self.now c.args.seat.now c.new.result c.requires.seat c.new.ensures.work (c.new.ensures.noted (index_among c.args.self.now.layout)) (ap (λ j. j.items) c.new.ensures.begins.2 ∙ c.requires.journal)

pub returns-clause-begins : goal.returns-clause-begins
returns-clause-begins g c = λ n room.
    let made = c.new.ensures.begins in
    record {
      empty = ap (λ j. j.items) made.2 ∙ c.requires.journal;
      clock = made.1;
      full = refl;
      room = subst (λ j. n ≤ vec_capacity j) (sym made.2) room;
      pool = refl;
    }
