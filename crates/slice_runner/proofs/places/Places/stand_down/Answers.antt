use Rattle.std.proofs.Common.{◌++◌, ◌∷◌, [], ap, ◌∙◌, sym, subst}
use Rattle.stamp_merge.specs.Journals.{all_of}
use Rattle.stamp_merge.specs.Merged.{journals_of}
use Rattle.turn_work.specs.Work.{HasNoted}
use Rattle.machine_places.specs.Laid.{index_among}
use Rattle.slice_runner.proofs.Seats.{all_more}
use Rattle.slice_runner.proofs.places.Places.stand_down.Goals as goal

pub returns-clause-journals : goal.returns-clause-journals
returns-clause-journals g c =
    c.push_reserved-2.ensures.items ∙ ap (λ j. c.args.home.now.journals.items ++ j ∷ []) c.leave-journal.ensures.journal

pub returns-clause-noted : goal.returns-clause-noted
returns-clause-noted g c =
    let w = c.args.track.work in
    let old = c.args.home.now.journals.items in
    let index = index_among c.args.self.now.layout in
    let more = all_more old c.push_reserved-2.new.self.items c.leave-journal.result c.push_reserved-2.ensures.items
    ∙ ap (λ j. all_of (journals_of old) ++ j.entries.items) c.leave-journal.ensures.journal in
    subst (λ es. HasNoted w.seat.me.0.round index c.leave-journal.new.seat.me.0 es) (sym more)
    (c.leave-journal.ensures.noted w.seat.me.0.round index (all_of (journals_of old)) c.requires.noted c.requires.seated.noted)
