-- A walk of the queue that is due, from its next chain on.
use Rattle.std.proofs.Common.{◌≡◌, ap, refl, sym, subst, true, Option, is_some}
use Rattle.std.proofs.lemmas.Bool.{and_from}
use Rattle.vq_split.specs.declared.queue.Queue.{Queue}
use Rattle.queue_device.specs.declared.lanes.Lane.{Lane}
use Rattle.queue_device.specs.Lanes.{lane_of}
use Rattle.queue_device.proofs.CodeGoes.{new_walked}
use Rattle.queue_device.proofs.begun.walk_begun.Goals as goal

pub returns-in-Ok-clause-kept : goal.returns-in-Ok-clause-kept
returns-in-Ok-clause-kept g c = λ kept at shown works.
    let r = c.args.rounds.now in
    c.walk_given.ensures.kept (and_from _ _ kept at)
    (new_walked g.K.Kind.service g.K.Kind.times g.K.Kind.is_work (lane_of c.args.which r) c.args.queue c.lane.result.now.next c.in-Ok.walk c.in-Ok.ensures.first.1
    (ap (λ (l : Lane). l.next) c.lane.ensures) shown c.wanting.ensures.test) works

pub returns-in-Err-clause-kept : goal.returns-in-Err-clause-kept
returns-in-Err-clause-kept g c = λ kept at shown works.
    c.break_given.ensures.kept (and_from _ _ kept at)
    (subst (λ (o : Option Queue). is_some o ≡ true) (sym shown) refl) works
