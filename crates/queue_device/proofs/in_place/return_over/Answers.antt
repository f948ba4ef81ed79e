use Rattle.std.proofs.Common.{◌≡◌, is_some, subst, true}
use Rattle.queue_device.specs.declared.lanes.Which.{Which}
use Rattle.queue_device.specs.Lanes.{lane_of}
use Rattle.queue_device.proofs.CodeGoes.{given_state, holding_works}
use Rattle.queue_device.proofs.CodeKept.{hand_some}
use Rattle.queue_device.proofs.in_place.return_over.Goals as goal

pub returns-clause-kept : goal.returns-clause-kept
returns-clause-kept g c = λ hand same hold works.
    let r = c.args.rounds.now in
    let stage = g.K.Kind.stage c.over.new.self in
    rw c.next.ensures
    (given_state g.K.Kind.service g.K.Kind.times g.K.Kind.is_work c.args.which c.due_from-due.result r c.give.new.self
    (g.K.Kind.own c.over.new.self) stage c.give.ensures c.due_from-due.ensures
    (holding_works g.K.Kind.service g.K.Kind.times g.K.Kind.is_work hand r hold)
    (subst (λ (k : Which). is_some (lane_of k r).queue ≡ true) same (hand_some g.K.Kind.service g.K.Kind.times g.K.Kind.is_work r stage hand hold))
    (c.over.ensures.rests r.pages works))
