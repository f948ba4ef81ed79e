-- The answer leaves the rounds as they were, but for what was received.
use Rattle.std.proofs.Common.{◌≡◌, ap, sym, subst, true, Option}
use Rattle.queue_device.specs.declared.lanes.Rounds.{Rounds}
use Rattle.queue_device.specs.declared.phase.Work.TheVariants as work
use Rattle.queue_device.specs.Kept.{are_kept, work_after}
use Rattle.queue_device.proofs.CodeGoes.{answered_state}
use Rattle.queue_device.proofs.CodeKept.{received_kept}
use Rattle.queue_device.proofs.going.answer_told.Goals.{then-received, else-received}
use Rattle.queue_device.proofs.going.answer_told.Goals as goal

pub returns-after-received-clause-kept : goal.returns-after-received-clause-kept
returns-after-received-clause-kept g c = λ kept asking works.
    let rest = subst (λ (told : Option _). g.K.Kind.is_work (work_after told work.Answer) c.args.rounds.now.pages (g.K.Kind.stage c.args.kind.now) ≡ true)
    c.in-Some.is works in
    rw c.next.ensures
    (elim c.if-received.branch [
      | then-received w ↦
          answered_state g.K.Kind.service g.K.Kind.times g.K.Kind.is_work c.due_from-due.result c.args.rounds.now c.if-received.rounds
          (g.K.Kind.own c.args.kind.now) (g.K.Kind.stage c.args.kind.now)
          (subst (λ (r : Rounds). are_kept g.K.Kind.service g.K.Kind.times r ≡ true) (sym w.rounds-is)
          (received_kept g.K.Kind.service g.K.Kind.times c.args.rounds.now kept asking))
          (ap (λ (r : Rounds). r.pages) w.rounds-is) c.due_from-due.ensures rest
      | else-received w ↦
          answered_state g.K.Kind.service g.K.Kind.times g.K.Kind.is_work c.due_from-due.result c.args.rounds.now c.if-received.rounds
          (g.K.Kind.own c.args.kind.now) (g.K.Kind.stage c.args.kind.now)
          (subst (λ (r : Rounds). are_kept g.K.Kind.service g.K.Kind.times r ≡ true) (sym w.rounds-is) kept)
          (ap (λ (r : Rounds). r.pages) w.rounds-is) c.due_from-due.ensures rest
    ])
