use Rattle.std.proofs.Common.{◌≡◌, ℕ, sym, subst, true}
use Rattle.vq_split.specs.Inside.{WalkInside}
use Rattle.vq_split.specs.declared.walk.Walk.{Walk}
use Rattle.vq_split.proofs.Kept.{are_of}
use Rattle.dev_core.specs.declared.breaking.BreakStage.TheVariants as breaking
use Rattle.queue_device.specs.declared.phase.InHand.{InHand}
use Rattle.queue_device.specs.declared.phase.Work.TheVariants as work
use Rattle.queue_device.specs.Kept.{is_fit_told, work_after}
use Rattle.queue_device.proofs.CodeGoes.{counted_in, counted_pages, emptied_state, holding_works, working_kept}
use Rattle.queue_device.proofs.CodeKept.{between_kept, hand_break, hand_some}
use Rattle.queue_device.proofs.going.walked.Goals as goal

pub returns-in-More-clause-kept : goal.returns-in-More-clause-kept
returns-in-More-clause-kept g c = λ head hold inside works.
    between_kept g.K.Kind.service g.K.Kind.times g.K.Kind.is_work c.args.rounds.now (g.K.Kind.stage c.args.kind.now)
    (working_kept g.K.Kind.service g.K.Kind.times g.K.Kind.is_work c.args.rounds.now
    (holding_works g.K.Kind.service g.K.Kind.times g.K.Kind.is_work (record { which = c.args.which; queue = c.args.queue; head = head }) c.args.rounds.now hold)) works

pub returns-in-Empty-clause-kept : goal.returns-in-Empty-clause-kept
returns-in-Empty-clause-kept g c = λ head hold inside works.
    let r = c.args.rounds.now in
    let stage = g.K.Kind.stage c.args.kind.now in
    let hand : InHand = record { which = c.args.which; queue = c.args.queue; head = head } in
    rw c.next.ensures
    (emptied_state g.K.Kind.service g.K.Kind.times g.K.Kind.is_work c.args.which c.due_behind-due.result r c.empty.new.self (g.K.Kind.own c.args.kind.now) stage
    c.empty.ensures c.due_behind-due.ensures (holding_works g.K.Kind.service g.K.Kind.times g.K.Kind.is_work hand r hold)
    (hand_some g.K.Kind.service g.K.Kind.times g.K.Kind.is_work r stage hand hold) works)

pub returns-in-Broken-clause-kept : goal.returns-in-Broken-clause-kept
returns-in-Broken-clause-kept g c = λ head hold inside works.
    hand_break g.K.Kind.service g.K.Kind.times g.K.Kind.is_work c.args.rounds.now (g.K.Kind.stage c.args.kind.now)
    (record { which = c.args.which; queue = c.args.queue; head = head }) hold breaking.Port works

pub returns-in-Chain-clause-kept : goal.returns-in-Chain-clause-kept
returns-in-Chain-clause-kept g c = λ head hold inside works.
    let r = c.args.rounds.now in
    let stage = g.K.Kind.stage c.take-told.new.self in
    let pages = counted_pages g.K.Kind.service g.K.Kind.times g.K.Kind.is_work c.args.which r c.count.new.self c.count.ensures in
    let parts = subst (λ (came : Walk). WalkInside r.pages came) c.in-Chain.is inside in
    let took = c.take-told.ensures.work r.pages c.few_pages.ensures works (are_of r.pages c.in-Chain.parts parts) in
    c.take_told.ensures.kept
    (counted_in g.K.Kind.service g.K.Kind.times g.K.Kind.is_work c.args.which c.args.queue head c.in-Chain.head r c.count.new.self stage c.count.ensures hold)
    (subst (λ (n : ℕ). is_fit_told g.K.Kind.service n c.args.which c.take-told.result ≡ true) (sym pages) took.1)
    (subst (λ (n : ℕ). g.K.Kind.is_work (work_after c.take-told.result (work.Take c.args.which)) n stage ≡ true) (sym pages)
    took.0)
