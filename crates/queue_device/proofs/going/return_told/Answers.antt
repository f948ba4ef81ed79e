use Rattle.std.proofs.Common.{◌≡◌, ◌∙◌, ap, refl, sym, subst, true}
use Rattle.std.proofs.lemmas.Bool.{and_from}
use Rattle.device_trace.specs.Doing.{Doing}
use Rattle.device_trace.specs.Script.{Ends, perform}
use Rattle.vq_split.proofs.Kept.{is_eq}
use Rattle.dev_core.specs.declared.returning.ReturnStage.{ReturnStage}
use Rattle.dev_core.specs.Returning.{return_left}
use Rattle.queue_device.specs.declared.phase.InHand.{InHand}
use Rattle.queue_device.specs.Kept.{is_told}
use Rattle.queue_device.specs.Left.{queued, used_chain}
use Rattle.queue_device.specs.Rounds.{given_back}
use Rattle.queue_device.specs.Service.{Queued}
use Rattle.queue_device.proofs.CodeKept.{return_kept}
use Rattle.queue_device.proofs.going.return_told.Goals as goal

pub returns-in-Pair-clause-kept : goal.returns-in-Pair-clause-kept
returns-in-Pair-clause-kept g c = λ hold may works.
    return_kept g.K.Kind.service g.K.Kind.times g.K.Kind.is_work c.args.rounds.now (g.K.Kind.stage c.args.kind.now) c.args.chain hold c.args.len c.args.stage
    (subst (λ (stage : ReturnStage). is_told stage c.args.len c.args.chain.head ≡ true) (sym c.in-Pair.is) refl) may works

pub returns-in-Half-clause-kept : goal.returns-in-Half-clause-kept
returns-in-Half-clause-kept g c = λ hold may works.
    return_kept g.K.Kind.service g.K.Kind.times g.K.Kind.is_work c.args.rounds.now (g.K.Kind.stage c.args.kind.now) (record { which = c.args.chain.which; queue = c.args.chain.queue; head = 0 }) hold c.args.len c.args.stage
    (subst (λ (stage : ReturnStage). is_told stage c.args.len 0 ≡ true) (sym c.in-Half.is) (is_eq 0 0 refl)) may works

pub returns-in-Index-clause-left : goal.returns-in-Index-clause-left
returns-in-Index-clause-left g c = λ t is.
    let r = c.args.rounds.now in
    let told : InHand = record { which = c.args.chain.which; queue = c.args.chain.queue; head = 0 } in
    let same : return_left c.args.stage (used_chain told 0 r) ≡ return_left c.args.stage (used_chain c.args.chain c.args.len r) =
    subst (λ (stage : ReturnStage). return_left stage (used_chain told 0 r) ≡ return_left stage (used_chain c.args.chain c.args.len r))
    (sym c.in-Index.is) refl in
    ap (λ (u : Doing (Unit {0})). perform u (queued r (g.K.Kind.own c.args.kind.now))
    (λ (e : Queued _) done. Ends (given_back g.K.Kind.service c.args.chain.which e))) (same ∙ is)

pub returns-in-Index-clause-kept : goal.returns-in-Index-clause-kept
returns-in-Index-clause-kept g c = λ hold may works.
    return_kept g.K.Kind.service g.K.Kind.times g.K.Kind.is_work c.args.rounds.now (g.K.Kind.stage c.args.kind.now) (record { which = c.args.chain.which; queue = c.args.chain.queue; head = 0 }) hold 0 c.args.stage
    (subst (λ (stage : ReturnStage). is_told stage 0 0 ≡ true) (sym c.in-Index.is) (and_from _ _ (is_eq 0 0 refl) (is_eq 0 0 refl))) may works

pub returns-in-Event-clause-kept : goal.returns-in-Event-clause-kept
returns-in-Event-clause-kept g c = λ hold may works.
    return_kept g.K.Kind.service g.K.Kind.times g.K.Kind.is_work c.args.rounds.now (g.K.Kind.stage c.args.kind.now) (record { which = c.args.chain.which; queue = c.args.chain.queue; head = 0 }) hold 0 c.args.stage
    (subst (λ (stage : ReturnStage). is_told stage 0 0 ≡ true) (sym c.in-Event.is) (and_from _ _ (is_eq 0 0 refl) (is_eq 0 0 refl))) may works

pub returns-in-Interrupt-clause-kept : goal.returns-in-Interrupt-clause-kept
returns-in-Interrupt-clause-kept g c = λ hold may works.
    return_kept g.K.Kind.service g.K.Kind.times g.K.Kind.is_work c.args.rounds.now (g.K.Kind.stage c.args.kind.now) (record { which = c.args.chain.which; queue = c.args.chain.queue; head = 0 }) hold 0 c.args.stage
    (subst (λ (stage : ReturnStage). is_told stage 0 0 ≡ true) (sym c.in-Interrupt.is) (and_from _ _ (is_eq 0 0 refl) (is_eq 0 0 refl))) may works

pub returns-in-Line-clause-kept : goal.returns-in-Line-clause-kept
returns-in-Line-clause-kept g c = λ hold may works.
    return_kept g.K.Kind.service g.K.Kind.times g.K.Kind.is_work c.args.rounds.now (g.K.Kind.stage c.args.kind.now) (record { which = c.args.chain.which; queue = c.args.chain.queue; head = 0 }) hold 0 c.args.stage
    (subst (λ (stage : ReturnStage). is_told stage 0 0 ≡ true) (sym c.in-Line.is) (and_from _ _ (is_eq 0 0 refl) (is_eq 0 0 refl))) may works
