use Rattle.std.proofs.Common.{◌≡◌, sym, subst, true, Option}
use Rattle.dev_core.specs.declared.breaking.BreakStage.TheVariants as breaking
use Rattle.queue_device.specs.Chains.{Chain, Taken}
use Rattle.queue_device.specs.Confined.{is_chain}
use Rattle.queue_device.specs.Kept.{is_fit, is_holding}
use Rattle.queue_device.proofs.CodeGoes.{fit_chain, waits_state}
use Rattle.queue_device.proofs.CodeKept.{hand_break}
use Rattle.queue_device.proofs.going.took.Goals as goal

pub returns-in-None-clause-kept : goal.returns-in-None-clause-kept
returns-in-None-clause-kept g c = λ hold fit works.
    hand_break g.K.Kind.service g.K.Kind.times g.K.Kind.is_work c.args.rounds.now (g.K.Kind.stage c.args.kind.now) c.args.chain hold breaking.Port works

pub returns-then-is_timed-clause-kept : goal.returns-then-is_timed-clause-kept
returns-then-is_timed-clause-kept g c = λ hold fit works.
    let r = c.args.rounds.now in
    rw c.wait.ensures
    (waits_state g.K.Kind.service g.K.Kind.times g.K.Kind.is_work c.args.chain r (g.K.Kind.stage c.args.kind.now) c.in-Some.taken c.new-chain.result
    c.new-chain.ensures hold
    (subst (λ (t : Option Taken). is_fit g.K.Kind.service r.pages c.args.chain.which t ≡ true) c.in-Some.is fit)
    (c.is_timed.ensures.may c.if-is_timed.true) works)

pub returns-else-is_timed-clause-kept : goal.returns-else-is_timed-clause-kept
returns-else-is_timed-clause-kept g c = λ hold fit works.
    let r = c.args.rounds.now in
    c.serve.ensures.kept
    (subst (λ (x : Chain). is_holding g.K.Kind.service g.K.Kind.times
    (record { which = c.args.chain.which; queue = x.queue; head = x.head }) r ≡ true) (sym c.new-chain.ensures) hold)
    (subst (λ (x : Chain). is_chain g.K.Kind.service r.pages c.args.chain.which x ≡ true) (sym c.new-chain.ensures)
    (fit_chain g.K.Kind.service g.K.Kind.times g.K.Kind.is_work c.args.chain r c.in-Some.taken hold
    (subst (λ (t : Option Taken). is_fit g.K.Kind.service r.pages c.args.chain.which t ≡ true) c.in-Some.is fit))) works
