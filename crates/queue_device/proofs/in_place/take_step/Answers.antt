use Rattle.std.proofs.Common.{◌≡◌, Option, sym, subst, true}
use Rattle.queue_device.specs.Chains.{Taken}
use Rattle.queue_device.specs.declared.phase.Phase.{Phase}
use Rattle.queue_device.specs.declared.phase.Work.TheVariants as work
use Rattle.queue_device.specs.Kept.{is_fit_told, is_state, work_after}
use Rattle.queue_device.proofs.CodeGoes.{take_parts}
use Rattle.queue_device.proofs.CodeKept.{take_kept}
use Rattle.queue_device.proofs.in_place.take_step.Goals as goal

pub returns-in-None-clause-kept : goal.returns-in-None-clause-kept
returns-in-None-clause-kept g c = λ state.
    let r = c.args.rounds.now in
    let stage = g.K.Kind.stage c.args.kind.now in
    let after = g.K.Kind.stage c.take_on.new.self in
    let p = take_parts g.K.Kind.service g.K.Kind.times g.K.Kind.is_work c.args.chain r stage
    (subst (λ (x : Phase). is_state g.K.Kind.service g.K.Kind.times g.K.Kind.is_work x r stage ≡ true) c.requires.takes state) in
    let told = c.take_on.ensures.work r.pages c.args.chain.which c.few_pages.ensures p.1 in
    subst (λ (x : Phase). is_state g.K.Kind.service g.K.Kind.times g.K.Kind.is_work x r after ≡ true) (sym c.requires.takes)
    (take_kept g.K.Kind.service g.K.Kind.times g.K.Kind.is_work r after c.args.chain p.0
    (subst (λ (t : Option (Option Taken)). g.K.Kind.is_work (work_after t (work.Take c.args.chain.which)) r.pages after ≡ true) c.in-None.is told.0))

pub returns-in-Some-clause-kept : goal.returns-in-Some-clause-kept
returns-in-Some-clause-kept g c = λ state.
    let r = c.args.rounds.now in
    let stage = g.K.Kind.stage c.args.kind.now in
    let after = g.K.Kind.stage c.take_on.new.self in
    let p = take_parts g.K.Kind.service g.K.Kind.times g.K.Kind.is_work c.args.chain r stage
    (subst (λ (x : Phase). is_state g.K.Kind.service g.K.Kind.times g.K.Kind.is_work x r stage ≡ true) c.requires.takes state) in
    let told = c.take_on.ensures.work r.pages c.args.chain.which c.few_pages.ensures p.1 in
    c.take_over.ensures.kept p.0
    (subst (λ (t : Option (Option Taken)). is_fit_told g.K.Kind.service r.pages c.args.chain.which t ≡ true) c.in-Some.is told.1)
    (subst (λ (t : Option (Option Taken)). g.K.Kind.is_work (work_after t (work.Take c.args.chain.which)) r.pages after ≡ true) c.in-Some.is told.0)
