use Rattle.std.proofs.Common.{◌≡◌, ℕ, Option, sym, subst, true}
use Rattle.queue_device.specs.declared.phase.Phase.{Phase}
use Rattle.queue_device.specs.declared.phase.Work.TheVariants as work
use Rattle.queue_device.specs.Kept.{is_state, work_after}
use Rattle.queue_device.proofs.CodeGoes.{serve_parts}
use Rattle.queue_device.proofs.CodeKept.{serve_kept}
use Rattle.queue_device.proofs.inside.serve_given.Goals as goal

pub returns-in-None-clause-kept : goal.returns-in-None-clause-kept
returns-in-None-clause-kept g c = λ state.
    let r = c.args.rounds.now in
    let stage = g.K.Kind.stage c.args.kind.now in
    let after = g.K.Kind.stage c.serve_on.new.self in
    let p = serve_parts g.K.Kind.service g.K.Kind.times g.K.Kind.is_work c.args.chain r stage
    (subst (λ (x : Phase). is_state g.K.Kind.service g.K.Kind.times g.K.Kind.is_work x r stage ≡ true) c.requires.serves state) in
    subst (λ (x : Phase). is_state g.K.Kind.service g.K.Kind.times g.K.Kind.is_work x r after ≡ true) (sym c.requires.serves)
    (serve_kept g.K.Kind.service g.K.Kind.times g.K.Kind.is_work r after c.args.chain p.0
    (subst (λ (told : Option (Option ℕ)). g.K.Kind.is_work (work_after told (work.Serve c.args.chain.which)) r.pages after ≡ true) c.in-None.is
    (c.serve_on.ensures.work r.pages c.args.chain.which c.few_pages.ensures p.1)))

pub returns-in-Some-clause-kept : goal.returns-in-Some-clause-kept
returns-in-Some-clause-kept g c = λ state.
    let r = c.args.rounds.now in
    let stage = g.K.Kind.stage c.args.kind.now in
    let after = g.K.Kind.stage c.serve_on.new.self in
    let p = serve_parts g.K.Kind.service g.K.Kind.times g.K.Kind.is_work c.args.chain r stage
    (subst (λ (x : Phase). is_state g.K.Kind.service g.K.Kind.times g.K.Kind.is_work x r stage ≡ true) c.requires.serves state) in
    c.serve_over.ensures.kept r after p.0
    (subst (λ (told : Option (Option ℕ)). g.K.Kind.is_work (work_after told (work.Serve c.args.chain.which)) r.pages after ≡ true) c.in-Some.is
    (c.serve_on.ensures.work r.pages c.args.chain.which c.few_pages.ensures p.1))
