use Rattle.std.proofs.Common.{◌∙◌, ap, sym, subst}
use Rattle.api_rules.specs.Table.{changed}
use Rattle.flat_machine.specs.Ready.{IsFitting}
use Rattle.monitor_plans.specs.Plans.{IsEarly}
use Rattle.monitor_machine.specs.Live.{Live}
use Rattle.monitor_machine.specs.Plans.{TakesChange}
use Rattle.monitor_machine.specs.Seen.{live_of}
use Rattle.monitor_machine.proofs.Configured.{applied_is, applied_stays, stays_early, stood_told, takes_change, told_early}
use Rattle.monitor_machine.proofs.machine.LiveMachine.take_change.Goals as goal

pub tell-requires : goal.tell-requires
tell-requires c = subst (λ (l : Live). IsFitting l.config c.args.call) (sym c.stand.ensures) c.requires.fits

pub apply-applied-requires : goal.apply-applied-requires
apply-applied-requires c =
    let same = stood_told c.args.self.now c.stand.new.self c.tell.new.self c.args.call c.stand.ensures c.tell.ensures.rest in
    subst (λ (l : Live). IsFitting l.config c.args.call) (sym (c.self.view_is ∙ same)) c.requires.fits

pub invariant_of-self : goal.invariant_of-self
invariant_of-self c =
    let it = c.args.call in
    let same = stood_told c.args.self.now c.stand.new.self c.tell.new.self it c.stand.ensures c.tell.ensures.rest in
    let early = stays_early it c.args.self.now.paused c.args.self.now.guest c.requires.early in
    applied_stays (live_of c.self.inside) it c.apply-applied.result c.apply-applied.new.self c.apply-applied.ensures.ok c.apply-applied.ensures.err
    (subst (λ (l : Live). IsFitting l.config it) (sym (c.self.view_is ∙ same)) c.requires.fits)
    (subst (λ (l : Live). IsEarly it l.guest) (sym c.self.view_is)
    (told_early it c.stand.new.self.config c.stand.new.self.guest c.tell.new.self.guest c.tell.ensures.tells
    (subst (λ (l : Live). IsEarly it l.guest) (sym c.stand.ensures) early))) c.self.invariant

pub returns : goal.returns
returns c = λ free.
    let it = c.args.call in
    let made = applied_is c.apply-applied.result _ (c.apply-applied.ensures.succeeds free) c.apply-applied.ensures.ok in
    subst (λ (l : Live). TakesChange it c.args.self.now (record l { config = c.apply-applied.new.self })) (sym c.self.view_is)
    (takes_change c.args.self.now c.stand.new.self c.tell.new.self it c.apply-applied.new.self c.stand.ensures c.tell.ensures.tells c.tell.ensures.rest
    (made ∙ ap (λ (l : Live). changed l.config it) c.self.view_is))
