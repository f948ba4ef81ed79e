use Rattle.std.proofs.Common.{◌≡◌, ℕ, sym, subst, true}
use Rattle.queue_device.specs.declared.phase.Phase.{Phase}
use Rattle.queue_device.specs.declared.phase.Work.TheVariants as work
use Rattle.queue_device.specs.Kept.{is_state}
use Rattle.queue_device.proofs.CodeKept.{between_kept}
use Rattle.queue_device.proofs.begun.begin_step.Goals as goal

pub returns-in-Look-clause-kept : goal.returns-in-Look-clause-kept
returns-in-Look-clause-kept g c = λ kept works.
    let stage = g.K.Kind.stage c.look.new.kind in
    subst (λ (x : Phase). is_state g.K.Kind.service g.K.Kind.times g.K.Kind.is_work x c.look.new.rounds stage ≡ true) (sym c.requires.between)
    (between_kept g.K.Kind.service g.K.Kind.times g.K.Kind.is_work c.look.new.rounds stage (c.look.ensures.kept kept)
    (subst (λ (n : ℕ). g.K.Kind.is_work work.Rest n stage ≡ true) (sym c.look.ensures.pages) (c.look.ensures.rests c.args.rounds.now.pages works)))
