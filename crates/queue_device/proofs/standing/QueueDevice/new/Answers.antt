-- A device that has done nothing, of a kind at rest, may be kept.
use Rattle.std.proofs.Common.{◌≡◌, ap, refl, ◌∙◌, Bool, true, ◌&&◌}
use Rattle.std.proofs.lemmas.Bool.{and_from}
use Rattle.queue_device.specs.declared.device.QueueRounds.{QueueRounds}
use Rattle.queue_device.specs.declared.phase.Phase.TheVariants.{Between}
use Rattle.queue_device.specs.declared.phase.Work.TheVariants as work
use Rattle.queue_device.specs.Kept.{are_own_lanes, is_state}
use Rattle.queue_device.specs.Lanes.{new_rounds}
use Rattle.queue_device.proofs.KeptRounds.{new_own}
use Rattle.queue_device.proofs.standing.QueueDevice.new.Goals as goal

pub invariant_of-result : goal.invariant_of-result
invariant_of-result g c =
    let rounds = new_rounds c.args.port c.args.pages in
    let own : Bool = are_own_lanes g.K.Kind.service g.K.Kind.times rounds in
    let fresh : is_state g.K.Kind.service g.K.Kind.times g.K.Kind.is_work Between rounds (g.K.Kind.stage c.args.kind) ≡ true =
    and_from (own && true && true) (g.K.Kind.is_work work.Rest c.args.pages (g.K.Kind.stage c.args.kind))
    (and_from (own && true) true (and_from own true (new_own g.K.Kind.service g.K.Kind.times c.args.port c.args.pages) refl) refl)
    c.requires in
    ap (λ (d : QueueRounds g.row.K.Denot).
    is_state g.K.Kind.service g.K.Kind.times g.K.Kind.is_work d.phase d.rounds (g.K.Kind.stage d.kind)) c.new.ensures.kept ∙ fresh
