use Rattle.std.proofs.Common.{◌≡◌, Some, ap, false, sym, ◌∙◌}
use Rattle.vm_types.specs.declared.op.Op.{Op}
use Rattle.guest_pages.specs.Made.{is_ready}
use Rattle.flat_guest.proofs.Determined.{wants_one}
use Rattle.vm_world.specs.Worlds.{pages_of, place_in}
use Rattle.vm_world.proofs.Events.{never_spare, not_refused, refused_by, wanted}
use Rattle.vm_world.proofs.world.World.step_with.Goals as goal

pub returns-in-Some-clause-promised : goal.returns-in-Some-clause-promised
returns-in-Some-clause-promised c = λ g op is wants none ready.
    absurd (not_refused c.args.self.now g c.args.actor op c.args.op c.args.reply c.in-Some.why is
    c.requires wants none (sym c.refusal_of.ensures ∙ c.in-Some.is))

pub returns-in-Some-clause-refused : goal.returns-in-Some-clause-refused
returns-in-Some-clause-refused c = λ g is.
    refused_by c.args.self.now g c.args.actor c.args.op c.args.reply c.in-Some.why is c.requires
    (sym c.refusal_of.ensures ∙ c.in-Some.is)

pub returns-in-Some-clause-spare : goal.returns-in-Some-clause-spare
returns-in-Some-clause-spare c = λ spare.
    absurd (never_spare c.args.op c.args.reply (sym c.refusal_of.ensures ∙ c.in-Some.is ∙ ap Some spare))

pub returns-then-not-is_ready-clause-refused : goal.returns-then-not-is_ready-clause-refused
returns-then-not-is_ready-clause-refused c = λ g is.
    (c.args.op, wanted c.args.self.now g c.args.actor c.args.op is c.requires, sym c.refusal_of.ensures ∙ c.in_default.is)

pub returns-then-not-is_ready-clause-spare : goal.returns-then-not-is_ready-clause-spare
returns-then-not-is_ready-clause-spare c = λ spare.
    (c.args.op, c.requires, sym c.is_ready.ensures ∙ c.if-not-is_ready.true)

pub returns-then-not-is_ready-clause-promised : goal.returns-then-not-is_ready-clause-promised
returns-then-not-is_ready-clause-promised c = λ g op is wants none ready.
    let w = c.args.self.now in
    let same : op ≡ c.args.op = wants_one g c.args.actor op c.args.op wants (wanted c.args.self.now g c.args.actor c.args.op is c.requires) in
    let lacks : is_ready (pages_of w) (place_in w c.args.op) ≡ false = sym c.is_ready.ensures ∙ c.if-not-is_ready.true in
    sym lacks ∙ ap (λ (o : Op). is_ready (pages_of w) (place_in w o)) (sym same) ∙ ready
