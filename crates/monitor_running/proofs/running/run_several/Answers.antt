use Rattle.std.proofs.Common.{◌≡◌, ◌∙◌, ap, false, true, refl}
use Rattle.monitor_running.specs.declared.pacing.Pace.{Pace}
use Rattle.monitor_running.proofs.Paces.{rotation_made, slice_made}
use Rattle.monitor_running.proofs.running.run_several.Goals as goal

pub returns-then-is_slice_due-clause-paced : goal.returns-then-is_slice_due-clause-paced
returns-then-is_slice_due-clause-paced g c = λ several.
    slice_made g.G.Gate.tally c.args.steering.now c.is_slice_due.new.self c.run_guest.result c.run_guest.new.steering _ _
    (c.if-is_slice_due.ensures.due.0 refl) c.if-is_slice_due.ensures.counted several c.run_guest.ensures.paced

pub returns-clause-paced : goal.returns-clause-paced
returns-clause-paced g c = λ several.
    rotation_made g.G.Gate.tally c.args.steering.now c.is_slice_due.new.self c.run_in_rotation.result c.run_in_rotation.new.steering _ _
    (λ none. let k : false ≡ true = c.if-is_slice_due.ensures.due.1 none in cc)
    c.if-is_slice_due.ensures.counted c.run_in_rotation.ensures.left several

pub returns-then-is_slice_due-clause-steps : goal.returns-then-is_slice_due-clause-steps
returns-then-is_slice_due-clause-steps g c =
    c.run_guest.ensures.steps ∙ ap (λ (p : Pace). p.steps) c.if-is_slice_due.ensures.counted

pub returns-clause-steps : goal.returns-clause-steps
returns-clause-steps g c =
    c.run_in_rotation.ensures.steps ∙ ap (λ (p : Pace). p.steps) c.if-is_slice_due.ensures.counted
