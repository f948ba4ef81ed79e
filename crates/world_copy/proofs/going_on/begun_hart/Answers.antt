use Rattle.std.proofs.Common.{sym, subst, ◌∙◌, Some}
use Rattle.hart_trace.specs.States.{Hart, LeadsTo}
use Rattle.snap_harts.specs.Copy.{regs_of}
use Rattle.flat_snapshot.specs.Carried.{steps_at}
use Rattle.world_copy.proofs.GoingOn.{leads_begun}
use Rattle.world_copy.proofs.going_on.begun_hart.Goals as goal

pub returns-clause-leads : goal.returns-clause-leads
returns-clause-leads c =
    let saved = c.args.saved.now in
    subst (λ (q : Hart). LeadsTo (regs_of saved) (steps_at saved.place saved.pc) q)
    (sym (c.from_parts.ensures ∙ (λ i. record { regs = c.regs.ensures i; begun = Some c.args.word })))
    (leads_begun saved c.args.word c.requires.place c.ranges.word.fits c.requires.asks)
