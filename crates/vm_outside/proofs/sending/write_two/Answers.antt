use Rattle.vm_outside.proofs.Parts.{part_more, takes_behind}
use Rattle.vm_outside.proofs.sending.write_two.Goals as goal

pub returns-in_default-clause-takes : goal.returns-in_default-clause-takes
returns-in_default-clause-takes g c = λ told.
    part_more _ _ c.args.one.now c.args.two.now (c.in_default.ensures.takes told)

pub returns-clause-takes : goal.returns-clause-takes
returns-clause-takes g c = λ told.
    takes_behind _ _ _ c.args.one.now c.args.two.now c.write_all-2.result (c.in-Ok.ensures.takes told)
    (c.write_all-2.ensures.takes (c.write_all.ensures.called.lasts.still told))
