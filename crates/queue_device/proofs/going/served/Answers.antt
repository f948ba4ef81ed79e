use Rattle.std.proofs.Common.{refl}
use Rattle.dev_core.specs.declared.breaking.BreakStage.TheVariants as breaking
use Rattle.dev_core.specs.declared.returning.ReturnStage.TheVariants as returning
use Rattle.queue_device.proofs.CodeKept.{hand_break, return_kept}
use Rattle.queue_device.proofs.going.served.Goals as goal

pub returns-in-None-clause-kept : goal.returns-in-None-clause-kept
returns-in-None-clause-kept g c = λ r h hold works.
    hand_break g.K.Kind.service g.K.Kind.times g.K.Kind.is_work r h c.args.chain hold breaking.Port works

pub returns-in-Some-clause-kept : goal.returns-in-Some-clause-kept
returns-in-Some-clause-kept g c = λ r h hold works.
    return_kept g.K.Kind.service g.K.Kind.times g.K.Kind.is_work r h c.args.chain hold c.in-Some.len returning.Pair refl refl works
