use Rattle.std.proofs.Common.{subst, refl, ℕ, List}
use Rattle.vm_outside.specs.Passing.{TakesAll, TakesPart}
use Rattle.vm_outside.proofs.Parts.{part_more, takes_behind}
use Rattle.load_gen.proofs.Texts.{diff_text}
use Rattle.load_gen.proofs.rounds.write_diff.Goals as goal

pub returns-in_default-clause-takes : goal.returns-in_default-clause-takes
returns-in_default-clause-takes g c = λ told.
    subst (λ (t : List ℕ). TakesPart (g.K.Sink.known c.args.sink.now).taken (g.K.Sink.known c.write_numbered.new.sink).taken t)
    (diff_text c.args.number _ _ _ refl refl refl)
    (part_more _ _ _ _ (c.in_default.ensures.takes told))

pub returns-clause-takes : goal.returns-clause-takes
returns-clause-takes g c = λ told.
    subst (λ (t : List ℕ). TakesAll (g.K.Sink.known c.args.sink.now).taken (g.K.Sink.known c.write_numbered-2.new.sink).taken c.write_numbered-2.result t)
    (diff_text c.args.number _ _ _ refl refl refl)
    (takes_behind _ _ _ _ _ c.write_numbered-2.result (c.in-Ok.ensures.takes told)
    (c.write_numbered-2.ensures.takes (c.write_numbered.ensures.called.lasts.still told)))
