use Rattle.std.proofs.Common.{subst, refl, ℕ, List}
use Rattle.std.specs.Fmt.{digits}
use Rattle.vm_outside.specs.Passing.{TakesAll}
use Rattle.load_gen.proofs.Texts.{opening_text}
use Rattle.load_gen.proofs.beginning.write_opening.Goals as goal

pub returns-clause-takes : goal.returns-clause-takes
unfolding digits
returns-clause-takes g c = λ told.
    subst (λ (t : List ℕ). TakesAll (g.K.Sink.known c.args.sink.now).taken (g.K.Sink.known c.write_three.new.sink).taken c.write_three.result t)
    (opening_text c.args.number _ _ c.word_digits.ensures refl)
    (c.write_three.ensures.takes told)
