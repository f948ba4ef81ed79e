use Rattle.load_gen.specs.Load.{opening, rounds, rounds_of}
use Rattle.load_gen.proofs.Texts.{items_behind, items_cut}
use Rattle.load_gen.proofs.generating.generate.Goals as goal

pub returns-in_default-clause-takes : goal.returns-in_default-clause-takes
returns-in_default-clause-takes g c = λ told.
    items_cut (opening c.args.number) (rounds c.args.number (rounds_of c.args.number)) _ _ (c.in_default.ensures.takes told)

pub returns-clause-takes : goal.returns-clause-takes
returns-clause-takes g c = λ told.
    items_behind (opening c.args.number) (rounds c.args.number (rounds_of c.args.number)) _ _ _ c.write_rounds.result
    (c.in-Ok.ensures.takes told) (c.write_rounds.ensures.takes (c.write_opening.ensures.called.lasts.still told))
