-- What the test of parts tests.
use Rattle.std.proofs.Common.{◌∙◌, sym}
use Rattle.vq_split.proofs.Kept.{inside_of}
use Rattle.vq_split.proofs.valid.are_inside.Goals as goal

pub returns-clause-inside : goal.returns-clause-inside
returns-clause-inside c = λ is. inside_of c.args.pages c.args.parts.now (sym c.are_parts.ensures ∙ is)
