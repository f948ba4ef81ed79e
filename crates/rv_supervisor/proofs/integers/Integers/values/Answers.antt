use Rattle.std.proofs.Common.{◌∙◌, drop, arith}
use Rattle.std.proofs.lemmas.List.{length-drop, take_all}
use Rattle.rv_supervisor.proofs.integers.Integers.values.Goals as goal

pub returns : goal.returns
returns c =
    c.copy_from_slice.ensures.after
    ∙ take_all 31 (drop 1 c.self.inside.each) (omega (arith, length-drop 1 c.self.inside.each, c.self.told))
    ∙ c.self.view_is
