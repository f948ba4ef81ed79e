-- A part within the length is set within it.
use Rattle.std.proofs.Common.{◌∙◌, ap, List}
use Rattle.std.proofs.Math.Seq.{take-set-lt}
use Rattle.std.specs.Prelude.{slice_set}
use Rattle.vq_split.specs.declared.queue.Part.{Part}
use Rattle.vq_split.proofs.queue.PartList.set.Goals as goal

pub returns-then-index-self : goal.returns-then-index-self
returns-then-index-self c =
    take-set-lt c.self.inside.len c.self.inside.parts c.args.index c.args.part c.if-index-self.true
    ∙ ap (λ (z : List Part). slice_set z c.args.index c.args.part) c.self.view_is
