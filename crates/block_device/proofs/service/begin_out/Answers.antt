-- The parts that are read stay where they are.
use Rattle.std.proofs.Common.{sym, subst, List}
use Rattle.vq_split.specs.declared.queue.Part.{Part}
use Rattle.vq_split.specs.Inside.{AreInside}
use Rattle.block_device.proofs.service.begin_out.Goals as goal

pub returns-then-is_range-clause-placed : goal.returns-then-is_range-clause-placed
returns-then-is_range-clause-placed c =
    λ pages few placed. c.collect_stage.ensures.placed pages few
    (placed.0, subst (λ (x : List Part). AreInside pages x) (sym c.clear.ensures) tt)
