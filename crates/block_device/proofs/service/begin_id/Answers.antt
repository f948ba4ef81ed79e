-- The parts that are written stay where they are.
use Rattle.std.proofs.Common.{sym, subst}
use Rattle.vq_split.specs.Inside.{AreInside}
use Rattle.dev_core.specs.declared.collect.Collect.{Collect}
use Rattle.block_device.proofs.service.begin_id.Goals as goal

pub returns-then-data_in-eq20-clause-placed : goal.returns-then-data_in-eq20-clause-placed
returns-then-data_in-eq20-clause-placed c =
    λ pages few placed. c.id_stage.ensures.placed pages few
    (subst (λ (x : Collect). AreInside pages x.from) (sym c.clear.ensures) tt, placed.1)
