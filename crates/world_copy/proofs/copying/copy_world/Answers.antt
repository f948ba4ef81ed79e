use Rattle.std.proofs.Common.{sym, subst, List}
use Rattle.hart_trace.specs.States.{Hart}
use Rattle.world_copy.specs.Copying.{AreCounted}
use Rattle.world_copy.proofs.Copied.{copied}
use Rattle.world_copy.proofs.Ready.{are_counted, ready_valid}
use Rattle.world_copy.proofs.copying.copy_world.Goals as goal

pub hart_copies-requires : goal.hart_copies-requires
hart_copies-requires c =
    subst (λ (l : List Hart). AreCounted l) (sym c.harts.ensures) (are_counted c.args.config.now c.args.world.now c.requires)

pub returns-clause-copied : goal.returns-clause-copied
returns-clause-copied c = λ g is.
    copied c.args.config.now c.args.world.now g c.in_ok-copy.copy c.in_ok-copy.ensures.copied is

pub returns-clause-valid : goal.returns-clause-valid
returns-clause-valid c =
    ready_valid c.args.config.now c.args.world.now c.in_ok-copy.copy c.requires (λ g is.
    copied c.args.config.now c.args.world.now g c.in_ok-copy.copy c.in_ok-copy.ensures.copied is)
