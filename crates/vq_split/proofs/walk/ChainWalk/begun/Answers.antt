-- The rest of an entry is wanted where a page ends inside it.
use Rattle.std.proofs.Common.{ℕ, ◌<◌, subst}
use Rattle.vq_split.specs.Chain.{entry_place}
use Rattle.vq_split.proofs.Steps.{told_cut}
use Rattle.vq_split.proofs.walk.ChainWalk.begun.Goals as goal

pub returns-then-len-lt16-clause-told : goal.returns-then-len-lt16-clause-told
returns-then-len-lt16-clause-told c =
    told_cut _ _ c.args.head c.args.table (entry_place c.args.table c.args.at) c.args.front c.self.view_is c.requires.front
    (subst (λ (n : ℕ). n < 16) c.len.ensures.length c.if-len-lt16.true)
