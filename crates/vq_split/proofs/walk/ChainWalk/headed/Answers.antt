use Rattle.std.proofs.Common.{rules}
use Rattle.vq_split.proofs.walk.ChainWalk.headed.Goals as goal

pub returns-then-self-head-clause-told : goal.returns-then-self-head-clause-told
returns-then-self-head-clause-told c = search rules
