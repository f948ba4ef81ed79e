use Rattle.std.proofs.Common.{rules}
use Rattle.vq_split.proofs.entry.front_length.Goals as goal

pub returns-clause-most : goal.returns-clause-most
returns-clause-most c = search rules
