use Rattle.std.proofs.Common.{rules}
use Rattle.dev_core.proofs.cursor.piece_len.Goals as goal

pub returns : goal.returns
returns c = search rules
