use Rattle.std.proofs.Common.{rules}
use Rattle.line_board.proofs.board.Board.pending_bits.Goals as goal

pub index-requires : goal.index-requires
index-requires c = search rules
