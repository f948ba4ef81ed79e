use Rattle.std.proofs.Common.{rules}
use Rattle.line_board.proofs.board.Board.look_as.Goals as goal

pub returns-in-Stopped-clause-reply : goal.returns-in-Stopped-clause-reply
returns-in-Stopped-clause-reply c = search rules
