use Rattle.std.proofs.Common.{rules}
use Rattle.line_board.proofs.board.Board.send_ipi.Goals as goal

pub returns-then-names_harts_alone-clause-reply : goal.returns-then-names_harts_alone-clause-reply
returns-then-names_harts_alone-clause-reply c = search rules
