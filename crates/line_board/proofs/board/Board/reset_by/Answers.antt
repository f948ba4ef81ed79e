use Rattle.std.proofs.Common.{rules}
use Rattle.line_board.proofs.board.Board.reset_by.Goals as goal

pub returns-then-reason-lt2-clause-reply : goal.returns-then-reason-lt2-clause-reply
returns-then-reason-lt2-clause-reply c = search rules
