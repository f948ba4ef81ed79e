use Rattle.board_table.proofs.Keeping.{board_kept, board_replies, new_kept, raised}
use Rattle.board_table.proofs.law.board_kept.Goals as goal

pub returns-clause-new : goal.returns-clause-new
returns-clause-new c = new_kept

pub returns-clause-touched : goal.returns-clause-touched
returns-clause-touched c = board_kept

pub returns-clause-raised : goal.returns-clause-raised
returns-clause-raised c = raised

pub returns-clause-replies : goal.returns-clause-replies
returns-clause-replies c = board_replies
