use Rattle.board_table.proofs.Lengths.{board_long, new_long, raised_long}
use Rattle.board_table.proofs.law.board_long.Goals as goal

pub returns-clause-new : goal.returns-clause-new
returns-clause-new c = new_long

pub returns-clause-touched : goal.returns-clause-touched
returns-clause-touched c = board_long

pub returns-clause-raised : goal.returns-clause-raised
returns-clause-raised c = raised_long
