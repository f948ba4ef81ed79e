use Rattle.std.proofs.Common.{◌≡◌, ◌++◌, take, drop}
use Rattle.board_table.specs.Calls.{sent_from}
use Rattle.line_board.proofs.board.harts.send_from.Given as goal

abbrev pub invariant-loop-k : goal.invariant-loop-k
invariant-loop-k l = l.software ≡ sent_from l.mask l.base 0 (take l.k l.initial.software) ++ drop l.k l.initial.software
