use Rattle.std.proofs.Common.{◌≡◌, length}
use Rattle.monitor_machine.proofs.machine.lines.drain_all.Given as goal

abbrev pub invariant-parts : goal.invariant-parts
invariant-parts l = record {
  same : l.guest ≡ record l.fn.guest { board = record l.fn.guest.board { console = l.guest.board.console } };
}

abbrev pub decreases-parts : goal.decreases-parts
decreases-parts l = length l.guest.board.console
