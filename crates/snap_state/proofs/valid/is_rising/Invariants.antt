use Rattle.std.proofs.Common.{◌≡◌, drop}
use Rattle.snap_state.specs.Valid.{rises_from}
use Rattle.snap_state.proofs.valid.is_rising.Given as goal

abbrev pub invariant-loop-next : goal.invariant-loop-next
invariant-loop-next l = rises_from l.last (drop l.next-index l.others) ≡ rises_from l.initial.last l.others
