use Rattle.std.proofs.Common.{◌≡◌, take}
use Rattle.world_copy.proofs.attached.ports_kept.Given as goal

abbrev pub invariant-loop-port : goal.invariant-loop-port
invariant-loop-port l = l.kept ≡ take l.port-index l.ports
