use Rattle.std.proofs.Common.{◌≡◌, map, take}
use Rattle.snap_harts.specs.Copy.{saved_hart}
use Rattle.world_copy.proofs.copying.hart_copies.Given as goal

abbrev pub invariant-loop-hart : goal.invariant-loop-hart
invariant-loop-hart l = l.copies ≡ map saved_hart (take l.hart-index l.harts)
