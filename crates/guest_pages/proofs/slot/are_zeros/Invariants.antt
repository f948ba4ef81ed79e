use Rattle.std.proofs.Common.{◌≡◌, ◌==◌, take}
use Rattle.guest_pages.specs.Made.{are_zeros}
use Rattle.guest_pages.proofs.slot.are_zeros.Given as goal

-- the greatest of those before is 0 exactly where all of them are
abbrev pub invariant-loop-byte : goal.invariant-loop-byte
invariant-loop-byte l = (l.most == 0) ≡ are_zeros (take l.byte-index l.piece)
