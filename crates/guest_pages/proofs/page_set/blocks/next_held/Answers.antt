use Rattle.std.proofs.Common.{arith}
use Rattle.guest_pages.proofs.page_set.blocks.next_held.Goals as goal

pub loop-number-init : goal.loop-number-init
loop-number-init c = record { free = λ i low high. absurd (omega (arith, low, high)); on = omega arith }
