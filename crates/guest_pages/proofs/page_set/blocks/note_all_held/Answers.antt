use Rattle.std.proofs.Common.{arith}
use Rattle.guest_pages.proofs.Blocks.{summed_all, summed_one}
use Rattle.guest_pages.proofs.Reserved.{holds}
use Rattle.guest_pages.proofs.page_set.blocks.note_all_held.Goals as goal

pub loop-number-init : goal.loop-number-init
loop-number-init c = λ i below. absurd (omega (arith, below))

pub loop-number-preserved : goal.loop-number-preserved
loop-number-preserved c =
    summed_one holds c.args.pages.now c.loop-number.held.items c.note_new_held.new.held.items c.loop-number.number c.index-pages-number.result c.loop-number-test.true
    c.index-pages-number.is c.note_new_held.ensures.more c.note_new_held.ensures.own c.loop-number.invariant

pub returns : goal.returns
returns c = summed_all holds c.args.pages.now c.loop-number.held.items c.loop-number.number (omega arith) c.loop-number.invariant
