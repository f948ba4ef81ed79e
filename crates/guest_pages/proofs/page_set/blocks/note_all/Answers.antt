use Rattle.std.proofs.Common.{arith}
use Rattle.guest_pages.proofs.Blocks.{is_marked, summed_all, summed_one}
use Rattle.guest_pages.proofs.page_set.blocks.note_all.Goals as goal

pub loop-number-init : goal.loop-number-init
loop-number-init c = λ i below. absurd (omega (arith, below))

pub loop-number-preserved : goal.loop-number-preserved
loop-number-preserved c =
    summed_one is_marked c.args.pages.now c.loop-number.blocks.items c.note_new.new.blocks.items c.loop-number.number c.index-pages-number.result c.loop-number-test.true
    c.index-pages-number.is c.note_new.ensures.more c.note_new.ensures.own c.loop-number.invariant

pub returns : goal.returns
returns c = summed_all is_marked c.args.pages.now c.loop-number.blocks.items c.loop-number.number (omega arith) c.loop-number.invariant
