use Rattle.std.proofs.Common.{◌∙◌, ap, length, arith}
use Rattle.guest_pages.specs.Made.{unmade}
use Rattle.guest_pages.specs.Pages.{new_pages}
use Rattle.guest_pages.proofs.Blocks.{none_summed}
use Rattle.guest_pages.proofs.Loading.{made_count, made_marks, new_memory}
use Rattle.guest_pages.proofs.Making.{new_unmade}
use Rattle.guest_pages.proofs.Reserved.{made_holds}
use Rattle.guest_pages.proofs.Sets.{made_are, one_page_more}
use Rattle.guest_pages.proofs.page_set.PageSet.new.Goals as goal

pub loop-number-preserved : goal.loop-number-preserved
loop-number-preserved c = c.in_ok-push.ensures.items ∙ one_page_more c.loop-number.pages.items c.loop-number.number c.new.result c.loop-number.invariant c.new.ensures

pub invariant_of-result : goal.invariant_of-result
invariant_of-result c = record {
  are = made_are c.loop-number.pages.items _ c.loop-number.invariant;
  owns = omega (arith, ap unmade c.loop-number.invariant ∙ new_unmade 0 c.loop-number.number, made_count c.loop-number.pages.items c.loop-number.number c.loop-number.invariant, ap length c.new-2.ensures.items);
  summed = none_summed _ _ c.loop-number.number (made_marks c.loop-number.pages.items c.loop-number.number c.loop-number.invariant);
  holds = none_summed _ _ c.loop-number.number (made_holds c.loop-number.pages.items c.loop-number.number c.loop-number.invariant);
}

pub returns-clause-memory : goal.returns-clause-memory
returns-clause-memory c = new_memory c.loop-number.pages.items c.args.count (c.loop-number.invariant ∙ ap (new_pages 0) (omega arith))

pub returns-clause-count : goal.returns-clause-count
returns-clause-count c = made_count c.loop-number.pages.items c.args.count (c.loop-number.invariant ∙ ap (new_pages 0) (omega arith))

pub returns-clause-marks : goal.returns-clause-marks
returns-clause-marks c = made_marks c.loop-number.pages.items c.args.count (c.loop-number.invariant ∙ ap (new_pages 0) (omega arith))
