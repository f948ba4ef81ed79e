use Rattle.std.proofs.Common.{◌∙◌, ap, length, sym}
use Rattle.guest_pages.specs.Pages.{marks_of}
use Rattle.guest_pages.proofs.Blocks.{summed_after, summed_same}
use Rattle.guest_pages.proofs.Holding.{held_memory}
use Rattle.guest_pages.proofs.Marking.{held_marks}
use Rattle.guest_pages.proofs.Reserved.{holds}
use Rattle.guest_pages.proofs.Sets.{changed_are}
use Rattle.guest_pages.proofs.Staying.{holding_stays}
use Rattle.guest_pages.proofs.Making.{can_make, is_set, spends, the_pages}
use Rattle.guest_pages.proofs.page_set.PageSet.hold.Goals as goal

pub hold-requires : goal.hold-requires
hold-requires c = record {
  hart = c.requires.hart;
  inside = c.requires.inside;
  granule = c.requires.granule;
  ready = can_make c.args.self.now c.self.inside.pages.items c.args.number c.index_mut.result.now c.index_mut.result.now (length c.self.inside.spare.items) (length c.self.inside.spare.items) (sym c.self.view_is) c.requires.number c.index_mut.ensures.value c.requires.ready;
}

pub invariant_of-self : goal.invariant_of-self
invariant_of-self c =
    is_set c.args.self.now c.self.inside.pages.items c.args.number c.index_mut.result.now c.hold.new.self (length c.self.inside.spare.items) (length c.hold.new.spare.items) (sym c.self.view_is) c.requires.number c.index_mut.ensures.value c.hold.ensures.takes c.self.inside.owned c.self.inside.blocks.items c.self.inside.blocks.items c.self.inside.held.items c.note.new.blocks.items c.self.invariant
    (changed_are c.args.self.now.pages c.self.inside.pages.items c.args.number c.index_mut.result.now c.hold.new.self _ (ap the_pages (sym c.self.view_is)) c.self.invariant.are c.requires.number c.index_mut.ensures.value c.hold.ensures.page
    (holding_stays c.args.number c.index_mut.result.now c.args.hart c.args.offset c.requires.inside c.requires.granule))
    (summed_same (marks_of c.self.inside.pages.items) _ c.self.inside.blocks.items
    (held_marks c.args.self.now.pages c.self.inside.pages.items c.args.number c.args.hart c.args.offset c.index_mut.result.now c.hold.new.self (ap the_pages (sym c.self.view_is)) c.index_mut.ensures.value c.hold.ensures.page
    ∙ ap marks_of (ap the_pages (sym c.self.view_is)))
    c.self.invariant.summed)
    (summed_after holds c.self.inside.pages.items c.self.inside.held.items c.note.new.blocks.items c.args.number c.hold.new.self c.note.ensures.more (λ is. c.note.ensures.own) c.self.invariant.holds)

pub returns-clause-spends : goal.returns-clause-spends
returns-clause-spends c =
    spends c.args.self.now c.self.inside.pages.items c.args.number c.index_mut.result.now c.hold.new.self (length c.self.inside.spare.items) (length c.hold.new.spare.items) (sym c.self.view_is) c.requires.number c.index_mut.ensures.value c.hold.ensures.takes

pub returns-clause-memory : goal.returns-clause-memory
returns-clause-memory c = held_memory c.args.self.now.pages c.self.inside.pages.items c.args.number c.args.hart c.args.offset c.index_mut.result.now c.hold.new.self (ap the_pages (sym c.self.view_is)) c.self.invariant.are c.requires.number c.requires.hart c.index_mut.ensures.value c.hold.ensures.page

pub returns-clause-marks : goal.returns-clause-marks
returns-clause-marks c = held_marks c.args.self.now.pages c.self.inside.pages.items c.args.number c.args.hart c.args.offset c.index_mut.result.now c.hold.new.self (ap the_pages (sym c.self.view_is)) c.index_mut.ensures.value c.hold.ensures.page
