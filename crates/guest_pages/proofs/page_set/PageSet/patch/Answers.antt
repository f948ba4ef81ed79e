use Rattle.std.proofs.Common.{ap, sym, length}
use Rattle.guest_pages.proofs.Loading.{patched_memory, patched_marks}
use Rattle.guest_pages.specs.Pages.{PageValue}
use Rattle.guest_pages.proofs.Making.{kept_made, patched_set, the_pages}
use Rattle.guest_pages.proofs.Reserved.{patched_holds}
use Rattle.guest_pages.proofs.Sets.{changed_are}
use Rattle.guest_pages.proofs.Staying.{patched_stays}
use Rattle.guest_pages.proofs.page_set.PageSet.patch.Goals as goal

pub invariant_of-self : goal.invariant_of-self
invariant_of-self c =
    patched_set c.args.self.now.pages c.self.inside.pages.items c.args.number (length c.self.inside.spare.items) c.self.inside.owned c.self.inside.blocks.items c.self.inside.held.items c.index_mut.result.now c.patch.new.self c.in-Ok.made (ap the_pages (sym c.self.view_is)) c.requires.number c.index_mut.ensures.value c.in-Ok.ensures.count
    (kept_made c.index_mut.result.now.made _ c.patch.new.self.made c.in-Ok.ensures.made) c.self.invariant
    (changed_are c.args.self.now.pages c.self.inside.pages.items c.args.number c.index_mut.result.now c.patch.new.self _ (ap the_pages (sym c.self.view_is)) c.self.invariant.are c.requires.number c.index_mut.ensures.value c.in-Ok.ensures.ok
    (patched_stays c.args.number c.index_mut.result.now c.args.offset c.args.piece.now c.patch.new.self.made c.requires.inside))
    (patched_marks c.args.self.now.pages c.self.inside.pages.items c.args.number c.args.offset c.args.piece.now c.index_mut.result.now c.patch.new.self (ap the_pages (sym c.self.view_is)) c.self.invariant.are c.requires.number c.index_mut.ensures.value c.in-Ok.ensures.ok c.requires.inside)
    (patched_holds c.args.self.now.pages c.self.inside.pages.items c.args.number c.index_mut.result.now c.patch.new.self (ap the_pages (sym c.self.view_is)) c.index_mut.ensures.value
    (ap (λ (p : PageValue). p.reserved) c.in-Ok.ensures.ok))

pub returns-in-Ok-clause-memory : goal.returns-in-Ok-clause-memory
returns-in-Ok-clause-memory c =
    patched_memory c.args.self.now.pages c.self.inside.pages.items c.args.number c.args.offset c.args.piece.now c.index_mut.result.now c.patch.new.self (ap the_pages (sym c.self.view_is)) c.self.invariant.are c.requires.number c.index_mut.ensures.value c.in-Ok.ensures.ok c.requires.inside

pub returns-in-Ok-clause-marks : goal.returns-in-Ok-clause-marks
returns-in-Ok-clause-marks c =
    patched_marks c.args.self.now.pages c.self.inside.pages.items c.args.number c.args.offset c.args.piece.now c.index_mut.result.now c.patch.new.self (ap the_pages (sym c.self.view_is)) c.self.invariant.are c.requires.number c.index_mut.ensures.value c.in-Ok.ensures.ok c.requires.inside
