use Rattle.std.proofs.Common.{◌≡◌, ◌+◌, ◌-◌, ◌%◌, ◌^◌, ◌∙◌, ap, length, sym, arith}
use Rattle.vm_types.specs.declared.ids.PlaceId.{PlaceId}
use Rattle.rv_rows.specs.declared.memory.Width.{Width}
use Rattle.guest_memory.specs.Route.{page_of}
use Rattle.guest_pages.specs.Pages.{flat_of}
use Rattle.guest_pages.proofs.Here.{here}
use Rattle.guest_pages.proofs.Sets.{size_of_value}
use Rattle.guest_pages.proofs.Serving.{found_behind, offset_read, word_read}
use Rattle.guest_pages.proofs.Making.{made_there, the_pages}
use Rattle.guest_pages.proofs.page_set.PageSet.code_word.Goals as goal

pub word_at-requires-clause-made : goal.word_at-requires-clause-made
word_at-requires-clause-made c =
    made_there c.args.self.now.pages c.self.inside.pages.items c.args.code.number c.index.result.now (ap the_pages (sym c.self.view_is)) c.requires.there c.index.ensures c.requires.made

pub returns-clause-word : goal.returns-clause-word
returns-clause-word c =
    let place : page_of (length (flat_of c.args.self.now.pages).bytes) c.args.at 4 ≡ PlaceId.Page c.args.code.number =
    found_behind (length (flat_of c.args.self.now.pages).bytes) (length c.args.self.now.pages) c.args.code.number c.args.at
    (size_of_value c.args.self.now.pages c.self.inside.pages.items (length c.args.self.now.pages) (ap the_pages (sym c.self.view_is)) c.self.invariant.are (ap length (ap the_pages (sym c.self.view_is))))
    c.requires.there (omega (arith, c.well_formed, c.requires.start, c.ranges.at, c.if-offset-gt4092.false))
    (omega (arith, c.well_formed, c.requires.start, c.ranges.at, c.if-offset-gt4092.false)) in
    word_read c.args.self.now.pages c.self.inside.pages.items c.args.code.number c.index.result.now (ap the_pages (sym c.self.view_is)) c.self.invariant.are c.requires.there c.index.ensures c.args.at c.word_at.result Width.Word place
    (c.word_at.ensures ∙ offset_read c.args.self.now.pages c.self.inside.pages.items c.args.code.number c.index.result.now (ap the_pages (sym c.self.view_is)) c.self.invariant.are c.requires.there c.index.ensures c.args.at ((c.args.at + (2 ^ 64 - c.args.code.start)) % 2 ^ 64) 4
    (omega (arith, c.well_formed, c.requires.start, c.ranges.at, c.if-offset-gt4092.false)))

pub returns-clause-page : goal.returns-clause-page
returns-clause-page c =
    found_behind (length (flat_of c.args.self.now.pages).bytes) (length c.args.self.now.pages) c.args.code.number c.args.at
    (size_of_value c.args.self.now.pages c.self.inside.pages.items (length c.args.self.now.pages) (ap the_pages (sym c.self.view_is)) c.self.invariant.are (ap length (ap the_pages (sym c.self.view_is))))
    c.requires.there (omega (arith, c.well_formed, c.requires.start, c.ranges.at, c.if-offset-gt4092.false))
    (omega (arith, c.well_formed, c.requires.start, c.ranges.at, c.if-offset-gt4092.false))

pub returns-then-offset-gt4092-clause-page : goal.returns-then-offset-gt4092-clause-page
returns-then-offset-gt4092-clause-page c = λ place.
    let h = here (length (flat_of c.args.self.now.pages).bytes) c.args.at 4 c.args.code.number place in
    let from = h.from in
    let to = h.to in
    omega (arith, c.well_formed, c.requires.start, c.ranges.at, c.if-offset-gt4092.true)
