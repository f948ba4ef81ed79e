use Rattle.std.proofs.Common.{ℕ, ◌∙◌, sym, ap, length, arith}
use Rattle.le_fields.specs.Fields.{bytes_of}
use Rattle.rv_rows.specs.Loads.{width_bytes}
use Rattle.guest_memory.specs.Route.{page_of}
use Rattle.guest_pages.specs.Made.{is_ready}
use Rattle.guest_pages.specs.Pages.{flat_of}
use Rattle.guest_pages.specs.Words.{read_of}
use Rattle.guest_pages.proofs.Blocks.{is_marked, summed_after, summed_kept}
use Rattle.guest_pages.proofs.Reserved.{holds, written_holds}
use Rattle.guest_pages.proofs.Sets.{number_below}
use Rattle.guest_pages.proofs.Serving.{is_in_page, word_place, word_marks, word_memory, word_pages, word_stays}
use Rattle.guest_pages.proofs.Making.{can_make, count_of, is_set, no_spends, spends, the_pages}
use Rattle.guest_pages.proofs.page_set.PageSet.write_word.Goals as goal

pub index_mut-requires : goal.index_mut-requires
index_mut-requires c =
    let below = number_below c.args.self.now.pages c.self.inside.pages.items c.in-Some.number (read_of c.args.width c.args.at) (ap the_pages (sym c.self.view_is)) c.self.invariant.are (ap (λ (len : ℕ). page_of (length (flat_of c.args.self.now.pages).bytes) c.args.at len) (sym c.bytes.ensures.is) ∙ c.in-Some.ensures) in
    omega (arith, below, ap count_of c.self.view_is, c.self.inside.pages.ok)

pub write_word-requires : goal.write_word-requires
write_word-requires c =
    let below = number_below c.args.self.now.pages c.self.inside.pages.items c.in-Some.number (read_of c.args.width c.args.at) (ap the_pages (sym c.self.view_is)) c.self.invariant.are (ap (λ (len : ℕ). page_of (length (flat_of c.args.self.now.pages).bytes) c.args.at len) (sym c.bytes.ensures.is) ∙ c.in-Some.ensures) in
    record {
      inside = is_in_page c.args.self.now.pages c.self.inside.pages.items c.in-Some.number c.index_mut.result.now (ap the_pages (sym c.self.view_is)) c.self.invariant.are below c.index_mut.ensures.value c.args.at (width_bytes c.args.width) (ap (λ (len : ℕ). page_of (length (flat_of c.args.self.now.pages).bytes) c.args.at len) (sym c.bytes.ensures.is) ∙ c.in-Some.ensures);
      ready = can_make c.args.self.now c.self.inside.pages.items c.in-Some.number c.index_mut.result.now c.index_mut.result.now (length c.self.inside.spare.items) (length c.self.inside.spare.items) (sym c.self.view_is) below c.index_mut.ensures.value
          (ap (is_ready c.args.self.now) (sym (word_place c.args.self.now.pages c.in-Some.number c.args.at c.args.word c.args.width (ap (λ (len : ℕ). page_of (length (flat_of c.args.self.now.pages).bytes) c.args.at len) (sym c.bytes.ensures.is) ∙ c.in-Some.ensures))) ∙ c.requires);
    }

pub invariant_of-self : goal.invariant_of-self
invariant_of-self c =
    let below = number_below c.args.self.now.pages c.self.inside.pages.items c.in-Some.number (read_of c.args.width c.args.at) (ap the_pages (sym c.self.view_is)) c.self.invariant.are (ap (λ (len : ℕ). page_of (length (flat_of c.args.self.now.pages).bytes) c.args.at len) (sym c.bytes.ensures.is) ∙ c.in-Some.ensures) in
    is_set c.args.self.now c.self.inside.pages.items c.in-Some.number c.index_mut.result.now c.write_word.new.self (length c.self.inside.spare.items) (length c.write_word.new.spare.items) (sym c.self.view_is) below c.index_mut.ensures.value c.write_word.ensures.takes c.self.inside.owned c.self.inside.blocks.items c.note.new.blocks.items c.self.inside.held.items c.self.inside.held.items c.self.invariant
    (word_stays c.args.self.now.pages c.self.inside.pages.items c.in-Some.number c.index_mut.result.now (ap the_pages (sym c.self.view_is)) c.self.invariant.are below c.index_mut.ensures.value c.write_word.new.self c.args.writer c.args.at c.args.word c.args.width (ap (λ (len : ℕ). page_of (length (flat_of c.args.self.now.pages).bytes) c.args.at len) (sym c.bytes.ensures.is) ∙ c.in-Some.ensures) c.write_word.ensures.page)
    (summed_after is_marked c.self.inside.pages.items c.self.inside.blocks.items c.note.new.blocks.items c.in-Some.number c.write_word.new.self c.note.ensures.more (λ marked. c.note.ensures.own) c.self.invariant.summed)
    (summed_kept holds c.self.inside.pages.items c.self.inside.held.items c.in-Some.number c.index_mut.result.now c.write_word.new.self (omega (arith, below, ap count_of c.self.view_is)) c.index_mut.ensures.value
    (written_holds c.index_mut.result.now c.write_word.new.self c.args.writer c.args.at (bytes_of (width_bytes c.args.width) c.args.word) c.write_word.ensures.page) c.self.invariant.holds)

pub returns-clause-spends : goal.returns-clause-spends
returns-clause-spends c =
    let below = number_below c.args.self.now.pages c.self.inside.pages.items c.in-Some.number (read_of c.args.width c.args.at) (ap the_pages (sym c.self.view_is)) c.self.invariant.are (ap (λ (len : ℕ). page_of (length (flat_of c.args.self.now.pages).bytes) c.args.at len) (sym c.bytes.ensures.is) ∙ c.in-Some.ensures) in
    spends c.args.self.now c.self.inside.pages.items c.in-Some.number c.index_mut.result.now c.write_word.new.self (length c.self.inside.spare.items) (length c.write_word.new.spare.items) (sym c.self.view_is) below c.index_mut.ensures.value c.write_word.ensures.takes

pub returns-in_default-clause-spends : goal.returns-in_default-clause-spends
returns-in_default-clause-spends c = no_spends 1 c.args.self.now

pub returns-clause-memory : goal.returns-clause-memory
returns-clause-memory c =
    let below = number_below c.args.self.now.pages c.self.inside.pages.items c.in-Some.number (read_of c.args.width c.args.at) (ap the_pages (sym c.self.view_is)) c.self.invariant.are (ap (λ (len : ℕ). page_of (length (flat_of c.args.self.now.pages).bytes) c.args.at len) (sym c.bytes.ensures.is) ∙ c.in-Some.ensures) in
    word_memory c.args.self.now.pages c.self.inside.pages.items c.in-Some.number c.index_mut.result.now (ap the_pages (sym c.self.view_is)) c.self.invariant.are below c.index_mut.ensures.value c.write_word.new.self c.args.writer c.args.at c.args.word c.args.width (ap (λ (len : ℕ). page_of (length (flat_of c.args.self.now.pages).bytes) c.args.at len) (sym c.bytes.ensures.is) ∙ c.in-Some.ensures) c.write_word.ensures.page

pub returns-clause-pages : goal.returns-clause-pages
returns-clause-pages c =
    let below = number_below c.args.self.now.pages c.self.inside.pages.items c.in-Some.number (read_of c.args.width c.args.at) (ap the_pages (sym c.self.view_is)) c.self.invariant.are (ap (λ (len : ℕ). page_of (length (flat_of c.args.self.now.pages).bytes) c.args.at len) (sym c.bytes.ensures.is) ∙ c.in-Some.ensures) in
    word_pages c.args.self.now.pages c.self.inside.pages.items c.in-Some.number c.index_mut.result.now (ap the_pages (sym c.self.view_is)) c.self.invariant.are below c.index_mut.ensures.value c.write_word.new.self c.args.writer c.args.at c.args.word c.args.width (ap (λ (len : ℕ). page_of (length (flat_of c.args.self.now.pages).bytes) c.args.at len) (sym c.bytes.ensures.is) ∙ c.in-Some.ensures) c.write_word.ensures.page

pub returns-clause-marks : goal.returns-clause-marks
returns-clause-marks c =
    let below = number_below c.args.self.now.pages c.self.inside.pages.items c.in-Some.number (read_of c.args.width c.args.at) (ap the_pages (sym c.self.view_is)) c.self.invariant.are (ap (λ (len : ℕ). page_of (length (flat_of c.args.self.now.pages).bytes) c.args.at len) (sym c.bytes.ensures.is) ∙ c.in-Some.ensures) in
    word_marks c.args.self.now.pages c.self.inside.pages.items c.in-Some.number c.index_mut.result.now (ap the_pages (sym c.self.view_is)) c.self.invariant.are below c.index_mut.ensures.value c.write_word.new.self c.args.writer c.args.at c.args.word c.args.width (ap (λ (len : ℕ). page_of (length (flat_of c.args.self.now.pages).bytes) c.args.at len) (sym c.bytes.ensures.is) ∙ c.in-Some.ensures) c.write_word.ensures.page
