use Rattle.std.proofs.Common.{ℕ, ◌∙◌, sym, ap, length, arith}
use Rattle.rv_rows.specs.Loads.{width_bytes}
use Rattle.guest_memory.specs.Route.{page_of}
use Rattle.guest_pages.specs.Pages.{flat_of}
use Rattle.guest_pages.specs.Words.{read_of}
use Rattle.guest_pages.proofs.Sets.{number_below}
use Rattle.guest_pages.proofs.Serving.{is_in_page, word_read}
use Rattle.guest_pages.proofs.Making.{count_of, the_pages}
use Rattle.guest_pages.proofs.page_set.PageSet.read_word.Goals as goal

pub index-requires : goal.index-requires
index-requires c =
    let below = number_below c.args.self.now.pages c.self.inside.pages.items c.in-Some.number (read_of c.args.width c.args.at) (ap the_pages (sym c.self.view_is)) c.self.invariant.are (ap (λ (len : ℕ). page_of (length (flat_of c.args.self.now.pages).bytes) c.args.at len) (sym c.bytes.ensures.is) ∙ c.in-Some.ensures) in
    omega (arith, below, ap count_of c.self.view_is, c.self.inside.pages.ok)

pub read_word-requires : goal.read_word-requires
read_word-requires c =
    let below = number_below c.args.self.now.pages c.self.inside.pages.items c.in-Some.number (read_of c.args.width c.args.at) (ap the_pages (sym c.self.view_is)) c.self.invariant.are (ap (λ (len : ℕ). page_of (length (flat_of c.args.self.now.pages).bytes) c.args.at len) (sym c.bytes.ensures.is) ∙ c.in-Some.ensures) in
    is_in_page c.args.self.now.pages c.self.inside.pages.items c.in-Some.number c.index.result.now (ap the_pages (sym c.self.view_is)) c.self.invariant.are below c.index.ensures c.args.at (width_bytes c.args.width) (ap (λ (len : ℕ). page_of (length (flat_of c.args.self.now.pages).bytes) c.args.at len) (sym c.bytes.ensures.is) ∙ c.in-Some.ensures)

pub returns : goal.returns
returns c =
    let below = number_below c.args.self.now.pages c.self.inside.pages.items c.in-Some.number (read_of c.args.width c.args.at) (ap the_pages (sym c.self.view_is)) c.self.invariant.are (ap (λ (len : ℕ). page_of (length (flat_of c.args.self.now.pages).bytes) c.args.at len) (sym c.bytes.ensures.is) ∙ c.in-Some.ensures) in
    word_read c.args.self.now.pages c.self.inside.pages.items c.in-Some.number c.index.result.now (ap the_pages (sym c.self.view_is)) c.self.invariant.are below c.index.ensures c.args.at c.read_word.result c.args.width (ap (λ (len : ℕ). page_of (length (flat_of c.args.self.now.pages).bytes) c.args.at len) (sym c.bytes.ensures.is) ∙ c.in-Some.ensures) c.read_word.ensures
