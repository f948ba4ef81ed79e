use Rattle.std.proofs.Common.{ℕ, ap, ◌∙◌, ◌*◌, arith, option_map}
use Rattle.snap_writer.proofs.Selecting.{size_is}
use Rattle.snap_writer.proofs.saved_pages.SavedPages.copy_out.Goals as goal

pub copy_pages-requires-clause-inside : goal.copy_pages-requires-clause-inside
copy_pages-requires-clause-inside c =
    let size = size_is _ c.in-Some.numbers.now _ _ _ (ap (option_map (λ t. t.now)) c.in-Some.is) c.self.invariant.1
    (c.len-pages.ensures.bytes ∙ ap (λ (n : ℕ). 4096 * n) c.len-pages.ensures.pages) c.self.view_is in
    omega (arith, size, c.requires.inside, c.requires.from)
