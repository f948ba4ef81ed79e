use Rattle.std.proofs.Common.{ℕ, ◌*◌, ap, ◌∙◌, option_map}
use Rattle.snap_writer.proofs.Selecting.{size_is}
use Rattle.snap_writer.proofs.saved_pages.SavedPages.len.Goals as goal

pub returns-in-Some-clause-len : goal.returns-in-Some-clause-len
returns-in-Some-clause-len c =
    size_is _ c.in-Some.numbers.now _ _ _ (ap (option_map (λ t. t.now)) c.in-Some.is) c.self.invariant.1
    (c.len-all.ensures.bytes ∙ ap (λ (n : ℕ). 4096 * n) c.len-all.ensures.pages) c.self.view_is
