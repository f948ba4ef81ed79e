use Rattle.std.proofs.Common.{List, length, ap, ◌∙◌}
use Rattle.snap_diff.specs.declared.run.Run.{Run}
use Rattle.snap_diff.specs.Runs.{numbers_of}
use Rattle.snapshot_merge.proofs.Planned.{pages_counted}
use Rattle.snapshot_merge.proofs.finding.diff_pages.Goals as goal

pub returns-in-Ok-clause-counts : goal.returns-in-Ok-clause-counts
returns-in-Ok-clause-counts g c = λ told.
    let found = c.in-Ok.ensures.finds told in
    (found.0, (found.1.0, c.count_pages.ensures ∙ ap (λ (rs : List Run). length (numbers_of rs)) c.as_slice.ensures ∙ pages_counted _ c.in-Ok.start found.0 found.1.1))
