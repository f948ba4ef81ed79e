use Rattle.std.proofs.Common.{refl, ap, drop}
use Rattle.file_format.specs.declared.version.Version.{Version}
use Rattle.snap_diff.specs.Diffs.{are_stored, table_size}
use Rattle.snapshot_merge.proofs.Judged.{pages_good}
use Rattle.snapshot_merge.proofs.checking.check_pages.Goals as goal

pub returns-in-One-clause-finds : goal.returns-in-One-clause-finds
returns-in-One-clause-finds g c = λ told given there has.
    let h = c.args.start.header in
    pages_good given h c.args.start.runs has
    (ap (λ (v : Version). are_stored v h.stored (drop (table_size h) (drop 64 given))) c.in-One.is) c.args.start refl refl
