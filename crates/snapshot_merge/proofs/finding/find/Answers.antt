use Rattle.std.proofs.Common.{ap}
use Rattle.std.specs.FinMap.{get}
use Rattle.vm_types.specs.Saved.{Saved}
use Rattle.snapshot_merge.specs.Bases.{base_found}
use Rattle.snapshot_merge.proofs.Planned.{both_good}
use Rattle.snapshot_merge.proofs.finding.find.Goals as goal

pub returns-in-Ok-find_diff-clause-finds : goal.returns-in-Ok-find_diff-clause-finds
returns-in-Ok-find_diff-clause-finds g c = λ told.
    let known = g.F.Files.known in
    let base = c.in-Ok.ensures.finds told in
    let found = c.in-Ok-find_diff.ensures.finds (c.in-Ok.ensures.lasts.still told) in
    let same = ap (λ (m : Saved). get m c.args.diff.now) (c.in-Ok.ensures.same told).saved in
    both_good (base_found (get (known c.args.files.now).saved c.args.base.now)) _ _ c.in-Ok.header base.0 c.in-Ok-find_diff.diff found.0 same base.1.0 base.1.1 found.1.0 found.1.1
