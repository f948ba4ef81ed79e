use Rattle.std.proofs.Common.{ℕ, List, subst}
use Rattle.std.specs.FinMap.{get}
use Rattle.snap_restore.specs.Finding.{Answers, size_judged, size_of}
use Rattle.snap_restore.proofs.Starts.{start_of_file}
use Rattle.snap_restore.proofs.finding.find_size.Goals as goal

pub returns-in-Ok-Some-clause-finds : goal.returns-in-Ok-Some-clause-finds
returns-in-Ok-Some-clause-finds g c = λ told.
    let found = rw c.in-Ok-Some.field-0-is at (c.in-Ok-Some.ensures.found told) in
    start_of_file c.in-Ok-Some.start.size c.in-Ok-Some.start.bytes.items (get (g.F.Files.known c.args.files.now).saved c.args.name.now) c.judge_start.result found
    (subst (λ (l : List ℕ). Answers size_of c.judge_start.result (size_judged c.in-Ok-Some.start.size l)) c.deref.ensures.value c.judge_start.ensures.judged)
