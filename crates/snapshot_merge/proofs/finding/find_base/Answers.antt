use Rattle.std.proofs.Common.{List, ℕ, subst}
use Rattle.std.specs.FinMap.{get}
use Rattle.snapshot_merge.specs.Answering.{Answers, Same}
use Rattle.snapshot_merge.specs.Bases.{base_front}
use Rattle.snapshot_merge.proofs.Planned.{base_of}
use Rattle.snapshot_merge.proofs.finding.find_base.Goals as goal

pub returns-in-Ok-Some-clause-finds : goal.returns-in-Ok-Some-clause-finds
returns-in-Ok-Some-clause-finds g c = λ told.
    let found = rw c.in-Ok-Some.field-0-is at (c.in-Ok-Some.ensures.found told) in
    base_of c.in-Ok-Some.start.size c.in-Ok-Some.start.bytes.items (get (g.F.Files.known c.args.files.now).saved c.args.name.now) c.judge_base.result found
    (subst (λ (l : List ℕ). Answers Same c.judge_base.result (base_front c.in-Ok-Some.start.size l)) c.deref.ensures.value c.judge_base.ensures.judged)
