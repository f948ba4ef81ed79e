use Rattle.std.proofs.Common.{ℕ, List, sym, subst}
use Rattle.std.specs.FinMap.{get}
use Rattle.snap_restore.specs.Finding.{Answers, FindCause, nothing_of}
use Rattle.flat_snapshot.specs.Found.{memory_front}
use Rattle.snap_restore.proofs.Both.{front_of}
use Rattle.snap_restore.proofs.finding.find_memory.Goals as goal

pub returns-in-Ok-Some-clause-finds : goal.returns-in-Ok-Some-clause-finds
returns-in-Ok-Some-clause-finds g c = λ told.
    let found = rw c.in-Ok-Some.field-0-is at (c.in-Ok-Some.ensures.found told) in
    front_of c.args.identity c.args.pages c.in-Ok-Some.start.size c.in-Ok-Some.start.bytes.items (get (g.F.Files.known c.args.files.now).saved c.args.name.now) c.judge_memory.result
    found
    (subst (λ (l : List ℕ). Answers nothing_of c.judge_memory.result (memory_front c.args.identity c.args.pages c.in-Ok-Some.start.size l)) c.deref.ensures.value c.judge_memory.ensures.judged)

pub returns-in-Ok-Some-clause-cause : goal.returns-in-Ok-Some-clause-cause
returns-in-Ok-Some-clause-cause g c =
    let before = (g.F.Files.known c.args.files.now).health.faults in
    subst (λ (n : ℕ). FindCause c.judge_memory.result before n) (sym c.in-Ok-Some.ensures.cause) (c.judge_memory.ensures.cause before)
