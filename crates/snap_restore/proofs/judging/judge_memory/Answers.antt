use Rattle.std.proofs.Common.{Err, Result, sym, subst, arith}
use Rattle.refusals.specs.declared.refusal.Refusal.{Refusal}
use Rattle.flat_snapshot.specs.Found.{memory_front}
use Rattle.flat_snapshot.proofs.Loaded.{front_of_header}
use Rattle.snap_restore.specs.declared.finding.FindError.{FindError}
use Rattle.snap_restore.specs.Finding.{Answers, FindCause, nothing_of}
use Rattle.snap_restore.proofs.Judged.{memory_refused, refused_cause}
use Rattle.snap_restore.proofs.judging.judge_memory.Goals as goal

pub returns-in-Ok-clause-judged : goal.returns-in-Ok-clause-judged
returns-in-Ok-clause-judged c =
    subst (λ (r : Result (Unit {0}) Refusal). Answers nothing_of c.judge_header.result r)
    (sym (front_of_header c.args.identity c.args.pages c.args.size c.args.front.now c.in-Ok.header c.in-Ok.ensures)) c.judge_header.ensures.judged

pub returns-in-Err-clause-judged : goal.returns-in-Err-clause-judged
returns-in-Err-clause-judged c =
    subst (λ (w : FindError). Answers nothing_of (Err w) (memory_front c.args.identity c.args.pages c.args.size c.args.front.now)) (sym c.refused_by.ensures)
    (memory_refused c.args.identity c.args.pages c.args.size c.args.front.now c.in-Err.why (λ i. omega (arith, c.type_inv.front i)) c.in-Err.ensures)

pub returns-in-Err-clause-cause : goal.returns-in-Err-clause-cause
returns-in-Err-clause-cause c = λ n.
    subst (λ (w : FindError). FindCause {T = Unit {0}} (Err w) n n) (sym c.refused_by.ensures) (refused_cause (Unit {0}) c.in-Err.why n)
