use Rattle.std.proofs.Common.{Err, Result, sym, subst, arith}
use Rattle.refusals.specs.declared.refusal.Refusal.{Refusal}
use Rattle.snap_memory.specs.declared.header.MemHeader.{MemHeader}
use Rattle.snapshot_merge.specs.declared.error.RebaseError.{RebaseError}
use Rattle.snapshot_merge.specs.Answering.{Answers, Same}
use Rattle.snapshot_merge.specs.Bases.{base_front}
use Rattle.snapshot_merge.specs.Rebasing.{RebaseCause}
use Rattle.snapshot_merge.proofs.Judged.{base_good, base_refused, refused_cause}
use Rattle.snapshot_merge.proofs.judging.judge_base.Goals as goal

pub returns-in-Ok-clause-judged : goal.returns-in-Ok-clause-judged
returns-in-Ok-clause-judged c =
    subst (λ (r : Result MemHeader Refusal). Answers Same c.size_base.result r) (sym (base_good c.args.size c.args.front.now c.in-Ok.header c.in-Ok.ensures)) c.size_base.ensures.judged

pub returns-in-Err-clause-judged : goal.returns-in-Err-clause-judged
returns-in-Err-clause-judged c =
    subst (λ (w : RebaseError). Answers {A = MemHeader} Same (Err w) (base_front c.args.size c.args.front.now)) (sym c.refused_by.ensures)
    (base_refused c.args.size c.args.front.now c.in-Err.why (λ i. omega (arith, c.type_inv.front i)) c.in-Err.ensures)

pub returns-in-Err-clause-cause : goal.returns-in-Err-clause-cause
returns-in-Err-clause-cause c = λ n.
    subst (λ (w : RebaseError). RebaseCause {T = MemHeader} (Err w) n n) (sym c.refused_by.ensures) (refused_cause MemHeader c.in-Err.why n)
