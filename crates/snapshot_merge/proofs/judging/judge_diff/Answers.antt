use Rattle.std.proofs.Common.{Err, sym, subst, arith}
use Rattle.snap_diff.specs.declared.header.DiffHeader.{DiffHeader}
use Rattle.snapshot_merge.specs.declared.error.RebaseError.{RebaseError}
use Rattle.snapshot_merge.specs.Answering.{StartJudged}
use Rattle.snapshot_merge.specs.Rebasing.{RebaseCause}
use Rattle.snapshot_merge.proofs.Judged.{refused_cause, start_refused}
use Rattle.snapshot_merge.proofs.judging.judge_diff.Goals as goal

pub returns-in-Err-clause-judged : goal.returns-in-Err-clause-judged
returns-in-Err-clause-judged c = λ given is size.
    subst (λ (w : RebaseError). StartJudged given (Err w)) (sym c.refused_by.ensures)
    (start_refused given c.args.front.now c.in-Err.why is (λ i. omega (arith, c.type_inv.front i)) c.in-Err.ensures)

pub returns-in-Err-clause-cause : goal.returns-in-Err-clause-cause
returns-in-Err-clause-cause c = λ n.
    subst (λ (w : RebaseError). RebaseCause {T = DiffHeader} (Err w) n n) (sym c.refused_by.ensures) (refused_cause DiffHeader c.in-Err.why n)

pub size_diff-requires : goal.size_diff-requires
size_diff-requires c = record { fits = c.in-Ok.ensures.fits; names = c.in-Ok.ensures.valid }
