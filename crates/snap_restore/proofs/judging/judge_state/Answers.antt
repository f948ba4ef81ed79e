use Rattle.std.proofs.Common.{Err, sym, subst, arith}
use Rattle.file_format.specs.Versions.{version_of}
use Rattle.snap_state.specs.declared.file.Saved.{Saved}
use Rattle.flat_snapshot.specs.Found.{state_in}
use Rattle.snap_restore.specs.declared.finding.FindError.{FindError}
use Rattle.snap_restore.specs.Finding.{Answers, FindCause, state_of}
use Rattle.snap_restore.proofs.Judged.{refused_cause, state_good, state_refused}
use Rattle.snap_restore.proofs.judging.judge_state.Goals as goal

pub returns-in-Ok-clause-judged : goal.returns-in-Ok-clause-judged
returns-in-Ok-clause-judged c = state_good c.args.bytes.now c.in-Ok.saved c.in-Ok.ensures

pub returns-in-Ok-clause-saved : goal.returns-in-Ok-clause-saved
returns-in-Ok-clause-saved c =
    let has = c.in-Ok.ensures.saved in
    record { version = version_of c.args.bytes.now; fits = has.fits; valid = has.valid; numbered = has.numbered }

pub returns-in-Err-clause-judged : goal.returns-in-Err-clause-judged
returns-in-Err-clause-judged c =
    subst (λ (w : FindError). Answers state_of (Err w) (state_in c.args.bytes.now)) (sym c.refused_by.ensures)
    (state_refused c.args.bytes.now c.in-Err.why (λ i. omega (arith, c.type_inv.bytes i)) c.in-Err.ensures)

pub returns-in-Err-clause-cause : goal.returns-in-Err-clause-cause
returns-in-Err-clause-cause c = λ n.
    subst (λ (w : FindError). FindCause {T = Saved} (Err w) n n) (sym c.refused_by.ensures) (refused_cause Saved c.in-Err.why n)
