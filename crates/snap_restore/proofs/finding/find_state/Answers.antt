use Rattle.std.proofs.Common.{ℕ, List, sym, subst, ◌∙◌}
use Rattle.std.specs.FinMap.{get}
use Rattle.vm_types.specs.Saved as files
use Rattle.vm_outside.specs.Filing.{IsReadAt}
use Rattle.flat_snapshot.specs.Found.{state_in}
use Rattle.snap_restore.specs.Finding.{Answers, FindCause, state_of}
use Rattle.snap_restore.proofs.Starts.{size_err, size_ok}
use Rattle.snap_restore.proofs.finding.find_state.Goals as goal

pub returns-in-Err-clause-finds : goal.returns-in-Err-clause-finds
returns-in-Err-clause-finds g c = λ told.
    size_err (get (g.F.Files.known c.args.files.now).saved c.args.name.now) c.in-Err.why (c.in-Err.ensures.finds told)

pub returns-in-Ok-read_front-clause-finds : goal.returns-in-Ok-read_front-clause-finds
returns-in-Ok-read_front-clause-finds g c = λ told.
    let name = c.args.name.now in
    let mid = c.find_size.ensures.lasts.still told in
    size_ok (get (g.F.Files.known c.args.files.now).saved name) c.in-Ok.size c.in-Ok-read_front.bytes.items c.judge_state.result
    (c.in-Ok.ensures.finds told) c.in-Ok-read_front.ensures.size
    (subst (λ (s : files.Saved). IsReadAt (get s name) 0 c.in-Ok-read_front.bytes.items) (c.find_size.ensures.same told).saved
    (c.in-Ok-read_front.ensures.bytes mid))
    (subst (λ (l : List ℕ). Answers state_of c.judge_state.result (state_in l)) c.deref.ensures.value c.judge_state.ensures.judged)

pub returns-in-Ok-read_front-clause-cause : goal.returns-in-Ok-read_front-clause-cause
returns-in-Ok-read_front-clause-cause g c =
    let before = (g.F.Files.known c.args.files.now).health.faults in
    subst (λ (n : ℕ). FindCause c.judge_state.result before n) (sym (c.in-Ok-read_front.ensures.cause ∙ c.in-Ok.ensures.cause)) (c.judge_state.ensures.cause before)
