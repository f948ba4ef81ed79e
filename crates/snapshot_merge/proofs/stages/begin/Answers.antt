use Rattle.std.proofs.Common.{List, ℕ, ◌∷◌, [], Some, ◌≡◌, subst}
use Rattle.std.specs.FinMap.{get}
use Rattle.vm_outside.specs.Known.{Tells}
use Rattle.gate_file.specs.Runs.{RunsAll, RunsPart}
use Rattle.gate_file.proofs.Steps.{on_err, there_after}
use Rattle.gate_file.specs.Stages.{calls_of, stage_calls, written_all}
use Rattle.snapshot_merge.specs.Calls.{marking, slot_at}
use Rattle.snapshot_merge.proofs.Staged.{later_fails, stage_fails, stage_then}
use Rattle.snapshot_merge.proofs.stages.begin.Goals as goal

pub returns-in_err-put-clause-begun : goal.returns-in_err-put-clause-begun
returns-in_err-put-clause-begun g c =
    let known = g.F.Files.known in
    let base = c.args.base.now in
    let name = c.args.name.now in
    let part : Tells (known c.args.files.now).health → (text : List ℕ) → get (known c.args.files.now).saved base ≡ Some text
    → RunsPart base (calls_of base (((slot_at c.args.slot, name) ∷ []) ∷ (marking 1 ∷ []) ∷ []) text) (known c.args.files.now) (known c.put.new.files) = λ t text there.
    stage_fails base ((slot_at c.args.slot, name) ∷ []) ((marking 1 ∷ []) ∷ []) text _ _
    (subst (λ (at : ℕ). RunsPart base (stage_calls base ((at, name) ∷ []) text) (known c.args.files.now) (known c.put.new.files)) c.slot_at.ensures (c.in_err-put.ensures.begun t text there)) in
    on_err _ _ part

pub returns-in_err-mark-clause-begun : goal.returns-in_err-mark-clause-begun
returns-in_err-mark-clause-begun g c =
    let known = g.F.Files.known in
    let base = c.args.base.now in
    let name = c.args.name.now in
    let part : Tells (known c.args.files.now).health → (text : List ℕ) → get (known c.args.files.now).saved base ≡ Some text
    → RunsPart base (calls_of base (((slot_at c.args.slot, name) ∷ []) ∷ (marking 1 ∷ []) ∷ []) text) (known c.args.files.now) (known c.mark.new.files) = λ t text there.
    let first = subst (λ (at : ℕ). RunsAll base (stage_calls base ((at, name) ∷ []) text) (written_all ((at, name) ∷ []) text) (known c.args.files.now) (known c.put.new.files)) c.slot_at.ensures (c.in_ok-put.ensures.done t text there) in
    later_fails base ((slot_at c.args.slot, name) ∷ []) ((marking 1 ∷ []) ∷ []) text _ _ _ first
    (c.in_err-mark.ensures.begun (c.in_ok-put.ensures.called.lasts.still t) _ (there_after base _ _ _ _ first)) in
    on_err _ _ part

pub returns-clause-done : goal.returns-clause-done
returns-clause-done g c = λ t text there.
    let known = g.F.Files.known in
    let base = c.args.base.now in
    let name = c.args.name.now in
    let first = subst (λ (at : ℕ). RunsAll base (stage_calls base ((at, name) ∷ []) text) (written_all ((at, name) ∷ []) text) (known c.args.files.now) (known c.put.new.files)) c.slot_at.ensures (c.in_ok-put.ensures.done t text there) in
    stage_then base ((slot_at c.args.slot, name) ∷ []) ((marking 1 ∷ []) ∷ []) text _ _ _ first
    (c.in_ok-mark.ensures.done (c.in_ok-put.ensures.called.lasts.still t) _ (there_after base _ _ _ _ first))
