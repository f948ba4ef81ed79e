use Rattle.std.proofs.Common.{List, ℕ, ◌+◌, ◌∷◌, [], Some, ◌≡◌, subst}
use Rattle.std.specs.FinMap.{get}
use Rattle.vm_outside.specs.Known.{Tells}
use Rattle.gate_file.specs.Runs.{RunsAll, RunsPart}
use Rattle.gate_file.proofs.Steps.{on_err, there_after}
use Rattle.snap_diff.specs.Copies.{DiffCopy}
use Rattle.snapshot_merge.specs.Answering.{AreThere}
use Rattle.gate_file.specs.Stages.{calls_of, stage_calls, written_all}
use Rattle.snapshot_merge.specs.Calls.{filling, marking, opening, page_writes}
use Rattle.snapshot_merge.proofs.Staged.{later_fails, stage_fails, stage_then}
use Rattle.snapshot_merge.proofs.stages.fill.Goals as goal

pub returns-in_err-put_pages-clause-begun : goal.returns-in_err-put_pages-clause-begun
returns-in_err-put_pages-clause-begun g c =
    let known = g.F.Files.known in
    let base = c.args.base.now in
    let part : Tells (known c.args.files.now).health → (d : DiffCopy) (text : List ℕ) → get (known c.args.files.now).saved base ≡ Some text
    → AreThere base c.args.diff.now c.args.start.now d (known c.args.files.now).saved
    → RunsPart base (calls_of base (filling c.args.slot d) text) (known c.args.files.now) (known c.put_pages.new.files) = λ t d text there are.
    stage_fails base (page_writes d.numbers d.bytes) ((opening c.args.slot ∷ []) ∷ (marking 0 ∷ []) ∷ []) text _ _ (c.in_err-put_pages.ensures.begun t d text there are) in
    on_err _ _ part

pub returns-in_err-put-clause-begun : goal.returns-in_err-put-clause-begun
returns-in_err-put-clause-begun g c =
    let known = g.F.Files.known in
    let base = c.args.base.now in
    let part : Tells (known c.args.files.now).health → (d : DiffCopy) (text : List ℕ) → get (known c.args.files.now).saved base ≡ Some text
    → AreThere base c.args.diff.now c.args.start.now d (known c.args.files.now).saved
    → RunsPart base (calls_of base (filling c.args.slot d) text) (known c.args.files.now) (known c.put.new.files) = λ t d text there are.
    let first = c.in_ok-put_pages.ensures.done t d text there are in
    let told = c.in_ok-put_pages.ensures.called.lasts.still t in
    let mid = written_all (page_writes d.numbers d.bytes) text in
    later_fails base (page_writes d.numbers d.bytes) ((opening c.args.slot ∷ []) ∷ (marking 0 ∷ []) ∷ []) text _ _ _ first
    (stage_fails base (opening c.args.slot ∷ []) ((marking 0 ∷ []) ∷ []) mid _ _
    (subst (λ (at : ℕ). RunsPart base (stage_calls base ((at + 16, 1 ∷ []) ∷ []) mid) (known c.put_pages.new.files) (known c.put.new.files)) c.slot_at.ensures
    (c.in_err-put.ensures.begun told mid (there_after base _ _ _ _ first)))) in
    on_err _ _ part

pub returns-in_err-mark-clause-begun : goal.returns-in_err-mark-clause-begun
returns-in_err-mark-clause-begun g c =
    let known = g.F.Files.known in
    let base = c.args.base.now in
    let part : Tells (known c.args.files.now).health → (d : DiffCopy) (text : List ℕ) → get (known c.args.files.now).saved base ≡ Some text
    → AreThere base c.args.diff.now c.args.start.now d (known c.args.files.now).saved
    → RunsPart base (calls_of base (filling c.args.slot d) text) (known c.args.files.now) (known c.mark.new.files) = λ t d text there are.
    let first = c.in_ok-put_pages.ensures.done t d text there are in
    let told = c.in_ok-put_pages.ensures.called.lasts.still t in
    let mid = written_all (page_writes d.numbers d.bytes) text in
    let second = subst (λ (at : ℕ). RunsAll base (stage_calls base ((at + 16, 1 ∷ []) ∷ []) mid) (written_all ((at + 16, 1 ∷ []) ∷ []) mid) (known c.put_pages.new.files) (known c.put.new.files)) c.slot_at.ensures
    (c.in_ok-put.ensures.done told mid (there_after base _ _ _ _ first)) in
    later_fails base (page_writes d.numbers d.bytes) ((opening c.args.slot ∷ []) ∷ (marking 0 ∷ []) ∷ []) text _ _ _ first
    (later_fails base (opening c.args.slot ∷ []) ((marking 0 ∷ []) ∷ []) mid _ _ _ second
    (c.in_err-mark.ensures.begun (c.in_ok-put.ensures.called.lasts.still told) _ (there_after base _ _ _ _ second))) in
    on_err _ _ part

pub returns-clause-done : goal.returns-clause-done
returns-clause-done g c = λ t d text there are.
    let known = g.F.Files.known in
    let base = c.args.base.now in
    let first = c.in_ok-put_pages.ensures.done t d text there are in
    let told = c.in_ok-put_pages.ensures.called.lasts.still t in
    let mid = written_all (page_writes d.numbers d.bytes) text in
    let second = subst (λ (at : ℕ). RunsAll base (stage_calls base ((at + 16, 1 ∷ []) ∷ []) mid) (written_all ((at + 16, 1 ∷ []) ∷ []) mid) (known c.put_pages.new.files) (known c.put.new.files)) c.slot_at.ensures
    (c.in_ok-put.ensures.done told mid (there_after base _ _ _ _ first)) in
    stage_then base (page_writes d.numbers d.bytes) ((opening c.args.slot ∷ []) ∷ (marking 0 ∷ []) ∷ []) text _ _ _ first
    (stage_then base (opening c.args.slot ∷ []) ((marking 0 ∷ []) ∷ []) mid _ _ _ second
    (c.in_ok-mark.ensures.done (c.in_ok-put.ensures.called.lasts.still told) _ (there_after base _ _ _ _ second)))
