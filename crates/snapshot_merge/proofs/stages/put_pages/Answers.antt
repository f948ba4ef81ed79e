use Rattle.std.proofs.Common.{◌≡◌, ℕ, ◌+◌, ◌*◌, ◌<◌, ◌≤◌, false, List, Some, length, get_or, slice_index_or, refl, sym, ◌∙◌, ap, subst, arith}
use Rattle.std.specs.FinMap.{get}
use Rattle.std.proofs.lemmas.List.{get_or_default}
use Rattle.vm_outside.specs.Known.{Tells}
use Rattle.gate_file.specs.Runs.{RunsPart}
use Rattle.gate_file.proofs.Steps.{on_err}
use Rattle.snap_diff.specs.declared.run.Run.{Run}
use Rattle.snap_diff.specs.Copies.{DiffCopy}
use Rattle.snap_diff.specs.Runs.{stored_in}
use Rattle.snapshot_merge.specs.Answering.{AreThere}
use Rattle.gate_file.specs.Stages.{stage_calls}
use Rattle.snapshot_merge.specs.Calls.{page_writes}
use Rattle.snapshot_merge.proofs.PagingRuns.{Put, at_end, base_there, next_run, place_first, place_next, put_all, put_more, put_none, run_fails, still_diff, sync_fails}
use Rattle.snapshot_merge.proofs.stages.put_pages.Goals as goal

pub loop-run-init : goal.loop-run-init
loop-run-init g c =
    let known = g.F.Files.known in
    let base = c.args.base.now in
    let diff = c.args.diff.now in
    let start = c.args.start.now in
    let here = ap (λ (n : ℕ). 64 + n) c.table_size.ensures.size in
    record {
      room = c.requires.room;
      place = ap (λ (rs : List Run). 64 + c.table_size.result + 4096 * stored_in rs) c.as_slice-runs.ensures
          ∙ place_first start (64 + c.table_size.result) c.requires.table here;
      still = λ t. t;
      later = refl;
      put = λ t d text there are.
          subst (λ (rs : List Run). Put base diff start d text (known c.args.files.now) there are rs (64 + c.table_size.result) (known c.args.files.now))
          (sym c.as_slice-runs.ensures) (put_none base diff start d text _ there are _ here);
    }

pub put_run-requires-clause-early : goal.put_run-requires-clause-early
put_run-requires-clause-early g c = omega (arith, c.loop-run.invariant.place, c.size_behind-size.ensures.size, c.size_behind-size.ensures.most)

pub returns-in_err-put_run-clause-begun : goal.returns-in_err-put_run-clause-begun
returns-in_err-put_run-clause-begun g c =
    let known = g.F.Files.known in
    let base = c.args.base.now in
    let diff = c.args.diff.now in
    let start = c.args.start.now in
    let runs = c.as_slice-runs.result.now in
    let i = c.loop-run.run-index in
    let r : Run = slice_index_or runs i (record { first = 0; length = 0; stored = false }) in
    let lt : i < length runs = omega arith in
    let part : Tells (known c.args.files.now).health → (d : DiffCopy) (text : List ℕ) → get (known c.args.files.now).saved base ≡ Some text
    → AreThere base diff start d (known c.args.files.now).saved
    → RunsPart base (stage_calls base (page_writes d.numbers d.bytes) text) (known c.args.files.now) (known c.put_run.new.files) = λ t d text there are.
    let put = next_run base diff start d text _ there are runs i r c.loop-run.at _ lt (get_or_default runs i _ _ lt) (c.loop-run.invariant.put t d text there are) in
    run_fails base diff start d text _ there are r _ c.loop-run.at _ put _
    (c.in_err-put_run.ensures.begun (c.loop-run.invariant.still t) _ _ (base_there base diff start d text _ there are r _ c.loop-run.at _ put)
    (still_diff base diff start d text _ there are r _ c.loop-run.at _ put) are.differ) in
    on_err _ _ part

pub loop-run-preserved : goal.loop-run-preserved
loop-run-preserved g c =
    let base = c.args.base.now in
    let diff = c.args.diff.now in
    let start = c.args.start.now in
    let so_far = c.loop-run.invariant in
    let runs = c.as_slice-runs.result.now in
    let i = c.loop-run.run-index in
    let r : Run = slice_index_or runs i (record { first = 0; length = 0; stored = false }) in
    let lt : i < length runs = omega arith in
    let is : r ≡ get_or runs i r = get_or_default runs i _ _ lt in
    let next = ap (λ (n : ℕ). c.loop-run.at + n) c.stored_bytes-at.ensures in
    record {
      room = c.put_run.ensures.room;
      place = place_next runs i r c.loop-run.at _ _ lt is so_far.place next;
      still = λ t. c.put_run.ensures.called.lasts.still (so_far.still t);
      later = so_far.later ∙ sym c.in_ok-put_run.ensures.called.kept;
      put = λ t d text there are.
          let put = next_run base diff start d text _ there are runs i r c.loop-run.at _ lt is (so_far.put t d text there are) in
          put_more base diff start d text _ there are r _ c.loop-run.at _ put _ _ next
          (c.in_ok-put_run.ensures.done (so_far.still t) _ _ (base_there base diff start d text _ there are r _ c.loop-run.at _ put)
          (still_diff base diff start d text _ there are r _ c.loop-run.at _ put) are.differ);
    }

pub returns-in_err-sync-clause-begun : goal.returns-in_err-sync-clause-begun
returns-in_err-sync-clause-begun g c =
    let known = g.F.Files.known in
    let base = c.args.base.now in
    let diff = c.args.diff.now in
    let start = c.args.start.now in
    let runs = c.as_slice-runs.result.now in
    let i = c.loop-run.run-index in
    let all : length runs ≤ i = omega arith in
    let part : Tells (known c.args.files.now).health → (d : DiffCopy) (text : List ℕ) → get (known c.args.files.now).saved base ≡ Some text
    → AreThere base diff start d (known c.args.files.now).saved
    → RunsPart base (stage_calls base (page_writes d.numbers d.bytes) text) (known c.args.files.now) (known c.sync.new.self) = λ t d text there are.
    sync_fails base diff start d text _ there are c.loop-run.at _
    (at_end base diff start d text _ there are runs i c.loop-run.at _ all (c.loop-run.invariant.put t d text there are)) _
    (c.in_err-sync.ensures.same (c.loop-run.invariant.still t)) in
    on_err _ _ part

pub returns-clause-done : goal.returns-clause-done
returns-clause-done g c = λ t d text there are.
    let base = c.args.base.now in
    let diff = c.args.diff.now in
    let start = c.args.start.now in
    let runs = c.as_slice-runs.result.now in
    let i = c.loop-run.run-index in
    let all : length runs ≤ i = omega arith in
    put_all base diff start d text _ there are c.loop-run.at _
    (at_end base diff start d text _ there are runs i c.loop-run.at _ all (c.loop-run.invariant.put t d text there are)) _
    (c.in_ok-sync.ensures.synced (c.loop-run.invariant.still t))
