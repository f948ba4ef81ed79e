use Rattle.std.proofs.Common.{◌≡◌, ◌≢◌, List, ℕ, [], ◌++◌, Some, drop, refl, sym, ◌∙◌, arith}
use Rattle.std.specs.FinMap.{get}
use Rattle.vm_outside.specs.Calls.{FileCall}
use Rattle.vm_outside.specs.Known.{Tells}
use Rattle.gate_file.specs.Gate.{write_calls}
use Rattle.gate_file.specs.Runs.{RunsPart}
use Rattle.gate_file.proofs.Steps.{on_err}
use Rattle.snapshot_merge.specs.Answering.{run_writes}
use Rattle.snapshot_merge.proofs.Paging.{kept, read_fails, same_wrote, wrote_all, wrote_more, wrote_none, write_fails}
use Rattle.snapshot_merge.proofs.PagingRuns.{few_writes, next_write}
use Rattle.snapshot_merge.proofs.stages.put_run.Goals as goal

pub loop-i-init : goal.loop-i-init
loop-i-init g c = record {
  room = c.requires.room;
  still = λ t. t;
  later = refl;
  wrote = λ t text given there other differ. wrote_none c.args.base.now text (run_writes c.args.run.now (drop c.args.at given)) _ there;
}

pub returns-in_err-fetch-clause-begun : goal.returns-in_err-fetch-clause-begun
returns-in_err-fetch-clause-begun g c =
    let known = g.F.Files.known in
    let base = c.args.base.now in
    let part : Tells (known c.args.files.now).health → (text given : List ℕ) → get (known c.args.files.now).saved base ≡ Some text
    → get (known c.args.files.now).saved c.args.diff.now ≡ Some given → c.args.diff.now ≢ base → (more : List FileCall) → more ≢ []
    → RunsPart base (write_calls base (run_writes c.args.run.now (drop c.args.at given)) ++ more) (known c.args.files.now) (known c.fetch.new.files) = λ t text given there other differ.
    read_fails base text (run_writes c.args.run.now (drop c.args.at given)) _ there c.loop-i.i _ _ (c.loop-i.invariant.wrote t text given there other differ)
    (c.fetch.ensures.same (c.loop-i.invariant.still t)) in
    on_err _ _ part

pub returns-in_err-write_at-clause-begun : goal.returns-in_err-write_at-clause-begun
returns-in_err-write_at-clause-begun g c =
    let known = g.F.Files.known in
    let base = c.args.base.now in
    let diff = c.args.diff.now in
    let i = c.loop-i.i in
    let part : Tells (known c.args.files.now).health → (text given : List ℕ) → get (known c.args.files.now).saved base ≡ Some text
    → get (known c.args.files.now).saved diff ≡ Some given → diff ≢ base → (more : List FileCall) → more ≢ []
    → RunsPart base (write_calls base (run_writes c.args.run.now (drop c.args.at given)) ++ more) (known c.args.files.now) (known c.write_at.new.self) = λ t text given there other differ.
    let ws = run_writes c.args.run.now (drop c.args.at given) in
    let told = c.loop-i.invariant.still t in
    let so_far = c.loop-i.invariant.wrote t text given there other differ in
    let next = next_write c.args.run.now (get (known c.loop-i.files).saved diff) given c.fetch.new.page c.args.at _ i _ (kept base text ws _ there diff differ i _ so_far ∙ other)
    (c.in_ok-fetch.ensures.page told) refl (c.fetch.ensures.room ∙ c.loop-i.invariant.room) (omega (arith, c.loop-i-test.true)) (omega arith) in
    write_fails base text ws _ there i _ c.fetch.new.page _ _ (same_wrote base text ws _ there i _ _ so_far (c.fetch.ensures.same told)) next
    (c.in_err-write_at.ensures.begun (c.fetch.ensures.called.lasts.still told)) in
    on_err _ _ part

pub loop-i-preserved : goal.loop-i-preserved
loop-i-preserved g c =
    let known = g.F.Files.known in
    let base = c.args.base.now in
    let diff = c.args.diff.now in
    let i = c.loop-i.i in
    let so_far = c.loop-i.invariant in
    record {
      room = c.fetch.ensures.room ∙ so_far.room;
      still = λ t. c.write_at.ensures.called.lasts.still (c.fetch.ensures.called.lasts.still (so_far.still t));
      later = so_far.later ∙ sym c.in_ok-fetch.ensures.called.kept ∙ sym c.in_ok-write_at.ensures.called.kept;
      wrote = λ t text given there other differ.
          let ws = run_writes c.args.run.now (drop c.args.at given) in
          let told = so_far.still t in
          let wrote = so_far.wrote t text given there other differ in
          let next = next_write c.args.run.now (get (known c.loop-i.files).saved diff) given c.fetch.new.page c.args.at _ i _ (kept base text ws _ there diff differ i _ wrote ∙ other)
          (c.in_ok-fetch.ensures.page told) refl (c.fetch.ensures.room ∙ so_far.room) (omega (arith, c.loop-i-test.true)) (omega arith) in
          wrote_more base text ws _ there i _ c.fetch.new.page _ _ (same_wrote base text ws _ there i _ _ wrote (c.fetch.ensures.same told)) next
          (c.in_ok-write_at.ensures.written (c.fetch.ensures.called.lasts.still told));
    }

pub returns-clause-done : goal.returns-clause-done
returns-clause-done g c = λ t text given there other differ.
    wrote_all c.args.base.now text (run_writes c.args.run.now (drop c.args.at given)) _ there c.loop-i.i _
    (few_writes c.args.run.now (drop c.args.at given) c.loop-i.i (omega (arith, c.loop-i-test.false))) (c.loop-i.invariant.wrote t text given there other differ)
