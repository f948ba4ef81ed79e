use Rattle.std.proofs.Common.{◌≡◌, ◌<◌, ◌≤◌, ◌+◌, ◌*◌, ◌++◌, ◌∷◌, List, ℕ, Some, length, take, refl, ap, ◌∙◌, subst, arith}
use Rattle.std.specs.Int.{div_ceil}
use Rattle.std.specs.FinMap.{get}
use Rattle.std.proofs.lemmas.Grind.{div_ceil_times}
use Rattle.vm_outside.specs.Known.{Tells}
use Rattle.gate_file.specs.Gate.{behind_calls}
use Rattle.gate_file.specs.Runs.{RunsAll, RunsPart}
use Rattle.gate_file.proofs.Steps.{on_err}
use Rattle.snap_writer.specs.Blocks.{block_size, block_writes}
use Rattle.snap_writer.proofs.Runs.{wrote_none, wrote_more, wrote_fails, wrote_all, sync_fails}
use Rattle.snap_writer.proofs.pages.write_pages.Goals as goal

pub loop-number-init : goal.loop-number-init
loop-number-init g c = record {
  room = c.requires.room;
  still = λ t. t;
  kept = refl;
  wrote = λ t front there start. wrote_none c.args.name.now c.args.at c.args.pages.now front _ there;
}

pub returns-in_err-write_at-clause-begun : goal.returns-in_err-write_at-clause-begun
returns-in_err-write_at-clause-begun g c =
    let known = g.F.Files.known in
    let name = c.args.name.now in
    let bytes = c.args.pages.now in
    let at = c.args.at in
    let i = c.loop-number.number in
    let blocks : ℕ = div_ceil (length bytes) block_size in
    let count : c.div_ceil-blocks.result ≡ blocks = c.div_ceil-blocks.ensures ∙ ap (λ (k : ℕ). div_ceil k block_size) c.len.ensures.len in
    let lt : i < blocks = omega (arith, count, c.loop-number-test.true) in
    let part : Tells (known c.args.files.now).health → (front : List ℕ) → get (known c.args.files.now).saved name ≡ Some (0 ∷ front) → at ≡ length (0 ∷ front)
    → RunsPart name (behind_calls name (block_writes at blocks bytes) (front ++ bytes)) (known c.args.files.now) (known c.write_at.new.self) = λ t front there start.
    wrote_fails name at bytes front _ i (at + block_size * i) (take c.gather-count.result c.gather-count.new.block) _ _ (omega arith) c.gather-count.ensures.bytes (c.loop-number.invariant.wrote t front there start) blocks (front ++ bytes) lt
    (c.in_err-write_at.ensures.begun (c.loop-number.invariant.still t)) in
    on_err _ _ part

pub loop-number-preserved : goal.loop-number-preserved
loop-number-preserved g c =
    let name = c.args.name.now in
    let bytes = c.args.pages.now in
    let at = c.args.at in
    let i = c.loop-number.number in
    let so_far = c.loop-number.invariant in
    record {
      room = c.gather-count.ensures.room;
      still = λ t. c.write_at.ensures.called.lasts.still (so_far.still t);
      kept = c.in_ok-write_at.ensures.called.kept ∙ so_far.kept;
      wrote = λ t front there start.
          wrote_more name at bytes front _ i (at + block_size * i) (take c.gather-count.result c.gather-count.new.block) _ _ (omega arith) c.gather-count.ensures.bytes (so_far.wrote t front there start) start (omega (arith, c.len.ensures.len, c.loop-number-test.true, c.div_ceil-blocks.ensures, (div_ceil_times c.len.result block_size (omega arith)).1))
          (c.in_ok-write_at.ensures.written (so_far.still t));
    }

pub returns-in_err-sync-clause-begun : goal.returns-in_err-sync-clause-begun
returns-in_err-sync-clause-begun g c =
    let known = g.F.Files.known in
    let name = c.args.name.now in
    let bytes = c.args.pages.now in
    let at = c.args.at in
    let i = c.loop-number.number in
    let blocks : ℕ = div_ceil (length bytes) block_size in
    let count : c.div_ceil-blocks.result ≡ blocks = c.div_ceil-blocks.ensures ∙ ap (λ (k : ℕ). div_ceil k block_size) c.len.ensures.len in
    let end : i ≡ blocks = omega (arith, count, c.loop-number-test.false, c.loop-number.auto.number-end) in
    let part : Tells (known c.args.files.now).health → (front : List ℕ) → get (known c.args.files.now).saved name ≡ Some (0 ∷ front) → at ≡ length (0 ∷ front)
    → RunsPart name (behind_calls name (block_writes at blocks bytes) (front ++ bytes)) (known c.args.files.now) (known c.sync.new.self) = λ t front there start.
    subst (λ (n : ℕ). RunsPart name (behind_calls name (block_writes at n bytes) (front ++ bytes)) (known c.args.files.now) (known c.sync.new.self)) end
    (sync_fails name at bytes front _ i (front ++ bytes) _ _ (c.loop-number.invariant.wrote t front there start) (c.in_err-sync.ensures.same (c.loop-number.invariant.still t))) in
    on_err _ _ part

pub returns-clause-filled : goal.returns-clause-filled
returns-clause-filled g c = λ t front there start.
    let known = g.F.Files.known in
    let name = c.args.name.now in
    let bytes = c.args.pages.now in
    let at = c.args.at in
    let i = c.loop-number.number in
    let blocks : ℕ = div_ceil (length bytes) block_size in
    let count : c.div_ceil-blocks.result ≡ blocks = c.div_ceil-blocks.ensures ∙ ap (λ (k : ℕ). div_ceil k block_size) c.len.ensures.len in
    let end : i ≡ blocks = omega (arith, count, c.loop-number-test.false, c.loop-number.auto.number-end) in
    let all : length bytes ≤ block_size * i = omega (arith, end, (div_ceil_times (length bytes) block_size (omega arith)).0) in
    subst (λ (n : ℕ). RunsAll name (behind_calls name (block_writes at n bytes) (front ++ bytes)) (0 ∷ front ++ bytes) (known c.args.files.now) (known c.sync.new.self)) end
    (wrote_all name at bytes front _ i _ _ all (c.loop-number.invariant.wrote t front there start) (c.in_ok-sync.ensures.synced (c.loop-number.invariant.still t)))
