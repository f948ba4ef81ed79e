use Rattle.std.proofs.Common.{List, ℕ, ◌∷◌, [], Some, ◌≡◌}
use Rattle.std.specs.FinMap.{get}
use Rattle.vm_outside.specs.Known.{Tells}
use Rattle.gate_file.specs.Runs.{RunsPart}
use Rattle.gate_file.proofs.Steps.{on_err}
use Rattle.gate_file.specs.Stages.{stage_calls}
use Rattle.snapshot_merge.proofs.Staged.{put_done, put_unsynced}
use Rattle.snapshot_merge.proofs.stages.put.Goals as goal

pub returns-clause-done : goal.returns-clause-done
returns-clause-done g c = λ t text there.
    put_done c.args.name.now text c.args.at c.args.bytes.now _ _ _ there (c.in_ok-write_at.ensures.written t) (c.in_ok-sync.ensures.synced (c.write_at.ensures.called.lasts.still t))

pub returns-in_err-sync-clause-begun : goal.returns-in_err-sync-clause-begun
returns-in_err-sync-clause-begun g c =
    let known = g.F.Files.known in
    let name = c.args.name.now in
    let part : Tells (known c.args.files.now).health → (text : List ℕ) → get (known c.args.files.now).saved name ≡ Some text
    → RunsPart name (stage_calls name ((c.args.at, c.args.bytes.now) ∷ []) text) (known c.args.files.now) (known c.sync.new.self) = λ t text there.
    put_unsynced name text c.args.at c.args.bytes.now _ _ _ there (c.in_ok-write_at.ensures.written t) (c.in_err-sync.ensures.same (c.write_at.ensures.called.lasts.still t)) in
    on_err _ _ part
