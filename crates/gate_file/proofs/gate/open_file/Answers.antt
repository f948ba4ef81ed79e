use Rattle.std.proofs.Common.{List, ℕ, [], ◌∷◌, ◌≡◌, Some}
use Rattle.std.specs.FinMap.{get}
use Rattle.vm_outside.specs.Calls.FileCall.{Writing, Synced}
use Rattle.vm_outside.specs.Known.{Tells}
use Rattle.gate_file.specs.Gate.{open_calls}
use Rattle.gate_file.specs.Runs.{RunsPart}
use Rattle.gate_file.proofs.Steps.{not_empty, on_err, there_after, runs_then, part_then, write_runs, sync_runs, call_part, sync_part}
use Rattle.gate_file.proofs.gate.open_file.Goals as goal

pub returns-clause-opened : goal.returns-clause-opened
returns-clause-opened g c = λ t rest closed.
    let name = c.args.name.now in
    let wrote = c.write_at.ensures.called.lasts.still t in
    let first = write_runs name (0 ∷ rest) 0 (1 ∷ []) _ _ closed (c.in_ok-write_at.ensures.written t) in
    runs_then name _ _ (1 ∷ rest) (1 ∷ rest) _ _ _ first (sync_runs name (1 ∷ rest) _ _ (there_after name _ (1 ∷ rest) _ _ first) (c.in_ok-sync.ensures.synced wrote))

pub returns-in_err-write_at-clause-begun : goal.returns-in_err-write_at-clause-begun
returns-in_err-write_at-clause-begun g c =
    let known = g.F.Files.known in
    let name = c.args.name.now in
    let part : Tells (known c.args.files.now).health → (rest : List ℕ) → get (known c.args.files.now).saved name ≡ Some (0 ∷ rest)
    → RunsPart name (open_calls name rest) (known c.args.files.now) (known c.write_at.new.self) = λ t rest closed.
    call_part name (Writing name 0 (1 ∷ [])) (Synced name (Some (1 ∷ rest)) ∷ []) _ _ (not_empty _ _) (c.in_err-write_at.ensures.begun t) in
    on_err _ _ part

pub returns-in_err-sync-clause-begun : goal.returns-in_err-sync-clause-begun
returns-in_err-sync-clause-begun g c =
    let known = g.F.Files.known in
    let name = c.args.name.now in
    let part : Tells (known c.args.files.now).health → (rest : List ℕ) → get (known c.args.files.now).saved name ≡ Some (0 ∷ rest)
    → RunsPart name (open_calls name rest) (known c.args.files.now) (known c.sync.new.self) = λ t rest closed.
    let wrote = c.write_at.ensures.called.lasts.still t in
    let first = write_runs name (0 ∷ rest) 0 (1 ∷ []) _ _ closed (c.in_ok-write_at.ensures.written t) in
    part_then name _ _ (1 ∷ rest) _ _ _ first (sync_part name (Synced name (Some (1 ∷ rest))) [] _ _ (c.in_err-sync.ensures.same wrote)) in
    on_err _ _ part
