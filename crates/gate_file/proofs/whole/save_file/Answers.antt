use Rattle.std.proofs.Common.{List, ℕ, [], ◌∷◌, Some, subst}
use Rattle.vm_outside.specs.Calls.FileCall.{Making, Made, Writing, Synced}
use Rattle.vm_outside.specs.Known.{Tells}
use Rattle.gate_file.specs.Runs.{RunsAll, RunsPart, save_calls}
use Rattle.gate_file.proofs.Steps.{not_empty, on_err, there_after, runs_then, part_then, make_runs, write_runs, sync_runs, call_part, sync_part, written_end}
use Rattle.gate_file.proofs.whole.save_file.Goals as goal

pub returns-clause-saved : goal.returns-clause-saved
returns-clause-saved g c = λ t.
    let name = c.args.name.now in
    let text = c.args.content.now in
    let made = c.make.ensures.called.lasts.still t in
    let wrote = c.write_at.ensures.called.lasts.still made in
    let first = make_runs name _ _ (c.in_ok-make.ensures.made t) in
    let second = write_runs name [] 0 text _ _ (there_after name _ [] _ _ first) (c.in_ok-write_at.ensures.written made) in
    let filled = subst (λ (l : List ℕ). RunsAll name (Making name ∷ Made name ∷ Writing name 0 text ∷ []) l (g.F.Files.known c.args.files.now) (g.F.Files.known c.write_at.new.self))
    (written_end [] text) (runs_then name _ _ [] _ _ _ _ first second) in
    runs_then name _ _ text text _ _ _ filled (sync_runs name text _ _ (there_after name _ text _ _ filled) (c.in_ok-sync.ensures.synced wrote))

pub returns-in_err-make-clause-begun : goal.returns-in_err-make-clause-begun
returns-in_err-make-clause-begun g c =
    let known = g.F.Files.known in
    let name = c.args.name.now in
    let text = c.args.content.now in
    let part : Tells (known c.args.files.now).health → RunsPart name (save_calls name text) (known c.args.files.now) (known c.make.new.self) = λ t.
    call_part name (Making name) (Made name ∷ Writing name 0 text ∷ Synced name (Some text) ∷ []) _ _ (not_empty _ _) (c.in_err-make.ensures.begun t) in
    on_err _ _ part

pub returns-in_err-write_at-clause-begun : goal.returns-in_err-write_at-clause-begun
returns-in_err-write_at-clause-begun g c =
    let known = g.F.Files.known in
    let name = c.args.name.now in
    let text = c.args.content.now in
    let part : Tells (known c.args.files.now).health → RunsPart name (save_calls name text) (known c.args.files.now) (known c.write_at.new.self) = λ t.
    part_then name _ _ [] _ _ _ (make_runs name _ _ (c.in_ok-make.ensures.made t))
    (call_part name (Writing name 0 text) (Synced name (Some text) ∷ []) _ _ (not_empty _ _) (c.in_err-write_at.ensures.begun (c.make.ensures.called.lasts.still t))) in
    on_err _ _ part

pub returns-in_err-sync-clause-begun : goal.returns-in_err-sync-clause-begun
returns-in_err-sync-clause-begun g c =
    let known = g.F.Files.known in
    let name = c.args.name.now in
    let text = c.args.content.now in
    let part : Tells (known c.args.files.now).health → RunsPart name (save_calls name text) (known c.args.files.now) (known c.sync.new.self) = λ t.
    let made = c.make.ensures.called.lasts.still t in
    let wrote = c.write_at.ensures.called.lasts.still made in
    let first = make_runs name _ _ (c.in_ok-make.ensures.made t) in
    let second = write_runs name [] 0 text _ _ (there_after name _ [] _ _ first) (c.in_ok-write_at.ensures.written made) in
    part_then name _ _ _ _ _ _ (runs_then name _ _ [] _ _ _ _ first second)
    (sync_part name (Synced name (Some text)) [] _ _ (c.in_err-sync.ensures.same wrote)) in
    on_err _ _ part
