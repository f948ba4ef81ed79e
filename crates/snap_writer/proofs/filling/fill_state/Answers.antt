use Rattle.std.proofs.Common.{[], ◌∷◌, Some}
use Rattle.vm_outside.specs.Calls.FileCall.{Synced}
use Rattle.vm_outside.specs.Known.{Tells}
use Rattle.gate_file.specs.Gate.{fill_calls}
use Rattle.gate_file.specs.Runs.{RunsPart}
use Rattle.gate_file.proofs.Steps.{on_err, part_more, sync_part, sync_runs}
use Rattle.snap_writer.proofs.Runs.{body_fails, body_there, rest_fails, filled}
use Rattle.snap_writer.proofs.filling.fill_state.Goals as goal

pub returns-in_err-close_file-clause-begun : goal.returns-in_err-close_file-clause-begun
returns-in_err-close_file-clause-begun g c =
    let known = g.F.Files.known in
    let name = c.args.name.now in
    let body = c.args.body.now in
    let part : Tells (known c.args.files.now).health → RunsPart name (fill_calls name ((1, body) ∷ []) body) (known c.args.files.now) (known c.close_file.new.files) = λ t.
    part_more name _ _ _ _ (c.in_err-close_file.ensures.begun t) in
    on_err _ _ part

pub returns-in_err-write_at-clause-begun : goal.returns-in_err-write_at-clause-begun
returns-in_err-write_at-clause-begun g c =
    let known = g.F.Files.known in
    let name = c.args.name.now in
    let body = c.args.body.now in
    let part : Tells (known c.args.files.now).health → RunsPart name (fill_calls name ((1, body) ∷ []) body) (known c.args.files.now) (known c.write_at.new.self) = λ t.
    body_fails name body body [] _ _ (c.in_ok-close_file.ensures.closed t) _ (c.in_err-write_at.ensures.begun (c.close_file.ensures.called.lasts.still t)) in
    on_err _ _ part

pub returns-in_err-sync-clause-begun : goal.returns-in_err-sync-clause-begun
returns-in_err-sync-clause-begun g c =
    let known = g.F.Files.known in
    let name = c.args.name.now in
    let body = c.args.body.now in
    let part : Tells (known c.args.files.now).health → RunsPart name (fill_calls name ((1, body) ∷ []) body) (known c.args.files.now) (known c.sync.new.self) = λ t.
    let closed = c.close_file.ensures.called.lasts.still t in
    let wrote = c.write_at.ensures.called.lasts.still closed in
    rest_fails name body body [] _ _ (c.in_ok-close_file.ensures.closed t) _ (c.in_ok-write_at.ensures.written closed) _
    (sync_part name (Synced name (Some (0 ∷ body))) [] _ _ (c.in_err-sync.ensures.same wrote)) in
    on_err _ _ part

pub returns-clause-filled : goal.returns-clause-filled
returns-clause-filled g c = λ t.
    let name = c.args.name.now in
    let body = c.args.body.now in
    let closed = c.close_file.ensures.called.lasts.still t in
    let wrote = c.write_at.ensures.called.lasts.still closed in
    let first = c.in_ok-close_file.ensures.closed t in
    let second = c.in_ok-write_at.ensures.written closed in
    filled name body body [] _ _ first _ second _ (sync_runs name (0 ∷ body) _ _ (body_there name body body [] _ _ first _ second) (c.in_ok-sync.ensures.synced wrote))
