use Rattle.std.proofs.Common.{inr}
use Rattle.snapshot_merge.specs.Answering.{AreThere}
use Rattle.snapshot_merge.proofs.Planned.{base_text, names_differ}
use Rattle.snapshot_merge.proofs.rebasing.run.Goals as goal

pub returns-in-Ok-merge-clause-rebased : goal.returns-in-Ok-merge-clause-rebased
returns-in-Ok-merge-clause-rebased g c = λ told plan is merges start.
    let saved = (g.F.Files.known c.args.files.now).saved in
    let base = c.args.base.now in
    let diff = c.args.diff.now in
    let text = base_text saved base diff plan is in
    let are : AreThere base diff c.args.start.now plan.diff saved = record { differ = names_differ saved base diff plan is; there = start } in
    record { plan = plan; text = text.0; planned = is; there = text.1; runs = c.in-Ok-merge.ensures.done told plan text.0 text.1 merges are }

pub returns-clause-rebased : goal.returns-clause-rebased
returns-clause-rebased g c = λ told plan is merges start.
    let saved = (g.F.Files.known c.args.files.now).saved in
    let base = c.args.base.now in
    let diff = c.args.diff.now in
    let text = base_text saved base diff plan is in
    let are : AreThere base diff c.args.start.now plan.diff saved = record { differ = names_differ saved base diff plan is; there = start } in
    inr (record { plan = plan; text = text.0; planned = is; there = text.1; runs = c.in-Err.ensures.begun told plan text.0 text.1 merges are })
