use Rattle.create_lists.proofs.Creating.{create_agrees, load_agrees}
use Rattle.create_lists.proofs.Keeping.{rebase_keeps}
use Rattle.create_lists.proofs.Unfinished.{load_refused}
use Rattle.create_lists.proofs.law.any_files.Goals as goal

pub returns-clause-merges : goal.returns-clause-merges
returns-clause-merges c creates base diff result old new disk are holds each image rebases left =
    rebase_keeps creates are base diff old new holds each image disk left result rebases

pub returns-clause-creates : goal.returns-clause-creates
returns-clause-creates c creates made before done memory state disk files each leaves =
    create_agrees creates made before done memory state files each disk leaves

pub returns-clause-loads : goal.returns-clause-loads
returns-clause-loads c creates calls saved files it are holds each image is = load_agrees creates calls saved files it are holds each image is

pub returns-clause-unfinished : goal.returns-clause-unfinished
returns-clause-unfinished c saved files text state one there unfinished = load_refused saved files text state one there unfinished
