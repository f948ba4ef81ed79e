use Rattle.std.proofs.Common.{subst}
use Rattle.std.specs.Prelude.{Result}
use Rattle.snapshot_merge.specs.declared.error.RebaseError.{RebaseError}
use Rattle.snapshot_merge.specs.Rebasing.{Rebases}
use Rattle.snapshot_merge.proofs.Meanwhile.{begun, crash, lasting, over_before}
use Rattle.snapshot_merge.proofs.rebasing.rebase.Goals as goal

pub returns-clause-crash : goal.returns-clause-crash
returns-clause-crash g c told file m d disk was left =
    crash c.args.base.now c.args.diff.now (g.F.Files.known c.args.files.now) (g.F.Files.known c.rebase_files.new.files)
    (g.F.Files.image c.args.files.now told) file m d was disk c.rebase_files.result (c.rebase_files.ensures.rebased told) left

pub returns-clause-lasting : goal.returns-clause-lasting
returns-clause-lasting g c =
    lasting c.args.base.now c.args.diff.now _ c.rebase_files.result (g.F.Files.known c.args.files.now)
    (g.F.Files.known c.rebase_files.new.files) (g.F.Files.image c.args.files.now) c.rebase_files.ensures.rebased

pub returns-clause-settled : goal.returns-clause-settled
returns-clause-settled g c is told file m d was =
    over_before c.args.base.now c.args.diff.now (g.F.Files.known c.args.files.now) (g.F.Files.known c.rebase_files.new.files)
    (g.F.Files.image c.args.files.now told) file m d was
    (subst (λ (r : Result (Unit {0}) RebaseError). Rebases c.args.base.now c.args.diff.now r (g.F.Files.known c.args.files.now) (g.F.Files.known c.rebase_files.new.files)) is
    (c.rebase_files.ensures.rebased told))

pub returns-clause-begun : goal.returns-clause-begun
returns-clause-begun g c told file m d was =
    begun c.args.base.now c.args.diff.now (g.F.Files.known c.args.files.now) (g.F.Files.known c.rebase_files.new.files)
    (g.F.Files.image c.args.files.now told) file m d was c.rebase_files.result (c.rebase_files.ensures.rebased told)
