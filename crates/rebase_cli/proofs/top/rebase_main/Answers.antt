use Rattle.rebase_cli.proofs.Lines.{took_line}
use Rattle.rebase_cli.proofs.Spares.{spares}
use Rattle.rebase_cli.proofs.Stops.{goes_on, merged, stands}
use Rattle.rebase_cli.proofs.top.rebase_main.Goals as goal

pub returns-clause-told : goal.returns-clause-told
returns-clause-told g c = λ told. took_line _ _ _ c.write_last.result (c.write_last.ensures.takes told) c.write_last.ensures.called

pub returns-clause-crash : goal.returns-clause-crash
returns-clause-crash g c = λ told names is file m d disk was left.
    stands names (g.F.Files.known c.args.files.now) (g.F.Files.known c.run-end.new.files) (g.F.Files.image c.args.files.now told) file m d was disk
    c.run-end.result (c.run-end.ensures.ends told names is) left

pub returns-clause-lasting : goal.returns-clause-lasting
returns-clause-lasting g c = λ done told names is file m d was.
    merged names (g.F.Files.known c.args.files.now) (g.F.Files.known c.run-end.new.files) (g.F.Files.image c.args.files.now told) file m d was
    c.run-end.result done (c.run-end.ensures.ends told names is)

pub returns-clause-begun : goal.returns-clause-begun
returns-clause-begun g c = λ told names is file m d was.
    goes_on names (g.F.Files.known c.args.files.now) (g.F.Files.known c.run-end.new.files) (g.F.Files.image c.args.files.now told) file m d was
    c.run-end.result (c.run-end.ensures.ends told names is)

pub returns-clause-spares : goal.returns-clause-spares
returns-clause-spares g c = λ told conversion is disk left.
    spares conversion (g.F.Files.known c.args.files.now) (g.F.Files.known c.run-end.new.files) disk c.run-end.result (c.run-end.ensures.converts told conversion is) left
