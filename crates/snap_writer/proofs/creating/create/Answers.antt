use Rattle.snap_writer.proofs.Crashing.{crash, lasting}
use Rattle.snap_writer.proofs.creating.create.Goals as goal

pub returns-clause-crash : goal.returns-clause-crash
returns-clause-crash g c tells disk left =
    crash c.args.memory.now c.args.head.now _ c.args.state.now c.args.body.now c.requires.differ c.write_files.result
    (g.F.Files.known c.args.files.now) (g.F.Files.known c.write_files.new.files) tells c.write_files.ensures.created c.write_files.ensures.begun disk left

pub returns-clause-lasting : goal.returns-clause-lasting
returns-clause-lasting g c =
    lasting c.args.memory.now c.args.head.now _ c.args.state.now c.args.body.now c.requires.differ _ c.write_files.result
    (g.F.Files.known c.args.files.now) (g.F.Files.known c.write_files.new.files) c.write_files.ensures.created
