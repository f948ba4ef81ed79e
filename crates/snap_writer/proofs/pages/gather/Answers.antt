use Rattle.std.proofs.Common.{◌*◌, arith}
use Rattle.snap_writer.specs.Blocks.{block_size}
use Rattle.snap_writer.proofs.Runs.{gathered}
use Rattle.snap_writer.proofs.pages.gather.Goals as goal

pub returns-clause-bytes : goal.returns-clause-bytes
returns-clause-bytes c =
    let bytes = c.args.pages.now in
    gathered bytes c.args.block.now c.copy_out.new.out (block_size * c.args.number) c.min-count.result (omega (arith, c.min-count.ensures, c.len-all.ensures.len)) c.requires.room c.copy_out.ensures
