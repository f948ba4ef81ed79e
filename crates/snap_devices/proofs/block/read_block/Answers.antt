-- By its form and what stands behind it.
use Rattle.std.proofs.Common.{sym, Some, None}
use Rattle.snap_devices.proofs.Reading.{reads_as}
use Rattle.snap_devices.proofs.block.read_block.Goals as goal

pub returns-in-Some : goal.returns-in-Some
returns-in-Some c =
    reads_as c.args.input.now c.read_fields.new.input c.in-Ok.file c.in-Ok-read_more.more (Some c.in-Some.b) c.in-Ok.ensures
    c.in-Ok-read_more.ensures (sym c.in-Some.ensures)

pub returns-in-None : goal.returns-in-None
returns-in-None c =
    reads_as c.args.input.now c.read_fields.new.input c.in-Ok.file c.in-Ok-read_more.more None c.in-Ok.ensures
    c.in-Ok-read_more.ensures (sym c.in-None.ensures)
