-- Its form is put at the end, and what stands behind it.
use Rattle.snap_devices.proofs.Writing.{block_written}
use Rattle.snap_devices.proofs.block.write_block.Goals as goal

pub returns-clause-fits : goal.returns-clause-fits
returns-clause-fits c =
    (block_written c.args.b.now c.state-state.result.now c.more_filed.result c.args.out.now.items c.write_fields.new.out.items
    c.write_more.new.out.items c.state-state.ensures.state c.more_filed.ensures c.state-state.ensures.is
    c.in_ok-write_fields.ensures.fits c.in_ok-write_fields.ensures.bytes c.in_ok-write_more.ensures.fits
    c.in_ok-write_more.ensures.bytes).fits

pub returns-clause-bytes : goal.returns-clause-bytes
returns-clause-bytes c =
    (block_written c.args.b.now c.state-state.result.now c.more_filed.result c.args.out.now.items c.write_fields.new.out.items
    c.write_more.new.out.items c.state-state.ensures.state c.more_filed.ensures c.state-state.ensures.is
    c.in_ok-write_fields.ensures.fits c.in_ok-write_fields.ensures.bytes c.in_ok-write_more.ensures.fits
    c.in_ok-write_more.ensures.bytes).bytes
