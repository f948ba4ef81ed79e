-- What is there is put behind what was.
use Rattle.std.proofs.Common.{◌∙◌, sym}
use Rattle.file_format.proofs.Ending.{ends_some}
use Rattle.snap_devices.specs.Limits.{end_of_device}
use Rattle.snap_devices.proofs.limits.write_more.Goals as goal

pub returns-clause-bytes : goal.returns-clause-bytes
returns-clause-bytes c =
    (ends_some end_of_device c.args.it.now c.args.out.now.items c.write_there.new.out.items
    (sym c.is_no_more.ensures ∙ c.if-is_no_more.false) c.in_ok-write_there.ensures.fits c.in_ok-write_there.ensures.bytes).bytes
