use Rattle.std.proofs.Common.{◌∙◌}
use Rattle.vsock_device.proofs.Lines.{tail_slice}
use Rattle.vsock_device.proofs.guest.behind_header.Goals as goal

pub returns : goal.returns
returns c = c.from_slice.ensures ∙ tail_slice 44 c.args.bytes.now
