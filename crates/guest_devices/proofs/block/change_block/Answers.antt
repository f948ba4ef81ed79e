use Rattle.std.proofs.Common.{rules}
use Rattle.guest_devices.proofs.block.change_block.Goals as goal

pub returns : goal.returns
returns c = search rules
