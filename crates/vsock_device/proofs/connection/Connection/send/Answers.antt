use Rattle.std.proofs.Common.{rules}
use Rattle.vsock_device.proofs.connection.Connection.send.Goals as goal

pub returns : goal.returns
returns c = search rules
