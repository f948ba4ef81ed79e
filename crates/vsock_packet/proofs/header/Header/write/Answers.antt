use Rattle.std.proofs.Common.{rules}
use Rattle.vsock_packet.proofs.header.Header.write.Goals as goal

pub returns : goal.returns
returns c = search rules
