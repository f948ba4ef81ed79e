use Rattle.vsock_packet.proofs.Bytes.{again}
use Rattle.vsock_packet.proofs.law.both_ways.Goals as goal

pub returns : goal.returns
returns c = again
