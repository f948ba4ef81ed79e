use Rattle.std.proofs.Common.{rules}
use Rattle.flat_guest.proofs.places.port_place.Goals as goal

pub returns-then-port-ports : goal.returns-then-port-ports
returns-then-port-ports c = search rules
