use Rattle.std.proofs.Common.{rules}
use Rattle.pause_gate.proofs.hold_gate.Party.is.Goals as goal

pub returns-then-is_same_actor : goal.returns-then-is_same_actor
returns-then-is_same_actor c = search rules
