use Rattle.std.proofs.Common.{rules}
use Rattle.pause_gate.proofs.flag_gate.FlagGateGate.ask.Goals as goal

pub returns-clause-asked : goal.returns-clause-asked
returns-clause-asked c = search rules
