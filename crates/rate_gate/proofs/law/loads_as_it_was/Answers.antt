use Rattle.rate_gate.proofs.Loading.{gate_back}
use Rattle.rate_gate.proofs.law.loads_as_it_was.Goals as goal

pub returns : goal.returns
returns c = gate_back
