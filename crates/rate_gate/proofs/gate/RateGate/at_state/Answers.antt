use Rattle.std.proofs.Common.{◌∙◌, ap, rules}
use Rattle.rate_gate.specs.Saved.{gate_at}
use Rattle.rate_gate.proofs.Loading.{gate_back}
use Rattle.rate_gate.proofs.gate.RateGate.at_state.Goals as goal

pub returns-clause-value : goal.returns-clause-value
returns-clause-value c = search rules

pub returns-clause-goes_on : goal.returns-clause-goes_on
returns-clause-goes_on c = λ saved same is. returns-clause-value c ∙ (ap (λ state. gate_at c.args.self state) is ∙ gate_back saved c.args.self same)
