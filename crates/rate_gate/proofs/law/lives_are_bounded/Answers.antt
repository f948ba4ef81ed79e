use Rattle.rate_gate.proofs.Living.{life_goes_on, life_bound}
use Rattle.rate_gate.proofs.law.lives_are_bounded.Goals as goal

pub returns-clause-life : goal.returns-clause-life
returns-clause-life c = life_goes_on

pub returns-clause-bound : goal.returns-clause-bound
returns-clause-bound c = life_bound
