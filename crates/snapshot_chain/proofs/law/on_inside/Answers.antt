use Rattle.snapshot_chain.proofs.On.{inside_on, inside_ready, talks_on}
use Rattle.snapshot_chain.proofs.law.on_inside.Goals as goal

pub returns-clause-ready : goal.returns-clause-ready
returns-clause-ready c = inside_ready

pub returns-clause-on : goal.returns-clause-on
returns-clause-on c = inside_on

pub returns-clause-behind : goal.returns-clause-behind
returns-clause-behind c = talks_on
