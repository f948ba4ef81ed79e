use Rattle.std.proofs.Common.{rules}
use Rattle.firecracker_cli.proofs.serving.open.Goals as goal

pub returns-in-Ok-open-clause-listens : goal.returns-in-Ok-open-clause-listens
returns-in-Ok-open-clause-listens g c = search rules

pub returns-in_default-trace-clause-listens : goal.returns-in_default-trace-clause-listens
returns-in_default-trace-clause-listens g c = search rules
