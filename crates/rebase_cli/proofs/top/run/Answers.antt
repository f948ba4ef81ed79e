use Rattle.std.proofs.Common.{rules}
use Rattle.rebase_cli.proofs.top.run.Goals as goal

pub returns-in-Ok-Rebase-clause-usage : goal.returns-in-Ok-Rebase-clause-usage
returns-in-Ok-Rebase-clause-usage g c = search rules

pub returns-in-Ok-Convert-clause-usage : goal.returns-in-Ok-Convert-clause-usage
returns-in-Ok-Convert-clause-usage g c = search rules
