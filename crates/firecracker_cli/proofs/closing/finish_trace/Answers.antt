use Rattle.std.proofs.Common.{rules}
use Rattle.firecracker_cli.proofs.closing.finish_trace.Goals as goal

pub returns-clause-keeps : goal.returns-clause-keeps
returns-clause-keeps g c = search rules
