use Rattle.std.proofs.Common.{rules}
use Rattle.api_rules.proofs.snapshot.load_refusal.Goals as goal

pub returns-then-config : goal.returns-then-config
returns-then-config c = search rules
