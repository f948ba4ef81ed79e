use Rattle.std.proofs.Common.{rules}
use Rattle.api_rules.proofs.snapshot.create_refusal.Goals as goal

pub returns-then-not-matches : goal.returns-then-not-matches
returns-then-not-matches c = search rules
