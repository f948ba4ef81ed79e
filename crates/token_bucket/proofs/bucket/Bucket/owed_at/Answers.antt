use Rattle.std.proofs.Common.{rules}
use Rattle.token_bucket.proofs.bucket.Bucket.owed_at.Goals as goal

pub returns : goal.returns
returns c = search rules
