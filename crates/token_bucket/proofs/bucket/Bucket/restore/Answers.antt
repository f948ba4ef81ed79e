use Rattle.std.proofs.Common.{rules}
use Rattle.token_bucket.proofs.bucket.Bucket.restore.Goals as goal

pub returns : goal.returns
returns c = search rules
