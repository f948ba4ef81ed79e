use Rattle.std.proofs.Common.{rules}
use Rattle.http_stream.proofs.headers.HeaderList.push.Goals as goal

pub returns-in_err-push-clause-ok : goal.returns-in_err-push-clause-ok
returns-in_err-push-clause-ok c = search rules
