use Rattle.flat_trace.proofs.Replies.{again}
use Rattle.flat_trace.proofs.law.reply_again.Goals as goal

pub returns : goal.returns
returns c = again
