use Rattle.flat_trace.proofs.Lines.{reply_is_line}
use Rattle.flat_trace.proofs.law.line_of_reply.Goals as goal

pub returns : goal.returns
returns c = reply_is_line
