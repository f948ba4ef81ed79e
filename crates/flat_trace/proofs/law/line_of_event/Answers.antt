use Rattle.flat_trace.proofs.Lines.{event_is_line}
use Rattle.flat_trace.proofs.law.line_of_event.Goals as goal

pub returns : goal.returns
returns c = event_is_line
