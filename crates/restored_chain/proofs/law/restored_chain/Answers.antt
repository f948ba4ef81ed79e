use Rattle.alike_runs.specs.Alike.{as_loaded}
use Rattle.restored_chain.proofs.Later.{later_back, later_forth, trace_back, trace_forth}
use Rattle.restored_chain.proofs.Restored.{carried_is, restored_alike, said_is}
use Rattle.restored_chain.proofs.law.restored_chain.Goals as goal

pub returns-clause-loads : goal.returns-clause-loads
returns-clause-loads c first savings last k load said p is =
    (said_is c.every_trace_ready.ensures first savings last k load said p is, carried_is c.every_trace_ready.ensures first savings last k load said p is)

pub returns-clause-alike : goal.returns-clause-alike
returns-clause-alike c first savings last k load said p on is = restored_alike c.every_trace_ready.ensures first savings last k load said p is on

pub returns-clause-forth : goal.returns-clause-forth
returns-clause-forth c first savings last k load said p acts text end is =
    later_forth (as_loaded last.after k load) p (restored_alike c.every_trace_ready.ensures first savings last k load said p is) acts text end

pub returns-clause-back : goal.returns-clause-back
returns-clause-back c first savings last k load said p acts text other is =
    later_back (as_loaded last.after k load) p (restored_alike c.every_trace_ready.ensures first savings last k load said p is) acts text other

pub returns-clause-trace_forth : goal.returns-clause-trace_forth
returns-clause-trace_forth c first savings last k load said p acts outs end is =
    trace_forth (as_loaded last.after k load) p (restored_alike c.every_trace_ready.ensures first savings last k load said p is) acts outs end

pub returns-clause-trace_back : goal.returns-clause-trace_back
returns-clause-trace_back c first savings last k load said p acts outs other is =
    trace_back (as_loaded last.after k load) p (restored_alike c.every_trace_ready.ensures first savings last k load said p is) acts outs other
