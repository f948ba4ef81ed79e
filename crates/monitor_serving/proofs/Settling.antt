-- A turn: slices, and then what was heard beside them.
use Rattle.std.proofs.Common.{◌≡◌, ℕ, refl, sym, subst, List, [], ◌++◌, append-nil, Option, Some, None, IfSome}
use Rattle.vm_types.specs.declared.exit.Object.TheVariants as object
use Rattle.vm_outside.specs.Known.{Health, Lasts}
use Rattle.vm_outside.proofs.Passing.{later_rose}
use Rattle.flat_trace.specs.Showing.{Out}
use Rattle.monitor_running.specs.declared.ran.Ran.{Ran}
use Rattle.monitor_running.specs.declared.ran.Ran.TheVariants as ran
use Rattle.monitor_running.specs.Ran.{HasFault}
use Rattle.monitor_running.specs.Reached.{Reached, seen}
use Rattle.monitor_serving.specs.declared.served.Served.{Served}
use Rattle.monitor_serving.specs.declared.served.Served.TheVariants as served
use Rattle.monitor_serving.specs.Causes.{AnswerCause, ServedCause, TurnedCause}
use Rattle.monitor_serving.specs.Ends.{end_of}
use Rattle.monitor_serving.specs.Turns.{BreaksOff}
use Rattle.monitor_serving.specs.Views.{View}
use Rattle.monitor_serving.proofs.Slices.{untouched}

-- nothing happened, and there is no memory to go on
pub breaks_idle : (v : View) → BreaksOff served.OutOfMemory v v
breaks_idle v s m talk stands = record {
  at = m;
  host = v.hosts.slices.host;
  unshown = [];
  heard = [];
  unsent = [];
  unsaid = [];
  talked = untouched v.conn;
  shown = refl;
  files = stands.is.files;
  behind = refl;
  reached = subst (λ (l : List ℕ). Reached s (record (seen v.hosts.slices) { taken = l }) m (talk ++ []))
      (sym (append-nil v.hosts.slices.sink.taken))
      (subst (λ (t : List Out). Reached s (seen v.hosts.slices) m t) (sym (append-nil talk)) stands.reached);
}

-- the fault with which slices broke off is named
pub fault_cause : (it : Ran) (end : Served) (old new : View) → end_of it ≡ Some end
    → HasFault (Some it) old.hosts.slices new.hosts.slices → ServedCause end old new
fault_cause ran.Closed end old new is fault = cc
fault_cause ran.Off end old new is fault = cc
fault_cause ran.TraceFailed end old new is fault = subst (λ (o : Option Served). IfSome o (λ e. ServedCause e old new)) is fault
fault_cause ran.SinkFailed end old new is fault = subst (λ (o : Option Served). IfSome o (λ e. ServedCause e old new)) is fault
fault_cause ran.OutOfMemory end old new is fault = subst (λ (o : Option Served). IfSome o (λ e. ServedCause e old new)) is tt

-- and so is that of an answer, behind slices that went on
answer_cause : (end : Served) (old new : View) (mid : Health) → Lasts old.hosts.slices.trace.health mid
    → AnswerCause end new.monitor mid new.hosts.slices.trace.health old.conn new.conn → ServedCause end old new
answer_cause served.Ended old new mid lasts cause = cause
answer_cause (served.Fault object.Trace) old new mid lasts cause =
    later_rose old.hosts.slices.trace.health.faults mid.faults new.hosts.slices.trace.health.faults lasts.later cause
answer_cause (served.Fault object.Source) old new mid lasts cause = absurd cause
answer_cause (served.Fault object.Sink) old new mid lasts cause = absurd cause
answer_cause (served.Fault object.Files) old new mid lasts cause = absurd cause
answer_cause (served.Fault object.Listener) old new mid lasts cause = absurd cause
answer_cause (served.Fault object.Words) old new mid lasts cause = absurd cause
answer_cause served.Off old new mid lasts cause = tt
answer_cause served.OutOfMemory old new mid lasts cause = tt

pub settled_cause : (end : Option Served) (old new : View) (mid : Health) → Lasts old.hosts.slices.trace.health mid
    → IfSome end (λ e. AnswerCause e new.monitor mid new.hosts.slices.trace.health old.conn new.conn) → TurnedCause end old new
settled_cause None old new mid lasts cause = tt
settled_cause (Some end) old new mid lasts cause = answer_cause end old new mid lasts cause

-- what is so of each end is so of this one
pub for_some : {P Q : Served → Type 0} (o : Option Served) → ((end : Served) → P end → Q end) → IfSome o P → IfSome o Q
for_some None f is = tt
for_some (Some end) f is = f end is
