-- Slices while nobody is connected, and one end behind another.
use Rattle.std.proofs.Common.{◌≡◌, ℕ, true, inr, refl, sym, ◌∙◌, subst, ◌≤◌, List, [], ◌∷◌, ◌++◌, append-nil, Option, Some, None, arith}
use Rattle.vm_types.specs.Causes.{Rose}
use Rattle.vm_types.specs.declared.exit.Object.{Object}
use Rattle.vm_types.specs.declared.exit.Object.TheVariants as object
use Rattle.flat_trace.specs.Events.{event_acts}
use Rattle.monitor_running.specs.Asked.{HostKnown}
use Rattle.vm_outside.specs.Known.{FilesKnown, Health, Lasts, SinkKnown}
use Rattle.vm_outside.proofs.Passing.{later_rose}
use Rattle.serve_host.specs.Passing.{ConnKnown}
use Rattle.serve_host.specs.declared.listener.Accepted.{Accepted}
use Rattle.serve_host.specs.declared.listener.Accepted.TheVariants as accepted
use Rattle.serve_host.specs.Listening.{Accepts, ComesToEnd, Ended, GivesConn, IsFresh, ListenerKnown, SameConnections, TakesBack, ended_of}
use Rattle.serve_host.specs.Tracing.{TraceKnown}
use Rattle.script_text.specs.declared.item.Item.{Item}
use Rattle.flat_machine.specs.Machine.{Machine, is_off}
use Rattle.monitor_machine.specs.declared.machine.LiveMachine.{LiveMachine}
use Rattle.monitor_machine.specs.State.{IsLive}
use Rattle.monitor_core.specs.declared.monitor.Monitor.{Monitor}
use Rattle.monitor_core.specs.State.{IsMonitor}
use Rattle.monitor_running.specs.declared.ran.Ran.{Ran}
use Rattle.monitor_running.specs.declared.ran.Ran.TheVariants as ran
use Rattle.monitor_running.specs.Ran.{HasFault, RanOn}
use Rattle.monitor_running.specs.Reached.{Kept, Known, Reached, Start, known, seen, told_at}
use Rattle.monitor_running.proofs.Joins.{none_ahead}
use Rattle.monitor_serving.specs.declared.served.Served.{Served as End}
use Rattle.monitor_serving.specs.declared.served.Served.TheVariants as served
use Rattle.monitor_serving.specs.Connections.{AreToldInPart, BrokeOff, EndCause, GoCause, Goes, HasGone, HasServed, HaveCome, Place, Serves, going, place, still_coming}
use Rattle.monitor_serving.specs.Ends.{alone_end}
use Rattle.monitor_serving.specs.Turns.{AskedBehind, MayLack}
use Rattle.monitor_serving.specs.Views.{AllLast, Hosts, hosts}
use Rattle.monitor_serving.proofs.Bringing.{come_back, come_same, serves_same}
use Rattle.monitor_serving.proofs.Connections.{in_off, in_part}
use Rattle.monitor_serving.proofs.Filing.{SameFiled, filed, filed_ahead, filed_beside, run_filed}
use Rattle.monitor_serving.proofs.Slices.{monitor_kept}

module _ (monitor now_monitor : Monitor) (machine : LiveMachine) (k now : Known) (files : FilesKnown) (listener : ListenerKnown)
    (lent : now_monitor ≡ record monitor { machine = machine }) where
  abbrev old_place : Place
  old_place = place monitor (hosts k files) listener

  abbrev new_place : Place
  new_place = place now_monitor (hosts now files) listener

  abbrev kept : (s : Start) (first : ListenerKnown) (old : HasServed s first old_place)
      → Kept IsLive s old.flat (seen now) machine old.talk → HasServed s first new_place
  kept s first old it = record {
    flat = it.flat;
    talk = old.talk;
    since = old.since;
    stands = record {
      is = subst (λ (m : Monitor). IsMonitor m files it.flat) (sym lent)
          (monitor_kept monitor machine (hosts k files) old.flat it.flat old.stands.is it.is it.beside);
      own = it.own;
      reached = it.reached;
    };
    came = old.came;
    told = old.told;
  }

  broke : (end : End) (s : Start) (first : ListenerKnown) (old : HasServed s first old_place) (at : Machine) (host : HostKnown)
      (unshown : List ℕ) → MayLack end unshown → AskedBehind end (told_at s) at host now.host → SameFiled old.flat at
      → Reached s (record (seen now) { taken = now.sink.taken ++ unshown; host = host }) at old.talk → BrokeOff end s first new_place
  broke end s first old at host unshown shown behind same reached = record {
    at = at;
    talk = old.talk;
    since = old.since;
    host = host;
    unshown = unshown;
    reached = reached;
    came = old.came;
    told = in_part old.talk old.since old.told;
    shown = shown;
    behind = behind;
    files = filed files files old.flat at refl same old.stands.is.files;
  }

  all_shown : (end : End) (s : Start) (first : ListenerKnown) (old : HasServed s first old_place) (at : Machine) (host : HostKnown)
      → MayLack end [] → AskedBehind end (told_at s) at host now.host → SameFiled old.flat at
      → Reached s (record (seen now) { host = host }) at old.talk → BrokeOff end s first new_place
  all_shown end s first old at host shown behind same reached =
      broke end s first old at host [] shown behind same
      (subst (λ (l : List ℕ). Reached s (record (seen now) { taken = l; host = host }) at old.talk) (sym (append-nil now.sink.taken)) reached)

  gone : (s : Start) (first : ListenerKnown) (it : HasServed s first new_place) → is_off it.flat ≡ true → HasGone s first new_place
  gone s first it off = record {
    flat = it.flat;
    talk = it.talk;
    since = it.since;
    stands = it.stands;
    came = it.came;
    told = in_off it.talk it.since it.told;
    off = off;
  }

  pub ran_alone : (it : Option Ran) → RanOn IsLive it (seen k) monitor.machine (seen now) machine → (it ≡ Some ran.Closed → ⊥)
      → Goes (alone_end it) old_place new_place
  ran_alone None on never = λ s first old. kept s first old (on s old.flat old.talk old.stands.is.own.live old.stands.own old.stands.reached)
  ran_alone (Some ran.Closed) on never = absurd (never refl)
  ran_alone (Some ran.Off) on never = λ s first old.
      let it = on s old.flat old.talk old.stands.is.own.live old.stands.own old.stands.reached in gone s first (kept s first old it.0) it.1
  ran_alone (Some ran.TraceFailed) on never = λ s first old.
      let it = on s old.flat old.talk old.stands.is.own.live old.stands.own old.stands.reached in
      all_shown (served.Fault object.Trace) s first old it.told it.host refl (it.flat, it.ahead)
      (filed_ahead old.flat it.told it.flat (filed_beside old.flat it.flat it.beside)
      (run_filed (event_acts it.ahead.events) it.told it.ahead.outs it.flat it.ahead.run it.ahead.unsaid))
      it.reached
  ran_alone (Some ran.SinkFailed) on never = λ s first old.
      let it = on s old.flat old.talk old.stands.is.own.live old.stands.own old.stands.reached in
      broke (served.Fault object.Sink) s first old it.1.flat now.host it.0 tt refl (filed_beside old.flat it.1.flat it.1.beside) it.1.reached
  ran_alone (Some ran.OutOfMemory) on never = λ s first old.
      let it = on s old.flat old.talk old.stands.is.own.live old.stands.own old.stands.reached in
      all_shown served.OutOfMemory s first old it.flat now.host refl refl (filed_beside old.flat it.flat it.beside) it.reached

pub alone_cause : (it : Option Ran) (old new : Hosts) (listener : Health) → HasFault it old.slices new.slices
    → GoCause (alone_end it) old new listener listener
alone_cause None old new listener fault = tt
alone_cause (Some ran.Closed) old new listener fault = tt
alone_cause (Some ran.Off) old new listener fault = tt
alone_cause (Some ran.TraceFailed) old new listener fault = fault
alone_cause (Some ran.SinkFailed) old new listener fault = fault
alone_cause (Some ran.OutOfMemory) old new listener fault = tt

-- the trace or the listener failed, or there was no memory, before anything happened
pub breaks_idle : (end : End) → MayLack end [] → (s : Start) (first : ListenerKnown) (monitor : Monitor) (trace told : TraceKnown) (sink : SinkKnown) (host : HostKnown)
    (files : FilesKnown) (listener left : ListenerKnown) (since : List Ended)
    → (old : HasServed s first (place monitor (hosts (known trace sink host) files) listener))
    → AskedBehind end (told_at s) old.flat host host → HaveCome first since left → AreToldInPart old.talk since → told.took ≡ trace.took
    → BrokeOff end s first (place monitor (hosts (known told sink host) files) left)
breaks_idle end shown s first monitor trace told sink host files listener left since old behind came part same = record {
  at = old.flat;
  talk = old.talk;
  since = since;
  host = host;
  unshown = [];
  reached = subst (λ (l : List ℕ). Reached s (record { took = told.took; taken = l; host = host }) old.flat old.talk) (sym (append-nil sink.taken))
      (subst (λ (i : List Item). Reached s (record { took = i; taken = sink.taken; host = host }) old.flat old.talk) (sym same) old.stands.reached);
  came = came;
  told = part;
  shown = shown;
  files = old.stands.is.files;
  behind = behind;
}

-- the trace failed at the item of a connection, which was given back
pub breaks_unheard : (s : Start) (first : ListenerKnown) (monitor : Monitor) (trace told : TraceKnown) (sink : SinkKnown) (host : HostKnown)
    (files : FilesKnown) (listener left : ListenerKnown) (bytes : List ℕ) (conn : ConnKnown) → IsFresh conn bytes
    → TakesBack conn listener left → told.took ≡ trace.took
    → HasServed s first (place monitor (hosts (known trace sink host) files) (still_coming bytes listener))
    → BrokeOff (served.Fault object.Trace) s first (place monitor (hosts (known told sink host) files) left)
breaks_unheard s first monitor trace told sink host files listener left bytes conn fresh back same old =
    breaks_idle (served.Fault object.Trace) refl s first monitor trace told sink host files (still_coming bytes listener) left
    (ended_of conn ∷ old.since) old (old.flat, none_ahead (told_at s) old.flat host)
    (come_back first old.since bytes listener left conn conn fresh refl back old.came)
    (inr (record { gave = fresh.gave; took = fresh.took }, old.told)) same

-- ---- one behind another

module _ (a b c : Place) (first : Serves served.Ended a b) where
  by_fault : (name : Object) → Serves (served.Fault name) b c → Serves (served.Fault name) a c
  by_fault name more = λ s before old. more s before (first s before old)

  pub serves_on : (end : End) → Serves end b c → Serves end a c
  serves_on served.Ended more = λ s before old. more s before (first s before old)
  serves_on served.Off more = λ s before old. more s before (first s before old)
  serves_on (served.Fault name) more = λ s before old. more s before (first s before old)
  serves_on served.OutOfMemory more = λ s before old. more s before (first s before old)

  pub goes_on : (it : Option End) → Goes it b c → Goes it a c
  goes_on None more = serves_on served.Ended more
  goes_on (Some served.Ended) more = (serves_on served.Ended more.0, more.1)
  goes_on (Some served.Off) more = serves_on served.Off more
  goes_on (Some (served.Fault name)) more = serves_on (served.Fault name) more
  goes_on (Some served.OutOfMemory) more = serves_on served.OutOfMemory more

module _ (a b c : Hosts) (x y z : Health) (hosts : AllLast a b) (listener : Lasts x y) where
  pub end_cause_on : (end : End) → EndCause end b c y z → EndCause end a c x z
  end_cause_on served.Ended cause = tt
  end_cause_on served.Off cause = tt
  end_cause_on (served.Fault object.Trace) cause =
      later_rose a.slices.trace.health.faults b.slices.trace.health.faults c.slices.trace.health.faults hosts.trace.later cause
  end_cause_on (served.Fault object.Sink) cause =
      later_rose a.slices.sink.health.faults b.slices.sink.health.faults c.slices.sink.health.faults hosts.sink.later cause
  end_cause_on (served.Fault object.Listener) cause = later_rose x.faults y.faults z.faults listener.later cause
  end_cause_on (served.Fault object.Source) cause = absurd cause
  end_cause_on (served.Fault object.Files) cause = absurd cause
  end_cause_on (served.Fault object.Words) cause = absurd cause
  end_cause_on served.OutOfMemory cause = tt

-- ---- a listener that gave nothing

pub breaks_on_accept : (monitor : Monitor) (trace : TraceKnown) (sink : SinkKnown) (host : HostKnown) (files : FilesKnown)
    (a b : ListenerKnown) → SameConnections a b → (s : Start) (first : ListenerKnown)
    → HasServed s first (place monitor (hosts (known trace sink host) files) a)
    → BrokeOff (served.Fault object.Listener) s first (place monitor (hosts (known trace sink host) files) b)
breaks_on_accept monitor trace sink host files a b same s first old =
    breaks_idle (served.Fault object.Listener) refl s first monitor trace trace sink host files a b old.since old refl
    (come_same first old.since a b same.ended same.coming old.came) (in_part old.talk old.since old.told) refl

rose_still : (i j : ℕ) → i ≤ j → Rose i i → Rose i j
rose_still i j later rose = omega (arith, later, rose)

pub cause_unheard : (it : Option End) (a b : Hosts) (x y : Health) → Lasts x y → GoCause it a b x x → GoCause it a b x y
cause_unheard None a b x y lasts cause = tt
cause_unheard (Some served.Ended) a b x y lasts cause = tt
cause_unheard (Some served.Off) a b x y lasts cause = tt
cause_unheard (Some (served.Fault object.Trace)) a b x y lasts cause = cause
cause_unheard (Some (served.Fault object.Sink)) a b x y lasts cause = cause
cause_unheard (Some (served.Fault object.Listener)) a b x y lasts cause = rose_still x.faults y.faults lasts.later cause
cause_unheard (Some (served.Fault object.Source)) a b x y lasts cause = absurd cause
cause_unheard (Some (served.Fault object.Files)) a b x y lasts cause = absurd cause
cause_unheard (Some (served.Fault object.Words)) a b x y lasts cause = absurd cause
cause_unheard (Some served.OutOfMemory) a b x y lasts cause = tt

-- ---- the end of one connection

pub goes_by : (end : End) (a b : Place) → Serves end a b → Goes (going end) a b
goes_by served.Ended a b serves = serves
goes_by served.Off a b serves = serves
goes_by (served.Fault name) a b serves = serves
goes_by served.OutOfMemory a b serves = serves

-- which names what it named
pub cause_by : (end : End) (a b : Hosts) (x y : Health) → EndCause end a b x y → GoCause (going end) a b x y
cause_by served.Ended a b x y cause = tt
cause_by served.Off a b x y cause = cause
cause_by (served.Fault name) a b x y cause = cause
cause_by served.OutOfMemory a b x y cause = cause

-- ---- what was accepted

-- none is to come any more
pub goes_to_end : {C : Type 0} (known : C → ConnKnown) (monitor : Monitor) (hosts : Hosts) (a b : ListenerKnown) (it : Accepted C)
    → it ≡ accepted.Ended → Accepts known a it b → Goes (Some served.Ended) (place monitor hosts a) (place monitor hosts b)
goes_to_end known monitor hosts a b it is accepts =
    let ends : ComesToEnd a b = subst (λ x. Accepts known a x b) is accepts in
    (serves_same monitor hosts a b ends.ended (ends.coming ∙ sym ends.none), ends.coming)

-- none has come
pub goes_unheard : {C : Type 0} (known : C → ConnKnown) (monitor : Monitor) (hosts : Hosts) (a b : ListenerKnown) (it : Accepted C)
    → it ≡ accepted.NotYet → Accepts known a it b → (end : Option End) (c : Place) → Goes end (place monitor hosts b) c
    → Goes end (place monitor hosts a) c
goes_unheard known monitor hosts a b it is accepts end c more =
    let same : SameConnections a b = subst (λ x. Accepts known a x b) is accepts in
    goes_on (place monitor hosts a) (place monitor hosts b) c (serves_same monitor hosts a b same.ended same.coming) end more

-- one has come
pub given_of : {C : Type 0} (known : C → ConnKnown) (a b : ListenerKnown) (it : Accepted C) (conn : C) → it ≡ accepted.Conn conn
    → Accepts known a it b → GivesConn (known conn) a b
given_of known a b it conn is accepts = subst (λ x. Accepts known a x b) is accepts

pub goes_with_one : (monitor : Monitor) (hosts : Hosts) (a b : ListenerKnown) (conn : ConnKnown) (gives : GivesConn conn a b) (end : End)
    (c : Place) → Serves end (place monitor hosts (still_coming gives.bytes b)) c → Goes (going end) (place monitor hosts a) c
goes_with_one monitor hosts a b conn gives end c serves =
    let from : Place = place monitor hosts (still_coming gives.bytes b) in
    goes_on (place monitor hosts a) from c
    (serves_same monitor hosts a (still_coming gives.bytes b) gives.ended (sym gives.coming)) (going end)
    (goes_by end from c serves)
