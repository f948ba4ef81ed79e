-- One turn after another.
use Rattle.std.proofs.Common.{◌≡◌, ℕ, ◌⊎◌, inl, inr, refl, sym, ap, ◌∙◌, subst, List, [], ◌∷◌, ◌++◌, Option, Some, None, append-nil, append_assoc}
use Rattle.vm_types.specs.Causes.{Rose}
use Rattle.vm_types.specs.declared.exit.Object.{Object}
use Rattle.vm_types.specs.declared.exit.Object.TheVariants as object
use Rattle.vm_outside.specs.Known.{Lasts}
use Rattle.vm_outside.proofs.Passing.{lasts_more, lasts_same, later_rose}
use Rattle.serve_host.specs.Listening.{ListenerKnown, ListenerStays}
use Rattle.serve_host.specs.Passing.{ConnKnown}
use Rattle.flat_trace.specs.Showing.{Out, given, given_by, replied, replied_by}
use Rattle.flat_trace.specs.Showing.Out.{Quiet, Opened, Heard, Shown}
use Rattle.monitor_running.specs.Reached.{Reached, Start, seen}
use Rattle.monitor_running.proofs.Lifts.{stays_more}
use Rattle.monitor_serving.specs.declared.served.Served.{Served}
use Rattle.monitor_serving.specs.declared.served.Served.TheVariants as served
use Rattle.monitor_serving.specs.Causes.{ServedCause, TurnedCause}
use Rattle.monitor_serving.specs.Turns.{Broke, BreaksOff, Continues, GoesOn, ServedAs, StaysOpen, TurnedAs}
use Rattle.monitor_serving.specs.Views.{AllLast, AreHeard, HasClosed, Hosts, Stands, Talked, View, closes}
use Rattle.monitor_serving.proofs.Closing.{any_first, any_more}

-- ---- what was said

pub given_append : (a b : List Out) → given (a ++ b) ≡ given a ++ given b
given_append [] b = refl
given_append (o ∷ a) b = ap (λ (l : List ℕ). given_by o ++ l) (given_append a b) ∙ sym (append_assoc (given_by o) (given a) (given b))

pub replied_append : (a b : List Out) → replied (a ++ b) ≡ replied a ++ replied b
replied_append [] b = refl
replied_append (o ∷ a) b =
    ap (λ (l : List ℕ). replied_by o ++ l) (replied_append a b) ∙ sym (append_assoc (replied_by o) (replied a) (replied b))

pub heard_append : (a b : List Out) → AreHeard a → AreHeard b → AreHeard (a ++ b)
heard_append [] b first more = more
heard_append (Heard bytes responses ∷ a) b first more = heard_append a b first more
heard_append (Quiet ∷ a) b first more = absurd first
heard_append (Opened ∷ a) b first more = absurd first
heard_append (Shown bytes ∷ a) b first more = absurd first

pub talked_on : (a b c : ConnKnown) (first more : List Out) (unsent unsaid : List ℕ) → Talked a b first [] []
    → Talked b c more unsent unsaid → Talked a c (first ++ more) unsent unsaid
talked_on a b c first more unsent unsaid x y = record {
  only = heard_append first more x.only y.only;
  gave =
      y.gave ∙ ap (λ (l : List ℕ). l ++ (given more ++ unsaid)) (x.gave ∙ ap (λ (l : List ℕ). a.gave ++ l) (append-nil (given first)))
      ∙ append_assoc a.gave (given first) (given more ++ unsaid)
      ∙ ap (λ (l : List ℕ). a.gave ++ l) (sym (append_assoc (given first) (given more) unsaid)
      ∙ ap (λ (l : List ℕ). l ++ unsaid) (sym (given_append first more)));
  took =
      y.took ∙ ap (λ (l : List ℕ). l ++ replied more) (sym (append-nil b.took) ∙ x.took)
      ∙ append_assoc a.took (replied first) (replied more)
      ∙ ap (λ (l : List ℕ). a.took ++ l) (sym (replied_append first more));
  brought = y.brought ∙ x.brought;
}

-- a connection that has failed since was closed in either of two
closed_first : {P : Type 0} (a b : List Out) → P ⊎ HasClosed a → P ⊎ HasClosed (a ++ b)
closed_first a b (inl before) = inl before
closed_first a b (inr closed) = inr (any_first closes a b closed)

pub closed_on : {P Q : Type 0} (a b : List Out) → (Q → P ⊎ HasClosed a) → Q ⊎ HasClosed b → P ⊎ HasClosed (a ++ b)
closed_on a b first (inl before) = closed_first a b (first before)
closed_on a b first (inr closed) = inr (any_more closes a b closed)

-- ---- one view, and then another

module _ (s : Start) (a b c : View) (talk : List Out) (first : Continues s a b talk []) where
  abbrev pub went_on : (unsent : List ℕ) → Continues s b c (talk ++ first.heard) unsent → Continues s a c talk unsent
  went_on unsent more = record {
    flat = more.flat;
    heard = first.heard ++ more.heard;
    talked = talked_on a.conn b.conn c.conn first.heard more.heard unsent [] first.talked more.talked;
    closed = λ failed. closed_on first.heard more.heard first.closed (more.closed failed);
    stands = subst (λ (t : List Out). Stands s c.monitor c.hosts more.flat t) (append_assoc talk first.heard more.heard) more.stands;
  }

  pub broke_on : (end : Served) → Broke end s b c (talk ++ first.heard) → Broke end s a c talk
  broke_on end more = record {
    at = more.at;
    host = more.host;
    unshown = more.unshown;
    heard = first.heard ++ more.heard;
    unsent = more.unsent;
    unsaid = more.unsaid;
    talked = talked_on a.conn b.conn c.conn first.heard more.heard more.unsent more.unsaid first.talked more.talked;
    shown = more.shown;
    files = more.files;
    behind = more.behind;
    reached = subst (λ (t : List Out). Reached s (record (seen c.hosts.slices) { taken = c.hosts.slices.sink.taken ++ more.unshown; host = more.host }) more.at t)
        (append_assoc talk first.heard more.heard) more.reached;
  }

-- a connection that stays open goes on
pub open_goes : (a b : View) → StaysOpen a b → GoesOn a b
open_goes a b stays s m talk stands = (stays s m talk stands).0

module _ (a b c : View) (on : GoesOn a b) (conn_lasts : Lasts a.conn.health b.conn.health) where
  pub goes_on : GoesOn b c → GoesOn a c
  goes_on more s m talk stands =
      let w = on s m talk stands in went_on s a b c talk w [] (more s w.flat (talk ++ w.heard) w.stands)

  open_on : StaysOpen b c → StaysOpen a c
  open_on more s m talk stands =
      let w = on s m talk stands in
      let e = more s w.flat (talk ++ w.heard) w.stands in (went_on s a b c talk w [] e.0, e.1)

  breaks_on : (end : Served) → BreaksOff end b c → BreaksOff end a c
  breaks_on end more s m talk stands =
      let w = on s m talk stands in broke_on s a b c talk w end (more s w.flat (talk ++ w.heard) w.stands)

  unsent_on : (unsent : List ℕ) → (unsent ≡ []) ⊎ Rose b.conn.health.faults c.conn.health.faults
      → (unsent ≡ []) ⊎ Rose a.conn.health.faults c.conn.health.faults
  unsent_on unsent (inl none) = inl none
  unsent_on unsent (inr rose) = inr (later_rose a.conn.health.faults b.conn.health.faults c.conn.health.faults conn_lasts.later rose)

  by_fault : (name : Object) → ServedAs (served.Fault name) b c → ServedAs (served.Fault name) a c
  by_fault object.Trace more = breaks_on (served.Fault object.Trace) more
  by_fault object.Sink more = breaks_on (served.Fault object.Sink) more
  by_fault object.Source more = absurd more
  by_fault object.Files more = absurd more
  by_fault object.Listener more = absurd more
  by_fault object.Words more = absurd more

  pub served_on : (end : Served) → ServedAs end b c → ServedAs end a c
  served_on served.Ended more = λ s m talk stands.
      let w = on s m talk stands in
      let e = more s w.flat (talk ++ w.heard) w.stands in (e.0, went_on s a b c talk w e.0 e.1, unsent_on e.0 e.2, e.3)
  served_on served.Off more = λ s m talk stands.
      let w = on s m talk stands in
      let e = more s w.flat (talk ++ w.heard) w.stands in (went_on s a b c talk w [] e.0, e.1)
  served_on (served.Fault name) more = by_fault name more
  served_on served.OutOfMemory more = breaks_on served.OutOfMemory more

  pub turned_on : (end : Option Served) → TurnedAs end b c → TurnedAs end a c
  turned_on None more = open_on more
  turned_on (Some end) more = served_on end more

-- ---- causes

module _ (a b c : View) (known : AllLast a.hosts b.hosts) (conn : Lasts a.conn.health b.conn.health) where
  pub cause_on : (end : Served) → ServedCause end b c → ServedCause end a c
  cause_on served.Ended (inl left) = inl (λ tells. left (conn.still tells))
  cause_on served.Ended (inr (inl failed)) = inr (inl failed)
  cause_on served.Ended (inr (inr rose)) =
      inr (inr (later_rose a.conn.health.faults b.conn.health.faults c.conn.health.faults conn.later rose))
  cause_on served.Off cause = tt
  cause_on (served.Fault object.Trace) cause =
      later_rose a.hosts.slices.trace.health.faults b.hosts.slices.trace.health.faults c.hosts.slices.trace.health.faults known.trace.later cause
  cause_on (served.Fault object.Sink) cause =
      later_rose a.hosts.slices.sink.health.faults b.hosts.slices.sink.health.faults c.hosts.slices.sink.health.faults known.sink.later cause
  cause_on (served.Fault object.Source) cause = absurd cause
  cause_on (served.Fault object.Files) cause = absurd cause
  cause_on (served.Fault object.Listener) cause = absurd cause
  cause_on (served.Fault object.Words) cause = absurd cause
  cause_on served.OutOfMemory cause = tt

  pub turned_cause_on : (end : Option Served) → TurnedCause end b c → TurnedCause end a c
  turned_cause_on None cause = tt
  turned_cause_on (Some end) cause = cause_on end cause

pub all_last_on : (a b c : Hosts) → AllLast a b → AllLast b c → AllLast a c
all_last_on a b c x y = record {
  trace = lasts_more a.slices.trace.health b.slices.trace.health c.slices.trace.health x.trace y.trace;
  trace_stays = stays_more a.slices.trace b.slices.trace c.slices.trace x.trace x.trace_stays y.trace_stays;
  sink = lasts_more a.slices.sink.health b.slices.sink.health c.slices.sink.health x.sink y.sink;
  files = lasts_more a.files.health b.files.health c.files.health x.files y.files;
}

pub listener_on : (a b c : ListenerKnown) → Lasts a.health b.health → ListenerStays a b → ListenerStays b c → ListenerStays a c
listener_on a b c lasts x y = λ tells. y (lasts.still tells) ∙ x tells

pub all_last_self : (a : Hosts) → AllLast a a
all_last_self a = record {
  trace = lasts_same a.slices.trace.health;
  trace_stays = λ tells. refl;
  sink = lasts_same a.slices.sink.health;
  files = lasts_same a.files.health;
}
