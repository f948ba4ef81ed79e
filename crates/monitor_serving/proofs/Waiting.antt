-- What comes of what the reader heard that is no bytes, and why a connection is over.
use Rattle.std.proofs.Common.{◌≡◌, ℕ, ◌⊎◌, inl, inr, true, false, refl, sym, ◌∙◌, subst, List, [], append-nil, Option, Some, None, IfSome}
use Rattle.vm_types.specs.declared.exit.Object.TheVariants as object
use Rattle.vm_outside.specs.Known.{Health, Lasts, Tells}
use Rattle.vm_outside.proofs.Passing.{later_rose}
use Rattle.serve_host.specs.Passing.{ConnKnown, Waits}
use Rattle.flat_machine.specs.Machine.{Machine, is_off}
use Rattle.flat_trace.specs.Showing.{Out}
use Rattle.monitor_core.specs.declared.monitor.Monitor.{Monitor}
use Rattle.monitor_core.specs.State.{IsMonitor}
use Rattle.monitor_running.specs.Reached.{Start}
use Rattle.monitor_serving.specs.declared.listening.Heard.TheVariants as heard
use Rattle.monitor_serving.specs.declared.served.Served.{Served}
use Rattle.monitor_serving.specs.declared.served.Served.TheVariants as served
use Rattle.monitor_serving.specs.Causes.{AnswerCause, IsOver}
use Rattle.monitor_serving.specs.Hearing.{HearsBy}
use Rattle.monitor_serving.specs.Turns.{Continues, EndsConnection, GoesOff, GoesOn, StaysOpen}
use Rattle.monitor_serving.specs.Views.{Hosts, Stands, view}
use Rattle.monitor_serving.proofs.Bringing.{waits_bring}

-- nothing but bytes is none
pub waits_at_end : (old new : ConnKnown) (buf : List ℕ) → HearsBy heard.End old new buf → Waits old new
waits_at_end old new buf ends = ends.waits

module _ (monitor : Monitor) (hosts : Hosts) (before conn : ConnKnown) (waits : Waits before conn) (untaken : conn.took ≡ before.took) where
  abbrev pub stays : (s : Start) (m : Machine) (talk : List Out) → Stands s monitor hosts m talk
      → Continues s (view monitor hosts before) (view monitor hosts conn) talk []
  stays s m talk stands = record {
    flat = m;
    heard = [];
    talked = record {
      only = tt;
      gave = waits.gave ∙ sym (append-nil before.gave);
      took = append-nil conn.took ∙ untaken ∙ sym (append-nil before.took);
      brought = waits_bring before conn waits;
    };
    closed = λ failed. inl failed;
    stands = subst (λ (t : List Out). Stands s monitor hosts m t) (sym (append-nil talk)) stands;
  }

  pub stays_on : GoesOn (view monitor hosts before) (view monitor hosts conn)
  stays_on s m talk stands = stays s m talk stands

  pub stays_off : ((m : Machine) → IsMonitor monitor hosts.files m → is_off m ≡ true)
      → GoesOff (view monitor hosts before) (view monitor hosts conn)
  stays_off off s m talk stands = (stays s m talk stands, off m stands.is)

  module _ (on : (m : Machine) → IsMonitor monitor hosts.files m → is_off m ≡ false) where
    pub stays_open : StaysOpen (view monitor hosts before) (view monitor hosts conn)
    stays_open s m talk stands = (stays s m talk stands, on m stands.is)

    pub stays_over : EndsConnection (view monitor hosts before) (view monitor hosts conn)
    stays_over s m talk stands = ([], stays s m talk stands, inl refl, on m stands.is)

-- ---- causes

-- it was read to its end
pub is_read : (monitor : Monitor) (old new : ConnKnown) (buf : List ℕ) → Lasts old.health new.health
    → (Tells old.health → HearsBy heard.End old new buf) → IsOver monitor old new
is_read monitor old new buf lasts ends =
    inl (λ tells. let e = ends tells in e.waits.left ∙ e.left)

pub is_over_since : (monitor : Monitor) (old mid new : ConnKnown) → Lasts old.health mid.health → IsOver monitor mid new
    → IsOver monitor old new
is_over_since monitor old mid new lasts (inl left) = inl (λ tells. left (lasts.still tells))
is_over_since monitor old mid new lasts (inr (inl failed)) = inr (inl failed)
is_over_since monitor old mid new lasts (inr (inr rose)) =
    inr (inr (later_rose old.health.faults mid.health.faults new.health.faults lasts.later rose))

pub answer_since : (end : Served) (monitor : Monitor) (trace traced : Health) (old mid new : ConnKnown) → Lasts old.health mid.health
    → AnswerCause end monitor trace traced mid new → AnswerCause end monitor trace traced old new
answer_since served.Ended monitor trace traced old mid new lasts cause = is_over_since monitor old mid new lasts cause
answer_since (served.Fault object.Trace) monitor trace traced old mid new lasts cause = cause
answer_since (served.Fault object.Source) monitor trace traced old mid new lasts cause = cause
answer_since (served.Fault object.Sink) monitor trace traced old mid new lasts cause = cause
answer_since (served.Fault object.Files) monitor trace traced old mid new lasts cause = cause
answer_since (served.Fault object.Listener) monitor trace traced old mid new lasts cause = cause
answer_since (served.Fault object.Words) monitor trace traced old mid new lasts cause = cause
answer_since served.Off monitor trace traced old mid new lasts cause = tt
answer_since served.OutOfMemory monitor trace traced old mid new lasts cause = tt

-- by which end it is
pub cause_of_close : (end : Option Served) (monitor : Monitor) (trace traced : Health) (old new : ConnKnown)
    → (end ≡ Some served.Off) ⊎ (end ≡ Some served.Ended) → IsOver monitor old new
    → IfSome end (λ e. AnswerCause e monitor trace traced old new)
cause_of_close end monitor trace traced old new (inl is) over =
    subst (λ (o : Option Served). IfSome o (λ e. AnswerCause e monitor trace traced old new)) (sym is) tt
cause_of_close end monitor trace traced old new (inr is) over =
    subst (λ (o : Option Served). IfSome o (λ e. AnswerCause e monitor trace traced old new)) (sym is) over

pub cause_of_rest : (end : Option Served) (P : Served → Type 0) → (end ≡ Some served.Off) ⊎ (end ≡ None) → P served.Off
    → IfSome end P
cause_of_rest end P (inl is) off = subst (λ (o : Option Served). IfSome o P) (sym is) off
cause_of_rest end P (inr is) off = subst (λ (o : Option Served). IfSome o P) (sym is) tt
