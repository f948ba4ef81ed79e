-- From the world of a machine to the machine, and from one slice to the next.
use Rattle.std.proofs.Common.{◌≡◌, Bool, true, false, refl, sym, ap, ◌∙◌, subst, List, ◌++◌, Option, Some, None}
use Rattle.vm_outside.specs.Known.{FilesKnown, SinkKnown}
use Rattle.vm_outside.specs.Known as objects
use Rattle.vm_outside.proofs.Passing.{lasts_more, lasts_same, later_rose}
use Rattle.serve_host.specs.Tracing.{TraceKnown, TraceStays}
use Rattle.flat_guest.specs.Guest.{Guest}
use Rattle.flat_machine.specs.Machine.{Machine, is_off, running_by}
use Rattle.vm_world.specs.Worlds.{IsWorld, WorldValue}
use Rattle.monitor_machine.specs.declared.machine.LiveMachine.{LiveMachine}
use Rattle.monitor_machine.specs.Running.{resting_world, running_world}
use Rattle.monitor_machine.specs.State.{IsGuestBy, IsLive, IsMachine}
use Rattle.monitor_running.specs.declared.ran.Ran.{Ran}
use Rattle.monitor_running.specs.declared.ran.Ran.TheVariants as ran
use Rattle.monitor_running.specs.Asked.{HostKnown}
use Rattle.monitor_running.specs.Ran.{HasFault, IsOff, IsRunning, RanOn, Went}
use Rattle.monitor_running.specs.Reached.{AreOwn, Keeps, KeepsAs, Kept, Known, Reached, Seen, Start, known, seen}
use Rattle.flat_trace.specs.Showing.{Out}
use Rattle.monitor_running.proofs.Attached.{own_rest}
use Rattle.monitor_running.proofs.Joins.{HostRests, rests, still_own}
use Rattle.flat_trace.proofs.Lines.{guest_is}

-- ---- what an object told, call after call

-- and a trace is that of the same path
pub stays_more : (before mid now : TraceKnown) → objects.Lasts before.health mid.health → TraceStays before mid → TraceStays mid now
    → TraceStays before now
stays_more before mid now lasts first second = λ tells. second (lasts.still tells) ∙ first tells

-- ---- a body that keeps what was, and then ends so

module _ {B : Type 0} (Is : B → Machine → Type 0) (old mid now : Seen) (b c d : B) (keeps : Keeps Is old b mid c) where
  joined : (m k n : Machine) → k ≡ record m { guest = k.guest } → n ≡ record k { guest = n.guest } → n ≡ record m { guest = n.guest }
  joined m k n first behind = behind ∙ ap (λ (x : Machine). record x { guest = n.guest }) first

  abbrev kept_after : (s : Start) (m : Machine) (talk : List Out) (k : Kept Is s m mid c talk) (last : Seen) (e : B)
      → Kept Is s k.flat last e talk → Kept Is s m last e talk
  kept_after s m talk k last e n =
      record { flat = n.flat; is = n.is; beside = joined m k.flat n.flat k.beside n.beside; own = n.own; reached = n.reached }

  keeps_on : Keeps Is mid c now d → Keeps Is old b now d
  keeps_on more s m talk is f r =
      let k = keeps s m talk is f r in
      kept_after s m talk k now d (more s k.flat talk k.is k.own k.reached)

  ran_on : (end : Option Ran) → RanOn Is end mid c now d → RanOn Is end old b now d
  ran_on None on = keeps_on on
  ran_on (Some ran.Closed) on = λ s m talk is f r.
      let k = keeps s m talk is f r in
      let n = on s k.flat talk k.is k.own k.reached in (kept_after s m talk k now d n.0, n.1)
  ran_on (Some ran.Off) on = λ s m talk is f r.
      let k = keeps s m talk is f r in
      let n = on s k.flat talk k.is k.own k.reached in (kept_after s m talk k now d n.0, n.1)
  ran_on (Some ran.TraceFailed) on = λ s m talk is f r.
      let k = keeps s m talk is f r in
      let n = on s k.flat talk k.is k.own k.reached in record {
        told = n.told;
        host = n.host;
        reached = n.reached;
        flat = n.flat;
        ahead = n.ahead;
        is = n.is;
        beside = joined m k.flat n.flat k.beside n.beside;
      }
  ran_on (Some ran.SinkFailed) on = λ s m talk is f r.
      let k = keeps s m talk is f r in
      let n = on s k.flat talk k.is k.own k.reached in
      (n.0, kept_after s m talk k (record now { taken = now.taken ++ n.0 }) d n.1)
  ran_on (Some ran.OutOfMemory) on = keeps_on on

-- nothing happened
pub keeps_same : {B : Type 0} (Is : B → Machine → Type 0) (old now : Seen) (b : B) → now ≡ old → Keeps Is old b now b
keeps_same Is old now b same s m talk is f r =
    record {
      flat = m;
      is = is;
      beside = refl;
      own = subst (λ (x : Seen). AreOwn s m x) (sym same) f;
      reached = subst (λ (x : Seen). Reached s x m talk) (sym same) r;
    }

-- but that a clock rested
pub keeps_resting : {B : Type 0} (Is : B → Machine → Type 0) (old now : Seen) (b : B) → now.took ≡ old.took → now.taken ≡ old.taken
    → HostRests old.host now.host → Keeps Is old b now b
keeps_resting Is old now b told sunk rest s m talk is f r =
    record {
      flat = m;
      is = is;
      beside = refl;
      own = still_own s old now m talk r (own_rest old.host.devices now.host.devices rest.devices) f;
      reached = rests s old now m talk r told sunk rest;
    }

-- ---- the world of a machine

none_taken : (live : LiveMachine) (guest : Option WorldValue) (paused : Bool) → live.guest ≡ guest → running_world guest paused ≡ None
    → record live { guest = resting_world guest paused } ≡ live
none_taken live guest true is none = ap (λ (o : Option WorldValue). record live { guest = o }) (sym is)
none_taken live guest false is none = ap (λ (o : Option WorldValue). record live { guest = o }) (sym none ∙ sym is)

pub nothing_taken : (live after : LiveMachine) → running_world live.guest live.paused ≡ None
    → after ≡ record live { guest = resting_world live.guest live.paused } → after ≡ live
nothing_taken live after none left = left ∙ none_taken live live.guest live.paused refl none

some_taken : (guest : Option WorldValue) (paused : Bool) (w : WorldValue) → running_world guest paused ≡ Some w
    → (guest ≡ Some w) × (paused ≡ false)
some_taken guest true w some = cc
some_taken guest false w some = (some, refl)

some_guest : (guest : Option WorldValue) (w : WorldValue) (flat : Option Guest) → guest ≡ Some w → IsGuestBy guest flat
    → (g : Guest) × (flat ≡ Some g) × IsWorld w g
some_guest guest w flat is here = there_by flat (subst (λ (o : Option WorldValue). IsGuestBy o flat) is here)
  where
    there_by : (flat : Option Guest) → IsGuestBy (Some w) flat → (g : Guest) × (flat ≡ Some g) × IsWorld w g
    there_by None is = absurd is
    there_by (Some g) is = (g, refl, is)

pub runs_as : (live : LiveMachine) (m : Machine) (w : WorldValue) → live.guest ≡ Some w → live.paused ≡ false → IsLive live m
    → IsRunning w m
runs_as live m w some moving is =
    let g = some_guest live.guest w m.guest some is.guest_is in (
      g.0,
      subst (λ (b : Bool). running_by m.guest b ≡ Some g.0) (sym moving ∙ is.paused_is) g.1,
      g.2,
    )

pub lives_on : (live : LiveMachine) (m n : Machine) (w : WorldValue) → IsLive live m → n ≡ record m { guest = n.guest }
    → IsRunning w n → IsLive (record live { guest = Some w }) n
lives_on live m n w is beside runs = record {
  id_is = is.id_is ∙ sym (ap (λ (x : Machine). x.id) beside);
  ids_is = is.ids_is ∙ sym (ap (λ (x : Machine). x.ids) beside);
  metadata_is = is.metadata_is ∙ sym (ap (λ (x : Machine). x.metadata) beside);
  config_is = is.config_is ∙ sym (ap (λ (x : Machine). x.config) beside);
  guest_is = subst (λ (o : Option Guest). IsGuestBy (Some w) o) (sym (guest_is n runs.0 runs.1)) runs.2;
  paused_is = is.paused_is ∙ sym (ap (λ (x : Machine). x.paused) beside);
}

module _ (live after : LiveMachine) (old now : Seen) (w v : WorldValue) (some : live.guest ≡ Some w) (moving : live.paused ≡ false)
    (back : after ≡ record live { guest = Some v }) where
  abbrev lifted : (s : Start) (m : Machine) (talk : List Out) (last : Seen) → IsLive live m → Kept IsRunning s m last v talk
      → Kept IsLive s m last after talk
  lifted s m talk last is k = record {
    flat = k.flat;
    is = subst (λ (x : LiveMachine). IsLive x k.flat) (sym back) (lives_on live m k.flat v is k.beside k.is);
    beside = k.beside;
    own = k.own;
    reached = k.reached;
  }

  lift_keeps : Keeps IsRunning old w now v → Keeps IsLive old live now after
  lift_keeps keeps s m talk is f r = lifted s m talk now is (keeps s m talk (runs_as live m w some moving is) f r)

  lift : (end : Option Ran) → RanOn IsRunning end old w now v → RanOn IsLive end old live now after
  lift None on = lift_keeps on
  lift (Some ran.Closed) on = λ s m talk is f r.
      let n = on s m talk (runs_as live m w some moving is) f r in (lifted s m talk now is n.0, n.1)
  lift (Some ran.Off) on = λ s m talk is f r.
      let n = on s m talk (runs_as live m w some moving is) f r in (lifted s m talk now is n.0, n.1)
  lift (Some ran.TraceFailed) on = λ s m talk is f r.
      let n = on s m talk (runs_as live m w some moving is) f r in record {
        told = n.told;
        host = n.host;
        reached = n.reached;
        flat = n.flat;
        ahead = n.ahead;
        is = subst (λ (x : LiveMachine). IsLive x n.flat) (sym back) (lives_on live m n.flat v is n.beside n.is);
        beside = n.beside;
      }
  lift (Some ran.SinkFailed) on = λ s m talk is f r.
      let n = on s m talk (runs_as live m w some moving is) f r in
      (n.0, lifted s m talk (record now { taken = now.taken ++ n.0 }) is n.1)
  lift (Some ran.OutOfMemory) on = lift_keeps on

-- ---- the guest is on, or off

pub keeps_as : (off : Bool) (old now : Seen) (live after : LiveMachine) → Keeps IsLive old live now after
    → ((m : Machine) → IsLive after m → off ≡ is_off m) → KeepsAs off IsLive old live now after
keeps_as off old now live after keeps is_so s m talk is f r =
    let k = keeps s m talk is f r in (k, sym (is_so k.flat k.is))

-- ---- a machine, of which a slice is made or none

-- nothing happened but that a clock rested
pub went_resting : {B : Type 0} (Is : B → Machine → Type 0) (trace : TraceKnown) (sink : SinkKnown) (asked now : HostKnown)
    (b c : B) → c ≡ b → HostRests asked now → Went Is None (known trace sink asked) b (known trace sink now) c
went_resting Is trace sink asked now b c same rest = record {
  ran = λ t k. rw same (keeps_resting Is (seen (known trace sink asked)) (seen (known trace sink now)) b refl refl rest);
  fault = tt;
  trace_lasts = lasts_same trace.health;
  trace_stays = λ tells. refl;
  sink_lasts = lasts_same sink.health;
}

module _ (live taken after : LiveMachine) (old now : Known) (w v : WorldValue) (some : running_world live.guest live.paused ≡ Some w)
    (left : taken ≡ record live { guest = resting_world live.guest live.paused }) (back : after ≡ record taken { guest = Some v }) where
  whole : after ≡ record live { guest = Some v }
  whole = back ∙ ap (λ (x : LiveMachine). record x { guest = Some v }) left

  pub slice_lifted : (end : Option Ran) → Went IsRunning end old w now v → Went IsLive end old live now after
  slice_lifted end h =
      let parts = some_taken live.guest live.paused w some in record {
        ran = λ t k. lift live after (seen old) (seen now) w v parts.0 parts.1 whole end (h.ran t k);
        fault = h.fault;
        trace_lasts = h.trace_lasts;
        trace_stays = h.trace_stays;
        sink_lasts = h.sink_lasts;
      }

-- ---- what the machine tells of its guest

abbrev files_of : Machine → FilesKnown
files_of m = record { health = record { tells = false; faults = 0 }; saved = m.saved; calls = m.calls }

pub off_is : (live : LiveMachine) (off answer : Bool) → answer ≡ off
    → ((known : FilesKnown) (m : Machine) → IsMachine live known m → answer ≡ is_off m)
    → (m : Machine) → IsLive live m → off ≡ is_off m
off_is live off answer same says m is =
    sym same ∙ says (files_of m) m (record { own = is; files = record { saved_is = refl; calls_is = refl } })

-- it is no machine whose guest is off
pub never_off : {X : Type 0} (live : LiveMachine) (answer : Bool) → answer ≡ false
    → ((known : FilesKnown) (m : Machine) → IsMachine live known m → answer ≡ is_off m) → IsOff live → X
never_off live answer same says (m, is, off) = let on = off_is live false answer same says m is in absurd cc

-- the guest is off, or on, and nothing is done
pub went_off : (known_by : Known) (live : LiveMachine) (answer : Bool) → answer ≡ true
    → ((known : FilesKnown) (m : Machine) → IsMachine live known m → answer ≡ is_off m)
    → Went IsLive (Some ran.Off) known_by live known_by live
went_off k live answer is says = record {
  ran = λ t s. keeps_as true (seen k) (seen k) live live (keeps_same IsLive (seen k) (seen k) live refl)
      (off_is live true answer is says);
  fault = tt;
  trace_lasts = lasts_same k.trace.health;
  trace_stays = λ tells. refl;
  sink_lasts = lasts_same k.sink.health;
}

pub went_closed : (known_by : Known) (live : LiveMachine) (answer : Bool) → answer ≡ false
    → ((known : FilesKnown) (m : Machine) → IsMachine live known m → answer ≡ is_off m)
    → Went IsLive (Some ran.Closed) known_by live known_by live
went_closed k live answer is says = record {
  ran = λ t s. keeps_as false (seen k) (seen k) live live (keeps_same IsLive (seen k) (seen k) live refl)
      (off_is live false answer is says);
  fault = tt;
  trace_lasts = lasts_same k.trace.health;
  trace_stays = λ tells. refl;
  sink_lasts = lasts_same k.sink.health;
}

-- ---- one slice behind others

fault_on : (end : Option Ran) (old mid now : Known) → objects.Lasts old.trace.health mid.trace.health
    → objects.Lasts old.sink.health mid.sink.health → HasFault end mid now → HasFault end old now
fault_on None old mid now trace sink fault = tt
fault_on (Some ran.Closed) old mid now trace sink fault = tt
fault_on (Some ran.Off) old mid now trace sink fault = tt
fault_on (Some ran.TraceFailed) old mid now trace sink fault =
    later_rose old.trace.health.faults mid.trace.health.faults now.trace.health.faults trace.later fault
fault_on (Some ran.SinkFailed) old mid now trace sink fault =
    later_rose old.sink.health.faults mid.sink.health.faults now.sink.health.faults sink.later fault
fault_on (Some ran.OutOfMemory) old mid now trace sink fault = tt

pub went_on : {B : Type 0} (Is : B → Machine → Type 0) (end : Option Ran) (old mid now : Known) (b c d : B)
    → Went Is None old b mid c → Went Is end mid c now d → Went Is end old b now d
went_on Is end old mid now b c d first last = record {
  ran = λ t k. ran_on Is (seen old) (seen mid) (seen now) b c d (first.ran t k) end
      (last.ran (first.trace_lasts.still t) (first.sink_lasts.still k));
  fault = fault_on end old mid now first.trace_lasts first.sink_lasts last.fault;
  trace_lasts = lasts_more old.trace.health mid.trace.health now.trace.health first.trace_lasts last.trace_lasts;
  trace_stays = stays_more old.trace mid.trace now.trace first.trace_lasts first.trace_stays last.trace_stays;
  sink_lasts = lasts_more old.sink.health mid.sink.health now.sink.health first.sink_lasts last.sink_lasts;
}

pub went_nowhere : {B : Type 0} (Is : B → Machine → Type 0) (k : Known) (b : B) → Went Is None k b k b
went_nowhere Is k b = record {
  ran = λ t s. keeps_same Is (seen k) (seen k) b refl;
  fault = tt;
  trace_lasts = lasts_same k.trace.health;
  trace_stays = λ tells. refl;
  sink_lasts = lasts_same k.sink.health;
}
