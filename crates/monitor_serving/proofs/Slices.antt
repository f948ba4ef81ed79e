-- What slices leave of a connection that is served beside them.
use Rattle.std.proofs.Common.{◌≡◌, ℕ, refl, sym, ap, ◌∙◌, subst, inl, List, [], ◌++◌, take, Option, Some, None, append-nil}
use Rattle.monitor_running.specs.Asked.{HostKnown}
use Rattle.serve_host.specs.Passing.{ConnKnown, Waits}
use Rattle.vm_types.specs.declared.exit.Object.TheVariants as object
use Rattle.flat_machine.specs.Machine.{AreFilesOf, Machine}
use Rattle.flat_trace.specs.Events.{event_acts}
use Rattle.flat_trace.specs.Showing.{Out}
use Rattle.monitor_machine.specs.declared.machine.LiveMachine.{LiveMachine}
use Rattle.monitor_machine.specs.State.{IsLive}
use Rattle.monitor_core.specs.declared.monitor.Monitor.{Monitor}
use Rattle.monitor_core.specs.State.{IsMonitor}
use Rattle.monitor_running.specs.declared.ran.Ran.{Ran}
use Rattle.monitor_running.specs.declared.ran.Ran.TheVariants as ran
use Rattle.monitor_running.specs.Ran.{RanOn}
use Rattle.monitor_running.specs.Reached.{Ahead, Kept, Reached, Start, seen, told_at}
use Rattle.monitor_serving.specs.declared.served.Served.{Served}
use Rattle.monitor_serving.specs.declared.served.Served.TheVariants as served
use Rattle.monitor_serving.specs.declared.listening.Heard.{Heard}
use Rattle.monitor_serving.specs.declared.listening.Heard.TheVariants as heard
use Rattle.monitor_serving.specs.Ends.{end_of}
use Rattle.monitor_serving.specs.Hearing.{HearsBy}
use Rattle.monitor_serving.specs.Turns.{AskedBehind, Broke, Continues, GoesOn, MayLack, ServedAs}
use Rattle.monitor_serving.specs.Views.{Hosts, Stands, Talked, View, view}
use Rattle.monitor_serving.proofs.Bringing.{gives_bring, waits_bring}
use Rattle.monitor_serving.proofs.Filing.{filed, filed_ahead, filed_beside, run_filed}

-- nothing was said on a connection that is as it was
pub untouched : (conn : ConnKnown) → Talked conn conn [] [] []
untouched conn = record { only = tt; gave = sym (append-nil conn.gave); took = refl; brought = refl }

-- where slices came to an end, there is one
no_end : (e : Served) → Some e ≡ None → ⊥
no_end e is = cc

-- ---- the monitor's machine after slices

pub monitor_kept : (monitor : Monitor) (machine : LiveMachine) (hosts : Hosts) (m flat : Machine) → IsMonitor monitor hosts.files m
    → IsLive machine flat → flat ≡ record m { guest = flat.guest }
    → IsMonitor (record monitor { machine = machine }) hosts.files flat
monitor_kept monitor machine hosts m flat is live beside = record {
  own = record { live = live; connection_is = is.own.connection_is ∙ sym (ap (λ (x : Machine). x.connection) beside) };
  files = record {
    saved_is = is.files.saved_is ∙ sym (ap (λ (x : Machine). x.saved) beside);
    calls_is = is.files.calls_is ∙ sym (ap (λ (x : Machine). x.calls) beside);
  };
}

module _ (monitor : Monitor) (machine : LiveMachine) (old new : Hosts) (conn : ConnKnown) (files_same : new.files ≡ old.files) where
  abbrev after : View
  after = view (record monitor { machine = machine }) new conn

  kept_stands : (s : Start) (m : Machine) (talk : List Out) → IsMonitor monitor old.files m
      → (k : Kept IsLive s m (seen new.slices) machine talk) → Stands s (record monitor { machine = machine }) new k.flat (talk ++ [])
  kept_stands s m talk is k = record {
    is = subst (λ f. IsMonitor (record monitor { machine = machine }) f k.flat) (sym files_same)
        (monitor_kept monitor machine old m k.flat is k.is k.beside);
    own = k.own;
    reached = subst (λ (t : List Out). Reached s (seen new.slices) k.flat t) (sym (append-nil talk)) k.reached;
  }

  abbrev went_on : (s : Start) (m : Machine) (talk : List Out) → IsMonitor monitor old.files m
      → Kept IsLive s m (seen new.slices) machine talk → Continues s (view monitor old conn) after talk []
  went_on s m talk is k = record {
    flat = k.flat;
    heard = [];
    talked = untouched conn;
    closed = λ failed. inl failed;
    stands = kept_stands s m talk is k;
  }

  -- the gate was closed, or the guest is off: nothing is missing
  pub slices_on : (ran : Ran) → RanOn IsLive (Some ran) (seen old.slices) monitor.machine (seen new.slices) machine → end_of ran ≡ None
      → GoesOn (view monitor old conn) after
  slices_on ran.Closed on none = λ s m talk stands.
      let k = on s m talk stands.is.own.live stands.own stands.reached in
      went_on s m talk stands.is k.0
  slices_on ran.Off on none = λ s m talk stands.
      let k = on s m talk stands.is.own.live stands.own stands.reached in
      went_on s m talk stands.is k.0
  slices_on ran.TraceFailed on none = absurd (no_end (served.Fault object.Trace) none)
  slices_on ran.SinkFailed on none = absurd (no_end (served.Fault object.Sink) none)
  slices_on ran.OutOfMemory on none = absurd (no_end served.OutOfMemory none)

-- ---- slices that broke off, beside which something may have come

abbrev pub unsaid_by : Heard → List ℕ → List ℕ
unsaid_by (heard.Bytes count) buf = take count buf
unsaid_by it buf = []

unheard : (old new : ConnKnown) → Waits old new → new.took ≡ old.took → Talked old new [] [] []
unheard old new waits took = record {
  only = tt;
  gave = waits.gave ∙ sym (append-nil old.gave);
  took = append-nil new.took ∙ took ∙ sym (append-nil old.took);
  brought = waits_bring old new waits;
}

pub came_unsaid : (it : Heard) (old new : ConnKnown) (buf : List ℕ) → HearsBy it old new buf → new.took ≡ old.took
    → Talked old new [] [] (unsaid_by it buf)
came_unsaid (heard.Bytes count) old new buf came took = record {
  only = tt;
  gave = came.gave;
  took = append-nil new.took ∙ took ∙ sym (append-nil old.took);
  brought = gives_bring old new (take count buf) came;
}
came_unsaid heard.End old new buf came took = unheard old new came.waits took
came_unsaid heard.Fault old new buf came took = unheard old new came took
came_unsaid heard.Nothing old new buf came took = unheard old new came took

module _ (monitor now : Monitor) (machine : LiveMachine) (old new : Hosts) (conn left : ConnKnown) (unsaid : List ℕ)
    (talked : Talked conn left [] [] unsaid) (files_same : new.files ≡ old.files) where
  broke_at : (end : Served) (s : Start) (talk : List Out) (at : Machine) (host : HostKnown) (unshown : List ℕ) → MayLack end unshown
      → AskedBehind end (told_at s) at host new.slices.host → AreFilesOf new.files at → Reached s (record (seen new.slices) { taken = new.slices.sink.taken ++ unshown; host = host }) at talk
      → Broke end s (view monitor old conn) (view now new left) talk
  broke_at end s talk at host unshown shown behind files reached = record {
    at = at;
    host = host;
    unshown = unshown;
    heard = [];
    unsent = [];
    unsaid = unsaid;
    talked = talked;
    shown = shown;
    files = files;
    behind = behind;
    reached = subst (λ (t : List Out). Reached s (record (seen new.slices) { taken = new.slices.sink.taken ++ unshown; host = host }) at t)
        (sym (append-nil talk)) reached;
  }

  -- all that was shown was taken
  all_shown : (end : Served) (s : Start) (talk : List Out) (at : Machine) (host : HostKnown) → MayLack end []
      → AskedBehind end (told_at s) at host new.slices.host → AreFilesOf new.files at → Reached s (record (seen new.slices) { host = host }) at talk → Broke end s (view monitor old conn) (view now new left) talk
  all_shown end s talk at host shown behind files reached =
      broke_at end s talk at host [] shown behind files
      (subst (λ (l : List ℕ). Reached s (record (seen new.slices) { taken = l; host = host }) at talk) (sym (append-nil new.slices.sink.taken)) reached)

  -- the files are those of a machine that differs in its guest alone
  beside : (m n : Machine) → AreFilesOf old.files m → n ≡ record m { guest = n.guest } → AreFilesOf new.files n
  beside m n files is = filed old.files new.files m n files_same (filed_beside m n is) files

  -- and of one that further events lead to it
  ahead : (s : Start) (m : Machine) (talk : List Out) → AreFilesOf old.files m
      → (a : Ahead IsLive s m (seen new.slices) machine talk) → AreFilesOf new.files a.told
  ahead s m talk files a =
      filed old.files new.files m a.told files_same
      (filed_ahead m a.told a.flat (filed_beside m a.flat a.beside) (run_filed (event_acts a.ahead.events) a.told a.ahead.outs a.flat a.ahead.run a.ahead.unsaid)) files

  abbrev served_as : Option Served → Type 0
  served_as None = Unit {0}
  served_as (Some e) = ServedAs e (view monitor old conn) (view now new left)

  pub slices_broke : (ran : Ran) (end : Served) → RanOn IsLive (Some ran) (seen old.slices) monitor.machine (seen new.slices) machine
      → end_of ran ≡ Some end → ServedAs end (view monitor old conn) (view now new left)
  slices_broke ran.Closed end on is = absurd (no_end end (sym is))
  slices_broke ran.Off end on is = absurd (no_end end (sym is))
  slices_broke ran.TraceFailed end on is =
      subst (λ (o : Option Served). served_as o) is
      (λ s m talk stands.
      let a = on s m talk stands.is.own.live stands.own stands.reached in
      all_shown (served.Fault object.Trace) s talk a.told a.host refl (a.flat, a.ahead) (ahead s m talk stands.is.files a) a.reached)
  slices_broke ran.SinkFailed end on is =
      subst (λ (o : Option Served). served_as o) is
      (λ s m talk stands.
      let a = on s m talk stands.is.own.live stands.own stands.reached in
      broke_at (served.Fault object.Sink) s talk a.1.flat new.slices.host a.0 tt refl (beside m a.1.flat stands.is.files a.1.beside) a.1.reached)
  slices_broke ran.OutOfMemory end on is =
      subst (λ (o : Option Served). served_as o) is
      (λ s m talk stands.
      let k = on s m talk stands.is.own.live stands.own stands.reached in
      all_shown served.OutOfMemory s talk k.flat new.slices.host refl refl (beside m k.flat stands.is.files k.beside) k.reached)
