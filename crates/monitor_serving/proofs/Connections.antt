-- A connection that is over, behind those before it.
use Rattle.std.proofs.Common.{◌≡◌, ℕ, ◌⊎◌, inl, inr, ◌<◌, true, false, refl, sym, ap, ◌∙◌, List, [], ◌∷◌, ◌++◌, append-nil, append_assoc, arith}
use Rattle.vm_types.specs.Causes.{Rose}
use Rattle.vm_types.specs.declared.exit.Object.TheVariants as object
use Rattle.vm_types.specs.declared.exit.Object.{Object}
use Rattle.serve_host.specs.Passing.{ConnKnown}
use Rattle.serve_host.specs.Tracing.{TraceKnown}
use Rattle.serve_host.specs.Listening.{Ended, IsFresh, ListenerKnown, TakesBack, ended_of}
use Rattle.vm_outside.specs.Known.{FilesKnown, SinkKnown}
use Rattle.http_stream.specs.Conversation.{new_connection}
use Rattle.http_stream.specs.Stream.{Connection}
use Rattle.script_text.specs.declared.item.Item.TheVariants as item
use Rattle.flat_machine.specs.Machine.{Machine}
use Rattle.flat_machine.specs.Run.{Act}
use Rattle.flat_trace.specs.Showing.{Out, Run, given, replied}
use Rattle.flat_trace.specs.Showing.Out.{Opened}
use Rattle.monitor_core.specs.declared.monitor.Monitor.{Monitor}
use Rattle.monitor_core.specs.State.{IsMonitor}
use Rattle.monitor_running.specs.Asked.{HostKnown}
use Rattle.monitor_running.specs.Reached.{Start, known, seen, told_at}
use Rattle.monitor_running.proofs.Joins.{goes_with, one_given, uncalled_none}
use Rattle.monitor_serving.specs.declared.served.Served.{Served as End}
use Rattle.monitor_serving.specs.declared.served.Served.TheVariants as served
use Rattle.monitor_serving.specs.Causes.{IsOver, ServedCause}
use Rattle.monitor_serving.specs.Connections.{AreTold, AreToldInPart, AreToldOff, BrokeOff, HasGone, HasServed, HaveCome, Place, Serves, WasOver, WasSaid, place, still_coming}
use Rattle.monitor_serving.specs.Turns.{BreaksOff, EndsConnection, GoesOff, ServedAs}
use Rattle.monitor_serving.specs.Views.{HasClosed, Hosts, Stands, Talked, View, hosts, view}
use Rattle.monitor_serving.proofs.Bringing.{come_back}
use Rattle.monitor_serving.proofs.Pieces.{unasked}

-- the connection is as it was accepted, and then as it is given back
abbrev pub was_said : (talk : List Out) (fresh conn : ConnKnown) (bytes : List ℕ) (heard : List Out) (unsent unsaid : List ℕ) → IsFresh fresh bytes
    → Talked fresh conn heard unsent unsaid
    → WasSaid ((talk ++ Opened ∷ []) ++ heard) talk (ended_of conn) unsent unsaid
was_said talk fresh conn bytes heard unsent unsaid is talked = record {
  heard = heard;
  only = talked.only;
  is = append_assoc talk (Opened ∷ []) heard;
  gave = talked.gave ∙ ap (λ (l : List ℕ). l ++ (given heard ++ unsaid)) is.gave;
  took = talked.took ∙ ap (λ (l : List ℕ). l ++ replied heard) is.took;
}

pub rose_once : (i j : ℕ) → i ≡ 0 → Rose i j → 0 < j
rose_once i j none rose = omega (arith, none, rose)

pub failed_once : (unsent : List ℕ) (fresh conn : ConnKnown) (bytes : List ℕ) → IsFresh fresh bytes
    → (unsent ≡ []) ⊎ Rose fresh.health.faults conn.health.faults → (unsent ≡ []) ⊎ (0 < conn.health.faults)
failed_once unsent fresh conn bytes is (inl none) = inl none
failed_once unsent fresh conn bytes is (inr rose) = inr (rose_once fresh.health.faults conn.health.faults is.faults rose)

-- why it was over
was_over : (opened now : Monitor) (fresh conn : ConnKnown) (bytes : List ℕ) (heard : List Out) → IsFresh fresh bytes → opened.front ≡ new_connection
    → (now.front.failed ≡ true → (opened.front.failed ≡ true) ⊎ HasClosed heard) → IsOver now fresh conn
    → WasOver heard (ended_of conn)
was_over opened now fresh conn bytes heard is new closed (inl left) = inl (left is.tells)
was_over opened now fresh conn bytes heard is new closed (inr (inr rose)) =
    inr (inr (rose_once fresh.health.faults conn.health.faults is.faults rose))
was_over opened now fresh conn bytes heard is new closed (inr (inl failed)) = inr (inl (by_answer (closed failed)))
  where
    by_answer : (opened.front.failed ≡ true) ⊎ HasClosed heard → HasClosed heard
    by_answer (inl before) = absurd (let on : false ≡ true = sym (ap (λ (c : Connection). c.failed) new) ∙ before in cc)
    by_answer (inr it) = it

-- ---- a new connection

module _ (s : Start) (first : ListenerKnown) (monitor opened : Monitor) (trace told : TraceKnown) (sink : SinkKnown) (host : HostKnown)
    (files : FilesKnown) (bytes : List ℕ) (listener : ListenerKnown)
    (is_told : told.took ≡ trace.took ++ item.Connect ∷ [])
    (opens : (m : Machine) → IsMonitor monitor files m → IsMonitor opened files (record m { connection = new_connection }))
    (new : opened.front ≡ new_connection)
    (old : HasServed s first (place monitor (hosts (known trace sink host) files) (still_coming bytes listener))) where
  abbrev pub stands_opened : Stands s opened (hosts (known told sink host) files) (record old.flat { connection = new_connection })
      (old.talk ++ Opened ∷ [])
  stands_opened = record {
    is = opens old.flat old.stands.is;
    own = record { disk = old.stands.own.disk; link = old.stands.own.link; vsock = old.stands.own.vsock };
    reached =
        let act : Act = record { item = item.Connect; outcomes = [] } in
        let next : Machine = record old.flat { connection = new_connection } in
        let run : Run (act ∷ []) old.flat (Opened ∷ []) next = (Opened, next, [], refl, (refl, (refl, (refl, refl))), (refl, refl)) in
        goes_with s (seen (known trace sink host)) (seen (known told sink host)) old.flat next old.talk (act ∷ []) (Opened ∷ [])
        old.stands.reached run is_told (sym (append-nil sink.taken))
        (unasked (told_at s) act old.flat (Opened ∷ []) next run host host refl refl (uncalled_none host.devices)) (one_given act refl);
  }

  module _ (fresh conn : ConnKnown) (is_fresh : IsFresh fresh bytes) (monitor_now : Monitor) (now : Hosts) (left : ListenerKnown)
      (back : TakesBack conn listener left) where
    abbrev pub before : View
    before = view opened (hosts (known told sink host) files) fresh

    abbrev pub after : View
    after = view monitor_now now conn

    abbrev pub end_place : Place
    end_place = place monitor_now now left

    has_come : conn.gave ++ conn.left ≡ fresh.gave ++ fresh.left → HaveCome first (ended_of conn ∷ old.since) left
    has_come brought = come_back first old.since bytes listener left fresh conn is_fresh brought back old.came

    pub ended_well : EndsConnection before after → IsOver monitor_now fresh conn → HasServed s first end_place
    ended_well ends over =
        let e = ends s (record old.flat { connection = new_connection }) (old.talk ++ Opened ∷ []) stands_opened in
        let on = e.1 in record {
          flat = on.flat;
          talk = (old.talk ++ Opened ∷ []) ++ on.heard;
          since = ended_of conn ∷ old.since;
          stands = on.stands;
          came = has_come on.talked.brought;
          told = (
            old.talk,
            e.0,
            was_said old.talk fresh conn bytes on.heard e.0 [] is_fresh on.talked,
            failed_once e.0 fresh conn bytes is_fresh e.2,
            was_over opened monitor_now fresh conn bytes on.heard is_fresh new on.closed over,
            old.told,
          );
        }

    pub ended_off : GoesOff before after → HasGone s first end_place
    ended_off ends =
        let e = ends s (record old.flat { connection = new_connection }) (old.talk ++ Opened ∷ []) stands_opened in
        let on = e.0 in record {
          flat = on.flat;
          talk = (old.talk ++ Opened ∷ []) ++ on.heard;
          since = ended_of conn ∷ old.since;
          stands = on.stands;
          came = has_come on.talked.brought;
          told = (old.talk, [], was_said old.talk fresh conn bytes on.heard [] [] is_fresh on.talked, inl refl, old.told);
          off = e.1;
        }

    pub ended_broken : (end : End) → BreaksOff end before after → BrokeOff end s first end_place
    ended_broken end ends =
        let broke = ends s (record old.flat { connection = new_connection }) (old.talk ++ Opened ∷ []) stands_opened in record {
          at = broke.at;
          talk = (old.talk ++ Opened ∷ []) ++ broke.heard;
          since = ended_of conn ∷ old.since;
          host = broke.host;
          unshown = broke.unshown;
          reached = broke.reached;
          came = has_come broke.talked.brought;
          told = inl (
            old.talk,
            broke.unsent,
            broke.unsaid,
            was_said old.talk fresh conn bytes broke.heard broke.unsent broke.unsaid is_fresh broke.talked,
            old.told,
          );
          shown = broke.shown;
          files = broke.files;
          behind = broke.behind;
        }

-- by which end
module _ (monitor opened : Monitor) (trace told : TraceKnown) (sink : SinkKnown) (host : HostKnown) (files : FilesKnown)
    (bytes : List ℕ) (listener : ListenerKnown) (is_told : told.took ≡ trace.took ++ item.Connect ∷ [])
    (opens : (m : Machine) → IsMonitor monitor files m → IsMonitor opened files (record m { connection = new_connection }))
    (new : opened.front ≡ new_connection) (fresh conn : ConnKnown) (is_fresh : IsFresh fresh bytes) (now_monitor : Monitor) (now : Hosts)
    (left : ListenerKnown) (back : TakesBack conn listener left) where
  abbrev start : Place
  start = place monitor (hosts (known trace sink host) files) (still_coming bytes listener)

  abbrev from : View
  from = view opened (hosts (known told sink host) files) fresh

  abbrev to : View
  to = view now_monitor now conn

  broken : (end : End) → BreaksOff end from to → (s : Start) (first : ListenerKnown) → HasServed s first start
      → BrokeOff end s first (place now_monitor now left)
  broken end breaks s first old =
      ended_broken s first monitor opened trace told sink host files bytes listener is_told opens new old fresh conn is_fresh now_monitor now left back
      end breaks

  by_fault : (name : Object) → ServedAs (served.Fault name) from to → Serves (served.Fault name) start (place now_monitor now left)
  by_fault object.Trace ends = broken (served.Fault object.Trace) ends
  by_fault object.Sink ends = broken (served.Fault object.Sink) ends
  by_fault object.Source ends = absurd ends
  by_fault object.Files ends = absurd ends
  by_fault object.Listener ends = absurd ends
  by_fault object.Words ends = absurd ends

  pub one_served : (end : End) → ServedAs end from to → ServedCause end from to → Serves end start (place now_monitor now left)
  one_served served.Ended ends over = λ s first old.
      ended_well s first monitor opened trace told sink host files bytes listener is_told opens new old fresh conn is_fresh now_monitor now left back
      ends over
  one_served served.Off ends cause = λ s first old.
      ended_off s first monitor opened trace told sink host files bytes listener is_told opens new old fresh conn is_fresh now_monitor now left back
      ends
  one_served (served.Fault name) ends cause = by_fault name ends
  one_served served.OutOfMemory ends cause = broken served.OutOfMemory ends

-- what was told whole was told in part
pub in_part : (talk : List Out) (since : List Ended) → AreTold talk since → AreToldInPart talk since
in_part talk [] told = told
in_part talk (ended ∷ others) (before, unsent, said, cut, over, told) = inl (before, unsent, [], said, told)

-- and is so where the guest is off
pub in_off : (talk : List Out) (since : List Ended) → AreTold talk since → AreToldOff talk since
in_off talk [] told = told
in_off talk (ended ∷ others) (before, unsent, said, cut, over, told) = (before, unsent, said, cut, told)
