-- How serving begins, and where it leads from there.
use Rattle.std.proofs.Common.{◌≡◌, ℕ, inl, inr, refl, sym, ap, subst, ◌∙◌, List, [], ◌∷◌, ◌++◌, append-nil, append_assoc, Option, Some}
use Rattle.vm_types.specs.declared.exit.Exit.{Exit}
use Rattle.vm_types.specs.declared.exit.Object.{Object}
use Rattle.vm_types.specs.declared.exit.Object.TheVariants as object
use Rattle.vm_outside.specs.Known.{FilesKnown, Health, Tells}
use Rattle.serve_host.specs.Drawing.{WordsKnown}
use Rattle.vm_host.specs.Giving.{IsDrawn}
use Rattle.serve_host.specs.Listening.{ListenerKnown}
use Rattle.serve_host.specs.Tracing.{TraceKnown}
use Rattle.script_text.specs.declared.item.Item.{Item}
use Rattle.script_text.specs.declared.item.Item.TheVariants as item
use Rattle.command_line.specs.Commands.{ServeWords}
use Rattle.flat_machine.specs.Machine.{Machine, new_machine}
use Rattle.flat_machine.specs.Run.{Act}
use Rattle.flat_trace.specs.Showing.{Out, shown}
use Rattle.monitor_core.specs.declared.monitor.Monitor.{Monitor}
use Rattle.monitor_core.specs.State.{IsMonitor}
use Rattle.monitor_running.specs.Asked.{HostKnown, healths}
use Rattle.monitor_running.specs.Reached.{Start, known}
use Rattle.monitor_running.proofs.Joins.{none_ahead, none_asked, none_given}
use Rattle.monitor_serving.specs.Connections.{AreToldInPart, BrokeOff, EndCause, Goes, HasGone, HasServed, Place, place}
use Rattle.monitor_serving.specs.Views.{Hosts, hosts}
use Rattle.monitor_serving.specs.declared.served.Served.{Served}
use Rattle.monitor_serving.specs.declared.served.Served.TheVariants as served
use Rattle.firecracker_cli.specs.Serving.{AskedSince, HasBegun, OpensPart, ServeKnown, ServedPart, closing_line, serve_known, took_before}
use Rattle.firecracker_cli.specs.SoFar.{AtPaths, BeginCause, CameToEnd, Cut, IsFinished, LeftBy, ServedSoFar, TakesLineage, exit_of, start_at, with_lineage, with_trace}
use Rattle.firecracker_cli.proofs.Lineages.{all_acts, all_begun, all_outs, all_ran, all_took}

pub drawn_from : (left rest : WordsKnown) (first took new : List Item) (old now : Monitor) → took ≡ first
    → TakesLineage left took old rest new now → TakesLineage left first old rest new now
drawn_from left rest first took new old now same drawn = subst (λ (l : List Item). TakesLineage left l old rest new now) same drawn

-- a path that stays the same from call to call
pub same_path : (first opened drawn last : Option (List ℕ)) → last ≡ drawn → drawn ≡ opened → opened ≡ first → last ≡ first
same_path first opened drawn last third second one = third ∙ second ∙ one

module _ (given : ServeWords) (before : ServeKnown) where
  abbrev start : Machine
  start = new_machine given.id before.hosts.files.saved before.hosts.files.calls

  -- nothing has happened
  pub nothing_served : (exit : Exit) (now : ServeKnown)
      → OpensPart given before.listener before.hosts.slices.trace now.listener now.hosts.slices.trace
      → now.hosts.slices.sink.taken ≡ before.hosts.slices.sink.taken → now.listener.ended ≡ before.listener.ended
      → now.listener.coming ≡ before.listener.coming → now.hosts.files ≡ before.hosts.files
      → AskedSince exit (healths before.hosts.slices.host.devices) start before.hosts.slices.host now.hosts.slices.host → Cut exit given before now
  nothing_served exit now opened sunk ended coming files behind = record {
    acts = [];
    outs = [];
    at = start;
    host = before.hosts.slices.host;
    since = [];
    ran = record {
      run = (refl, refl);
      asked = none_asked (healths before.hosts.slices.host.devices) start before.hosts.slices.host;
    };
    behind = behind;
    begun = inl (record { none = refl; opened = opened });
    came = record { ended = ended; coming = sym coming };
    sink = sunk ∙ sym (append-nil before.hosts.slices.sink.taken);
    told = refl;
    files = record { saved_is = ap (λ (f : FilesKnown). f.saved) files; calls_is = ap (λ (f : FilesKnown). f.calls) files };
  }

  -- which an object's fault ended, of which no actor asks anything
  pub none_behind : (o : Object) (t u w x l m : Health) → BeginCause o t u w x l m → (at : Machine) (host : HostKnown)
      → AskedSince (Exit.Fault o) (healths before.hosts.slices.host.devices) at host host
  none_behind object.Trace t u w x l m cause at host = (at, none_ahead (healths before.hosts.slices.host.devices) at host)
  none_behind object.Words t u w x l m cause at host = refl
  none_behind object.Listener t u w x l m cause at host = refl
  none_behind object.Source t u w x l m cause at host = absurd cause
  none_behind object.Sink t u w x l m cause at host = absurd cause
  none_behind object.Files t u w x l m cause at host = absurd cause

  pub cut_by : (o : Object) (now : ServeKnown) (t u w x l m : Health) → BeginCause o t u w x l m → Cut (Exit.Fault o) given before now
      → ServedSoFar (Exit.Fault o) given before now
  cut_by object.Trace now t u w x l m cause cut = cut
  cut_by object.Words now t u w x l m cause cut = cut
  cut_by object.Listener now t u w x l m cause cut = cut
  cut_by object.Source now t u w x l m cause cut = absurd cause
  cut_by object.Sink now t u w x l m cause cut = absurd cause
  cut_by object.Files now t u w x l m cause cut = absurd cause

  -- ---- since a lineage was drawn

  module _ (lineage : ℕ) (words : WordsKnown) (drawn : Tells before.words.health → IsDrawn before.words.left lineage words.left) where
    abbrev first : ListenerKnown
    first = before.listener

    abbrev s : Start
    s = start_at given before lineage

    -- the lineage is all that has happened
    pub begun : (old new : Monitor) (trace : TraceKnown) (listener : ListenerKnown)
        → trace.took ≡ took_before given.trace before.hosts.slices.trace.took ++ item.Lineage lineage ∷ []
        → ((files : FilesKnown) (m : Machine) → IsMonitor old files m → IsMonitor new files (with_lineage lineage m))
        → IsMonitor old before.hosts.files start → listener.ended ≡ first.ended → listener.coming ≡ first.coming
        → HasServed s first (place new (hosts (known trace before.hosts.slices.sink before.hosts.slices.host) before.hosts.files) listener)
    begun old new trace listener told becomes is ended coming = record {
      flat = with_lineage lineage start;
      talk = [];
      since = [];
      stands = record {
        is = becomes before.hosts.files start is;
        own = record { disk = tt; link = tt; vsock = tt };
        reached = record {
          acts = [];
          outs = [];
          added = told ∙ sym (append-nil (took_before given.trace before.hosts.slices.trace.took ++ item.Lineage lineage ∷ []));
          no_lineage = none_given;
          run = (refl, refl);
          sink = sym (append-nil before.hosts.slices.sink.taken);
          talks = refl;
          asked = none_asked (healths before.hosts.slices.host.devices) (with_lineage lineage start) before.hosts.slices.host;
        };
      };
      came = record { ended = ended; coming = sym coming };
      told = refl;
    }

    module _ (monitor : Monitor) (now : Hosts) (listener : ListenerKnown) (paths : AtPaths given before (serve_known now words listener)) where
      abbrev at_now : Place
      at_now = place monitor now listener

      abbrev known_now : ServeKnown
      known_now = serve_known now words listener

      served_to_end : HasServed s first at_now → listener.coming ≡ [] → CameToEnd monitor given before known_now
      served_to_end it over = record {
        paths = paths;
        lineage = lineage;
        drawn = drawn;
        last = it.flat;
        talk = it.talk;
        since = it.since;
        stands = it.stands;
        over = inl over;
        came = it.came;
        told = inl it.told;
      }

      gone_to_end : HasGone s first at_now → CameToEnd monitor given before known_now
      gone_to_end it = record {
        paths = paths;
        lineage = lineage;
        drawn = drawn;
        last = it.flat;
        talk = it.talk;
        since = it.since;
        stands = it.stands;
        over = inr it.off;
        came = it.came;
        told = inr (it.off, it.told);
      }

      module _ (trace : TraceKnown) (finished : IsFinished before known_now trace) where
        abbrev known_last : ServeKnown
        known_last = with_trace trace known_now

        module _ (end : Served) (it : BrokeOff end s first at_now) where
          abbrev taken : List ℕ
          taken = now.slices.sink.taken ++ it.unshown

          abbrev acts : List Act
          acts = all_acts given before lineage words now.slices.trace.took it.host taken it.at it.talk it.reached

          abbrev outs : List Out
          outs = all_outs given before lineage words now.slices.trace.took it.host taken it.at it.talk it.reached

          has_begun : HasBegun given before known_last acts
          has_begun = record {
            opened = record {
              listening = paths.listening;
              traced = finished.path ∙ paths.traced;
              took =
                  finished.took
                  ∙ all_took given before lineage words now.slices.trace.took it.host taken it.at it.talk it.reached;
            };
            lineage = all_begun given before lineage words now.slices.trace.took it.host taken it.at it.talk it.reached drawn;
            kept = finished.kept;
          }

          broke_off : it.unshown ≡ []
              → AskedSince (exit_of end) (healths before.hosts.slices.host.devices) it.at it.host now.slices.host → Cut (exit_of end) given before known_last
          broke_off none behind =
              let sunk = now.slices.sink.taken in record {
                acts = acts;
                outs = outs;
                at = it.at;
                host = it.host;
                since = it.since;
                ran = all_ran given before lineage words now.slices.trace.took it.host taken it.at it.talk it.reached;
                behind = behind;
                begun = inr has_begun;
                came = it.came;
                sink = sym (append-nil sunk) ∙ ap (λ (l : List ℕ). sunk ++ l) (sym none) ∙ it.reached.sink;
                told = subst (λ t. AreToldInPart t it.since) it.reached.talks it.told;
                files = it.files;
              }

        -- by the sink
        sink_broke : BrokeOff (served.Fault object.Sink) s first at_now → ServedPart (Exit.Fault object.Sink) given before known_last
        sink_broke it =
            let sunk = now.slices.sink.taken in
            let line = closing_line it.at in record {
              acts = acts (served.Fault object.Sink) it;
              outs = outs (served.Fault object.Sink) it;
              at = it.at;
              host = it.host;
              since = it.since;
              ran = all_ran given before lineage words now.slices.trace.took it.host (taken (served.Fault object.Sink) it) it.at it.talk it.reached;
              behind = it.behind;
              begun = inr (has_begun (served.Fault object.Sink) it);
              came = it.came;
              rest = it.unshown ++ line;
              sink =
                  sym (append_assoc sunk it.unshown line) ∙ ap (λ (l : List ℕ). l ++ line) it.reached.sink
                  ∙ append_assoc before.hosts.slices.sink.taken (shown it.reached.outs) line;
              lacks = tt;
              told = subst (λ t. AreToldInPart t it.since) it.reached.talks it.told;
              files = it.files;
            }

      -- serving goes on from there
      pub left_by : (end : Served) (old : Place) (a b : Hosts) (h i : Health) → HasServed s first old → EndCause end a b h i
          → Goes (Some end) old at_now → LeftBy (exit_of end) monitor given before known_now
      left_by served.Ended old a b h i has cause goes = served_to_end (goes.0 s first has) goes.1
      left_by served.Off old a b h i has cause goes = gone_to_end (goes s first has)
      left_by served.OutOfMemory old a b h i has cause goes = λ trace finished.
          let broke = goes s first has in broke_off trace finished served.OutOfMemory broke broke.shown broke.behind
      left_by (served.Fault object.Trace) old a b h i has cause goes = λ trace finished.
          let broke = goes s first has in broke_off trace finished (served.Fault object.Trace) broke broke.shown broke.behind
      left_by (served.Fault object.Listener) old a b h i has cause goes = λ trace finished.
          let broke = goes s first has in broke_off trace finished (served.Fault object.Listener) broke broke.shown broke.behind
      left_by (served.Fault object.Sink) old a b h i has cause goes = λ trace finished. sink_broke trace finished (goes s first has)
      left_by (served.Fault object.Words) old a b h i has cause goes = absurd cause
      left_by (served.Fault object.Source) old a b h i has cause goes = absurd cause
      left_by (served.Fault object.Files) old a b h i has cause goes = absurd cause
