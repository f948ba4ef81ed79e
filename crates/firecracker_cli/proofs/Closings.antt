-- What is told where serving came to its end.
use Rattle.std.proofs.Common.{◌≡◌, ℕ, ◌⊎◌, inl, inr, ◌==◌, Bool, true, false, refl, sym, ap, ◌∙◌, subst, List, [], ◌∷◌, ◌++◌, length, take, drop, if◌then◌else◌, append-nil, append_assoc, take-append-drop, Option, Some, None, Result, Ok, Err, ◌≤◌, arith}
use Rattle.std.specs.Prelude.{OnErr, OnOk}
use Rattle.vm_types.specs.Causes.{Rose}
use Rattle.vm_types.specs.declared.exit.Exit.{Exit}
use Rattle.vm_types.specs.declared.exit.Object.{Object}
use Rattle.vm_types.specs.declared.exit.Object.TheVariants as object
use Rattle.vm_outside.specs.Known.{Health, SinkKnown, Tells}
use Rattle.vm_outside.specs.Passing.{TakesPart}
use Rattle.vm_outside.proofs.Passing.{later_rose, rose_later}
use Rattle.vm_host.specs.Telling.{ClockKnown}
use Rattle.serve_host.specs.Drawing.{WordsKnown}
use Rattle.serve_host.specs.Listening.{Ended, ListenerKnown}
use Rattle.command_line.specs.Commands.{ServeWords}
use Rattle.serve_host.specs.Tracing.{TraceKnown}
use Rattle.script_text.specs.declared.item.Item.{Item}
use Rattle.script_text.specs.declared.item.Item.TheVariants as item
use Rattle.responses.specs.Output.{off_line}
use Rattle.slice_runner.specs.Runs.{HasAnswered}
use Rattle.flat_guest.specs.Guest.{Guest}
use Rattle.flat_machine.specs.Machine.{AreFilesOf, Machine, console_by, console_of, drained, drained_guest, is_off}
use Rattle.flat_machine.specs.Run.{Act}
use Rattle.flat_trace.specs.Events.{answers_in, drain_items}
use Rattle.flat_trace.specs.Showing.{Out, Run, items_of, said, shown}
use Rattle.flat_trace.specs.Showing.Out.{Shown}
use Rattle.flat_trace.proofs.Behind.{drain_empty, drain_off}
use Rattle.monitor_core.specs.declared.monitor.Monitor.{Monitor}
use Rattle.monitor_machine.specs.Kinds.{DevicesKnown}
use Rattle.monitor_running.specs.Asked.{AnsweredSince, DevicesAnswered, Healths, HostKnown, healths}
use Rattle.monitor_running.specs.Reached.{Reached, Seen, Start, known, seen, told_at}
use Rattle.monitor_running.proofs.Events.{rests_same, rests_uncalled}
use Rattle.monitor_running.proofs.Joins.{goes_by, none_ahead}
use Rattle.monitor_running.proofs.Led.{drain_acts, drain_outs, drain_says, drain_shows, drain_told, drain_unlineaged}
use Rattle.monitor_serving.specs.Connections.{AreToldInPart, AreToldOff}
use Rattle.monitor_serving.specs.Views.{Hosts, hosts}
use Rattle.firecracker_cli.specs.Closing.{CloseFault, DrainStops, Drained, last_shown}
use Rattle.firecracker_cli.specs.Serving.{AllTold, HasLineage, IsKept, IsOpen, ServeKnown, ServedAll, ServedPart, TraceRan, closing_line, serve_known}
use Rattle.firecracker_cli.specs.SoFar.{CameToEnd, Cut, IsFinished, LeftBy, ServedSoFar, start_at, with_trace}
use Rattle.firecracker_cli.proofs.Lineages.{all_acts, all_begun, all_outs, all_ran, all_took}
use Rattle.monitor_serving.proofs.Connections.{in_part}

-- ---- what the console holds goes, if it is anything

no_items : (held : List ℕ) → (length held == 0) ≡ true → held ≡ []
no_items [] is = refl
no_items (byte ∷ held) is = grind arith

one_item : (held : List ℕ) → (length held == 0) ≡ false → drain_items held ≡ item.Console ∷ []
one_item [] is = grind arith
one_item (byte ∷ held) is = refl

module _ (m : Machine) (took : List Item) (taken : List ℕ) where
  abbrev rest : List ℕ
  rest = console_of m

  pub none_drained : (held : List ℕ) → held ≡ rest → (length held == 0) ≡ true → Drained m rest took taken took taken
  none_drained held is none =
      let empty : [] ≡ rest = sym (no_items held none) ∙ is in record {
        told = sym (append-nil took) ∙ ap (λ (l : List ℕ). took ++ drain_items l) empty;
        shown = sym (append-nil taken) ∙ ap (λ (l : List ℕ). taken ++ l) empty;
      }

  module _ (held also : List ℕ) (is : held ≡ rest) (is_too : also ≡ rest) (some : (length held == 0) ≡ false) (now : List Item)
      (told : now ≡ took ++ item.Console ∷ []) where
    console_told : now ≡ took ++ drain_items rest
    console_told =
        told ∙ ap (λ (l : List Item). took ++ l) (sym (one_item held some)) ∙ ap (λ (l : List ℕ). took ++ drain_items l) is

    pub some_drained : (all : List ℕ) → all ≡ taken ++ also → Drained m rest took taken now all
    some_drained all sunk = record { told = console_told; shown = sunk ∙ ap (λ (l : List ℕ). taken ++ l) is_too }

    pub part_drained : (all : List ℕ) → TakesPart taken all also → DrainStops object.Sink m rest took taken now all
    part_drained all (n, less, part) = record {
      rest = drop n also;
      drained = some_drained (all ++ drop n also)
          (ap (λ (l : List ℕ). l ++ drop n also) part ∙ append_assoc taken (take n also) (drop n also)
          ∙ ap (λ (l : List ℕ). taken ++ l) (take-append-drop n also));
    }

-- the trace is finished
pub finished : (m : Machine) (text : List ℕ) (took : List Item) (taken : List ℕ) (mid now : List Item) (all : List ℕ) → now ≡ mid
    → Drained m text took taken mid all → Drained m text took taken now all
finished m text took taken mid now all same is = record { told = same ∙ is.told; shown = is.shown }

-- ---- and then the line of a guest that is off

module _ (m : Machine) (took : List Item) (taken : List ℕ) (now : List Item) where
  abbrev off : List ℕ
  off = closing_line m

  pub drain_stopped : (o : Object) (all : List ℕ) → DrainStops o m (console_of m) took taken now all
      → DrainStops o m (last_shown m) took taken now all
  drain_stopped object.Trace all stops = stops
  drain_stopped object.Sink all stops = record {
    rest = stops.rest ++ off;
    drained = record {
      told = stops.drained.told;
      shown =
          sym (append_assoc all stops.rest off) ∙ ap (λ (l : List ℕ). l ++ off) stops.drained.shown
          ∙ append_assoc taken (console_of m) off;
    };
  }
  drain_stopped object.Source all stops = absurd stops
  drain_stopped object.Files all stops = absurd stops
  drain_stopped object.Words all stops = absurd stops
  drain_stopped object.Listener all stops = absurd stops

  module _ (mid : List ℕ) (is : Drained m (console_of m) took taken now mid) where
    pub off_told : (all : List ℕ) → all ≡ mid ++ off → Drained m (last_shown m) took taken now all
    off_told all whole = record {
      told = is.told;
      shown = whole ∙ ap (λ (l : List ℕ). l ++ off) is.shown ∙ append_assoc taken (console_of m) off;
    }

    pub off_cut : (all : List ℕ) → TakesPart mid all off → DrainStops object.Sink m (last_shown m) took taken now all
    off_cut all (n, less, part) = record {
      rest = drop n off;
      drained = off_told (all ++ drop n off)
          (ap (λ (l : List ℕ). l ++ drop n off) part ∙ append_assoc mid (take n off) (drop n off)
          ∙ ap (λ (l : List ℕ). mid ++ l) (take-append-drop n off));
    }

-- ---- a console that is drained

nothing_drained : (guest : Option Guest) → [] ≡ console_by guest → guest ≡ drained_guest guest
nothing_drained None is = refl
nothing_drained (Some g) is =
    ap (λ (c : List ℕ). Some (record g { board = record g.board { console = c } })) (sym is)

drain_run : (m : Machine) (bytes : List ℕ) → bytes ≡ console_of m → Run (drain_acts bytes) m (drain_outs bytes) (drained m)
drain_run m [] is = (refl, ap (λ (g : Option Guest). record m { guest = g }) (nothing_drained m.guest is))
drain_run m (byte ∷ bytes) is = (Shown (byte ∷ bytes), drained m, [], refl, (ap Shown is, (refl, (refl, refl))), (refl, refl))

drain_answered : (start : Healths) (m n : Machine) (bytes : List ℕ) (run : Run (drain_acts bytes) m (drain_outs bytes) n)
    (devices : DevicesKnown) → DevicesAnswered start (drain_acts bytes) m (drain_outs bytes) n run devices devices
drain_answered start m n [] run devices = rests_same devices
drain_answered start m n (byte ∷ bytes) run devices =
    (devices, rests_uncalled devices devices (rests_same devices), rests_same devices)

drain_untimed : (bytes : List ℕ) (clock : ClockKnown) → HasAnswered clock (answers_in (items_of (drain_acts bytes))) clock
drain_untimed [] clock = record { still = λ t. t; are = λ t. refl }
drain_untimed (byte ∷ bytes) clock = record { still = λ t. t; are = λ t. refl }

pub drained_reached : (s : Start) (old now : Seen) (m : Machine) (talk : List Out) → Reached s old m talk
    → now.took ≡ old.took ++ drain_items (console_of m) → now.taken ≡ old.taken ++ console_of m → now.host ≡ old.host
    → Reached s now (drained m) talk
drained_reached s old now m talk r told sunk same =
    let bytes = console_of m in
    let run = drain_run m bytes refl in
    let begun : Healths = told_at s in
    goes_by s old now m (drained m) talk (drain_acts bytes) (drain_outs bytes) r run
    (told ∙ ap (λ (l : List Item). old.took ++ l) (sym (drain_told bytes)))
    (sunk ∙ ap (λ (l : List ℕ). old.taken ++ l) (sym (drain_shows bytes))) (drain_says bytes)
    (subst (λ (h : HostKnown). AnsweredSince begun (drain_acts bytes) m (drain_outs bytes) (drained m) run old.host h) (sym same)
    (record { clock = drain_untimed bytes old.host.clock; devices = drain_answered begun m (drained m) bytes run old.host.devices }))
    (drain_unlineaged bytes)

-- ---- what was told whole was told in part

off_in_part : (talk : List Out) (since : List Ended) → AreToldOff talk since → AreToldInPart talk since
off_in_part talk [] told = told
off_in_part talk (ended ∷ others) (before, unsent, said, cut, told) = inl (before, unsent, [], said, told)

all_in_part : (last : Machine) (talk : List Out) (since : List Ended) → AllTold last talk since → AreToldInPart talk since
all_in_part last talk since (inl told) = in_part talk since told
all_in_part last talk since (inr told) = off_in_part talk since told.1

all_drained : (last : Machine) (talk : List Out) (since : List Ended) → AllTold last talk since → AllTold (drained last) talk since
all_drained last talk since (inl told) = inl told
all_drained last talk since (inr told) = inr (drain_off last.guest ∙ told.0, told.1)

-- ---- serving that came to its end

module _ (given : ServeWords) (before : ServeKnown) (monitor : Monitor) (mid : Hosts) (words : WordsKnown) (listener : ListenerKnown)
    (trace : TraceKnown) (sink : SinkKnown) (it : CameToEnd monitor given before (serve_known mid words listener))
    (stays : trace.path ≡ mid.slices.trace.path) where
  abbrev now : Hosts
  now = hosts (known trace sink mid.slices.host) mid.files

  abbrev served : ServeKnown
  served = serve_known now words listener

  abbrev console : List ℕ
  console = console_of it.last

  -- nothing of it happened
  undrained : trace.took ≡ mid.slices.trace.took → sink.taken ≡ mid.slices.sink.taken → IsKept before.hosts.slices.trace trace
      → Cut (Exit.Fault object.Trace) given before served
  undrained told sunk kept =
      let r : Reached (start_at given before it.lineage) (record { took = trace.took; taken = sink.taken; host = mid.slices.host }) it.last it.talk
      = rw (told, sunk) it.stands.reached in record {
        acts = all_acts given before it.lineage words trace.took mid.slices.host sink.taken it.last it.talk r;
        outs = all_outs given before it.lineage words trace.took mid.slices.host sink.taken it.last it.talk r;
        at = it.last;
        host = mid.slices.host;
        since = it.since;
        ran = all_ran given before it.lineage words trace.took mid.slices.host sink.taken it.last it.talk r;
        behind = (it.last, none_ahead (healths before.hosts.slices.host.devices) it.last mid.slices.host);
        begun = inr (record {
          opened = record {
            listening = it.paths.listening;
            traced = stays ∙ it.paths.traced;
            took = all_took given before it.lineage words trace.took mid.slices.host sink.taken it.last it.talk r;
          };
          lineage = all_begun given before it.lineage words trace.took mid.slices.host sink.taken it.last it.talk r it.drawn;
          kept = kept;
        });
        came = it.came;
        sink = r.sink;
        told = subst (λ t. AreToldInPart t it.since) r.talks (all_in_part it.last it.talk it.since it.told);
        files = it.stands.is.files;
      }

  -- the trace has the drain, if anything was left, and these bytes were shown
  module _ (told : trace.took ≡ mid.slices.trace.took ++ drain_items console) where
    abbrev taken : List ℕ
    taken = mid.slices.sink.taken ++ console

    abbrev last : Machine
    last = drained it.last

    abbrev r : Reached (start_at given before it.lineage) (record { took = trace.took; taken = taken; host = mid.slices.host }) last it.talk
    r = drained_reached (start_at given before it.lineage) (seen mid.slices) _ it.last it.talk it.stands.reached told refl refl

    whole_text : (all : List ℕ) → all ≡ mid.slices.sink.taken ++ last_shown it.last
        → all ≡ before.hosts.slices.sink.taken ++ (shown r.outs ++ closing_line last)
    whole_text all is =
        is ∙ sym (append_assoc mid.slices.sink.taken console (closing_line it.last))
        ∙ ap (λ (l : List ℕ). l ++ closing_line it.last) r.sink
        ∙ append_assoc before.hosts.slices.sink.taken (shown r.outs) (closing_line it.last)
        ∙ ap (λ (off : Bool). before.hosts.slices.sink.taken ++ (shown r.outs ++ (if off then off_line else [])))
        (sym (drain_off it.last.guest))

    told_last : AllTold last (said r.outs) it.since
    told_last = subst (λ t. AllTold last t it.since) r.talks (all_drained it.last it.talk it.since it.told)

    over_last : (listener.coming ≡ []) ⊎ (is_off it.last ≡ true) → (listener.coming ≡ []) ⊎ (is_off last ≡ true)
    over_last (inl over) = inl over
    over_last (inr off) = inr (drain_off it.last.guest ∙ off)

    files_last : AreFilesOf mid.files last
    files_last = record { saved_is = it.stands.is.files.saved_is; calls_is = it.stands.is.files.calls_is }

    abbrev acts : List Act
    acts = all_acts given before it.lineage words trace.took mid.slices.host taken last it.talk r

    abbrev outs : List Out
    outs = all_outs given before it.lineage words trace.took mid.slices.host taken last it.talk r

    ran : TraceRan given.id before mid.slices.host acts outs last
    ran = all_ran given before it.lineage words trace.took mid.slices.host taken last it.talk r

    open_now : IsOpen given before served acts
    open_now = record {
      listening = it.paths.listening;
      traced = stays ∙ it.paths.traced;
      took = all_took given before it.lineage words trace.took mid.slices.host taken last it.talk r;
    }

    begun : HasLineage before.words words acts
    begun = all_begun given before it.lineage words trace.took mid.slices.host taken last it.talk r it.drawn

    drained_all : sink.taken ≡ mid.slices.sink.taken ++ last_shown it.last → trace.kept ≡ trace.took → ServedAll given before served
    drained_all sunk kept = record {
      acts = acts;
      outs = outs;
      last = last;
      since = it.since;
      opened = open_now;
      ran = ran;
      lineage = begun;
      kept = kept;
      over = over_last it.over;
      came = it.came;
      sink = whole_text sink.taken sunk;
      drained = drain_empty it.last.guest;
      told = told_last;
      files = files_last;
    }

    -- and no more
    drained_cut : sink.taken ≡ taken → IsKept before.hosts.slices.trace trace → Cut (Exit.Fault object.Trace) given before served
    drained_cut sunk kept = record {
      acts = acts;
      outs = outs;
      at = last;
      host = mid.slices.host;
      since = it.since;
      ran = ran;
      behind = (last, none_ahead (healths before.hosts.slices.host.devices) last mid.slices.host);
      begun = inr (record { opened = open_now; lineage = begun; kept = kept });
      came = it.came;
      sink = sunk ∙ r.sink;
      told = all_in_part last (said r.outs) it.since told_last;
      files = files_last;
    }

    -- and the sink took a front of it
    drained_part : (rest : List ℕ) → sink.taken ++ rest ≡ mid.slices.sink.taken ++ last_shown it.last
        → IsKept before.hosts.slices.trace trace → ServedPart (Exit.Fault object.Sink) given before served
    drained_part rest sunk kept = record {
      acts = acts;
      outs = outs;
      at = last;
      host = mid.slices.host;
      since = it.since;
      ran = ran;
      behind = refl;
      begun = inr (record { opened = open_now; lineage = begun; kept = kept });
      came = it.came;
      rest = rest;
      sink = whole_text (sink.taken ++ rest) sunk;
      lacks = tt;
      told = all_in_part last (said r.outs) it.since told_last;
      files = files_last;
    }

  pub closed_all : Drained it.last (last_shown it.last) mid.slices.trace.took mid.slices.sink.taken trace.took sink.taken
      → trace.kept ≡ trace.took → ServedSoFar Exit.Done given before served
  closed_all is kept = drained_all is.told is.shown kept

  pub closed_by : (o : Object)
      → DrainStops o it.last (last_shown it.last) mid.slices.trace.took mid.slices.sink.taken trace.took sink.taken
      → IsKept before.hosts.slices.trace trace → ServedSoFar (Exit.Fault o) given before served
  closed_by object.Trace (inl none) kept = undrained none.0 none.1 kept
  closed_by object.Trace (inr is) kept = drained_cut is.told is.shown kept
  closed_by object.Sink is kept = drained_part is.drained.told is.rest is.drained.shown kept
  closed_by object.Source is kept = absurd is
  closed_by object.Files is kept = absurd is
  closed_by object.Words is kept = absurd is
  closed_by object.Listener is kept = absurd is

pub left_at_end : (exit : Exit) (monitor : Monitor) (given : ServeWords) (before now : ServeKnown) → exit ≡ Exit.Done
    → LeftBy exit monitor given before now → CameToEnd monitor given before now
left_at_end exit monitor given before now is left = subst (λ (e : Exit). LeftBy e monitor given before now) is left

-- ---- a trace that is finished, as far as it can be

pub finished_by : {E : Type 0} (result : Result (Unit {0}) E) (before mid trace : TraceKnown) → Tells mid.health
    → OnOk result (Tells mid.health → trace.kept ≡ mid.took) → trace.took ≡ mid.took
    → OnErr result (Rose mid.health.faults trace.health.faults) → before.health.faults ≤ mid.health.faults → IsKept before trace
finished_by (Ok done) before mid trace tells keeps same failed later = inl (keeps tells ∙ sym same)
finished_by (Err why) before mid trace tells keeps same failed later =
    inr (later_rose before.health.faults mid.health.faults trace.health.faults later failed)

pub finished_too : {E : Type 0} (result : Result (Unit {0}) E) (before mid trace : TraceKnown) → Tells mid.health
    → OnOk result (Tells mid.health → trace.kept ≡ trace.took) → OnErr result (Rose mid.health.faults trace.health.faults)
    → before.health.faults ≤ mid.health.faults → IsKept before trace
finished_too (Ok done) before mid trace tells keeps failed later = inl (keeps tells)
finished_too (Err why) before mid trace tells keeps failed later =
    inr (later_rose before.health.faults mid.health.faults trace.health.faults later failed)

pub later_twice : (i j k : ℕ) → i ≤ j → j ≤ k → i ≤ k
later_twice i j k first second = omega (arith, first, second)

-- which took nothing more
pub stops_finished : (o : Object) (m : Machine) (text : List ℕ) (took : List Item) (taken : List ℕ) (mid told : List Item) (all : List ℕ)
    → told ≡ mid → DrainStops o m text took taken mid all → DrainStops o m text took taken told all
stops_finished o m text took taken mid told all same stops =
    subst (λ (l : List Item). DrainStops o m text took taken l all) (sym same) stops

pub fault_still : (o : Object) (trace mid traced sink sunk : Health) → mid.faults ≤ traced.faults → CloseFault o trace mid sink sunk
    → CloseFault o trace traced sink sunk
fault_still object.Trace trace mid traced sink sunk later fault = rose_later trace.faults mid.faults traced.faults fault later
fault_still object.Sink trace mid traced sink sunk later fault = fault
fault_still object.Source trace mid traced sink sunk later fault = absurd fault
fault_still object.Files trace mid traced sink sunk later fault = absurd fault
fault_still object.Words trace mid traced sink sunk later fault = absurd fault
fault_still object.Listener trace mid traced sink sunk later fault = absurd fault

-- ---- serving that broke off

pub left_so_far : (given : ServeWords) (before left_at : ServeKnown) (trace : TraceKnown) → IsFinished before left_at trace → (exit : Exit)
    (monitor : Monitor) → (exit ≡ Exit.Done → ⊥) → LeftBy exit monitor given before left_at
    → ServedSoFar exit given before (with_trace trace left_at)
left_so_far given before left_at trace finished Exit.Done monitor other left = absurd (other refl)
left_so_far given before left_at trace finished Exit.Usage monitor other left = left trace finished
left_so_far given before left_at trace finished (Exit.Script number) monitor other left = left trace finished
left_so_far given before left_at trace finished (Exit.Fault o) monitor other left = left trace finished
left_so_far given before left_at trace finished Exit.OutOfMemory monitor other left = left trace finished
