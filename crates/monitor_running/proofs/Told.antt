-- What a slice leaves, told to its end or not.
use Rattle.std.proofs.Common.{inl, inr, ◌≡◌, ◌<◌, ℕ, refl, sym, ap, ◌∙◌, subst, List, [], ◌∷◌, ◌++◌, take, drop, All, append_assoc, append-nil, take-append-drop, length, Option, Some, None, arith}
use Rattle.std.specs.Prelude.{Result, Ok, Err}
use Rattle.vm_types.specs.declared.entry.Entry.{Entry}
use Rattle.vm_types.specs.Causes.{Rose}
use Rattle.vm_outside.specs.Known.{Health, SinkKnown, Tells}
use Rattle.vm_outside.specs.Known as objects
use Rattle.vm_outside.specs.Passing.{TakesPart}
use Rattle.serve_host.specs.Tracing.{TraceKnown, TraceStays}
use Rattle.script_text.specs.declared.item.Item.{Item}
use Rattle.vm_host.specs.Telling.{ClockKnown}
use Rattle.board_table.specs.Board.{Board}
use Rattle.flat_guest.specs.Guest.{Guest}
use Rattle.flat_machine.specs.Machine.{Machine, running}
use Rattle.vm_world.specs.Worlds.{IsSameButSpare, IsWorld, WorldValue}
use Rattle.vm_world.proofs.Events.{same_world}
use Rattle.slice_runner.specs.Runs.{HasAnswered}
use Rattle.slice_runner.specs.Slices.{ClockWasAsked, IsSerial, Leads}
use Rattle.monitor_running.specs.declared.ran.Ran.TheVariants as ran
use Rattle.monitor_running.specs.declared.telling.Untold.{Untold}
use Rattle.monitor_running.specs.declared.telling.Untold.TheVariants as untold
use Rattle.serve_host.specs.Events.{event_items}
use Rattle.serve_host.proofs.Items.{items_take}
use Rattle.flat_trace.specs.Events.{answers_in, drain_items, event_acts}
use Rattle.monitor_running.specs.Items.{DrainStops, HasDrained, HasGoneOn, HasKept, MayDrain, TellStops, TellsItems, TellsPart, drained_world}
use Rattle.monitor_running.specs.Ran.{HasFault, IsRunning, RanOn, Went, end_by}
use Rattle.monitor_running.specs.Waiting.{HasGone, makers, turns}
use Rattle.monitor_machine.specs.Kinds.{DevicesKnown}
use Rattle.monitor_running.specs.Asked.{HasOwn, Healths, HostKnown}
use Rattle.monitor_running.specs.Devices.{IsDevices, WereAsked}
use Rattle.monitor_running.specs.Happened.{GoneFrom, HasHappened, HavePorts, HostGone}
use Rattle.monitor_running.specs.Objects.{TurnKnown, with_clock, with_devices, with_host}
use Rattle.port_table.specs.Window.{most_ports}
use Rattle.monitor_running.specs.Reached.{Ahead, AreOwn, GetsAhead, IsCut, Keeps, Known, Reached, Seen, Start, known, told_at}
use Rattle.flat_trace.specs.Showing.{Out}
use Rattle.flat_guest.specs.Sound.{IsSound}
use Rattle.monitor_running.proofs.Asked.{answers_same}
use Rattle.monitor_running.proofs.Sound.{sound_led, world_sound}
use Rattle.monitor_running.proofs.Attached.{StillTell, own_kept, own_rest, own_was, ports_devices, ports_split, ports_turns, tell_on}
use Rattle.monitor_running.proofs.Events.{asked_split, clock_rests, unasked_turns}
use Rattle.monitor_running.proofs.Joins.{HostRests, answered_first, answers_append, goes_by, host_same, reached_still, rests, still_own}
use Rattle.monitor_running.proofs.Led.{acts_items, drain_acts, drain_answered, drain_outs, drain_run, drain_says, drain_shows, drain_told, drain_unlineaged, drained_guest, drained_is, events_answered, events_run, events_unlineaged, guest_own, items_split, leads_split, quiets, quiets_say, quiets_show, still_runs, with_guest}

abbrev seen_by : List Item → List ℕ → HostKnown → Seen
seen_by took taken host = record { took = took; taken = taken; host = host }

-- these events lead from each guest that the world was
abbrev pub EventsGone : List Entry → WorldValue → WorldValue → HostKnown → HostKnown → Type 0
EventsGone es old new asked now = (g : Guest) → IsWorld old g → GoneFrom g es new asked now

host_gone : (es told : List Entry) (old new : WorldValue) (asked mid now : HostKnown) → told ≡ es → now ≡ mid
    → EventsGone es old new asked mid → HostGone (event_items told) old new asked now
host_gone es told old new asked mid now same is gone g here =
    let own : GoneFrom g told new asked mid = subst (λ (l : List Entry). GoneFrom g l new asked mid) (sym same) (gone g here) in
    (told, refl, subst (λ (h : HostKnown). GoneFrom g told new asked h) (sym is) own)

-- a clock that answered in the events
pub was_asked : (asked now : ClockKnown) (es : List Entry) (g h : Guest) → IsSound g → ClockWasAsked asked es now
    → Leads g es h → HasAnswered asked (answers_in (event_items es)) now
was_asked asked now es g h sound was leads =
    subst (λ (l : List ℕ). HasAnswered asked l now) (sym (answers_same es g h sound leads))
    (record { still = λ tells. (was tells).0; are = λ tells. (was tells).1 })

-- ---- the events, and then the drain

take_length : (its : List Item) → take (length its) its ≡ its
take_length [] = refl
take_length (it ∷ its) = ap (λ (l : List Item). it ∷ l) (take_length its)

joins : (w v : WorldValue) (took mid now its : List Item) → mid ≡ took ++ its → HasDrained w mid [] v now
    → HasDrained w took its v now
joins w v took mid now its all drained = record {
  world = drained.world;
  told =
      drained.told ∙ ap (λ (l : List Item). l ++ drain_items w.board.console) all
      ∙ append_assoc took its (drain_items w.board.console);
}

-- or none
joins_or : (w v : WorldValue) (took mid now its : List Item) (taken all : List ℕ) → mid ≡ took ++ its
    → HasGoneOn w mid [] taken v now all → HasGoneOn w took its taken v now all
joins_or w v took mid now its taken all told (inl drained) = inl (joins w v took mid now its told drained.0, drained.1)
joins_or w v took mid now its taken all told (inr kept) = inr (record {
  on = kept.on;
  world = kept.world;
  told = kept.told ∙ append-nil mid ∙ told;
  sunk = kept.sunk;
})

stops_then : (why : Untold) (its : List Item) (w v : WorldValue) (took mid now : List Item) (taken all : List ℕ)
    → mid ≡ took ++ its → DrainStops why w mid taken v now all → TellStops why its w took taken v now all
stops_then untold.Trace its w v took mid now taken all told stops = (
  stops.0,
  (length its, stops.1 ∙ told ∙ ap (λ (l : List Item). took ++ l) (sym (take_length its))),
  stops.2,
)
stops_then untold.Sink its w v took mid now taken all told stops = (joins w v took mid now its told stops.0, stops.1)

pub told_then : {T : Type 0} (result : Result T Untold) (its : List Item) (w v : WorldValue) (took mid now : List Item)
    (taken all : List ℕ) → mid ≡ took ++ its → MayDrain result w mid taken v now all → TellsItems result its w took taken v now all
told_then (Ok done) its w v took mid now taken all told drains = joins_or w v took mid now its taken all told drains
told_then (Err why) its w v took mid now taken all told drains = stops_then why its w v took mid now taken all told drains

-- ---- events that lead from the guest of a machine that the world was

module _ (s : Start) (m : Machine) (talk : List Out) (took : List Item) (taken : List ℕ) (asked now : HostKnown)
    (w v : WorldValue) (es : List Entry) (is : IsRunning w m) (gone : GoneFrom is.0 es v asked now)
    (files : AreOwn s m (seen_by took taken asked)) (r : Reached s (seen_by took taken asked) m talk) where
  abbrev old : Seen
  old = seen_by took taken asked

  led : (h : Guest) × Leads is.0 es h × IsWorld v h
  led = gone.0

  abbrev after : Machine
  after = with_guest m led.0

  after_runs : running after ≡ Some led.0
  after_runs = still_runs m is.0 led.0 is.1

  all_asked : HasAnswered asked.clock (answers_in (event_items es)) now.clock
  all_asked = was_asked asked.clock now.clock es is.0 led.0 (world_sound w is.0 is.2) gone.1 led.1

  abbrev first_health : Healths
  first_health = told_at s

  -- each device has its own objects before and behind
  own_before : (k : ℕ) → k < most_ports → HasOwn first_health m.config k asked.devices
  own_before = guest_own s m is.0 (seen_by took taken asked) is.1 files

  still_tell : StillTell first_health asked.devices
  still_tell = reached_still s old m talk r

  own_behind : (k : ℕ) → k < most_ports → HasOwn first_health m.config k now.devices
  own_behind k less =
      own_kept first_health m.config k asked.devices now.devices still_tell (own_was es asked.devices now.devices gone.2) (own_before k less)

  -- all events are told
  events_told : Reached s (seen_by (took ++ event_items es) taken now) after talk
  events_told =
      let sound = world_sound w is.0 is.2 in
      goes_by s old (seen_by (took ++ event_items es) taken now) m after talk (event_acts es) (quiets es) r
      (events_run es m is.0 led.0 sound is.1 led.1 gone.3) (ap (λ (l : List Item). took ++ l) (sym (acts_items es)))
      (sym (append-nil taken) ∙ ap (λ (l : List ℕ). taken ++ l) (sym (quiets_show es))) (quiets_say es)
      (record {
        clock = subst (λ (l : List Item). HasAnswered asked.clock (answers_in l) now.clock) (sym (acts_items es)) all_asked;
        devices = events_answered es m is.0 led.0 sound is.1 led.1 gone.3 first_health asked.devices now.devices still_tell own_before gone.2;
      })
      (events_unlineaged es)

  -- and a drain
  console_is : v.board.console ≡ led.0.board.console
  console_is = ap (λ (b : Board). b.console) led.2.board_is

  drain_told_too : Reached s (seen_by (took ++ (event_items es ++ drain_items v.board.console)) (taken ++ v.board.console) now)
      (with_guest m (drained_guest led.0)) talk
  drain_told_too =
      let bytes = v.board.console in
      let last : Seen = seen_by (took ++ (event_items es ++ drain_items bytes)) (taken ++ bytes) now in
      goes_by s (seen_by (took ++ event_items es) taken now) last after (with_guest m (drained_guest led.0)) talk
      (drain_acts bytes) (drain_outs bytes) events_told (drain_run m led.0 bytes console_is)
      (sym (append_assoc took (event_items es) (drain_items bytes))
      ∙ ap (λ (l : List Item). (took ++ event_items es) ++ l) (sym (drain_told bytes)))
      (ap (λ (l : List ℕ). taken ++ l) (sym (drain_shows bytes))) (drain_says bytes)
      (record {
        clock = subst (λ (l : List Item). HasAnswered now.clock (answers_in l) now.clock) (sym (drain_told bytes)) (unasked bytes);
        devices = drain_answered m led.0 bytes (drain_run m led.0 bytes console_is) first_health now.devices;
      })
      (drain_unlineaged bytes)
    where
      unasked : (bytes : List ℕ) → HasAnswered now.clock (answers_in (drain_items bytes)) now.clock
      unasked [] = record { still = λ tells. tells; are = λ tells. refl }
      unasked (b ∷ bytes) = record { still = λ tells. tells; are = λ tells. refl }

  drained_runs : (u : WorldValue) → u ≡ drained_world v → IsRunning u (with_guest m (drained_guest led.0))
  drained_runs u same = (
    drained_guest led.0,
    still_runs m is.0 (drained_guest led.0) is.1,
    subst (λ (x : WorldValue). IsWorld x (drained_guest led.0)) (sym same) (drained_is v led.0 led.2),
  )

  -- where the trace failed, the events that it has not lead on
  part_told : (n : ℕ) → Ahead IsRunning s m (seen_by (took ++ event_items (take n es)) taken now) v talk
  part_told n =
      let parts = leads_split n es is.0 led.0 led.1 in
      let answers : answers_in (event_items es) ≡ answers_in (event_items (take n es)) ++ answers_in (event_items (drop n es)) =
      ap answers_in (items_split n es) ∙ answers_append (event_items (take n es)) (event_items (drop n es)) in
      let clocks = answered_first asked.clock now.clock (answers_in (event_items (take n es))) (answers_in (event_items (drop n es)))
      (subst (λ (l : List ℕ). HasAnswered asked.clock l now.clock) answers all_asked) in
      let parted = asked_split n es asked.devices now.devices gone.2 in
      let ports = ports_split n es gone.3 in
      let same = own_was (take n es) asked.devices parted.0 parted.1 in
      let mid : HostKnown = record { clock = clocks.0; devices = parted.0 } in
      let front : Seen = seen_by (took ++ event_items (take n es)) taken mid in
      let sound = world_sound w is.0 is.2 in
      let led_sound = sound_led (take n es) is.0 parts.0 sound parts.1 in
      let runs = still_runs m is.0 parts.0 is.1 in record {
        told = with_guest m parts.0;
        host = mid;
        reached =
            goes_by s old front m (with_guest m parts.0) talk (event_acts (take n es)) (quiets (take n es)) r
            (events_run (take n es) m is.0 parts.0 sound is.1 parts.1 ports.0) (ap (λ (l : List Item). took ++ l) (sym (acts_items (take n es))))
            (sym (append-nil taken) ∙ ap (λ (l : List ℕ). taken ++ l) (sym (quiets_show (take n es)))) (quiets_say (take n es))
            (record {
              clock = subst (λ (l : List Item). HasAnswered asked.clock (answers_in l) clocks.0) (sym (acts_items (take n es))) clocks.1;
              devices = events_answered (take n es) m is.0 parts.0 sound is.1 parts.1 ports.0 first_health asked.devices parted.0 still_tell own_before parted.1;
            })
            (events_unlineaged (take n es));
        flat = after;
        ahead = record {
          events = drop n es;
          outs = quiets (drop n es);
          run = events_run (drop n es) (with_guest m parts.0) parts.0 led.0 led_sound runs parts.2 ports.1;
          unshown = quiets_show (drop n es);
          unsaid = quiets_say (drop n es);
          answered = record {
            clock = subst (λ (l : List Item). HasAnswered clocks.0 (answers_in l) now.clock) (sym (acts_items (drop n es))) clocks.2;
            devices = events_answered (drop n es) (with_guest m parts.0) parts.0 led.0 led_sound runs parts.2 ports.1 first_health parted.0 now.devices
                (tell_on first_health asked.devices parted.0 still_tell same)
                (λ k less. own_kept first_health m.config k asked.devices parted.0 still_tell same (own_before k less)) parted.2;
          };
        };
        is = (led.0, after_runs, led.2);
        beside = refl;
      }

-- ---- what is left of a turn, told to its end or not

-- what a slice says of its events
pub slice_gone : (es : List Entry) (w v : WorldValue) (asked now : HostKnown) → IsSerial w es v → ClockWasAsked asked.clock es now.clock
    → WereAsked asked.devices es now.devices × HavePorts es → EventsGone es w v asked now
slice_gone es w v asked now serial was answered g is = (serial g is, was, answered.0, answered.1)

-- what a round says
pub round_gone : (but : Option ℕ) (es : List Entry) (w v : WorldValue) (asked now : ClockKnown) (devices : DevicesKnown)
    → HasGone es w v asked now → ((g : Guest) → IsWorld w g → makers es ≡ turns but (length w.harts))
    → EventsGone es w v (record { clock = asked; devices = devices }) (record { clock = now; devices = devices })
round_gone but es w v asked now devices gone made g is =
    let actors = made g is in
    ((gone g is).0, (gone g is).1, unasked_turns but (length w.harts) es devices actors, ports_turns but (length w.harts) es actors)

-- and what the devices' events say
pub devices_gone : (es : List Entry) (w v : WorldValue) (clock : ClockKnown) (asked now : DevicesKnown) → IsSerial w es v
    → ((g : Guest) → IsWorld w g → All IsDevices es) → ((g : Guest) → IsWorld w g → WereAsked asked es now)
    → EventsGone es w v (record { clock = clock; devices = asked }) (record { clock = clock; devices = now })
devices_gone es w v clock asked now serial made was g is =
    (serial g is, clock_rests clock es (made g is), was g is, ports_devices es (made g is))

-- so it happened, where the clock and the objects of devices were asked, and the disks settled behind that
pub host_happened : (es told : List Entry) (first mid now : TurnKnown) (w v : WorldValue) → told ≡ es → now ≡ mid
    → mid ≡ with_host first mid.host → EventsGone es w v first.host mid.host → HasHappened (event_items told) first w now v
host_happened es told first mid now w v same settled asked gone = record {
  trace = ap (λ (k : TurnKnown). k.trace) (settled ∙ asked);
  gone = host_gone es told w v first.host mid.host now.host same (ap (λ (k : TurnKnown). k.host) settled) gone;
}

-- where the clock alone was asked, or the objects of devices were
pub clock_happened : (es told : List Entry) (first now : TurnKnown) (w v : WorldValue) → told ≡ es
    → now ≡ with_clock first now.host.clock → EventsGone es w v first.host (record first.host { clock = now.host.clock })
    → HasHappened (event_items told) first w now v
clock_happened es told first now w v same asked gone = record {
  trace = ap (λ (k : TurnKnown). k.trace) asked;
  gone = host_gone es told w v first.host (record first.host { clock = now.host.clock }) now.host same (ap (λ (k : TurnKnown). k.host) asked) gone;
}

pub devices_happened : (es told : List Entry) (first now : TurnKnown) (w v : WorldValue) → told ≡ es
    → now ≡ with_devices first now.host.devices → EventsGone es w v first.host (record first.host { devices = now.host.devices })
    → HasHappened (event_items told) first w now v
devices_happened es told first now w v same asked gone = record {
  trace = ap (λ (k : TurnKnown). k.trace) asked;
  gone = host_gone es told w v first.host (record first.host { devices = now.host.devices }) now.host same (ap (λ (k : TurnKnown). k.host) asked) gone;
}

-- what each device has, all of a guest's have
own_all : (s : Start) (m : Machine) (g : Guest) (now : Seen) → ((k : ℕ) → k < most_ports → HasOwn (told_at s) m.config k now.host.devices)
    → AreOwn s (with_guest m g) now
own_all s m g now own = record {
  disk = λ k less. (own k less).disk;
  link = λ k less. (own k less).link;
  vsock = λ k less. (own k less).vsock;
}

items_told : (took took' : List Item) (taken taken' : List ℕ) (asked mid now : HostKnown) (w v u : WorldValue) (its : List Item)
    → HostGone its w v asked mid → HasDrained v took its u took' → taken' ≡ taken ++ v.board.console → HostRests mid now
    → Keeps IsRunning (seen_by took taken asked) w (seen_by took' taken' now) u
items_told took took' taken taken' asked mid now w v u its gone drained sunk rest s m talk is f r =
    let one = gone is.0 is.2 in
    let es : List Entry = one.0 in
    let h = led s m talk took taken asked mid w v es is one.2 f r in
    let all = drain_told_too s m talk took taken asked mid w v es is one.2 f r in
    let last : Seen = seen_by (took ++ (event_items es ++ drain_items v.board.console)) (taken ++ v.board.console) mid in record {
      flat = with_guest m (drained_guest h.0);
      is = drained_runs s m talk took taken asked mid w v es is one.2 f r u drained.world;
      beside = refl;
      own = still_own s last (seen_by took' taken' now) (with_guest m (drained_guest h.0)) talk all (own_rest mid.devices now.devices rest.devices)
          (own_all s m (drained_guest h.0) last (own_behind s m talk took taken asked mid w v es is one.2 f r));
      reached = rests s last (seen_by took' taken' now) (with_guest m (drained_guest h.0)) talk all
          (drained.told ∙ ap (λ (l : List Item). took ++ (l ++ drain_items v.board.console)) (sym one.1)) sunk rest;
    }

-- where the console keeps what it holds
items_kept : (took took' : List Item) (taken taken' : List ℕ) (asked mid now : HostKnown) (w v u : WorldValue) (its : List Item)
    → HostGone its w v asked mid → HasKept v took its taken u took' taken' → HostRests mid now
    → Keeps IsRunning (seen_by took taken asked) w (seen_by took' taken' now) u
items_kept took took' taken taken' asked mid now w v u its gone kept rest s m talk is f r =
    let one = gone is.0 is.2 in
    let es : List Entry = one.0 in
    let h = led s m talk took taken asked mid w v es is one.2 f r in
    let all = events_told s m talk took taken asked mid w v es is one.2 f r in record {
      flat = with_guest m h.0;
      is = (h.0, still_runs m is.0 h.0 is.1, subst (λ (x : WorldValue). IsWorld x h.0) (sym kept.world) h.2);
      beside = refl;
      own = still_own s (seen_by (took ++ event_items es) taken mid) (seen_by took' taken' now) (with_guest m h.0) talk all
          (own_rest mid.devices now.devices rest.devices)
          (own_all s m h.0 (seen_by (took ++ event_items es) taken mid) (own_behind s m talk took taken asked mid w v es is one.2 f r));
      reached = rests s (seen_by (took ++ event_items es) taken mid) (seen_by took' taken' now) (with_guest m h.0) talk all
          (kept.told ∙ ap (λ (l : List Item). took ++ l) (sym one.1)) kept.sunk rest;
    }

-- in either case
pub items_gone_on : (took took' : List Item) (taken taken' : List ℕ) (asked mid now : HostKnown) (w v u : WorldValue)
    (its : List Item) → HostGone its w v asked mid → HasGoneOn v took its taken u took' taken' → HostRests mid now
    → Keeps IsRunning (seen_by took taken asked) w (seen_by took' taken' now) u
items_gone_on took took' taken taken' asked mid now w v u its gone (inl drained) rest =
    items_told took took' taken taken' asked mid now w v u its gone drained.0 drained.1 rest
items_gone_on took took' taken taken' asked mid now w v u its gone (inr kept) rest =
    items_kept took took' taken taken' asked mid now w v u its gone kept rest

items_ahead : (took took' : List Item) (taken taken' : List ℕ) (asked now : HostKnown) (w v u : WorldValue) (its : List Item)
    → HostGone its w v asked now → u ≡ v → TellsPart took its took' → taken' ≡ taken
    → GetsAhead IsRunning (seen_by took taken asked) w (seen_by took' taken' now) u
items_ahead took took' taken taken' asked now w v u its gone same part sunk s m talk is f r =
    let one = gone is.0 is.2 in
    let front : took' ≡ took ++ event_items (take part.0 one.0) =
    part.1 ∙ ap (λ (l : List Item). took ++ take part.0 l) (sym one.1)
    ∙ ap (λ (l : List Item). took ++ l) (sym (items_take part.0 one.0)) in
    rw (same, front, sunk) (part_told s m talk took taken asked now w v one.0 is one.2 f r part.0)

items_cut : (took took' : List Item) (taken taken' : List ℕ) (asked now : HostKnown) (w v u : WorldValue) (its : List Item)
    → HostGone its w v asked now → HasDrained v took its u took' → TakesPart taken taken' v.board.console
    → IsCut IsRunning (seen_by took taken asked) w (seen_by took' taken' now) u
items_cut took took' taken taken' asked now w v u its gone drained part s m talk is f r =
    let bytes = v.board.console in
    let whole : taken' ++ drop part.0 bytes ≡ taken ++ bytes =
    ap (λ (l : List ℕ). l ++ drop part.0 bytes) part.2 ∙ append_assoc taken (take part.0 bytes) (drop part.0 bytes)
    ∙ ap (λ (l : List ℕ). taken ++ l) (take-append-drop part.0 bytes) in (
      drop part.0 bytes,
      items_told took took' taken (taken' ++ drop part.0 bytes) asked now now w v u its gone drained whole (host_same now) s m talk is f r,
    )

items_stop : (why : Untold) (took took' : List Item) (taken taken' : List ℕ) (asked now : HostKnown)
    (w v u : WorldValue) (its : List Item) → HostGone its w v asked now → TellStops why its v took taken u took' taken'
    → RanOn IsRunning (Some (end_by why)) (seen_by took taken asked) w (seen_by took' taken' now) u
items_stop untold.Trace took took' taken taken' asked now w v u its gone stops =
    items_ahead took took' taken taken' asked now w v u its gone stops.0 stops.1 stops.2
items_stop untold.Sink took took' taken taken' asked now w v u its gone stops =
    items_cut took took' taken taken' asked now w v u its gone stops.0 stops.1

-- ---- the same, as the ends have it

lasts_same : (told : Health) → objects.Lasts told told
lasts_same told = record { still = λ tells. tells; later = omega arith }

pub went_items_told : (trace traced : TraceKnown) (sink sunk : SinkKnown) (asked mid now : HostKnown) (w v u : WorldValue)
    (its : List Item) → HostGone its w v asked mid
    → (objects.Tells trace.health → objects.Tells sink.health → HasGoneOn v trace.took its sink.taken u traced.took sunk.taken)
    → objects.Lasts trace.health traced.health → TraceStays trace traced → objects.Lasts sink.health sunk.health → HostRests mid now
    → Went IsRunning None (known trace sink asked) w (known traced sunk now) u
went_items_told trace traced sink sunk asked mid now w v u its gone went trace_lasts trace_stays sink_lasts rests = record {
  ran = λ t k.
      items_gone_on trace.took traced.took sink.taken sunk.taken asked mid now w v u its gone (went t k) rests;
  fault = tt;
  trace_lasts = trace_lasts;
  trace_stays = trace_stays;
  sink_lasts = sink_lasts;
}

-- what was not told to its end
fault_of : (why : Untold) (before now : Known) → (why ≡ untold.Trace → Rose before.trace.health.faults now.trace.health.faults)
    → (why ≡ untold.Sink → Rose before.sink.health.faults now.sink.health.faults) → HasFault (Some (end_by why)) before now
fault_of untold.Trace before now trace sink = trace refl
fault_of untold.Sink before now trace sink = sink refl

pub went_items_untold : (why : Untold) (trace traced : TraceKnown) (sink sunk : SinkKnown) (asked now : HostKnown)
    (w v u : WorldValue) (its : List Item) → HostGone its w v asked now
    → (objects.Tells trace.health → objects.Tells sink.health
    → TellStops why its v trace.took sink.taken u traced.took sunk.taken)
    → (why ≡ untold.Trace → Rose trace.health.faults traced.health.faults)
    → (why ≡ untold.Sink → Rose sink.health.faults sunk.health.faults)
    → objects.Lasts trace.health traced.health → TraceStays trace traced → objects.Lasts sink.health sunk.health
    → Went IsRunning (Some (end_by why)) (known trace sink asked) w (known traced sunk now) u
went_items_untold why trace traced sink sunk asked now w v u its gone stops trace_rose sink_rose trace_lasts trace_stays sink_lasts = record {
  ran = λ t k. items_stop why trace.took traced.took sink.taken sunk.taken asked now w v u its gone (stops t k);
  fault = fault_of why (known trace sink asked) (known traced sunk now) trace_rose sink_rose;
  trace_lasts = trace_lasts;
  trace_stays = trace_stays;
  sink_lasts = sink_lasts;
}

-- memory was wanting; pages may have been made spare before
pub went_unmade : (k : Known) (w v : WorldValue) → IsSameButSpare w v → Went IsRunning (Some ran.OutOfMemory) k w k v
went_unmade k w v same = record {
  ran = λ t s start m talk is f r.
      record { flat = m; is = (is.0, is.1, same_world w v is.0 same is.2); beside = refl; own = f; reached = r };
  fault = tt;
  trace_lasts = lasts_same k.trace.health;
  trace_stays = λ tells. refl;
  sink_lasts = lasts_same k.sink.health;
}
