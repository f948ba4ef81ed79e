-- A guest that has started is never stuck.
use Rattle.std.proofs.Common.{◌≡◌, ℕ, zero, suc, nat_lt, Bool, true, false, cond, refl, sym, ap, subst, ◌∙◌, List, [], ◌∷◌}
use Rattle.std.proofs.Common.{◌++◌, length, Option, Some, None, slice_get, get_or, ◌<◌, ◌≤◌, ◌⊎◌, inl, inr, arith}
use Rattle.std.specs.List.{All}
use Rattle.std.proofs.lemmas.Bool.{eqb-true, ltb-true}
use Rattle.std.proofs.lemmas.Option.{slice_get_cases}
use Rattle.vm_types.specs.declared.ids.ActorId.{ActorId}
use Rattle.vm_types.specs.declared.ids.PlaceId.{PlaceId}
use Rattle.vm_types.specs.declared.op.Op.{Op}
use Rattle.vm_types.specs.declared.reply.Reply.{Reply}
use Rattle.vm_types.specs.declared.entry.Step.{Step}
use Rattle.vm_types.specs.declared.entry.Entry.{Entry}
use Rattle.vm_types.specs.Fits.{fits}
use Rattle.vm_types.specs.Ids.{same_actor}
use Rattle.rv_supervisor.specs.declared.regs.Regs.{Regs}
use Rattle.flat_guest.specs.Given.{Event, Given}
use Rattle.flat_guest.specs.Given.Given.{Nothing}
use Rattle.hart_trace.specs.Asks.{is_host_op, is_port_op}
use Rattle.hart_trace.specs.Traces.{IsPrefix, Continues}
use Rattle.hart_trace.specs.States.{fresh}
use Rattle.hart_trace.proofs.Asks.{never_host, never_port}
use Rattle.hart_trace.proofs.Traces.{leads_start, hart_prefix, some_hart, some_op, any_reply, wants_only}
use Rattle.timer_trace.specs.States.{new_timer, wants_by}
use Rattle.timer_trace.specs.Traces as timer
use Rattle.timer_trace.proofs.Traces as timer_traces
use Rattle.guest_memory.specs.Boot.{Loads, boot_memory}
use Rattle.guest_devices.specs.declared.change.DeviceChange.{DeviceChange}
use Rattle.guest_devices.specs.declared.new_device.NewDevice.{NewDevice}
use Rattle.guest_devices.specs.Devices.{FitsNew, FlatDevice, device_calls, left_times}
use Rattle.guest_devices.specs.Kinds.{FitsChange}
use Rattle.guest_devices.proofs.Soundness.{some_want as device_want, want_own}
use Rattle.flat_guest.specs.Changes.{reset_guest, told}
use Rattle.flat_guest.specs.Guest.{Guest, Wants, WantsFrom, WantsOf, is_actor, layout_of, whole_pages}
use Rattle.flat_guest.specs.Places.{place_of}
use Rattle.flat_guest.specs.declared.places.Layout.{Layout}
use Rattle.flat_guest.specs.Sound.{IsSound}
use Rattle.flat_guest.specs.Start.{started, timer_restarted}
use Rattle.flat_guest.specs.Steps.{IsOnBefore, IsUnstamped, StepsBy, Stops, Answers, AnswersOut, FlatStep, guest_after, is_given}
use Rattle.flat_guest.specs.Body.{reply_at, out_reply}
use Rattle.flat_guest.proofs.Answering.{IsPortThere, answers_at, answer_fits, asked_there, no_port_there}
use Rattle.flat_guest.proofs.Devices as devices
use Rattle.flat_guest.proofs.Lists.{get_lt, lt_get}

no_steps : timer.IsPrefix []
no_steps = timer_traces.timer_prefix [] new_timer timer_traces.leads_start

pub sound_start : (harts mib : ℕ) (loads : Loads) (all : List NewDevice) → All FitsNew all
    → IsSound (started harts mib loads all)
sound_start harts mib loads all fit = record {
  timer_on = no_steps;
  harts_on = λ k start is. hart_prefix start [] (fresh start) (leads_start start);
  devices_on = devices.sound_at_start (whole_pages (boot_memory mib loads)) all fit;
}

pub sound_restart : (g : Guest) → IsSound g → IsSound (timer_restarted g)
sound_restart g sound = record {
  timer_on = no_steps;
  harts_on = λ k start is. sound.harts_on k start is;
  devices_on = sound.devices_on;
}

pub sound_told : (g : Guest) (k : ℕ) (change : DeviceChange) (shown : Option (List ℕ)) → FitsChange change → IsSound g
    → IsSound (told k change shown g)
sound_told g k change shown fits sound = record {
  timer_on = sound.timer_on;
  harts_on = λ j start is. sound.harts_on j start is;
  devices_on = devices.sound_devices_told (whole_pages g.memory) g.ports g.devices sound.devices_on k change shown fits;
}

pub sound_reset : (g : Guest) → IsSound g → IsSound (reset_guest g)
sound_reset g sound = record {
  timer_on = sound.timer_on;
  harts_on = λ k start is. sound.harts_on k start is;
  devices_on = devices.sound_devices_reset (whole_pages g.memory) g.ports g.devices sound.devices_on;
}

-- what an actor wants on a port is on one that is there, and a hart wants nothing of a host object
timer_port : (due : Option ℕ) → is_port_op (wants_by due) ≡ false
timer_port None = refl
timer_port (Some due) = refl

pub wants_from : (start : Option Regs) (first : Regs) (steps : List Step) (op : Op) → start ≡ Some first
    → WantsFrom start steps op → Continues first steps op
wants_from None first steps op is wants = absurd wants
wants_from (Some start) first steps op is wants =
    let same : start ≡ first = cc in
    subst (λ (r : Regs). Continues r steps op) same wants

pub hart_port_by : (g : Guest) (k : ℕ) (op : Op) (o : Option Regs) → slice_get g.starts k ≡ o → IsSound g
    → Wants g (ActorId.Hart k) op → (is_port_op op ≡ false) × (is_host_op op ≡ false)
hart_port_by g k op None is sound wants =
    absurd (subst (λ (s : Option Regs). WantsFrom s (g.steps (ActorId.Hart k)) op) is wants)
hart_port_by g k op (Some start) is sound wants =
    let steps : List Step = g.steps (ActorId.Hart k) in
    let hart = some_hart start steps (sound.harts_on k start is) in
    let same = wants_only start steps hart.0 op hart.1 (wants_from (slice_get g.starts k) start steps op is wants) in
    (ap is_port_op same ∙ never_port hart.0, ap is_host_op same ∙ never_host hart.0)

device_port : (g : Guest) (k : ℕ) (op : Op) (o : Option FlatDevice) → slice_get g.devices k ≡ o → IsSound g
    → WantsOf o op → IsPortThere (length g.ports) op
device_port g k op None is sound wants = absurd wants
device_port g k op (Some d) is sound wants =
    asked_there (length g.ports) k (left_times (sound.devices_on.each k d is).0) (device_calls d) op
    (ap (λ (n : ℕ). nat_lt k n) sound.devices_on.as_many ∙ get_lt g.devices k d is)
    (want_own k (whole_pages g.memory) d op (sound.devices_on.each k d is) wants)

port_there : (g : Guest) (actor : ActorId) (op : Op) → IsSound g → Wants g actor op → IsPortThere (length g.ports) op
port_there g ActorId.Timer op sound wants =
    let t = timer_traces.some_timer (g.steps ActorId.Timer) sound.timer_on in
    no_port_there (length g.ports) op
    (ap is_port_op (timer_traces.wants_only (g.steps ActorId.Timer) t.0 op t.1 wants) ∙ timer_port t.0.due)
port_there g (ActorId.Hart k) op sound wants =
    no_port_there (length g.ports) op (hart_port_by g k op (slice_get g.starts k) refl sound wants).0
port_there g (ActorId.Device k) op sound wants = device_port g k op (slice_get g.devices k) refl sound wants

-- and its answer fits
out_replied : (op : Op) (given : Given) (reply : Reply) → is_host_op op ≡ false
    → AnswersOut op given reply → reply ≡ out_reply op Nothing
out_replied (Op.Out act) given reply host answer = cc
out_replied (Op.Port device act) given reply host answer = absurd answer.1
out_replied (Op.Board act) given reply host answer = absurd answer.1
out_replied Op.Idle given reply host answer = answer.1
out_replied op given reply host answer = answer.1

pub replied : (p : PlaceId) (g : Guest) (actor : ActorId) (op : Op) (given : Given) (reply : Reply)
    → is_host_op op ≡ false → Answers p g actor op given reply
    → reply ≡ reply_at p g.memory g.board g.ports actor op Nothing
replied (PlaceId.Page i) g actor op given reply host answer = answer.1
replied PlaceId.Board g actor op given reply host answer = answer.1
replied (PlaceId.Port k) g actor op given reply host answer = answer.1
replied PlaceId.Out g actor op given reply host answer = out_replied op given reply host answer

pub none_given : (op : Op) → is_host_op op ≡ false → is_given op Nothing ≡ true
none_given (Op.Out act) host = cc
none_given (Op.Port device act) host = refl
none_given (Op.Board act) host = refl
none_given Op.Idle host = refl
none_given op host = refl

host_fits : (there : Layout) (g : Guest) (actor : ActorId) (op : Op) (given : Given) (reply : Reply)
    → is_host_op op ≡ true → Answers (place_of there op) g actor op given reply → fits op reply ≡ true
host_fits there g actor (Op.Out act) given reply host answer = answer.1
host_fits there g actor op given reply host answer = cc

fits_by : (g : Guest) (actor : ActorId) (op : Op) (given : Given) (reply : Reply) (host : Bool)
    → is_host_op op ≡ host → IsPortThere (length g.ports) op → Answers (place_of (layout_of g) op) g actor op given reply
    → fits op reply ≡ true
fits_by g actor op given reply true host port answer = host_fits (layout_of g) g actor op given reply host answer
fits_by g actor op given reply false host port answer =
    subst (λ (r : Reply). fits op r ≡ true)
    (sym (replied (place_of (layout_of g) op) g actor op given reply host answer))
    (answer_fits (length g.memory.bytes) g.memory g.board g.ports actor op Nothing port (none_given op host))

pub same_hart : (k : ℕ) (actor : ActorId) → same_actor (ActorId.Hart k) actor ≡ true → actor ≡ ActorId.Hart k
same_hart k (ActorId.Hart j) same = ap (λ (n : ℕ). ActorId.Hart n) (sym (eqb-true k j same))
same_hart k ActorId.Timer same = cc
same_hart k (ActorId.Device j) same = cc

same_timer : (actor : ActorId) → same_actor ActorId.Timer actor ≡ true → actor ≡ ActorId.Timer
same_timer ActorId.Timer same = refl
same_timer (ActorId.Hart j) same = cc
same_timer (ActorId.Device j) same = cc

module _ (g : Guest) (event : Event) (e : Entry) (h : Guest) (sound : IsSound g) (step : FlatStep g event e h) where
  pub fit : fits e.op e.reply ≡ true
  fit =
      fits_by g e.actor e.op event.given e.reply (is_host_op e.op) refl (port_there g e.actor e.op sound step.want)
      (subst (λ (p : PlaceId). Answers p g e.actor e.op event.given e.reply) step.place step.answer)

  own : (k : ℕ) (start : Regs) → slice_get g.starts k ≡ Some start → e.actor ≡ ActorId.Hart k
      → IsPrefix start (g.steps (ActorId.Hart k) ++ record { op = e.op; reply = e.reply } ∷ [])
  own k start is mine =
      let steps : List Step = g.steps (ActorId.Hart k) in
      let wants : Wants g (ActorId.Hart k) e.op = subst (λ (a : ActorId). Wants g a e.op) mine step.want in
      any_reply start steps e.op e.reply (wants_from (slice_get g.starts k) start steps e.op is wants) fit

  by_actor : (k : ℕ) (start : Regs) → slice_get g.starts k ≡ Some start → (b : Bool)
      → same_actor (ActorId.Hart k) e.actor ≡ b
      → IsPrefix start (cond b (g.steps (ActorId.Hart k) ++ record { op = e.op; reply = e.reply } ∷ [])
      (g.steps (ActorId.Hart k)))
  by_actor k start is true same = own k start is (same_hart k e.actor same)
  by_actor k start is false same = sound.harts_on k start is

  by_timer : (b : Bool) → same_actor ActorId.Timer e.actor ≡ b
      → timer.IsPrefix (cond b (g.steps ActorId.Timer ++ record { op = e.op; reply = e.reply } ∷ [])
      (g.steps ActorId.Timer))
  by_timer true same =
      timer_traces.any_reply (g.steps ActorId.Timer) e.op e.reply
      (subst (λ (a : ActorId). Wants g a e.op) (same_timer e.actor same) step.want) fit
  by_timer false same = sound.timer_on

  sound_after : IsSound (guest_after g e)
  sound_after = record {
    timer_on = by_timer (same_actor ActorId.Timer e.actor) refl;
    harts_on =
        λ k start is. by_actor k start is (same_actor (ActorId.Hart k) e.actor) refl;
    devices_on = devices.sound_after g sound.devices_on e.place e.actor e.op e.reply step.want fit;
  }

  pub sound_next : IsSound h
  sound_next = subst (λ (q : Guest). IsSound q) (sym step.after) sound_after

found_or_past : (starts : List Regs) (k : ℕ) → slice_get starts k ≡ None
    → ((x : Regs) × (k < length starts) × (slice_get starts k ≡ Some x) × (get_or starts k x ≡ x)) ⊎
    ((length starts ≤ k) × (slice_get starts k ≡ None)) → k < length starts → ⊥
found_or_past starts k none (inl found) there = let some = found.2 in cc
found_or_past starts k none (inr past) there = let long = past.0 in omega arith

pub missing : (starts : List Regs) (k : ℕ) → slice_get starts k ≡ None → nat_lt k (length starts) ≡ true → ⊥
missing starts k none there =
    found_or_past starts k none (slice_get_cases starts k).1 (ltb-true k (length starts) there)

hart_want_by : (g : Guest) (k : ℕ) (o : Option Regs) → slice_get g.starts k ≡ o → IsSound g
    → nat_lt k (length g.starts) ≡ true → (op : Op) × Wants g (ActorId.Hart k) op
hart_want_by g k None is sound there = absurd (missing g.starts k is there)
hart_want_by g k (Some start) is sound there =
    let some = some_op start (g.steps (ActorId.Hart k)) (sound.harts_on k start is) in
    (some.0, subst (λ (s : Option Regs). WantsFrom s (g.steps (ActorId.Hart k)) some.0) (sym is) some.1)

device_want_by : (g : Guest) (k : ℕ) (d : FlatDevice) → slice_get g.devices k ≡ Some d → IsSound g
    → (op : Op) × Wants g (ActorId.Device k) op
device_want_by g k d is sound =
    let want = device_want k (whole_pages g.memory) d (sound.devices_on.each k d is) in
    (want.0, subst (λ (o : Option FlatDevice). WantsOf o want.0) (sym is) want.1)

some_want : (g : Guest) (actor : ActorId) → IsSound g → is_actor g actor ≡ true → (op : Op) × Wants g actor op
some_want g ActorId.Timer sound there = timer_traces.some_op (g.steps ActorId.Timer) sound.timer_on
some_want g (ActorId.Hart k) sound there = hart_want_by g k (slice_get g.starts k) refl sound there
some_want g (ActorId.Device k) sound there =
    let d = lt_get g.devices k there in
    device_want_by g k d.0 d.1 sound

done : (g : Guest) (actor : ActorId) (op : Op) (given : Given) → IsSound g → Wants g actor op
    → is_given op given ≡ true
    → (e : Entry) × (h : Guest) × IsUnstamped e × FlatStep g (record { actor = actor; given = given }) e h
done g actor op given sound wants fit =
    let place : PlaceId = place_of (layout_of g) op in
    let e : Entry = record {
      stamp = 0;
      before = 0;
      actor = actor;
      place = place;
      op = op;
      reply =
          reply_at place g.memory g.board g.ports actor op given;
    } in (
      e,
      guest_after g e,
      (refl, refl),
      record {
        actor = refl;
        want = wants;
        place = refl;
        answer = answers_at g actor op given (port_there g actor op sound wants) fit;
        after = refl;
      },
    )

pub actor_step : (g : Guest) (actor : ActorId) → IsSound g → is_actor g actor ≡ true
    → (op : Op) × Wants g actor op
    × ((given : Given) → is_given op given ≡ true
    → (e : Entry) × (h : Guest) × IsUnstamped e × FlatStep g (record { actor = actor; given = given }) e h)
actor_step g actor sound there =
    let want = some_want g actor sound there in
    (want.0, want.1, λ given fit. done g actor want.0 given sound want.1 fit)

pub hart_step : (g : Guest) (k : ℕ) → IsSound g → is_actor g (ActorId.Hart k) ≡ true
    → (e : Entry) × (h : Guest) × IsUnstamped e × FlatStep g (record { actor = ActorId.Hart k; given = Nothing }) e h
hart_step g k sound there =
    let want = some_want g (ActorId.Hart k) sound there in
    let own = (hart_port_by g k want.0 (slice_get g.starts k) refl sound want.1).1 in
    done g (ActorId.Hart k) want.0 Nothing sound want.1 (none_given want.0 own)

kept : (g : Guest) (e : Entry) (actor : ActorId) → is_actor g actor ≡ true → is_actor (guest_after g e) actor ≡ true
kept g e (ActorId.Hart k) there = there
kept g e ActorId.Timer there = there
kept g e (ActorId.Device k) there =
    ap (λ (n : ℕ). nat_lt k n) (devices.devices_many e.actor g.devices (record { op = e.op; reply = e.reply })) ∙ there

actor_after : (g : Guest) (event : Event) (e : Entry) (h : Guest) (actor : ActorId) → FlatStep g event e h
    → is_actor g actor ≡ true → is_actor h actor ≡ true
actor_after g event e h actor step there = subst (λ (q : Guest). is_actor q actor ≡ true) (sym step.after)
    (kept g e actor there)

longer : (made n : ℕ) (actor : ActorId) (h : Guest) → (made ≡ n) ⊎ ((made < n) × Stops h actor)
    → (suc made ≡ suc n) ⊎ ((suc made < suc n) × Stops h actor)
longer made n actor h (inl all) = inl (omega arith)
longer made n actor h (inr less) = inr (omega arith, less.1)

abbrev Further : ℕ → ActorId → Type 0
Further n actor = (h : Guest) → IsSound h → is_actor h actor ≡ true → (es : List Entry) × (k : Guest) × StepsBy h actor n es k

by_host : (n : ℕ) (g : Guest) (actor : ActorId) (op : Op) (host : Bool) → is_host_op op ≡ host → g.board.off ≡ false
    → IsSound g → is_actor g actor ≡ true → Wants g actor op → Further n actor
    → (es : List Entry) × (h : Guest) × StepsBy g actor (suc n) es h
by_host n g actor op true host on sound there wants some =
    ([], g, record { made = refl; on = tt; all = inr (omega arith, inr (on, (op, wants, host))) })
by_host n g actor op false host on sound there wants some =
    let first = done g actor op Nothing sound wants (none_given op host) in
    let event : Event = record { actor = actor; given = Nothing } in
    let rest = some first.1 (sound_next g event first.0 first.1 sound first.3)
    (actor_after g event first.0 first.1 actor first.3 there) in (
      first.0 ∷ rest.0,
      rest.1,
      record {
        made = (first.2, first.1, first.3, rest.2.made);
        on =
            (on, subst (λ (q : Guest). IsOnBefore q rest.0) first.3.after rest.2.on);
        all = longer (length rest.0) n actor rest.1
            rest.2.all;
      },
    )

by_off : (n : ℕ) (g : Guest) (actor : ActorId) (off : Bool) → g.board.off ≡ off → IsSound g → is_actor g actor ≡ true
    → Further n actor → (es : List Entry) × (h : Guest) × StepsBy g actor (suc n) es h
by_off n g actor true is sound there some = ([], g, record { made = refl; on = tt; all = inr (omega arith, inl is) })
by_off n g actor false is sound there some =
    let want = some_want g actor sound there in
    by_host n g actor want.0 (is_host_op want.0) refl is sound there want.1 some

pub actor_steps : (count : ℕ) (g : Guest) (actor : ActorId) → IsSound g → is_actor g actor ≡ true
    → (es : List Entry) × (h : Guest) × StepsBy g actor count es h
actor_steps zero g actor sound there = ([], g, record { made = refl; on = tt; all = inl refl })
actor_steps (suc n) g actor sound there =
    by_off n g actor g.board.off refl sound there (λ h sound_h there_h. actor_steps n h actor sound_h there_h)
