-- A machine that has started keeps its guest, and between two creates a page that isn't written is as it was.
use Rattle.std.proofs.Common.{◌≡◌, ℕ, ◌+◌, ◌≤◌, Bool, true, false, MatchBool, refl, sym, ap, subst, ◌∙◌, List, [], ◌∷◌, Option, Some, None, Result, Ok, Err, ◌⊎◌, inl, inr, length, slice_get, arith}
use Rattle.vm_types.specs.declared.ids.ActorId.{ActorId}
use Rattle.vm_types.specs.declared.entry.Entry.{Entry}
use Rattle.vm_types.specs.declared.reply.Reply.{Reply}
use Rattle.refusals.specs.declared.refusal.Refusal.{Refusal}
use Rattle.std.specs.FinMap.{get}
use Rattle.vm_types.specs.Saved.{Saved}
use Rattle.guest_memory.specs.Ram.{is_ram}
use Rattle.flat_guest.specs.Given.{Event, Given}
use Rattle.flat_guest.specs.Given.Given.{Nothing}
use Rattle.hart_trace.specs.Asks.{is_host_op}
use Rattle.http_stream.specs.Stream.{Connection}
use Rattle.http_stream.specs.declared.request.Next.{Next}
use Rattle.http_stream.specs.Conversation.{Conversation, ConversationFront, arrived}
use Rattle.http_stream.specs.Sent.{sent}
use Rattle.api_calls.specs.declared.balloon.Balloon.{Balloon}
use Rattle.api_calls.specs.declared.limiter.Limiter.{Limiter}
use Rattle.api_calls.specs.declared.call.ApiCall.{ApiCall}
use Rattle.api_calls.specs.declared.call.ApiCall.TheVariants as call
use Rattle.api_calls.specs.declared.call.SnapshotCreate.{SnapshotCreate}
use Rattle.api_calls.specs.declared.call.VmState.TheVariants.{Paused, Resumed}
use Rattle.vm_config.specs.declared.config.Phase.{Phase}
use Rattle.vm_config.specs.declared.config.Phase.TheVariants as phase
use Rattle.vm_config.specs.Changes.{with_amount, with_interval}
use Rattle.vm_config.specs.Devices.{balloon_device, interface_device}
use Rattle.vm_config.specs.Drives.{device_of}
use Rattle.api_rules.specs.declared.deciding.When.{When}
use Rattle.api_rules.specs.declared.deciding.When.TheVariants.{BeforeBoot, AfterBoot, Always}
use Rattle.api_rules.specs.Table.{has_started, misplaced, when_allowed}
use Rattle.script_text.specs.declared.item.Item.{Item}
use Rattle.script_text.specs.declared.item.Item.TheVariants as item
use Rattle.serde_json.specs.Data.{Data}
use Rattle.metadata_store.specs.Store.{patched, put}
use Rattle.guest_devices.specs.declared.device.Device.{Device}
use Rattle.guest_devices.specs.declared.change.DeviceChange.{DeviceChange}
use Rattle.guest_devices.specs.Kinds.{sectors_change}
use Rattle.port_table.specs.declared.state.PortState.{PortState}
use Rattle.flat_guest.specs.Changes.{reset_guest, told}
use Rattle.flat_guest.specs.Guest.{Guest, is_actor, unwritten}
use Rattle.flat_guest.specs.Start.{timer_restarted}
use Rattle.flat_guest.specs.Steps.{FlatStep, Makes, is_given}
use Rattle.flat_guest.proofs.Devices.{devices_many, reset_many, told_many}
use Rattle.flat_snapshot.specs.Unwritten.{KeepsUnwritten}
use Rattle.flat_snapshot.proofs.Unwritten.{keeps_joined, keeps_same, one_keeps, several_keep}
use Rattle.flat_machine.specs.Balloon.{interval_told, target_in}
use Rattle.flat_machine.specs.Limits.{limits_told, receives_told, transmits_told}
use Rattle.flat_machine.specs.Between.{GoesOn, NoCreate, SomeCreate}
use Rattle.flat_machine.specs.Given.{reply_given}
use Rattle.flat_machine.specs.Outcome.{Left, Outcome}
use Rattle.flat_machine.specs.Outcome.Outcome.{Answered, Failed, NoMemory}
use Rattle.flat_machine.specs.Machine.{Machine, drained, drained_guest, phase_by, phase_of, running_by}
use Rattle.flat_machine.specs.Items.{ItemStep, MemoryLine, RegisterLine, RepliesLine, StepsLine, Talks}
use Rattle.responses.specs.Responses.{Response}
use Rattle.flat_machine.specs.Requests.{CreateFails, Creates, Fails, Leaves, LeavesBy, RequestStep, Stores, allowed, configured, halted, next_identity, patched_balloon, patched_drive, patched_interface, patched_statistics, relimited, resized, retargeted, retimed, sectors_of, shows_by, told_at}
use Rattle.flat_machine.specs.Run.{Act, Run}
use Rattle.flat_machine.proofs.Allowed.{IsAllowed, allowed_is}

-- ---- as many devices

pub one_many : (g h : Guest) (event : Event) (e : Entry) → FlatStep g event e h → length h.devices ≡ length g.devices
one_many g h event e step =
    ap (λ (q : Guest). length q.devices) step.after ∙ devices_many e.actor g.devices (record { op = e.op; reply = e.reply })

pub several_many : (g h : Guest) (actor : ActorId) (es : List Entry) → Makes g actor es h → length h.devices ≡ length g.devices
several_many g h actor [] is = ap (λ (q : Guest). length q.devices) (sym is)
several_many g h actor (e ∷ es) (unstamped, mid, step, more) =
    several_many mid h actor es more ∙ one_many g mid (record { actor = actor; given = Nothing }) e step

-- its memory keeps what is unwritten, and it has as many devices
abbrev Keeps : Guest → Guest → Type 0
Keeps g h = KeepsUnwritten g h × (length h.devices ≡ length g.devices)

-- ---- one after another

since_joined : (m n k : Machine) (g h q : Guest) → m.ids.next ≤ n.ids.next → NoCreate m n g h ⊎ SomeCreate m n → NoCreate n k h q ⊎ SomeCreate n k
    → NoCreate m k g q ⊎ SomeCreate m k
since_joined m n k g h q rise (inl first) (inl second) =
    inl (record { base = second.base ∙ first.base; keeps = keeps_joined g h q first.keeps second.keeps })
since_joined m n k g h q rise (inr first) (inl second) =
    inr (record { base = first.base; base_is = second.base ∙ first.base_is; new = first.new })
since_joined m n k g h q rise first (inr second) =
    inr (record { base = second.base; base_is = second.base_is; new = (let later = second.new in omega (arith, rise, later)) })

pub joined : (m n k : Machine) (g : Guest) (first : GoesOn g m n) → GoesOn first.guest n k → GoesOn g m k
joined m n k g first second = record {
  guest = second.guest;
  there = second.there;
  devices = second.devices ∙ first.devices;
  numbers = (let early = first.numbers in let late = second.numbers in omega (arith, early, late));
  since = since_joined m n k g first.guest second.guest first.numbers first.since second.since;
}

moved : (g : Guest) (m n q : Machine) → n ≡ q → GoesOn g m q → GoesOn g m n
moved g m n q is on = subst (λ (k : Machine). GoesOn g m k) (sym is) on

by_events : (g h : Guest) (m n : Machine) → n.guest ≡ Some h → n.ids.next ≡ m.ids.next → n.ids.base ≡ m.ids.base → Keeps g h → GoesOn g m n
by_events g h m n there numbers base keeps = record {
  guest = h;
  there = there;
  devices = keeps.1;
  numbers = omega (arith, numbers);
  since = inl (record { base = base; keeps = keeps.0 });
}

-- the guest and what is known of snapshots are as they were
stays : (g : Guest) (m n : Machine) → m.guest ≡ Some g → n.guest ≡ m.guest → n.ids.next ≡ m.ids.next → n.ids.base ≡ m.ids.base → GoesOn g m n
stays g m n there guest numbers base = by_events g g m n (guest ∙ there) numbers base (keeps_same g g refl, refl)

same : (g : Guest) (m n : Machine) → m.guest ≡ Some g → n ≡ m → GoesOn g m n
same g m n there is = moved g m n m is (stays g m m there refl refl refl)

-- ---- which calls a machine allows that has started

abbrev pub IsLaterBy : When → Type 0
IsLaterBy BeforeBoot = ⊥
IsLaterBy it = Unit {0}

abbrev pub IsLater : ApiCall → Type 0
IsLater c = IsLaterBy (when_allowed c)

pub too_late : {A : Type 0} (p : Phase) → has_started p ≡ true → misplaced BeforeBoot p ≡ None → A
too_late phase.NotStarted started placed = absurd cc
too_late phase.Running started placed = absurd cc
too_late phase.Paused started placed = absurd cc

-- one that comes at its time
pub at_its_time : (p : Phase) (when : When) → has_started p ≡ true → misplaced when p ≡ None → IsLaterBy when
at_its_time p BeforeBoot started placed = too_late p started placed
at_its_time p AfterBoot started placed = tt
at_its_time p Always started placed = tt

pub allowed_later : (m : Machine) (it : ApiCall) → has_started (phase_of m) ≡ true → IsAllowed m it → IsLater it
allowed_later m it started known = at_its_time (phase_of m) (when_allowed it) started known.placed

started_by : (g : Guest) (paused : Bool) → has_started (phase_by (Some g) paused) ≡ true
started_by g true = refl
started_by g false = refl

pub started : (g : Guest) (m : Machine) → m.guest ≡ Some g → has_started (phase_of m) ≡ true
started g m there = ap (λ (guest : Option Guest). has_started (phase_by guest m.paused)) there ∙ started_by g m.paused

-- ---- what they leave

same_guest : (g h : Guest) → ◌≡◌ {A = Option Guest} (Some g) (Some h) → g ≡ h
same_guest g h is = cc

halted_keeps : (g : Guest) (paused : Bool) (guest : Option Guest) → guest ≡ Some g → (h : Guest) × (halted paused guest ≡ Some h) × Keeps g h
halted_keeps g true guest is = (g, is, (keeps_same g g refl, refl))
halted_keeps g false None is = absurd cc
halted_keeps g false (Some q) is = (
  timer_restarted q,
  refl,
  subst (λ (x : Guest). Keeps x (timer_restarted q)) (same_guest q g is)
      (record { size = refl; unwritten = λ i none. none; pages = λ i none. refl }, refl),
)

drained_keeps : (g : Guest) (guest : Option Guest) → guest ≡ Some g → (h : Guest) × (drained_guest guest ≡ Some h) × Keeps g h
drained_keeps g None is = absurd cc
drained_keeps g (Some q) is = (
  record q { board = record q.board { console = [] } },
  refl,
  subst (λ (x : Guest). Keeps x (record q { board = record q.board { console = [] } })) (same_guest q g is)
      (record { size = refl; unwritten = λ i none. none; pages = λ i none. refl }, refl),
)

-- a device is told of a change
told_keeps : (g : Guest) (number : Option ℕ) (change : DeviceChange) (shows : Option PortState → Option (List ℕ)) (guest : Option Guest)
    → guest ≡ Some g → (h : Guest) × (told_at number change shows guest ≡ Some h) × Keeps g h
told_keeps g None change shows guest is = (g, is, (keeps_same g g refl, refl))
told_keeps g (Some k) change shows None is = absurd cc
told_keeps g (Some k) change shows (Some q) is = (
  told k change (shows (slice_get q.ports k)) q,
  refl,
  subst (λ (x : Guest). Keeps x (told k change (shows (slice_get q.ports k)) q)) (same_guest q g is) (
    record { size = refl; unwritten = λ i none. none; pages = λ i none. refl },
    told_many (slice_get q.devices k) q.devices k change,
  ),
)

keeps_both : (g h q : Guest) → Keeps g h → Keeps h q → Keeps g q
keeps_both g h q first second = (keeps_joined g h q first.0 second.0, second.1 ∙ first.1)

resized_keeps : (g : Guest) (path : Option (List ℕ)) (number : Option ℕ) (saved : Saved) (guest : Option Guest) → guest ≡ Some g
    → (h : Guest) × (resized path number saved guest ≡ Some h) × Keeps g h
resized_keeps g None number saved guest is = (g, is, (keeps_same g g refl, refl))
resized_keeps g (Some path) number saved guest is =
    let change : DeviceChange = sectors_change (sectors_of (get saved path)) in told_keeps g number change (shows_by change) guest is

relimited_keeps : (g : Guest) (tells : Limiter → DeviceChange) (limiter : Option Limiter) (number : Option ℕ) (guest : Option Guest)
    → guest ≡ Some g → (h : Guest) × (relimited tells limiter number guest ≡ Some h) × Keeps g h
relimited_keeps g tells None number guest is = (g, is, (keeps_same g g refl, refl))
relimited_keeps g tells (Some l) number guest is = told_keeps g number (tells l) (shows_by (tells l)) guest is

retargeted_keeps : (g : Guest) (balloon : Option Balloon) (number : Option ℕ) (guest : Option Guest) → guest ≡ Some g
    → (h : Guest) × (retargeted balloon number guest ≡ Some h) × Keeps g h
retargeted_keeps g None number guest is = (g, is, (keeps_same g g refl, refl))
retargeted_keeps g (Some b) number guest is = told_keeps g number (interval_told b) (target_in b) guest is

retimed_keeps : (g : Guest) (balloon : Option Balloon) (number : Option ℕ) (guest : Option Guest) → guest ≡ Some g
    → (h : Guest) × (retimed balloon number guest ≡ Some h) × Keeps g h
retimed_keeps g None number guest is = (g, is, (keeps_same g g refl, refl))
retimed_keeps g (Some b) number guest is = told_keeps g number (interval_told b) (shows_by (interval_told b)) guest is

create_on : (g : Guest) (guest : Option Guest) (m : Machine) (it : SnapshotCreate) (kept : List Device) (n : Machine) → guest ≡ Some g
    → Creates guest m it kept n → GoesOn g m n
create_on g None m it kept n there x = absurd cc
create_on g (Some q) m it kept n there (copy, of, tells, saved, is) = record {
  guest = unwritten (reset_guest q);
  there = ap (λ (k : Machine). k.guest) is;
  devices = reset_many q.devices ∙ ap (λ (x : Guest). length x.devices) (same_guest q g there);
  numbers = (let number : n.ids.next ≡ m.ids.next + 1 = ap (λ (k : Machine). k.ids.next) is in omega (arith, number));
  since = inr (record { base = next_identity m; base_is = ap (λ (k : Machine). k.ids.base) is; new = omega arith });
}

stores_on : (g : Guest) (kept : Result Data Refusal) (m n : Machine) → m.guest ≡ Some g → Stores kept m n → GoesOn g m n
stores_on g (Ok kept) m n there is = moved g m n (record m { metadata = kept }) is (stays g m (record m { metadata = kept }) there refl refl refl)
stores_on g (Err why) m n there is = same g m n there is

leaves_on : (g : Guest) (it : ApiCall) (m n : Machine) → m.guest ≡ Some g → IsLater it → Leaves m it n → GoesOn g m n
leaves_on g (call.PatchDrive patch) m n there later is =
    let after : Machine = configured (patched_drive m patch) (call.PatchDrive patch) in
    let number = device_of m.config.drives patch.drive_id in
    let h = resized_keeps g patch.path_on_host number m.saved m.guest there in
    let q = relimited_keeps h.0 limits_told patch.rate_limiter number (resized patch.path_on_host number m.saved m.guest) h.1 in
    moved g m n after is (by_events g q.0 m after q.1 refl refl (keeps_both g h.0 q.0 h.2 q.2))
leaves_on g (call.PatchInterface patch) m n there later is =
    let after : Machine = configured (patched_interface m patch) (call.PatchInterface patch) in
    let number = interface_device m.config patch.iface_id in
    let h = relimited_keeps g receives_told patch.rx_rate_limiter number m.guest there in
    let q =
    relimited_keeps h.0 transmits_told patch.tx_rate_limiter number (relimited receives_told patch.rx_rate_limiter number m.guest) h.1 in
    moved g m n after is (by_events g q.0 m after q.1 refl refl (keeps_both g h.0 q.0 h.2 q.2))
leaves_on g (call.PatchBalloon patch) m n there later is =
    let after : Machine = configured (patched_balloon m patch) (call.PatchBalloon patch) in
    let h = retargeted_keeps g (with_amount patch m.config.balloon) (balloon_device m.config) m.guest there in
    moved g m n after is (by_events g h.0 m after h.1 refl refl h.2)
leaves_on g (call.PatchStatistics patch) m n there later is =
    let after : Machine = configured (patched_statistics m patch) (call.PatchStatistics patch) in
    let h = retimed_keeps g (with_interval patch m.config.balloon) (balloon_device m.config) m.guest there in
    moved g m n after is (by_events g h.0 m after h.1 refl refl h.2)
leaves_on g (call.PatchVm Paused) m n there later is =
    let h = halted_keeps g m.paused m.guest there in
    moved g m n (record m { guest = halted m.paused m.guest; paused = true }) is
    (by_events g h.0 m (record m { guest = halted m.paused m.guest; paused = true }) h.1 refl refl h.2)
leaves_on g (call.PatchVm Resumed) m n there later is = moved g m n (record m { paused = false }) is (stays g m (record m { paused = false }) there refl refl refl)
leaves_on g (call.CreateSnapshot it) m n there later (kept, x) = create_on g m.guest m it kept n there x
leaves_on g (call.PutMetadata body) m n there later x = stores_on g (put body) m n there x
leaves_on g (call.PatchMetadata patch) m n there later x = stores_on g (patched m.metadata patch) m n there x
leaves_on g (call.Get part) m n there later is = same g m n there is
leaves_on g it m n there later is = absurd later

create_fails_on : (g : Guest) (guest : Option Guest) (m : Machine) (it : SnapshotCreate) (left : Left) (n : Machine) → m.guest ≡ Some g
    → CreateFails guest m it left n → GoesOn g m n
create_fails_on g None m it left n there x = absurd x
create_fails_on g (Some q) m it left n there short = record {
  guest = g;
  there = ap (λ (k : Machine). k.guest) short.leaves ∙ there;
  devices = refl;
  numbers =
      (let number : n.ids.next ≡ m.ids.next + 1 = ap (λ (k : Machine). k.ids.next) short.leaves in omega (arith, number));
  since = inl (record { base = ap (λ (k : Machine). k.ids.base) short.leaves; keeps = keeps_same g g refl });
}

fails_on : (g : Guest) (it : ApiCall) (m : Machine) (left : Left) (n : Machine) → m.guest ≡ Some g → Fails m it left n → GoesOn g m n
fails_on g (call.PatchDrive patch) m left n there x = same g m n there x.3
fails_on g call.InstanceStart m left n there x = same g m n there x.1
fails_on g (call.CreateSnapshot it) m left n there x = create_fails_on g m.guest m it left n there x
fails_on g (call.LoadSnapshot load) m left n there x = same g m n there x.1
fails_on g it m left n there x = absurd x

-- what it leaves, whatever it kept
pub leaves_of : (it : ApiCall) (m : Machine) (kept : List Device) (n : Machine) → LeavesBy m (Ok it) kept n → Leaves m it n
leaves_of (call.CreateSnapshot it) m kept n x = (kept, x)
leaves_of it m kept n x = x.1

result_on : (g : Guest) (m n : Machine) (given : Next) (kept : List Device) (result : Result ApiCall Refusal) → m.guest ≡ Some g → allowed m given ≡ result
    → LeavesBy m result kept n → GoesOn g m n
result_on g m n given kept (Ok it) there is x =
    leaves_on g it m n there (allowed_later m it (started g m there) (allowed_is m given it is)) (leaves_of it m kept n x)
result_on g m n given kept (Err why) there is x = same g m n there x.1

pub request_on : (g : Guest) (how : Outcome) (given : Next) (m : Machine) (t : List Response) (n : Machine) → m.guest ≡ Some g → RequestStep how given m t n → GoesOn g m n
request_on g (Answered kept) given m t n there x = result_on g m n given kept (allowed m given) there refl x.1
request_on g (Failed left) given m t n there (it, asks, fails, is) = fails_on g it m left n there fails
request_on g NoMemory given m t n there x = same g m n there x.1

-- ---- lines

pub conversation_on : (outcomes : List Outcome) (c d : Connection) (m n : Machine) (t : List Response) (g : Guest) → m.guest ≡ Some g
    → Conversation RequestStep outcomes c m t d n → GoesOn g m n
conversation_on [] c d m n t g there (quiet, stays_so, none, is) = same g m n there is
conversation_on (how ∷ outcomes) c d m n t g there (given, after, first, mid, rest, takes, step, more, text) =
    let on = request_on g how given m first mid there step in
    joined m mid n g on (conversation_on outcomes after d mid n rest on.guest on.there more)

-- and the first of a conversation
pub front_on : (outcomes : List Outcome) (c d : Connection) (m n : Machine) (t : List Response) (g : Guest) → m.guest ≡ Some g
    → ConversationFront RequestStep outcomes c m t d n → GoesOn g m n
front_on [] c d m n t g there (given, after, takes, stays_so, none, is) = same g m n there is
front_on (how ∷ outcomes) c d m n t g there (given, after, first, mid, rest, takes, step, more, text) =
    let on = request_on g how given m first mid there step in
    joined m mid n g on (front_on outcomes after d mid n rest on.guest on.there more)

talks_on : (bytes : List ℕ) (outcomes : List Outcome) (m n : Machine) (t : List Response) (g : Guest) → m.guest ≡ Some g → Talks bytes outcomes m t n → GoesOn g m n
talks_on bytes outcomes m n t g there (after, mid, talk, is) =
    let on = conversation_on outcomes (arrived m.connection bytes) after m mid t g there talk in
    moved g m n (record mid { connection = after }) is
    (joined m mid (record mid { connection = after }) g on (stays on.guest mid (record mid { connection = after }) on.there refl refl refl))

pub by_either : {A B C : Type 0} (there : Bool) → (A → C) → (B → C) → MatchBool there A B → C
by_either true some none x = some x
by_either false some none x = none x

-- the guest that runs is this one
end_on : (g q h : Guest) (m n : Machine) → ◌≡◌ {A = Option Guest} (Some q) (Some g) → Keeps q h → n ≡ record m { guest = Some h } → GoesOn g m n
end_on g q h m n own keeps is =
    moved g m n (record m { guest = Some h }) is
    (by_events g h m (record m { guest = Some h }) refl refl refl (subst (λ (x : Guest). Keeps x h) (same_guest q g own) keeps))

steps_on : (g : Guest) (guest : Option Guest) (paused : Bool) (actor : ActorId) (count : ℕ) (m n : Machine) (t : List ℕ) → guest ≡ Some g → m.guest ≡ Some g
    → StepsLine (running_by guest paused) actor count m t n → GoesOn g m n
steps_on g guest true actor count m n t own there x = same g m n there x.1
steps_on g None false actor count m n t own there x = same g m n there x.1
steps_on g (Some q) false actor count m n t own there x =
    by_either (is_actor q actor) (λ moves. end_on g q moves.end m n own
    (several_keep q moves.end actor count moves.entries moves.made, several_many q moves.end actor moves.entries moves.made.made) moves.leaves)
    (λ none. same g m n there none.1) x

replies_on : (g : Guest) (guest : Option Guest) (paused : Bool) (actor : ActorId) (given : Given) (m n : Machine) (t : List ℕ) → guest ≡ Some g
    → m.guest ≡ Some g → RepliesLine (running_by guest paused) actor given m t n → GoesOn g m n
replies_on g guest true actor given m n t own there x = same g m n there x.1
replies_on g None false actor given m n t own there x = same g m n there x.1
replies_on g (Some q) false actor given m n t own there x =
    by_either (is_actor q actor)
    (λ wants. by_either (is_host_op wants.0)
    (λ host. by_either (is_given wants.0 given)
    (λ fit. end_on g q fit.end m n own (
      one_keeps q fit.end (record { actor = actor; given = given }) fit.entry fit.step,
      one_many q fit.end (record { actor = actor; given = given }) fit.entry fit.step,
    )
    fit.leaves)
    (λ unfit. same g m n there unfit.1) host)
    (λ none. same g m n there none.1) wants.2)
    (λ none. same g m n there none.1) x

register_on : (g : Guest) (guest : Option Guest) (hart number : ℕ) (m n : Machine) (t : List ℕ) → m.guest ≡ Some g → RegisterLine guest hart number m t n
    → GoesOn g m n
register_on g None hart number m n t there x = same g m n there x.1
register_on g (Some q) hart number m n t there x =
    by_either (is_actor q (ActorId.Hart hart)) (λ shows. same g m n there shows.1) (λ none. same g m n there none.1) x

memory_on : (g : Guest) (guest : Option Guest) (at len : ℕ) (m n : Machine) (t : List ℕ) → m.guest ≡ Some g → MemoryLine guest at len m t n → GoesOn g m n
memory_on g None at len m n t there x = same g m n there x.1
memory_on g (Some q) at len m n t there x =
    by_either (is_ram (length q.memory.bytes) at len) (λ shows. same g m n there shows.1) (λ none. same g m n there none.1) x

item_on : (it : Item) (outcomes : List Outcome) (m n : Machine) (t : List ℕ) (g : Guest) → m.guest ≡ Some g → ItemStep it outcomes m t n → GoesOn g m n
item_on (item.Bytes bytes) outcomes m n t g there x = talks_on bytes outcomes m n x.0 g there x.1
item_on (item.Api method path body) outcomes m n t g there x = talks_on (sent method path body) outcomes m n x.0 g there x.1
item_on item.Nothing outcomes m n t g there x = same g m n there x.1.1
item_on (item.File name content) outcomes m n t g there x = moved g m n _ x.1.1 (stays g m _ there refl refl refl)
item_on (item.Lineage lineage) outcomes m n t g there x = moved g m n _ x.1.1 (stays g m _ there refl refl refl)
item_on item.Connect outcomes m n t g there x = moved g m n _ x.1.1 (stays g m _ there refl refl refl)
item_on (item.Step actor count) outcomes m n t g there x = steps_on g m.guest m.paused actor count m n t there there x.1
item_on (item.Reply actor reply) outcomes m n t g there x = replies_on g m.guest m.paused actor (reply_given reply) m n t there there x.1
item_on item.Console outcomes m n t g there x =
    let h = drained_keeps g m.guest there in
    moved g m n (drained m) x.1.1 (by_events g h.0 m (drained m) h.1 refl refl h.2)
item_on (item.Register hart number) outcomes m n t g there x = register_on g m.guest hart number m n t there x.1
item_on (item.Memory at len) outcomes m n t g there x = memory_on g m.guest at len m n t there x.1

pub run_on : (acts : List Act) (m n : Machine) (t : List ℕ) (g : Guest) → m.guest ≡ Some g → Run acts m t n → GoesOn g m n
run_on [] m n t g there x = same g m n there (sym x.1)
run_on (act ∷ acts) m n t g there (first, mid, rest, step, more, text) =
    let on = item_on act.item act.outcomes m mid first g there step in
    joined m mid n g on (run_on acts mid n rest on.guest on.there more)
