-- A machine that has started is configured, and stays so.
use Rattle.std.proofs.Common.{◌≡◌, ℕ, Bool, true, false, refl, sym, ap, subst, ◌∙◌, List, [], ◌∷◌, length, Option, Some, None, is_some, Result, Ok, Err}
use Rattle.std.specs.FinMap.{get}
use Rattle.vm_types.specs.Saved.{Saved}
use Rattle.vm_types.specs.declared.ids.ActorId.{ActorId}
use Rattle.vm_types.specs.declared.ids.ActorId.TheVariants.{Hart as HartId}
use Rattle.vm_outside.specs.Calls.{FileCall}
use Rattle.refusals.specs.declared.refusal.Refusal.{Refusal}
use Rattle.serde_json.specs.Data.{Data}
use Rattle.metadata_store.specs.Store.{patched, put}
use Rattle.guest_memory.specs.Ram.{is_ram}
use Rattle.hart_trace.specs.Asks.{is_host_op}
use Rattle.http_stream.specs.Stream.{Connection}
use Rattle.http_stream.specs.declared.request.Next.{Next}
use Rattle.http_stream.specs.Conversation.{Conversation, ConversationFront, arrived}
use Rattle.http_stream.specs.Sent.{sent}
use Rattle.api_calls.specs.declared.balloon.Balloon.{Balloon}
use Rattle.api_calls.specs.declared.limiter.Limiter.{Limiter}
use Rattle.api_calls.specs.declared.call.SnapshotCreate.{SnapshotCreate}
use Rattle.api_calls.specs.declared.call.SnapshotLoad.{SnapshotLoad}
use Rattle.api_calls.specs.declared.call.VmState.TheVariants.{Paused, Resumed}
use Rattle.api_calls.specs.declared.call.ApiCall.{ApiCall}
use Rattle.api_calls.specs.declared.call.ApiCall.TheVariants as call
use Rattle.vm_config.specs.Changes.{with_amount, with_interval}
use Rattle.vm_config.specs.Devices.{balloon_device, interface_device}
use Rattle.vm_config.specs.Drives.{device_of}
use Rattle.port_table.specs.declared.state.PortState.{PortState}
use Rattle.guest_devices.specs.declared.change.DeviceChange.{DeviceChange}
use Rattle.guest_devices.specs.Kinds.{sectors_change}
use Rattle.script_text.specs.declared.item.Item.{Item}
use Rattle.script_text.specs.declared.item.Item.TheVariants as item
use Rattle.responses.specs.Output.{console_line}
use Rattle.responses.specs.Responses.{Response}
use Rattle.guest_devices.specs.declared.device.Device.{Device}
use Rattle.flat_guest.specs.Given.{Given}
use Rattle.flat_guest.specs.Given.Given.{Host, Nothing}
use Rattle.flat_guest.specs.Guest.{Guest, is_actor}
use Rattle.flat_guest.specs.Steps.{is_given}
use Rattle.flat_snapshot.specs.Found.{Snapshot, found}
use Rattle.flat_machine.specs.Balloon.{interval_told, target_in}
use Rattle.flat_machine.specs.Given.{reply_given}
use Rattle.flat_machine.specs.Limits.{limits_told, receives_told, transmits_told}
use Rattle.flat_machine.specs.Items.{ItemStep, MemoryLine, RegisterLine, RepliesLine, StepsLine, Talks}
use Rattle.flat_machine.specs.Machine.{Machine, console_of, drained_guest, is_off, new_machine, running_by}
use Rattle.flat_machine.specs.Outcome.{Left, Outcome}
use Rattle.flat_machine.specs.Outcome.Outcome.{Answered, Failed, NoMemory}
use Rattle.flat_machine.specs.Requests.{CreateFails, Creates, Fails, Leaves, LeavesBy, RequestStep, Restores, Stores, allowed, halted, relimited, resized, retargeted, retimed, sectors_of, shows_by, told_at}
use Rattle.flat_machine.specs.Run.{Act, Run}
use Rattle.flat_machine.proofs.Between.{by_either, leaves_of}
use Rattle.flat_trace.specs.Showing as trace
use Rattle.flat_trace.specs.Showing.{HasEvent, Hears, Out, TraceStep}

-- it is configured, if it has started
abbrev pub Configured : Machine → Type 0
Configured m = is_some m.guest ≡ true → m.config.configured ≡ true

same : (m n : Machine) → n ≡ m → Configured m → Configured n
same m n is own = subst Configured (sym is) own

-- the guest is there or not as before, and so is what is configured
kept : (m n : Machine) → is_some n.guest ≡ is_some m.guest → n.config.configured ≡ m.config.configured → Configured m → Configured n
kept m n guest config own there = config ∙ own (sym guest ∙ there)

-- ---- what calls leave

told_there : (number : Option ℕ) (change : DeviceChange) (shows : Option PortState → Option (List ℕ)) (o : Option Guest)
    → is_some (told_at number change shows o) ≡ is_some o
told_there (Some k) change shows (Some g) = refl
told_there (Some k) change shows None = refl
told_there None change shows (Some g) = refl
told_there None change shows None = refl

resized_there : (path : Option (List ℕ)) (number : Option ℕ) (saved : Saved) (o : Option Guest) → is_some (resized path number saved o) ≡ is_some o
resized_there None number saved o = refl
resized_there (Some path) number saved o =
    let change : DeviceChange = sectors_change (sectors_of (get saved path)) in told_there number change (shows_by change) o

relimited_there : (tells : Limiter → DeviceChange) (limiter : Option Limiter) (number : Option ℕ) (o : Option Guest)
    → is_some (relimited tells limiter number o) ≡ is_some o
relimited_there tells None number o = refl
relimited_there tells (Some l) number o = told_there number (tells l) (shows_by (tells l)) o

retargeted_there : (balloon : Option Balloon) (number : Option ℕ) (o : Option Guest) → is_some (retargeted balloon number o) ≡ is_some o
retargeted_there None number o = refl
retargeted_there (Some b) number o = told_there number (interval_told b) (target_in b) o

retimed_there : (balloon : Option Balloon) (number : Option ℕ) (o : Option Guest) → is_some (retimed balloon number o) ≡ is_some o
retimed_there None number o = refl
retimed_there (Some b) number o = told_there number (interval_told b) (shows_by (interval_told b)) o

halted_there : (b : Bool) (o : Option Guest) → is_some (halted b o) ≡ is_some o
halted_there true o = refl
halted_there false None = refl
halted_there false (Some g) = refl

drained_there : (o : Option Guest) → is_some (drained_guest o) ≡ is_some o
drained_there None = refl
drained_there (Some g) = refl

create_kept : (o : Option Guest) (m : Machine) (it : SnapshotCreate) (devices : List Device) (n : Machine) → m.guest ≡ o → Creates o m it devices n
    → Configured m → Configured n
create_kept None m it devices n is x own = same m n x.1 own
create_kept (Some g) m it devices n is (copy, of, tells, saved, after) own =
    kept m n (ap (λ (q : Machine). is_some q.guest) after ∙ sym (ap (λ (o : Option Guest). is_some o) is)) (ap (λ (q : Machine). q.config.configured) after) own

fails_kept : (o : Option Guest) (m : Machine) (it : SnapshotCreate) (left : Left) (n : Machine) → CreateFails o m it left n → Configured m → Configured n
fails_kept None m it left n x own = absurd x
fails_kept (Some g) m it left n short own =
    kept m n (ap (λ (q : Machine). is_some q.guest) short.leaves) (ap (λ (q : Machine). q.config.configured) short.leaves) own

load_kept : (it : Result Snapshot Refusal) (m : Machine) (load : SnapshotLoad) (n : Machine) → Restores it m load n → Configured m → Configured n
load_kept (Ok it) m load n is own = λ there. ap (λ (q : Machine). q.config.configured) is
load_kept (Err why) m load n is own = same m n is own

store_kept : (due : Result Data Refusal) (m n : Machine) → Stores due m n → Configured m → Configured n
store_kept (Ok data_is) m n is own = kept m n (ap (λ (q : Machine). is_some q.guest) is) (ap (λ (q : Machine). q.config.configured) is) own
store_kept (Err why) m n is own = same m n is own

leaves_kept : (it : ApiCall) (m n : Machine) → Leaves m it n → Configured m → Configured n
leaves_kept (call.PatchDrive patch) m n is own =
    let number : Option ℕ = device_of m.config.drives patch.drive_id in
    kept m n
    (ap (λ (q : Machine). is_some q.guest) is
    ∙ relimited_there limits_told patch.rate_limiter number (resized patch.path_on_host number m.saved m.guest)
    ∙ resized_there patch.path_on_host number m.saved m.guest)
    (ap (λ (q : Machine). q.config.configured) is) own
leaves_kept (call.PatchInterface patch) m n is own =
    let number : Option ℕ = interface_device m.config patch.iface_id in
    kept m n
    (ap (λ (q : Machine). is_some q.guest) is
    ∙ relimited_there transmits_told patch.tx_rate_limiter number (relimited receives_told patch.rx_rate_limiter number m.guest)
    ∙ relimited_there receives_told patch.rx_rate_limiter number m.guest)
    (ap (λ (q : Machine). q.config.configured) is) own
leaves_kept (call.PatchBalloon patch) m n is own =
    kept m n
    (ap (λ (q : Machine). is_some q.guest) is
    ∙ retargeted_there (with_amount patch m.config.balloon) (balloon_device m.config) m.guest)
    (ap (λ (q : Machine). q.config.configured) is) own
leaves_kept (call.PatchStatistics patch) m n is own =
    kept m n
    (ap (λ (q : Machine). is_some q.guest) is
    ∙ retimed_there (with_interval patch m.config.balloon) (balloon_device m.config) m.guest)
    (ap (λ (q : Machine). q.config.configured) is) own
leaves_kept (call.PatchVm Paused) m n is own =
    kept m n (ap (λ (q : Machine). is_some q.guest) is ∙ halted_there m.paused m.guest) (ap (λ (q : Machine). q.config.configured) is) own
leaves_kept (call.PatchVm Resumed) m n is own =
    kept m n (ap (λ (q : Machine). is_some q.guest) is) (ap (λ (q : Machine). q.config.configured) is) own
leaves_kept (call.CreateSnapshot it) m n (devices, x) own = create_kept m.guest m it devices n refl x own
leaves_kept (call.LoadSnapshot load) m n x own = load_kept (found m.saved load.files) m load n x own
leaves_kept (call.PutMetadata body) m n x own = store_kept (put body) m n x own
leaves_kept (call.PatchMetadata patch) m n x own = store_kept (patched m.metadata patch) m n x own
leaves_kept (call.Get part) m n is own = same m n is own
leaves_kept it m n is own = λ there. ap (λ (q : Machine). q.config.configured) is

result_kept : (r : Result ApiCall Refusal) (m : Machine) (devices : List Device) (n : Machine) → LeavesBy m r devices n → Configured m → Configured n
result_kept (Ok it) m devices n x own = leaves_kept it m n (leaves_of it m devices n x) own
result_kept (Err why) m devices n x own = same m n x.1 own

failed_kept : (it : ApiCall) (m : Machine) (left : Left) (n : Machine) → Fails m it left n → Configured m → Configured n
failed_kept (call.PatchDrive patch) m left n x own = same m n x.3 own
failed_kept call.InstanceStart m left n x own = same m n x.1 own
failed_kept (call.CreateSnapshot it) m left n x own = fails_kept m.guest m it left n x own
failed_kept (call.LoadSnapshot load) m left n x own = same m n x.1 own
failed_kept it m left n x own = absurd x

request_kept : (how : Outcome) (given : Next) (m : Machine) (said : List Response) (n : Machine) → RequestStep how given m said n → Configured m → Configured n
request_kept (Answered devices) given m said n x own = result_kept (allowed m given) m devices n x.1 own
request_kept (Failed left) given m said n (it, asks, fails, is) own = failed_kept it m left n fails own
request_kept NoMemory given m said n x own = same m n x.1 own

-- ---- items

conversation_kept : (outcomes : List Outcome) (c d : Connection) (m n : Machine) (said : List Response)
    → Conversation RequestStep outcomes c m said d n → Configured m → Configured n
conversation_kept [] c d m n said (quiet, stays_so, none, is) own = same m n is own
conversation_kept (how ∷ outcomes) c d m n said (given, after, first, mid, rest, takes, step, more, text) own =
    conversation_kept outcomes after d mid n rest more (request_kept how given m first mid step own)

pub front_kept : (outcomes : List Outcome) (c d : Connection) (m n : Machine) (said : List Response)
    → ConversationFront RequestStep outcomes c m said d n → Configured m → Configured n
front_kept [] c d m n said (given, after, takes, stays_so, none, is) own = same m n is own
front_kept (how ∷ outcomes) c d m n said (given, after, first, mid, rest, takes, step, more, text) own =
    front_kept outcomes after d mid n rest more (request_kept how given m first mid step own)

talks_kept : (bytes : List ℕ) (outcomes : List Outcome) (m n : Machine) (said : List Response) → Talks bytes outcomes m said n → Configured m → Configured n
talks_kept bytes outcomes m n said (after, mid, talk, is) own =
    same (record mid { connection = after }) n is (conversation_kept outcomes (arrived m.connection bytes) after m mid said talk own)

-- of a guest that runs
moved : (g h : Guest) (m n : Machine) → m.guest ≡ Some g → n ≡ record m { guest = Some h } → Configured m → Configured n
moved g h m n there is own =
    kept m n (ap (λ (q : Machine). is_some q.guest) is ∙ sym (ap (λ (o : Option Guest). is_some o) there)) (ap (λ (q : Machine). q.config.configured) is) own

steps_kept : (o : Option Guest) (paused : Bool) (actor : ActorId) (count : ℕ) (m n : Machine) (t : List ℕ) → m.guest ≡ o
    → StepsLine (running_by o paused) actor count m t n → Configured m → Configured n
steps_kept o true actor count m n t is x own = same m n x.1 own
steps_kept None false actor count m n t is x own = same m n x.1 own
steps_kept (Some g) false actor count m n t is x own =
    by_either (is_actor g actor) (λ moves. moved g moves.end m n is moves.leaves own) (λ none. same m n none.1 own) x

replies_kept : (o : Option Guest) (paused : Bool) (actor : ActorId) (given : Given) (m n : Machine) (t : List ℕ) → m.guest ≡ o
    → RepliesLine (running_by o paused) actor given m t n → Configured m → Configured n
replies_kept o true actor given m n t is x own = same m n x.1 own
replies_kept None false actor given m n t is x own = same m n x.1 own
replies_kept (Some g) false actor given m n t is x own =
    by_either (is_actor g actor)
    (λ wants. by_either (is_host_op wants.0)
    (λ host. by_either (is_given wants.0 given) (λ fit. moved g fit.end m n is fit.leaves own) (λ unfit. same m n unfit.1 own) host)
    (λ none. same m n none.1 own) wants.2)
    (λ none. same m n none.1 own) x

register_kept : (o : Option Guest) (hart number : ℕ) (m n : Machine) (t : List ℕ) → RegisterLine o hart number m t n → Configured m → Configured n
register_kept None hart number m n t x own = same m n x.1 own
register_kept (Some g) hart number m n t x own =
    by_either (is_actor g (HartId hart)) (λ shows. same m n shows.1 own) (λ none. same m n none.1 own) x

memory_kept : (o : Option Guest) (at len : ℕ) (m n : Machine) (t : List ℕ) → MemoryLine o at len m t n → Configured m → Configured n
memory_kept None at len m n t x own = same m n x.1 own
memory_kept (Some g) at len m n t x own =
    by_either (is_ram (length g.memory.bytes) at len) (λ shows. same m n shows.1 own) (λ none. same m n none.1 own) x

item_kept : (it : Item) (outcomes : List Outcome) (m n : Machine) (t : List ℕ) → ItemStep it outcomes m t n → Configured m → Configured n
item_kept (item.Bytes bytes) outcomes m n t x own = talks_kept bytes outcomes m n x.0 x.1 own
item_kept (item.Api method path body) outcomes m n t x own = talks_kept (sent method path body) outcomes m n x.0 x.1 own
item_kept item.Nothing outcomes m n t x own = same m n x.1.1 own
item_kept (item.File name content) outcomes m n t x own =
    kept m n (ap (λ (q : Machine). is_some q.guest) x.1.1) (ap (λ (q : Machine). q.config.configured) x.1.1) own
item_kept (item.Lineage lineage) outcomes m n t x own =
    kept m n (ap (λ (q : Machine). is_some q.guest) x.1.1) (ap (λ (q : Machine). q.config.configured) x.1.1) own
item_kept item.Connect outcomes m n t x own =
    kept m n (ap (λ (q : Machine). is_some q.guest) x.1.1) (ap (λ (q : Machine). q.config.configured) x.1.1) own
item_kept (item.Step actor count) outcomes m n t x own = steps_kept m.guest m.paused actor count m n t refl x.1 own
item_kept (item.Reply actor reply) outcomes m n t x own = replies_kept m.guest m.paused actor (reply_given reply) m n t refl x.1 own
item_kept item.Console outcomes m n t x own =
    kept m n (ap (λ (q : Machine). is_some q.guest) x.1.1 ∙ drained_there m.guest) (ap (λ (q : Machine). q.config.configured) x.1.1) own
item_kept (item.Register hart number) outcomes m n t x own = register_kept m.guest hart number m n t x.1 own
item_kept (item.Memory at len) outcomes m n t x own = memory_kept m.guest at len m n t x.1 own

-- ---- runs and traces

pub run_configured : (acts : List Act) (m n : Machine) (t : List ℕ) → Configured m → Run acts m t n → Configured n
run_configured [] m n t own x = same m n (sym x.1) own
run_configured (act ∷ acts) m n t own (first, mid, rest, step, more, text) =
    run_configured acts mid n rest (item_kept act.item act.outcomes m mid first step own) more

event_kept : (o : Option Guest) (paused : Bool) (actor : ActorId) (given : Given) (m n : Machine) → m.guest ≡ o
    → HasEvent (running_by o paused) actor given m n → Configured m → Configured n
event_kept o true actor given m n is x own = absurd x
event_kept None false actor given m n is x own = absurd x
event_kept (Some g) false actor given m n is x own = moved g x.end m n is x.leaves own

hears_kept : (off : Bool) (bytes : List ℕ) (outcomes : List Outcome) (m : Machine) (out : Out) (n : Machine) → Hears off bytes outcomes m out n
    → Configured m → Configured n
hears_kept true bytes outcomes m out n x own = same m n x.2 own
hears_kept false bytes outcomes m out n x own = talks_kept bytes outcomes m n x.0 x.2 own

step_kept : (it : Item) (outcomes : List Outcome) (m : Machine) (out : Out) (n : Machine) → TraceStep it outcomes m out n → Configured m → Configured n
step_kept (item.Step actor count) outcomes m out n x own = event_kept m.guest m.paused actor Nothing m n refl x.3 own
step_kept (item.Reply actor reply) outcomes m out n x own = event_kept m.guest m.paused actor (Host x.2) m n refl x.4 own
step_kept item.Console outcomes m out n x own = item_kept item.Console outcomes m n (console_line (console_of m)) x.1 own
step_kept (item.Bytes bytes) outcomes m out n x own = hears_kept (is_off m) bytes outcomes m out n x own
step_kept item.Connect outcomes m out n x own = item_kept item.Connect outcomes m n [] x.1 own
step_kept (item.Lineage lineage) outcomes m out n x own = item_kept (item.Lineage lineage) outcomes m n [] x.1 own
step_kept it outcomes m out n x own = absurd x

pub trace_configured : (acts : List Act) (m n : Machine) (outs : List Out) → Configured m → trace.Run acts m outs n → Configured n
trace_configured [] m n outs own x = same m n (sym x.1) own
trace_configured (act ∷ acts) m n outs own (out, mid, rest, split, step, more) =
    trace_configured acts mid n rest (step_kept act.item act.outcomes m out mid step own) more

pub new_configured : (id : List ℕ) (saved : Saved) (calls : List FileCall) → Configured (new_machine id saved calls)
new_configured id saved calls there = absurd cc
