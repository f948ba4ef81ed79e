-- Inside an item a machine is ready, and its guest on, if it was so before the item.
use Rattle.std.proofs.Common.{◌≡◌, ℕ, Bool, true, false, if◌then◌else◌, nat_lt, refl, ap, ◌∙◌, List, [], ◌∷◌, Option, Some, None, Result, Ok, Err, inl, inr, slice_get}
use Rattle.std.specs.Prelude.{bit_or, ◌^◌}
use Rattle.std.specs.FinMap.{get}
use Rattle.vm_types.specs.Saved.{Saved}
use Rattle.vm_types.specs.declared.ids.ActorId.TheVariants.{Device as DeviceId}
use Rattle.refusals.specs.declared.refusal.Refusal.{Refusal}
use Rattle.serde_json.specs.Data.{Data}
use Rattle.metadata_store.specs.Store.{patched, put}
use Rattle.http_stream.specs.Stream.{Connection}
use Rattle.http_stream.specs.declared.request.Next.{Next}
use Rattle.http_stream.specs.Conversation.{Conversation, ConversationFront, arrived}
use Rattle.api_calls.specs.declared.balloon.Balloon.{Balloon}
use Rattle.api_calls.specs.declared.limiter.Limiter.{Limiter}
use Rattle.api_calls.specs.declared.call.SnapshotCreate.{SnapshotCreate}
use Rattle.api_calls.specs.declared.call.SnapshotLoad.{SnapshotLoad}
use Rattle.api_calls.specs.declared.call.VmState.TheVariants.{Paused, Resumed}
use Rattle.api_calls.specs.declared.call.ApiCall.{ApiCall}
use Rattle.api_calls.specs.declared.call.ApiCall.TheVariants as call
use Rattle.vm_config.specs.Changes.{with_amount, with_interval}
use Rattle.vm_config.specs.Devices.{balloon_device, interface_device}
use Rattle.vm_config.specs.Drives.{device_of}
use Rattle.responses.specs.Responses.{Response}
use Rattle.board_table.specs.Board.{Board}
use Rattle.board_table.specs.Acts.{line_count, raise_line}
use Rattle.port_table.specs.declared.state.PortState.{PortState}
use Rattle.guest_devices.specs.declared.change.DeviceChange.{DeviceChange}
use Rattle.guest_devices.specs.declared.device.Device.{Device}
use Rattle.guest_devices.specs.Kinds.{sectors_change}
use Rattle.flat_guest.specs.Changes.{board_shown}
use Rattle.flat_guest.specs.Guest.{Guest}
use Rattle.flat_snapshot.specs.Found.{Snapshot, found}
use Rattle.flat_machine.specs.Balloon.{interval_told, target_in}
use Rattle.flat_machine.specs.Items.{Talks}
use Rattle.flat_machine.specs.Limits.{limits_told, receives_told, transmits_told}
use Rattle.flat_machine.specs.Outcome.{Left, Outcome}
use Rattle.flat_machine.specs.Outcome.Outcome.{Answered, Failed, NoMemory}
use Rattle.flat_machine.specs.Machine.{Machine, is_off, off_by}
use Rattle.flat_machine.specs.Ready.{Ready}
use Rattle.flat_machine.specs.Requests.{CreateFails, Creates, Fails, Leaves, LeavesBy, RequestStep, Restores, Stores, allowed, disk_of, halted, image_of, relimited, resized, retargeted, retimed, sectors_of, shows_by, started_from, told_at}
use Rattle.flat_machine.proofs.Between.{leaves_of}
use Rattle.flat_machine.proofs.Ready.{request_ready, ready_is}
use Rattle.snapshot_chain.specs.Chains.{IsInside}

abbrev On : Machine → Type 0
On m = is_off m ≡ false

on_is : (m n : Machine) → n ≡ m → On m → On n
on_is m n is on = ap is_off is ∙ on

-- ---- what a call leaves of the guest

raised_off : (b : Board) (k : ℕ) → (raise_line b (DeviceId k)).off ≡ b.off
raised_off b k = by_line (nat_lt k line_count)
  where
    by_line : (there : Bool) → (if there then record b { pending = bit_or b.pending (2 ^ k) } else b).off ≡ b.off
    by_line true = refl
    by_line false = refl

shown_off : (shown : Option (List ℕ)) (b : Board) (k : ℕ) → (board_shown shown b k).off ≡ b.off
shown_off None b k = refl
shown_off (Some bytes) b k = raised_off b k

-- where a device is told of a change
told_on : (number : Option ℕ) (change : DeviceChange) (shows : Option PortState → Option (List ℕ)) (guest : Option Guest)
    → off_by guest ≡ false → off_by (told_at number change shows guest) ≡ false
told_on (Some k) change shows (Some g) on = shown_off (shows (slice_get g.ports k)) g.board k ∙ on
told_on (Some k) change shows None on = on
told_on None change shows (Some g) on = on
told_on None change shows None on = on

resized_on : (path : Option (List ℕ)) (number : Option ℕ) (saved : Saved) (guest : Option Guest) → off_by guest ≡ false
    → off_by (resized path number saved guest) ≡ false
resized_on None number saved guest on = on
resized_on (Some path) number saved guest on =
    let change : DeviceChange = sectors_change (sectors_of (get saved path)) in told_on number change (shows_by change) guest on

relimited_on : (tells : Limiter → DeviceChange) (limiter : Option Limiter) (number : Option ℕ) (guest : Option Guest)
    → off_by guest ≡ false → off_by (relimited tells limiter number guest) ≡ false
relimited_on tells None number guest on = on
relimited_on tells (Some l) number guest on = told_on number (tells l) (shows_by (tells l)) guest on

retargeted_on : (balloon : Option Balloon) (number : Option ℕ) (guest : Option Guest) → off_by guest ≡ false
    → off_by (retargeted balloon number guest) ≡ false
retargeted_on None number guest on = on
retargeted_on (Some b) number guest on = told_on number (interval_told b) (target_in b) guest on

retimed_on : (balloon : Option Balloon) (number : Option ℕ) (guest : Option Guest) → off_by guest ≡ false
    → off_by (retimed balloon number guest) ≡ false
retimed_on None number guest on = on
retimed_on (Some b) number guest on = told_on number (interval_told b) (shows_by (interval_told b)) guest on

halted_on : (paused : Bool) (guest : Option Guest) → off_by guest ≡ false → off_by (halted paused guest) ≡ false
halted_on true guest on = on
halted_on false None on = on
halted_on false (Some g) on = on

started_on : (image disk : Option (List ℕ)) (m : Machine) → On m → On (started_from image disk m)
started_on None disk m on = on
started_on (Some image) disk m on = refl

create_on : (guest : Option Guest) (m : Machine) (it : SnapshotCreate) (kept : List Device) (n : Machine) → off_by guest ≡ false → On m
    → Creates guest m it kept n → On n
create_on None m it kept n own on x = on_is m n x.1 on
create_on (Some g) m it kept n own on (copy, of, tells, saved, is) = ap is_off is ∙ own

load_on : (it : Result Snapshot Refusal) (m : Machine) (load : SnapshotLoad) (n : Machine) → On m → Restores it m load n → On n
load_on (Ok it) m load n on is = ap is_off is
load_on (Err why) m load n on is = on_is m n is on

store_on : (due : Result Data Refusal) (m n : Machine) → On m → Stores due m n → On n
store_on (Ok kept) m n on is = ap is_off is ∙ on
store_on (Err why) m n on is = on_is m n is on

leaves_on : (it : ApiCall) (m n : Machine) → On m → Leaves m it n → On n
leaves_on (call.PatchDrive patch) m n on is =
    let number : Option ℕ = device_of m.config.drives patch.drive_id in
    ap is_off is
    ∙ relimited_on limits_told patch.rate_limiter number (resized patch.path_on_host number m.saved m.guest)
    (resized_on patch.path_on_host number m.saved m.guest on)
leaves_on (call.PatchInterface patch) m n on is =
    let number : Option ℕ = interface_device m.config patch.iface_id in
    ap is_off is
    ∙ relimited_on transmits_told patch.tx_rate_limiter number (relimited receives_told patch.rx_rate_limiter number m.guest)
    (relimited_on receives_told patch.rx_rate_limiter number m.guest on)
leaves_on (call.PatchBalloon patch) m n on is =
    ap is_off is ∙ retargeted_on (with_amount patch m.config.balloon) (balloon_device m.config) m.guest on
leaves_on (call.PatchStatistics patch) m n on is =
    ap is_off is ∙ retimed_on (with_interval patch m.config.balloon) (balloon_device m.config) m.guest on
leaves_on call.InstanceStart m n on is = ap is_off is ∙ started_on (image_of m) (disk_of m) m on
leaves_on (call.PatchVm Paused) m n on is = ap is_off is ∙ halted_on m.paused m.guest on
leaves_on (call.PatchVm Resumed) m n on is = ap is_off is ∙ on
leaves_on (call.CreateSnapshot it) m n on (kept, x) = create_on m.guest m it kept n on on x
leaves_on (call.LoadSnapshot load) m n on x = load_on (found m.saved load.files) m load n on x
leaves_on (call.PutMetadata body) m n on x = store_on (put body) m n on x
leaves_on (call.PatchMetadata patch) m n on x = store_on (patched m.metadata patch) m n on x
leaves_on (call.Get part) m n on is = on_is m n is on
leaves_on it m n on is = ap is_off is ∙ on

create_fails_on : (guest : Option Guest) (m : Machine) (it : SnapshotCreate) (left : Left) (n : Machine) → On m → CreateFails guest m it left n → On n
create_fails_on None m it left n on x = absurd x
create_fails_on (Some g) m it left n on short = ap is_off short.leaves ∙ on

fails_on : (it : ApiCall) (m : Machine) (left : Left) (n : Machine) → On m → Fails m it left n → On n
fails_on (call.PatchDrive patch) m left n on x = on_is m n x.3 on
fails_on call.InstanceStart m left n on x = on_is m n x.1 on
fails_on (call.CreateSnapshot it) m left n on x = create_fails_on m.guest m it left n on x
fails_on (call.LoadSnapshot load) m left n on x = on_is m n x.1 on
fails_on it m left n on x = absurd x

-- ---- what is answered

result_on : (result : Result ApiCall Refusal) (m : Machine) (kept : List Device) (n : Machine) → On m → LeavesBy m result kept n → On n
result_on (Ok it) m kept n on x = leaves_on it m n on (leaves_of it m kept n x)
result_on (Err why) m kept n on x = on_is m n x.1 on

request_on : (how : Outcome) (given : Next) (m : Machine) (said : List Response) (n : Machine) → On m → RequestStep how given m said n → On n
request_on (Answered kept) given m said n on x = result_on (allowed m given) m kept n on x.1
request_on (Failed left) given m said n on (it, asks, fails, is) = fails_on it m left n on fails
request_on NoMemory given m said n on x = on_is m n x.1 on

front_on : (outcomes : List Outcome) (c d : Connection) (m n : Machine) (said : List Response) → On m
    → ConversationFront RequestStep outcomes c m said d n → On n
front_on [] c d m n said on (given, after, takes, stays_so, none, is) = on_is m n is on
front_on (how ∷ outcomes) c d m n said on (given, after, first, mid, rest, takes, step, more, text) =
    front_on outcomes after d mid n rest (request_on how given m first mid on step) more

conversation_on : (outcomes : List Outcome) (c d : Connection) (m n : Machine) (said : List Response) → On m
    → Conversation RequestStep outcomes c m said d n → On n
conversation_on [] c d m n said on (quiet, same, none, is) = on_is m n is on
conversation_on (how ∷ outcomes) c d m n said on (given, after, first, mid, rest, takes, step, more, text) =
    conversation_on outcomes after d mid n rest (request_on how given m first mid on step) more

pub talks_on : (bytes : List ℕ) (outcomes : List Outcome) (m : Machine) (said : List Response) (n : Machine) → Talks bytes outcomes m said n
    → is_off m ≡ false → is_off n ≡ false
talks_on bytes outcomes m said n (after, mid, talk, is) on =
    ap is_off is ∙ conversation_on outcomes (arrived m.connection bytes) after m mid said on talk

pub inside_on : (m n : Machine) → IsInside m n → is_off m ≡ false → is_off n ≡ false
inside_on m n (inl same) on = on_is m n same on
inside_on m n (inr (bytes, outcomes, said, c, front)) on = front_on outcomes (arrived m.connection bytes) c m n said on front

-- ---- and it stays ready

front_ready : (outcomes : List Outcome) (c d : Connection) (m n : Machine) (said : List Response) → Ready m
    → ConversationFront RequestStep outcomes c m said d n → Ready n
front_ready [] c d m n said ready (given, after, takes, stays_so, none, is) = ready_is m n is ready
front_ready (how ∷ outcomes) c d m n said ready (given, after, first, mid, rest, takes, step, more, text) =
    front_ready outcomes after d mid n rest (request_ready how given m first mid ready step) more

pub inside_ready : (m n : Machine) → IsInside m n → Ready m → Ready n
inside_ready m n (inl same) ready = ready_is m n same ready
inside_ready m n (inr (bytes, outcomes, said, c, front)) ready = front_ready outcomes (arrived m.connection bytes) c m n said ready front
