-- What holds of each call that a request asks for.
use Rattle.std.proofs.Common.{◌≡◌, ◌≢◌, ◌<◌, ◌≤◌, ◌^◌, ℕ, true, length, List, Option, Some, None, Result, Ok, Err, refl, subst}
use Rattle.std.specs.Prelude.{⊤}
use Rattle.std.specs.Str.{is_utf8}
use Rattle.serde_json.specs.Data.{Data, null, boolean, number, string, array, object, Members}
use Rattle.refusals.specs.declared.refusal.Refusal.{Refusal}
use Rattle.http_stream.specs.declared.request.Request.{Request}
use Rattle.api_calls.specs.declared.call.ApiCall.{ApiCall}
use Rattle.api_calls.specs.declared.call.ApiCall.TheVariants as call
use Rattle.api_calls.specs.declared.endpoint.Body.{Body}
use Rattle.api_calls.specs.declared.endpoint.Body.TheVariants as body
use Rattle.api_calls.specs.declared.endpoint.Endpoint.{Endpoint}
use Rattle.api_calls.specs.declared.endpoint.Endpoint.TheVariants as endpoint
use Rattle.api_calls.specs.Addresses.{is_small_mac}
use Rattle.api_calls.specs.Form.{are_ids, holds, is_address, is_path, is_id, refusal}
use Rattle.api_calls.specs.Limits.{is_limiter}
use Rattle.api_calls.specs.Fields.{form_of}
use Rattle.api_calls.specs.Call.{◌>>=◌, json_of, object_in, object_of, unless, made, asked, call_of}
use Rattle.api_calls.specs.Routes.{Target, target_of}
use Rattle.api_calls.proofs.Drives.{drive_is, patch_is}
use Rattle.api_calls.proofs.Entropies.{entropy_is}
use Rattle.api_calls.proofs.Interfaces.{interface_is, interface_patch_is}
use Rattle.api_calls.proofs.Metadata.{mmds_is}
use Rattle.api_calls.proofs.Ranges.{IsWithin, balloon_is, machine_is, machine_patch_is, source_is, statistics_is, vsock_is}
use Rattle.api_calls.proofs.Snapshots.{create_is, load_is}

-- what is said of a call
abbrev pub IsAsked : ApiCall → Type 0
IsAsked (call.PutBootSource source) =
    (is_path source.kernel_image_path ≡ true) × (holds is_path source.initrd_path ≡ true) × (length source.boot_args ≤ 2048)
    × (is_utf8 source.boot_args ≡ true)
IsAsked (call.PutDrive drive) =
    (is_id drive.drive_id ≡ true) × (is_path drive.path_on_host ≡ true) × (holds is_limiter drive.rate_limiter ≡ true)
IsAsked (call.PatchDrive patch) =
    (is_id patch.drive_id ≡ true) × (holds is_path patch.path_on_host ≡ true) × (holds is_limiter patch.rate_limiter ≡ true)
IsAsked (call.PutInterface interface) =
    (is_id interface.iface_id ≡ true) × (is_path interface.host_dev_name ≡ true) × (holds is_small_mac interface.guest_mac ≡ true)
    × ((holds is_limiter interface.rx_rate_limiter ≡ true) × (holds is_limiter interface.tx_rate_limiter ≡ true))
IsAsked (call.PatchInterface patch) =
    (is_id patch.iface_id ≡ true)
    × ((holds is_limiter patch.rx_rate_limiter ≡ true) × (holds is_limiter patch.tx_rate_limiter ≡ true))
IsAsked (call.PutVsock vsock) = IsWithin 3 4294967294 vsock.guest_cid × (is_path vsock.uds_path ≡ true)
IsAsked (call.PutMachineConfig machine) = IsWithin 1 32 machine.vcpu_count × IsWithin 4 4096 machine.mem_size_mib
IsAsked (call.PatchMachineConfig patch) =
    ((n : ℕ) → patch.vcpu_count ≡ Some n → IsWithin 1 32 n) × ((n : ℕ) → patch.mem_size_mib ≡ Some n → IsWithin 4 4096 n)
IsAsked (call.PutBalloon balloon) = balloon.stats_polling_interval_s < 2 ^ 16
IsAsked (call.PatchBalloon patch) = ⊤
IsAsked (call.PatchStatistics patch) = patch.stats_polling_interval_s < 2 ^ 16
IsAsked (call.PutEntropy entropy) = holds is_limiter entropy.rate_limiter ≡ true
IsAsked (call.PutMmdsConfig mmds) = (are_ids mmds.network_interfaces ≡ true) × (is_address mmds.ipv4_address ≡ true)
IsAsked (call.PutMetadata d) = ⊤
IsAsked (call.PatchMetadata d) = ⊤
IsAsked call.InstanceStart = ⊤
IsAsked (call.PatchVm s) = ⊤
IsAsked (call.CreateSnapshot it) =
    (is_path it.files.snapshot_path ≡ true) × (is_path it.files.mem_file_path ≡ true)
    × (it.files.mem_file_path ≢ it.files.snapshot_path)
IsAsked (call.LoadSnapshot load) = (is_path load.files.snapshot_path ≡ true) × (is_path load.files.mem_file_path ≡ true)
IsAsked (call.Get part) = ⊤

made_is : (b : Body) (named : List ℕ) (ms : Members) → refusal (form_of b named) (object ms) ≡ None → IsAsked (made b (object ms))
made_is body.BootSource named ms none = source_is ms none
made_is body.Drive named ms none = drive_is named ms none
made_is body.DrivePatch named ms none = patch_is named ms none
made_is body.Interface named ms none = interface_is named ms none
made_is body.InterfacePatch named ms none = interface_patch_is named ms none
made_is body.Vsock named ms none = vsock_is ms none
made_is body.MachineConfig named ms none = machine_is ms none
made_is body.MachinePatch named ms none = machine_patch_is ms none
made_is body.Balloon named ms none = balloon_is ms none
made_is body.BalloonPatch named ms none = tt
made_is body.StatisticsPatch named ms none = statistics_is ms none
made_is body.Entropy named ms none = entropy_is ms none
made_is body.MmdsConfig named ms none = mmds_is ms none
made_is body.Metadata named ms none = tt
made_is body.MetadataPatch named ms none = tt
made_is body.Action named ms none = tt
made_is body.VmState named ms none = tt
made_is body.SnapshotCreate named ms none = create_is ms none
made_is body.SnapshotLoad named ms none = load_is ms none

-- what `unless` lets through wasn't refused
by_refusal : (b : Body) (named : List ℕ) (ms : Members) (why : Option Refusal) (asked : ApiCall) → refusal (form_of b named) (object ms) ≡ why
    → (unless why (object ms) >>= λ d. Ok (made b d)) ≡ Ok asked → IsAsked asked
by_refusal b named ms None asked none is = let e : made b (object ms) ≡ asked = cc in subst IsAsked e (made_is b named ms none)
by_refusal b named ms (Some why) asked refused is = absurd cc

by_object : (b : Body) (named : List ℕ) (o : Option Data) (asked : ApiCall)
    → (object_in o >>= λ d. unless (refusal (form_of b named) d) d >>= λ d. Ok (made b d)) ≡ Ok asked → IsAsked asked
by_object b named None asked is = absurd cc
by_object b named (Some null) asked is = absurd cc
by_object b named (Some (boolean c)) asked is = absurd cc
by_object b named (Some (number n)) asked is = absurd cc
by_object b named (Some (string s)) asked is = absurd cc
by_object b named (Some (array ds)) asked is = absurd cc
by_object b named (Some (object ms)) asked is = by_refusal b named ms (refusal (form_of b named) (object ms)) asked refl is

by_endpoint : (e : Endpoint) (named bytes : List ℕ) (a : ApiCall) → asked e named bytes ≡ Ok a → IsAsked a
unfolding object_of
by_endpoint (endpoint.Send b) named bytes a is = by_object b named (json_of bytes) a is
by_endpoint (endpoint.Get part) named bytes a is = let e : call.Get part ≡ a = cc in subst IsAsked e tt

by_target : (t : Result Target Refusal) (bytes : List ℕ) (a : ApiCall) → (t >>= λ t. asked t.endpoint t.id bytes) ≡ Ok a → IsAsked a
by_target (Ok t) bytes a is = by_endpoint t.endpoint t.id bytes a is
by_target (Err why) bytes a is = absurd cc

-- each call that a request asks for is as said
pub asked_is : (r : Request) (a : ApiCall) → call_of r ≡ Ok a → IsAsked a
asked_is r a is = by_target (target_of r.path r.method) r.body a is
