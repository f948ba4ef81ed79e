-- What a request asks for, or its first refusal.
use Rattle.std.specs.Prelude.{ℕ, Bool, false, ◌||◌, List, [], ◌∷◌, if◌then◌else◌, Option, Some, None, is_some, option_and_then, option_map, unwrap_or, Result, Ok, Err, codes}
use Rattle.std.specs.Str.{bytes_eq, is_utf8}
use Rattle.serde_json.specs.Data.{Data}
use Rattle.serde_json.specs.Find.{get, as_object}
use Rattle.serde_json.specs.Read.{read}
use Rattle.refusals.specs.declared.refusal.Refusal.{Refusal}
use Rattle.refusals.specs.declared.refusal.Refusal.TheVariants as refused
use Rattle.http_stream.specs.declared.request.Request.{Request}
use Rattle.metadata_store.specs.declared.version.MetadataVersion.{MetadataVersion}
use Rattle.metadata_store.specs.declared.version.MetadataVersion.TheVariants as versions
use Rattle.api_calls.specs.Addresses.{lowered}
use Rattle.api_calls.specs.Form.{refusal, text_at, texts_at, number_at, flag_at, object_at}
use Rattle.api_calls.specs.Fields.{form_of}
use Rattle.api_calls.specs.Routes.{target_of}
use Rattle.api_calls.specs.declared.call.ApiCall.{ApiCall}
use Rattle.api_calls.specs.declared.call.ApiCall.TheVariants as call
use Rattle.api_calls.specs.declared.call.CacheType.{CacheType}
use Rattle.api_calls.specs.declared.call.CacheType.TheVariants as cache
use Rattle.api_calls.specs.declared.call.VmState.{VmState}
use Rattle.api_calls.specs.declared.call.VmState.TheVariants as state
use Rattle.api_calls.specs.declared.call.SnapshotType.{SnapshotType}
use Rattle.api_calls.specs.declared.call.SnapshotType.TheVariants as snapshot
use Rattle.api_calls.specs.declared.limiter.BucketConfig.{BucketConfig}
use Rattle.api_calls.specs.declared.limiter.Limiter.{Limiter}
use Rattle.api_calls.specs.declared.endpoint.Body.{Body}
use Rattle.api_calls.specs.declared.endpoint.Body.TheVariants as body
use Rattle.api_calls.specs.declared.endpoint.Endpoint.{Endpoint}
use Rattle.api_calls.specs.declared.endpoint.Endpoint.TheVariants as endpoint

-- what the first gives goes on to the second, unless it refuses
infixl 10 ◌>>=◌
abbrev pub ◌>>=◌ : {A B : Type 0} → Result A Refusal → (A → Result B Refusal) → Result B Refusal
(Ok x) >>= f = f x
(Err why) >>= f = Err why

-- ---- the body

-- RFC 8259, as serde_json reads it: nested up to 127 deep, and of a key that comes twice the last value
abbrev pub json_of : List ℕ → Option Data
json_of bytes = if is_utf8 bytes then read bytes else None

abbrev pub object_in : Option Data → Result Data Refusal
object_in None = Err refused.NotJson
object_in (Some d) = if is_some (as_object d) then Ok d else Err refused.WrongKind

unfoldable pub object_of : List ℕ → Result Data Refusal
object_of bytes = object_in (json_of bytes)

abbrev pub unless : Option Refusal → Data → Result Data Refusal
unless None d = Ok d
unless (Some why) d = Err why

-- ---- the call of a body by whose tables nothing is refused

abbrev pub text_or_none : Option (List ℕ) → List ℕ
text_or_none t = unwrap_or t []

abbrev pub is_text : List ℕ → Option (List ℕ) → Bool
is_text text None = false
is_text text (Some t) = bytes_eq t text

-- unsafe, where nothing is said
abbrev pub cache_of : Data → CacheType
cache_of d = if is_text (codes "Writeback") (text_at (codes "cache_type") d) then cache.Writeback else cache.Unsafe

abbrev pub state_of : Data → VmState
state_of d = if is_text (codes "Paused") (text_at (codes "state") d) then state.Paused else state.Resumed

-- a full snapshot, where nothing is said
abbrev pub type_of : Data → SnapshotType
type_of d = if is_text (codes "Diff") (text_at (codes "snapshot_type") d) then snapshot.Diff else snapshot.Full

-- the first version, where nothing is said
abbrev pub version_of : Data → MetadataVersion
version_of d = if is_text (codes "V2") (text_at (codes "version") d) then versions.V2 else versions.V1

abbrev pub default_address : List ℕ
default_address = codes "169.254.169.254"

abbrev pub number_or_zero : Option ℕ → ℕ
number_or_zero n = unwrap_or n 0

-- the object in a field, if it has one
abbrev pub object_under : List ℕ → Data → Option Data
object_under name d = object_at (name ∷ []) d

abbrev pub bucket_of : Data → BucketConfig
bucket_of d = record {
  size = number_or_zero (number_at (codes "size") d);
  refill_time = number_or_zero (number_at (codes "refill_time") d);
  one_time_burst = number_at (codes "one_time_burst") d;
}

abbrev pub limiter_of : Data → Limiter
limiter_of d = record {
  bandwidth = option_map bucket_of (object_under (codes "bandwidth") d);
  ops = option_map bucket_of (object_under (codes "ops") d);
}

-- the limits in a field, if there are any
abbrev pub limiter_at : List ℕ → Data → Option Limiter
limiter_at name d = option_map limiter_of (object_under name d)

-- dirty pages are tracked where either of two fields asks for it
abbrev pub is_set : List ℕ → Data → Bool
is_set name d = unwrap_or (flag_at name d) false

abbrev pub tracking_of : Data → Bool
tracking_of d = is_set (codes "enable_diff_snapshots") d || is_set (codes "track_dirty_pages") d

-- the text in an object in the body
abbrev pub text_in : List ℕ → List ℕ → Data → Option (List ℕ)
text_in place name d = option_and_then (text_at name) (get place d)

abbrev pub this_or : Option (List ℕ) → Option (List ℕ) → Option (List ℕ)
this_or None t = t
this_or (Some s) t = Some s

abbrev pub memory_path : Data → Option (List ℕ)
memory_path d = this_or (text_at (codes "mem_file_path") d) (text_in (codes "mem_backend") (codes "backend_path") d)

abbrev pub made : Body → Data → ApiCall
made body.BootSource d = call.PutBootSource (record {
  kernel_image_path = text_or_none (text_at (codes "kernel_image_path") d);
  initrd_path = text_at (codes "initrd_path") d;
  boot_args = text_or_none (text_at (codes "boot_args") d);
})
made body.Drive d = call.PutDrive (record {
  drive_id = text_or_none (text_at (codes "drive_id") d);
  path_on_host = text_or_none (text_at (codes "path_on_host") d);
  is_root_device = is_set (codes "is_root_device") d;
  is_read_only = is_set (codes "is_read_only") d;
  cache_type = cache_of d;
  rate_limiter = limiter_at (codes "rate_limiter") d;
})
made body.DrivePatch d = call.PatchDrive (record {
  drive_id = text_or_none (text_at (codes "drive_id") d);
  path_on_host = text_at (codes "path_on_host") d;
  rate_limiter = limiter_at (codes "rate_limiter") d;
})
made body.Interface d = call.PutInterface (record {
  iface_id = text_or_none (text_at (codes "iface_id") d);
  host_dev_name = text_or_none (text_at (codes "host_dev_name") d);
  guest_mac = option_map lowered (text_at (codes "guest_mac") d);
  rx_rate_limiter = limiter_at (codes "rx_rate_limiter") d;
  tx_rate_limiter = limiter_at (codes "tx_rate_limiter") d;
})
made body.InterfacePatch d = call.PatchInterface (record {
  iface_id = text_or_none (text_at (codes "iface_id") d);
  rx_rate_limiter = limiter_at (codes "rx_rate_limiter") d;
  tx_rate_limiter = limiter_at (codes "tx_rate_limiter") d;
})
made body.Vsock d = call.PutVsock (record {
  guest_cid = number_or_zero (number_at (codes "guest_cid") d);
  uds_path = text_or_none (text_at (codes "uds_path") d);
})
made body.MachineConfig d = call.PutMachineConfig (record {
  vcpu_count = number_or_zero (number_at (codes "vcpu_count") d);
  mem_size_mib = number_or_zero (number_at (codes "mem_size_mib") d);
  track_dirty_pages = is_set (codes "track_dirty_pages") d;
})
made body.MachinePatch d = call.PatchMachineConfig (record {
  vcpu_count = number_at (codes "vcpu_count") d;
  mem_size_mib = number_at (codes "mem_size_mib") d;
  track_dirty_pages = flag_at (codes "track_dirty_pages") d;
})
made body.Balloon d = call.PutBalloon (record {
  amount_mib = number_or_zero (number_at (codes "amount_mib") d);
  deflate_on_oom = is_set (codes "deflate_on_oom") d;
  stats_polling_interval_s = number_or_zero (number_at (codes "stats_polling_interval_s") d);
})
made body.BalloonPatch d = call.PatchBalloon (record {
  amount_mib = number_or_zero (number_at (codes "amount_mib") d);
})
made body.StatisticsPatch d = call.PatchStatistics (record {
  stats_polling_interval_s = number_or_zero (number_at (codes "stats_polling_interval_s") d);
})
made body.Entropy d = call.PutEntropy (record { rate_limiter = limiter_at (codes "rate_limiter") d })
made body.MmdsConfig d = call.PutMmdsConfig (record {
  network_interfaces = unwrap_or (texts_at (codes "network_interfaces") d) [];
  version = version_of d;
  ipv4_address = unwrap_or (text_at (codes "ipv4_address") d) default_address;
})
made body.Metadata d = call.PutMetadata d
made body.MetadataPatch d = call.PatchMetadata d
made body.Action d = call.InstanceStart
made body.VmState d = call.PatchVm (state_of d)
made body.SnapshotCreate d = call.CreateSnapshot (record {
  files = record {
    snapshot_path = text_or_none (text_at (codes "snapshot_path") d);
    mem_file_path = text_or_none (text_at (codes "mem_file_path") d);
  };
  snapshot_type = type_of d;
})
made body.SnapshotLoad d = call.LoadSnapshot (record {
  files = record {
    snapshot_path = text_or_none (text_at (codes "snapshot_path") d);
    mem_file_path = text_or_none (memory_path d);
  };
  track_dirty_pages = tracking_of d;
  resume_vm = is_set (codes "resume_vm") d;
})

-- ---- the request

abbrev pub sent : Body → List ℕ → List ℕ → Result ApiCall Refusal
sent b id bytes = do
  d ← object_of bytes
  d ← unless (refusal (form_of b id) d) d
  Ok (made b d)

abbrev pub asked : Endpoint → List ℕ → List ℕ → Result ApiCall Refusal
asked (endpoint.Send b) id bytes = sent b id bytes
asked (endpoint.Get part) id bytes = Ok (call.Get part)

-- Refused by its path, then by its method, then by its body; the body of a GET is not looked at.
abbrev pub call_of : Request → Result ApiCall Refusal
call_of r = do
  t ← target_of r.path r.method
  asked t.endpoint t.id r.body
