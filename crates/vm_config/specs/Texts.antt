-- What GET tells, as trees whose keys are in byte order, and their compact writing. What isn't built is absent:
-- an empty list, or null.
use Rattle.std.specs.Prelude.{ℕ, false, List, map, codes, Option, Some, None}
use Rattle.serde_json.specs.Data.{Data, null, boolean, number, string, array, object, unsigned, member, no_members}
use Rattle.serde_json.specs.View.{items_of}
use Rattle.serde_json.specs.Written.{compact_text}
use Rattle.api_calls.specs.declared.balloon.Balloon.{Balloon}
use Rattle.api_calls.specs.declared.call.BootSource.{BootSource}
use Rattle.api_calls.specs.declared.call.Drive.{Drive}
use Rattle.api_calls.specs.Drives.{cache_text}
use Rattle.api_calls.specs.declared.call.MachineConfig.{MachineConfig}
use Rattle.api_calls.specs.declared.call.Part.{Part}
use Rattle.api_calls.specs.declared.call.Part.TheVariants as part
use Rattle.api_calls.specs.declared.entropy.Entropy.{Entropy}
use Rattle.api_calls.specs.declared.interface.Interface.{Interface}
use Rattle.api_calls.specs.declared.limiter.BucketConfig.{BucketConfig}
use Rattle.api_calls.specs.declared.limiter.Limiter.{Limiter}
use Rattle.api_calls.specs.declared.mmds.MmdsConfig.{MmdsConfig}
use Rattle.metadata_store.specs.declared.version.MetadataVersion.{MetadataVersion}
use Rattle.metadata_store.specs.declared.version.MetadataVersion.TheVariants as versions
use Rattle.api_calls.specs.declared.vsock.Vsock.{Vsock}
use Rattle.vm_config.specs.declared.config.Config.{Config}
use Rattle.vm_config.specs.declared.config.Phase.{Phase}
use Rattle.vm_config.specs.declared.config.Phase.TheVariants as phase
use Rattle.vm_config.specs.declared.statistics.Statistics.{Statistics}
use Rattle.vm_config.specs.Statistics.{statistics}

abbrev pub phase_text : Phase → List ℕ
phase_text phase.NotStarted = codes "Not started"
phase_text phase.Running = codes "Running"
phase_text phase.Paused = codes "Paused"

-- GET /
abbrev pub instance : List ℕ → Phase → Data
instance id p = object (
    member (codes "app_name") (string (codes "Firecracker"))
    (member (codes "id") (string id)
    (member (codes "state") (string (phase_text p))
    (member (codes "vmm_version") (string (codes "1.0-rv64")) no_members))))

-- GET /version
abbrev pub version : Data
version = object (member (codes "firecracker_version") (string (codes "1.0-rv64")) no_members)

-- GET /machine-config
abbrev pub machine : MachineConfig → Data
machine m = object (
    member (codes "mem_size_mib") (number (unsigned m.mem_size_mib))
    (member (codes "smt") (boolean false)
    (member (codes "track_dirty_pages") (boolean m.track_dirty_pages)
    (member (codes "vcpu_count") (number (unsigned m.vcpu_count)) no_members))))

-- a text that is there, or null
abbrev pub text_or_null : Option (List ℕ) → Data
text_or_null None = null
text_or_null (Some t) = string t

abbrev pub given_source : BootSource → Data
given_source s = object (
    member (codes "boot_args") (string s.boot_args)
    (member (codes "initrd_path") (text_or_null s.initrd_path)
    (member (codes "kernel_image_path") (string s.kernel_image_path) no_members)))

abbrev pub boot_source : Option BootSource → Data
boot_source None = null
boot_source (Some s) = given_source s

-- a number that is there, or null
abbrev pub number_or_null : Option ℕ → Data
number_or_null None = null
number_or_null (Some n) = number (unsigned n)

abbrev pub given_bucket : BucketConfig → Data
given_bucket b = object (
    member (codes "one_time_burst") (number_or_null b.one_time_burst)
    (member (codes "refill_time") (number (unsigned b.refill_time))
    (member (codes "size") (number (unsigned b.size)) no_members)))

abbrev pub bucket : Option BucketConfig → Data
bucket None = null
bucket (Some b) = given_bucket b

abbrev pub given_limiter : Limiter → Data
given_limiter l =
    object (member (codes "bandwidth") (bucket l.bandwidth) (member (codes "ops") (bucket l.ops) no_members))

abbrev pub limiter : Option Limiter → Data
limiter None = null
limiter (Some l) = given_limiter l

abbrev pub drive : Drive → Data
drive d = object (
    member (codes "cache_type") (string (cache_text d.cache_type))
    (member (codes "drive_id") (string d.drive_id)
    (member (codes "is_read_only") (boolean d.is_read_only)
    (member (codes "is_root_device") (boolean d.is_root_device)
    (member (codes "path_on_host") (string d.path_on_host)
    (member (codes "rate_limiter") (limiter d.rate_limiter) no_members))))))

abbrev pub drives : List Drive → Data
drives ds = array (items_of (map drive ds))

abbrev pub interface : Interface → Data
interface i = object (
    member (codes "guest_mac") (text_or_null i.guest_mac)
    (member (codes "host_dev_name") (string i.host_dev_name)
    (member (codes "iface_id") (string i.iface_id)
    (member (codes "rx_rate_limiter") (limiter i.rx_rate_limiter)
    (member (codes "tx_rate_limiter") (limiter i.tx_rate_limiter) no_members)))))

abbrev pub interfaces : List Interface → Data
interfaces is = array (items_of (map interface is))

abbrev pub given_vsock : Vsock → Data
given_vsock v = object (
    member (codes "guest_cid") (number (unsigned v.guest_cid)) (member (codes "uds_path") (string v.uds_path) no_members))

abbrev pub vsock : Option Vsock → Data
vsock None = null
vsock (Some v) = given_vsock v

abbrev pub given_balloon : Balloon → Data
given_balloon b = object (
    member (codes "amount_mib") (number (unsigned b.amount_mib))
    (member (codes "deflate_on_oom") (boolean b.deflate_on_oom)
    (member (codes "stats_polling_interval_s") (number (unsigned b.stats_polling_interval_s)) no_members)))

-- GET /balloon
abbrev pub balloon : Option Balloon → Data
balloon None = null
balloon (Some b) = given_balloon b

abbrev pub given_entropy : Entropy → Data
given_entropy e = object (member (codes "rate_limiter") (limiter e.rate_limiter) no_members)

abbrev pub entropy : Option Entropy → Data
entropy None = null
entropy (Some e) = given_entropy e

abbrev pub version_text : MetadataVersion → List ℕ
version_text versions.V1 = codes "V1"
version_text versions.V2 = codes "V2"

abbrev pub ids : List (List ℕ) → Data
ids ts = array (items_of (map string ts))

abbrev pub given_mmds : MmdsConfig → Data
given_mmds m = object (
    member (codes "ipv4_address") (string m.ipv4_address)
    (member (codes "network_interfaces") (ids m.network_interfaces)
    (member (codes "version") (string (version_text m.version)) no_members)))

abbrev pub mmds : Option MmdsConfig → Data
mmds None = null
mmds (Some m) = given_mmds m

-- GET /balloon/statistics, which is refused where there is no balloon
abbrev pub statistics_by : Option Balloon → Option Statistics → Data
statistics_by (Some b) (Some s) = statistics b.amount_mib s
statistics_by None s = null
statistics_by (Some b) None = null

-- GET /vm/config
abbrev pub vm_config : Config → Data
vm_config c = object (
    member (codes "balloon") (balloon c.balloon)
    (member (codes "boot-source") (boot_source c.boot_source)
    (member (codes "drives") (drives c.drives)
    (member (codes "entropy") (entropy c.entropy)
    (member (codes "machine-config") (machine c.machine)
    (member (codes "mmds-config") (mmds c.mmds)
    (member (codes "network-interfaces") (interfaces c.interfaces)
    (member (codes "vsock") (vsock c.vsock) no_members))))))))

-- What there is to tell of a machine: its id, its phase, what is configured, its metadata, and what its balloon tells if it
-- has one that runs.
pub record Told : Type 0 where
  pub id : List ℕ
  pub phase : Phase
  pub config : Config
  pub metadata : Data
  pub statistics : Option Statistics

abbrev pub data_of : Part → Told → Data
data_of part.Instance told = instance told.id told.phase
data_of part.Version told = version
data_of part.MachineConfig told = machine told.config.machine
data_of part.Metadata told = told.metadata
data_of part.VmConfig told = vm_config told.config
data_of part.Balloon told = balloon told.config.balloon
data_of part.Statistics told = statistics_by told.config.balloon told.statistics

abbrev pub text_of : Part → Told → List ℕ
text_of which told = compact_text (data_of which told)
