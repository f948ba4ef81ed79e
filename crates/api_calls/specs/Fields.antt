-- The fields of each body, in the order of the API's table. What isn't built is not in it: a field is unknown
-- then, and a value out of range.
use Rattle.std.specs.Prelude.{ℕ, ◌-◌, ◌^◌, true, false, List, [], ◌∷◌, ◌++◌, codes}
use Rattle.api_calls.specs.Form.{Kind, path, id, ids, mac, address, text, choice, whole, flag, unset, group, Row, Level, Together, free, some_of, either, differing, naming, Form}
use Rattle.api_calls.specs.declared.endpoint.Body.{Body}
use Rattle.api_calls.specs.declared.endpoint.Body.TheVariants as body

abbrev needed : List ℕ → Kind → Row
needed name kind = record { name = name; required = true; kind = kind }

abbrev optional : List ℕ → Kind → Row
optional name kind = record { name = name; required = false; kind = kind }

-- the fields of the body itself
abbrev outer : List Row → Level
outer rows = record { place = []; rows = rows }

-- a body with no object in it
abbrev flat : List Row → Together → Form
flat rows together = record { levels = outer rows ∷ []; together = together }

abbrev none_alone : Kind
none_alone = choice (codes "None" ∷ [])

-- a bucket: its numbers are below 2^48 and below 2^32
abbrev pub bucket_rows : List Row
bucket_rows =
    needed (codes "size") (whole 0 (2 ^ 48 - 1))
    ∷ needed (codes "refill_time") (whole 0 (2 ^ 32 - 1))
    ∷ optional (codes "one_time_burst") (whole 0 (2 ^ 48 - 1))
    ∷ []

-- the limits in the field of this name, and the two buckets in them
abbrev pub limiter_levels : List ℕ → List Level
limiter_levels name =
    record { place = name ∷ []; rows = optional (codes "bandwidth") group ∷ optional (codes "ops") group ∷ [] }
    ∷ record { place = name ∷ codes "bandwidth" ∷ []; rows = bucket_rows }
    ∷ record { place = name ∷ codes "ops" ∷ []; rows = bucket_rows }
    ∷ []

-- PUT /boot-source
abbrev pub boot_source : Form
boot_source = flat (
    needed (codes "kernel_image_path") path
    ∷ optional (codes "initrd_path") path
    ∷ optional (codes "boot_args") (text 2048)
    ∷ []) free

-- PUT /drives/{id}, where the body names the drive that the path does
abbrev pub drive : List ℕ → Form
drive named = record {
  levels =
      outer (
      needed (codes "drive_id") id
      ∷ needed (codes "path_on_host") path
      ∷ needed (codes "is_root_device") flag
      ∷ optional (codes "is_read_only") flag
      ∷ optional (codes "cache_type") (choice (codes "Unsafe" ∷ codes "Writeback" ∷ []))
      ∷ optional (codes "rate_limiter") group
      ∷ [])
      ∷ limiter_levels (codes "rate_limiter");
  together = naming (codes "drive_id") named;
}

-- PATCH /drives/{id}
abbrev pub drive_patch : List ℕ → Form
drive_patch named = record {
  levels =
      outer (
      needed (codes "drive_id") id
      ∷ optional (codes "path_on_host") path
      ∷ optional (codes "rate_limiter") group
      ∷ [])
      ∷ limiter_levels (codes "rate_limiter");
  together = naming (codes "drive_id") named;
}

-- PUT /network-interfaces/{id}, where the body names the interface that the path does
abbrev pub interface : List ℕ → Form
interface named = record {
  levels =
      outer (
      needed (codes "iface_id") id
      ∷ needed (codes "host_dev_name") path
      ∷ optional (codes "guest_mac") mac
      ∷ optional (codes "rx_rate_limiter") group
      ∷ optional (codes "tx_rate_limiter") group
      ∷ [])
      ∷ limiter_levels (codes "rx_rate_limiter")
      ++ limiter_levels (codes "tx_rate_limiter");
  together = naming (codes "iface_id") named;
}

-- PATCH /network-interfaces/{id}
abbrev pub interface_patch : List ℕ → Form
interface_patch named = record {
  levels =
      outer (
      needed (codes "iface_id") id
      ∷ optional (codes "rx_rate_limiter") group
      ∷ optional (codes "tx_rate_limiter") group
      ∷ [])
      ∷ limiter_levels (codes "rx_rate_limiter")
      ++ limiter_levels (codes "tx_rate_limiter");
  together = naming (codes "iface_id") named;
}

-- PUT /vsock: an id may be given, which is ignored, and is a text as long as a body may be
abbrev pub vsock : Form
vsock = flat (
    needed (codes "guest_cid") (whole 3 4294967294)
    ∷ needed (codes "uds_path") path
    ∷ optional (codes "vsock_id") (text 65536)
    ∷ []) free

-- PUT /machine-config: 1 to 32 harts, 4 to 4,096 MiB
abbrev pub machine_config : Form
machine_config = flat (
    needed (codes "vcpu_count") (whole 1 32)
    ∷ needed (codes "mem_size_mib") (whole 4 4096)
    ∷ optional (codes "smt") unset
    ∷ optional (codes "track_dirty_pages") flag
    ∷ optional (codes "cpu_template") none_alone
    ∷ optional (codes "huge_pages") none_alone
    ∷ []) free

-- PATCH /machine-config: the same fields, at least one of them
abbrev pub machine_patch : Form
machine_patch = flat (
    optional (codes "vcpu_count") (whole 1 32)
    ∷ optional (codes "mem_size_mib") (whole 4 4096)
    ∷ optional (codes "smt") unset
    ∷ optional (codes "track_dirty_pages") flag
    ∷ optional (codes "cpu_template") none_alone
    ∷ optional (codes "huge_pages") none_alone
    ∷ []) (some_of (codes "vcpu_count" ∷ codes "mem_size_mib" ∷ codes "smt"
    ∷ codes "track_dirty_pages" ∷ codes "cpu_template" ∷ codes "huge_pages" ∷ []))

-- a whole number of 64 bits
abbrev any_number : Kind
any_number = whole 0 (2 ^ 64 - 1)

-- how many seconds there are between two reports, below 2^16
abbrev seconds : Kind
seconds = whole 0 (2 ^ 16 - 1)

-- PUT /balloon: how much memory there is isn't asked here
abbrev pub balloon : Form
balloon = flat (
    needed (codes "amount_mib") any_number
    ∷ needed (codes "deflate_on_oom") flag
    ∷ optional (codes "stats_polling_interval_s") seconds
    ∷ []) free

-- PATCH /balloon
abbrev pub balloon_patch : Form
balloon_patch = flat (needed (codes "amount_mib") any_number ∷ []) free

-- PATCH /balloon/statistics
abbrev pub statistics_patch : Form
statistics_patch = flat (needed (codes "stats_polling_interval_s") seconds ∷ []) free

-- PUT /entropy
abbrev pub entropy : Form
entropy = record {
  levels = outer (optional (codes "rate_limiter") group ∷ []) ∷ limiter_levels (codes "rate_limiter");
  together = free;
}

-- PUT /mmds/config
abbrev pub mmds_config : Form
mmds_config = flat (
    needed (codes "network_interfaces") ids
    ∷ optional (codes "version") (choice (codes "V1" ∷ codes "V2" ∷ []))
    ∷ optional (codes "ipv4_address") address
    ∷ []) free

-- PUT and PATCH /mmds: of its fields nothing is asked here
abbrev pub metadata : Form
metadata = record { levels = []; together = free }

-- PUT /actions
abbrev pub action : Form
action = flat (needed (codes "action_type") (choice (codes "InstanceStart" ∷ [])) ∷ []) free

-- PATCH /vm
abbrev pub vm_state : Form
vm_state = flat (needed (codes "state") (choice (codes "Paused" ∷ codes "Resumed" ∷ [])) ∷ []) free

-- PUT /snapshot/create: the two paths differ
abbrev pub snapshot_create : Form
snapshot_create = flat (
    needed (codes "snapshot_path") path
    ∷ needed (codes "mem_file_path") path
    ∷ optional (codes "snapshot_type") (choice (codes "Full" ∷ codes "Diff" ∷ []))
    ∷ []) (differing (codes "snapshot_path") (codes "mem_file_path"))

-- PUT /snapshot/load: the memory's file is named by one of two fields
abbrev pub snapshot_load : Form
snapshot_load = record {
  levels =
      record {
        place = [];
        rows =
            needed (codes "snapshot_path") path
            ∷ optional (codes "mem_file_path") path
            ∷ optional (codes "mem_backend") group
            ∷ optional (codes "enable_diff_snapshots") flag
            ∷ optional (codes "track_dirty_pages") flag
            ∷ optional (codes "resume_vm") flag
            ∷ [];
      }
      ∷ record {
        place = codes "mem_backend" ∷ [];
        rows =
            needed (codes "backend_path") path
            ∷ needed (codes "backend_type") (choice (codes "File" ∷ []))
            ∷ [];
      }
      ∷ [];
  together = either (codes "mem_file_path") (codes "mem_backend");
}

-- by the id in the path, where it has one
abbrev pub form_of : Body → List ℕ → Form
form_of body.BootSource named = boot_source
form_of body.Drive named = drive named
form_of body.DrivePatch named = drive_patch named
form_of body.Interface named = interface named
form_of body.InterfacePatch named = interface_patch named
form_of body.Vsock named = vsock
form_of body.MachineConfig named = machine_config
form_of body.MachinePatch named = machine_patch
form_of body.Balloon named = balloon
form_of body.BalloonPatch named = balloon_patch
form_of body.StatisticsPatch named = statistics_patch
form_of body.Entropy named = entropy
form_of body.MmdsConfig named = mmds_config
form_of body.Metadata named = metadata
form_of body.MetadataPatch named = metadata
form_of body.Action named = action
form_of body.VmState named = vm_state
form_of body.SnapshotCreate named = snapshot_create
form_of body.SnapshotLoad named = snapshot_load
