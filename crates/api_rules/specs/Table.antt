-- Which calls are allowed, and what they change: the API's table, row by row, without the checks of bodies, which come before.
use Rattle.std.specs.Prelude.{ℕ, ◌^◌, ◌==◌, nat_le, nat_lt, Bool, true, false, not, ◌&&◌, ◌||◌, if◌then◌else◌, List, [], ◌∷◌, Option, Some, None, is_none, is_some, Result, Ok, Err}
use Rattle.std.specs.List.{list_all, list_any}
use Rattle.guest_memory.specs.Boot.{loads_fit}
use Rattle.refusals.specs.declared.refusal.Refusal.{Refusal}
use Rattle.refusals.specs.declared.refusal.Refusal.TheVariants as refusal
use Rattle.api_calls.specs.declared.balloon.Balloon.{Balloon}
use Rattle.api_calls.specs.declared.balloon.BalloonPatch.{BalloonPatch}
use Rattle.api_calls.specs.declared.balloon.StatisticsPatch.{StatisticsPatch}
use Rattle.api_calls.specs.declared.call.ApiCall.{ApiCall}
use Rattle.api_calls.specs.declared.call.ApiCall.TheVariants as call
use Rattle.api_calls.specs.declared.call.SnapshotType.{SnapshotType}
use Rattle.api_calls.specs.declared.call.SnapshotType.TheVariants as snapshot
use Rattle.api_calls.specs.declared.call.Drive.{Drive}
use Rattle.api_calls.specs.declared.call.DrivePatch.{DrivePatch}
use Rattle.api_calls.specs.declared.call.Part.{Part}
use Rattle.api_calls.specs.declared.call.Part.TheVariants as tells
use Rattle.api_calls.specs.declared.interface.Interface.{Interface}
use Rattle.api_calls.specs.declared.interface.InterfacePatch.{InterfacePatch}
use Rattle.api_calls.specs.declared.mmds.MmdsConfig.{MmdsConfig}
use Rattle.vm_config.specs.Changes.{with_amount, with_fields, with_interval}
use Rattle.vm_config.specs.Devices.{device_count}
use Rattle.vm_config.specs.Drives.{has_drive, is_named, is_root, patch_drive, put_drive}
use Rattle.vm_config.specs.Interfaces.{has_interface, patch_interface, put_interface}
use Rattle.vm_config.specs.declared.config.Config.{Config}
use Rattle.vm_config.specs.declared.config.Phase.{Phase}
use Rattle.vm_config.specs.declared.config.Phase.TheVariants as phase
use Rattle.api_rules.specs.declared.deciding.When.{When}
use Rattle.api_rules.specs.declared.deciding.When.TheVariants.{BeforeBoot, AfterBoot, Always}
use Rattle.api_rules.specs.declared.actions.InitrdFile.{InitrdFile}
use Rattle.api_rules.specs.declared.actions.InitrdFile.TheVariants as initrd
use Rattle.api_rules.specs.declared.ids.Ids.{Ids}

-- ---- the phase

-- a balloon tells its statistics once it runs
abbrev pub when_told : Part → When
when_told tells.Instance = Always
when_told tells.Version = Always
when_told tells.MachineConfig = Always
when_told tells.Metadata = Always
when_told tells.VmConfig = Always
when_told tells.Balloon = Always
when_told tells.Statistics = AfterBoot

abbrev pub has_started : Phase → Bool
has_started phase.NotStarted = false
has_started phase.Running = true
has_started phase.Paused = true

abbrev pub is_paused : Phase → Bool
is_paused phase.NotStarted = false
is_paused phase.Running = false
is_paused phase.Paused = true

abbrev pub misplaced : When → Phase → Option Refusal
misplaced BeforeBoot p = if has_started p then Some refusal.OnlyBeforeBoot else None
misplaced AfterBoot p = if has_started p then None else Some refusal.OnlyAfterBoot
misplaced Always p = None

-- ---- a call's own refusals: a test and its refusal, one for each row, in order

abbrev pub Rows : Type 0
Rows = List (Bool × Refusal)

-- another drive than this one is the root drive
abbrev pub has_other_root : Config → Drive → Bool
has_other_root config drive = list_any (λ d. is_root d && not (is_named drive.drive_id d)) config.drives

-- a machine has 16 devices at most
abbrev pub has_no_room : Config → Bool
has_no_room config = nat_le 16 (device_count config)

abbrev pub drive_rows : Config → Drive → Rows
drive_rows config drive =
    (is_root drive && has_other_root config drive, refusal.SecondRootDrive)
    ∷ (not (has_drive config.drives drive.drive_id) && has_no_room config, refusal.TooManyDevices)
    ∷ []

abbrev pub drive_patch_rows : Config → DrivePatch → Rows
drive_patch_rows config patch = (not (has_drive config.drives patch.drive_id), refusal.NoSuchId) ∷ []

abbrev pub interface_rows : Config → Interface → Rows
interface_rows config interface =
    (not (has_interface config.interfaces interface.iface_id) && has_no_room config, refusal.TooManyDevices) ∷ []

abbrev pub interface_patch_rows : Config → InterfacePatch → Rows
interface_patch_rows config patch = (not (has_interface config.interfaces patch.iface_id), refusal.NoSuchId) ∷ []

-- a machine has one at most
abbrev pub vsock_rows : Config → Rows
vsock_rows config = (is_none config.vsock && has_no_room config, refusal.TooManyDevices) ∷ []

abbrev pub entropy_rows : Config → Rows
entropy_rows config = (is_none config.entropy && has_no_room config, refusal.TooManyDevices) ∷ []

-- a guest gives what it has at most
abbrev pub is_beyond : ℕ → ℕ → Bool
is_beyond mib amount = nat_lt mib amount

-- the memory that is configured is no less than what the balloon is to take
abbrev pub amount_of : Option Balloon → ℕ
amount_of None = 0
amount_of (Some b) = b.amount_mib

abbrev pub memory_rows : Config → ℕ → Rows
memory_rows config mib = (is_beyond mib (amount_of config.balloon), refusal.OutOfRange) ∷ []

abbrev pub balloon_rows : Config → Balloon → Rows
balloon_rows config balloon =
    (is_beyond config.machine.mem_size_mib balloon.amount_mib, refusal.OutOfRange)
    ∷ (is_none config.balloon && has_no_room config, refusal.TooManyDevices)
    ∷ []

abbrev pub balloon_patch_rows : Config → BalloonPatch → Rows
balloon_patch_rows config patch =
    (is_none config.balloon, refusal.NoSuchId)
    ∷ (is_beyond config.machine.mem_size_mib patch.amount_mib, refusal.OutOfRange)
    ∷ []

-- reports are on where there are seconds between them
abbrev pub interval_of : Option Balloon → ℕ
interval_of None = 0
interval_of (Some b) = b.stats_polling_interval_s

abbrev pub is_on : ℕ → Bool
is_on seconds = not (seconds == 0)

-- they are neither switched on nor off
abbrev pub switches : ℕ → ℕ → Bool
switches old new = (is_on old && not (is_on new)) || (is_on new && not (is_on old))

abbrev pub statistics_patch_rows : Config → StatisticsPatch → Rows
statistics_patch_rows config patch =
    (is_none config.balloon, refusal.NoSuchId)
    ∷ (switches (interval_of config.balloon) patch.stats_polling_interval_s, refusal.StatisticsOff)
    ∷ []

abbrev pub told_rows : Config → Part → Rows
told_rows config tells.Instance = []
told_rows config tells.Version = []
told_rows config tells.MachineConfig = []
told_rows config tells.Metadata = []
told_rows config tells.VmConfig = []
told_rows config tells.Balloon = (is_none config.balloon, refusal.NoSuchId) ∷ []
told_rows config tells.Statistics =
    (is_none config.balloon, refusal.NoSuchId)
    ∷ (not (is_on (interval_of config.balloon)), refusal.StatisticsOff)
    ∷ []

-- metadata are given at interfaces that are there
abbrev pub mmds_rows : Config → MmdsConfig → Rows
mmds_rows config mmds = (not (list_all (has_interface config.interfaces) mmds.network_interfaces), refusal.NoSuchId) ∷ []

abbrev pub start_rows : Config → Rows
start_rows config = (is_none config.boot_source, refusal.NoBootSource) ∷ []

abbrev pub is_diff : SnapshotType → Bool
is_diff snapshot.Full = false
is_diff snapshot.Diff = true

-- a diff needs pages that are tracked and a snapshot that it is a diff of; a number of a snapshot is below 2^63
abbrev pub create_rows : Phase → Config → Ids → SnapshotType → Rows
create_rows p config ids type =
    (not (is_paused p), refusal.NotPaused)
    ∷ (is_diff type && not config.machine.track_dirty_pages, refusal.NotTracked)
    ∷ (is_diff type && is_none ids.base, refusal.NoBase)
    ∷ (nat_le (2 ^ 63) ids.next, refusal.NoSlotLeft)
    ∷ []

abbrev pub load_rows : Config → Rows
load_rows config = (config.configured, refusal.AlreadyConfigured) ∷ []

abbrev pub first_refusal : Rows → Option Refusal
first_refusal [] = None
first_refusal (row ∷ rows) = if row.0 then Some row.1 else first_refusal rows

-- ---- the table

-- A row: when a call is allowed; its own refusals, in their order, by the phase, by what is configured and by the snapshots that are
-- known; whether it reads files, and whether it writes the two of a snapshot; and what is configured after it. What is allowed only
-- before boot makes it configured, and what was configured before is replaced. The metadata are no part of it.
pub record Row : Type 0 where
  pub when : When
  pub refusals : Phase → Config → Ids → Rows
  pub reads : Bool
  pub writes : Bool
  pub leaves : Config → Config

abbrev pub row : ApiCall → Row
-- PUT /boot-source
row (call.PutBootSource source) = record {
  when = BeforeBoot;
  refusals = λ p config ids. [];
  reads = false;
  writes = false;
  leaves = λ config. record config { boot_source = Some source; configured = true };
}
-- PUT /drives/{id}
row (call.PutDrive drive) = record {
  when = BeforeBoot;
  refusals = λ p config ids. drive_rows config drive;
  reads = false;
  writes = false;
  leaves = λ config. record config { drives = put_drive config.drives drive; configured = true };
}
-- PATCH /drives/{id}
row (call.PatchDrive patch) = record {
  when = AfterBoot;
  refusals = λ p config ids. drive_patch_rows config patch;
  reads = is_some patch.path_on_host;
  writes = false;
  leaves = λ config. record config { drives = patch_drive config.drives patch };
}
-- PUT /network-interfaces/{id}
row (call.PutInterface interface) = record {
  when = BeforeBoot;
  refusals = λ p config ids. interface_rows config interface;
  reads = false;
  writes = false;
  leaves = λ config. record config { interfaces = put_interface config.interfaces interface; configured = true };
}
-- PATCH /network-interfaces/{id}
row (call.PatchInterface patch) = record {
  when = AfterBoot;
  refusals = λ p config ids. interface_patch_rows config patch;
  reads = false;
  writes = false;
  leaves = λ config. record config { interfaces = patch_interface config.interfaces patch };
}
-- PUT /vsock
row (call.PutVsock vsock) = record {
  when = BeforeBoot;
  refusals = λ p config ids. vsock_rows config;
  reads = false;
  writes = false;
  leaves = λ config. record config { vsock = Some vsock; configured = true };
}
-- PUT /machine-config
row (call.PutMachineConfig machine) = record {
  when = BeforeBoot;
  refusals = λ p config ids. memory_rows config machine.mem_size_mib;
  reads = false;
  writes = false;
  leaves = λ config. record config { machine = machine; configured = true };
}
-- PATCH /machine-config
row (call.PatchMachineConfig patch) = record {
  when = BeforeBoot;
  refusals = λ p config ids. memory_rows config (with_fields patch config.machine).mem_size_mib;
  reads = false;
  writes = false;
  leaves = λ config. record config { machine = with_fields patch config.machine; configured = true };
}
-- PUT /balloon
row (call.PutBalloon balloon) = record {
  when = BeforeBoot;
  refusals = λ p config ids. balloon_rows config balloon;
  reads = false;
  writes = false;
  leaves = λ config. record config { balloon = Some balloon; configured = true };
}
-- PATCH /balloon
row (call.PatchBalloon patch) = record {
  when = AfterBoot;
  refusals = λ p config ids. balloon_patch_rows config patch;
  reads = false;
  writes = false;
  leaves = λ config. record config { balloon = with_amount patch config.balloon };
}
-- PATCH /balloon/statistics
row (call.PatchStatistics patch) = record {
  when = AfterBoot;
  refusals = λ p config ids. statistics_patch_rows config patch;
  reads = false;
  writes = false;
  leaves = λ config. record config { balloon = with_interval patch config.balloon };
}
-- PUT /entropy
row (call.PutEntropy entropy) = record {
  when = BeforeBoot;
  refusals = λ p config ids. entropy_rows config;
  reads = false;
  writes = false;
  leaves = λ config. record config { entropy = Some entropy; configured = true };
}
-- PUT /mmds/config
row (call.PutMmdsConfig mmds) = record {
  when = BeforeBoot;
  refusals = λ p config ids. mmds_rows config mmds;
  reads = false;
  writes = false;
  leaves = λ config. record config { mmds = Some mmds; configured = true };
}
-- PUT /mmds
row (call.PutMetadata body) = record {
  when = Always;
  refusals = λ p config ids. [];
  reads = false;
  writes = false;
  leaves = λ config. config;
}
-- PATCH /mmds
row (call.PatchMetadata patch) = record {
  when = Always;
  refusals = λ p config ids. [];
  reads = false;
  writes = false;
  leaves = λ config. config;
}
-- PUT /actions
row call.InstanceStart = record {
  when = BeforeBoot;
  refusals = λ p config ids. start_rows config;
  reads = true;
  writes = false;
  leaves = λ config. record config { configured = true };
}
-- PATCH /vm
row (call.PatchVm state) = record {
  when = AfterBoot;
  refusals = λ p config ids. [];
  reads = false;
  writes = false;
  leaves = λ config. config;
}
-- PUT /snapshot/create
row (call.CreateSnapshot it) = record {
  when = AfterBoot;
  refusals = λ p config ids. create_rows p config ids it.snapshot_type;
  reads = false;
  writes = true;
  leaves = λ config. config;
}
-- PUT /snapshot/load
row (call.LoadSnapshot load) = record {
  when = BeforeBoot;
  refusals = λ p config ids. load_rows config;
  reads = true;
  writes = false;
  leaves = λ config. record config { configured = true };
}
-- GET of a part
row (call.Get part) = record {
  when = when_told part;
  refusals = λ p config ids. told_rows config part;
  reads = false;
  writes = false;
  leaves = λ config. config;
}

abbrev pub when_allowed : ApiCall → When
when_allowed c = (row c).when

abbrev pub own_refusal : Phase → Config → Ids → ApiCall → Option Refusal
own_refusal p config ids c = first_refusal ((row c).refusals p config ids)

abbrev pub changed : Config → ApiCall → Config
changed config c = (row c).leaves config

-- it reads files, and leaves them as they are
abbrev pub reads_files : ApiCall → Bool
reads_files c = (row c).reads

-- it reads or writes files
abbrev pub needs_files : ApiCall → Bool
needs_files c = (row c).writes || (row c).reads

-- only one drive or one interface more takes memory: all else that a call gives is moved
abbrev pub takes_memory : ApiCall → Bool
takes_memory (call.PutDrive drive) = true
takes_memory (call.PutInterface interface) = true
takes_memory it = false

-- ---- the decision

-- the first that is there refuses
abbrev pub unless : Option Refusal → Result ApiCall Refusal → Result ApiCall Refusal
unless None due = due
unless (Some why) due = Err why

-- by the phase, then by the call's own refusals
abbrev pub decision : Phase → Config → Ids → ApiCall → Result ApiCall Refusal
decision p config ids c = unless (misplaced (when_allowed c) p) (unless (own_refusal p config ids c) (Ok c))

-- ---- what an allowed start is refused by the files, where image is how many bytes its kernel image has, and
-- ---- has_drive_files is whether each drive has its file

abbrev pub is_missing : InitrdFile → Bool
is_missing initrd.Unnamed = false
is_missing initrd.Missing = true
is_missing (initrd.There len) = false

abbrev pub len_of : InitrdFile → Option ℕ
len_of initrd.Unnamed = None
len_of initrd.Missing = None
len_of (initrd.There len) = Some len

abbrev pub fits_by : Option ℕ → InitrdFile → ℕ → Bool
fits_by None file mib = true
fits_by (Some len) file mib = loads_fit mib len (len_of file)

abbrev pub boot_rows : Config → Option ℕ → InitrdFile → Bool → Rows
boot_rows config image file has_drive_files =
    (is_none image, refusal.NoSuchFile)
    ∷ (is_missing file, refusal.NoSuchFile)
    ∷ (not has_drive_files, refusal.NoSuchFile)
    ∷ (not (fits_by image file config.machine.mem_size_mib), refusal.DoesNotFit)
    ∷ []

abbrev pub boot_refusal : Config → Option ℕ → InitrdFile → Bool → Option Refusal
boot_refusal config image file has_drive_files = first_refusal (boot_rows config image file has_drive_files)
