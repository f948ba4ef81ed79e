-- What the flat machine makes of a request.
use Rattle.std.specs.Prelude.{ℕ, ◌≡◌, ◌≢◌, ◌<◌, ◌+◌, ◌/◌, ◌%◌, ◌^◌, Bool, true, false, not, if◌then◌else◌, List, [], ◌∷◌, ◌++◌, length, map, take}
use Rattle.std.specs.Prelude.{replicate, Option, Some, None, is_some, option_and_then, option_map, Result, Ok, Err, slice_get}
use Rattle.std.specs.List.{list_all}
use Rattle.std.specs.FinMap.{get, insert}
use Rattle.vm_types.specs.declared.identity.Identity.{Identity}
use Rattle.vm_outside.specs.Calls.{FileCall}
use Rattle.vm_types.specs.Saved.{Saved}
use Rattle.refusals.specs.declared.refusal.Refusal.{Refusal}
use Rattle.refusals.specs.declared.refusal.Refusal.TheVariants as refusal
use Rattle.serde_json.specs.Data.{Data, null}
use Rattle.http_stream.specs.declared.request.Next.{Next}
use Rattle.http_stream.specs.declared.request.Next.TheVariants as next
use Rattle.api_calls.specs.declared.balloon.Balloon.{Balloon}
use Rattle.api_calls.specs.declared.balloon.BalloonPatch.{BalloonPatch}
use Rattle.api_calls.specs.declared.balloon.StatisticsPatch.{StatisticsPatch}
use Rattle.api_calls.specs.declared.call.BootSource.{BootSource}
use Rattle.api_calls.specs.declared.call.CacheType.{CacheType}
use Rattle.api_calls.specs.declared.call.CacheType.TheVariants as cache
use Rattle.api_calls.specs.declared.call.Drive.{Drive}
use Rattle.api_calls.specs.declared.call.DrivePatch.{DrivePatch}
use Rattle.api_calls.specs.declared.call.SnapshotFiles.{SnapshotFiles}
use Rattle.api_calls.specs.declared.call.SnapshotCreate.{SnapshotCreate}
use Rattle.api_calls.specs.declared.call.SnapshotType.{SnapshotType}
use Rattle.api_calls.specs.declared.call.SnapshotType.TheVariants as snapshot
use Rattle.api_calls.specs.declared.call.SnapshotLoad.{SnapshotLoad}
use Rattle.api_calls.specs.declared.call.VmState.TheVariants.{Paused, Resumed}
use Rattle.api_calls.specs.declared.interface.InterfacePatch.{InterfacePatch}
use Rattle.api_calls.specs.declared.limiter.Limiter.{Limiter}
use Rattle.api_calls.specs.Call.{call_of, ◌>>=◌}
use Rattle.metadata_store.specs.Store.{patched, put}
use Rattle.vm_config.specs.declared.config.Config.{Config}
use Rattle.api_calls.specs.declared.call.ApiCall.{ApiCall}
use Rattle.api_calls.specs.declared.call.ApiCall.TheVariants as call
use Rattle.vm_config.specs.Changes.{with_amount, with_interval}
use Rattle.vm_config.specs.Devices.{Configured, balloon_device, devices_of, interface_device, of_balloon, of_drive, of_entropy, of_interface, of_vsock}
use Rattle.vm_config.specs.Drives.{device_of}
use Rattle.vm_config.specs.Texts.{Told}
use Rattle.api_rules.specs.declared.answer.Answer.{Answer}
use Rattle.api_rules.specs.Answers.{accepted, refused}
use Rattle.api_rules.specs.Ids.{based, spent}
use Rattle.api_rules.specs.declared.actions.InitrdFile.{InitrdFile}
use Rattle.api_rules.specs.declared.actions.InitrdFile.TheVariants as initrd
use Rattle.api_rules.specs.Table.{boot_refusal, changed, decision, unless}
use Rattle.guest_memory.specs.Boot.{Loads, initrd_start}
use Rattle.devtree.specs.declared.machine.InitrdPlace.{InitrdPlace}
use Rattle.devtree.specs.Machine.{tree_bytes}
use Rattle.responses.specs.Responses.{Response}
use Rattle.port_table.specs.declared.state.PortState.{PortState}
use Rattle.guest_devices.specs.declared.change.DeviceChange.{DeviceChange}
use Rattle.guest_devices.specs.declared.device.Device.{Device}
use Rattle.guest_devices.specs.declared.new_device.NewDevice.{NewDevice}
use Rattle.guest_devices.specs.declared.new_device.NewDevice.TheVariants as kinds
use Rattle.guest_devices.specs.Kinds.{sectors_change}
use Rattle.guest_devices.specs.Ports.{shown_by}
use Rattle.flat_guest.specs.Changes.{reset_guest, told}
use Rattle.flat_guest.specs.Guest.{Guest, unwritten}
use Rattle.flat_guest.specs.Start.{started, timer_restarted}
use Rattle.snap_state.specs.declared.copy.StateCopy.{StateCopy}
use Rattle.snap_state.specs.Files.{IsSaved}
use Rattle.snap_state.specs.Sections.{entropy_in}
use Rattle.file_format.specs.Versions.{current_version}
use Rattle.flat_snapshot.specs.Carried.{carried_config, carried_guest}
use Rattle.flat_snapshot.specs.Copies.{IsCopyOf}
use Rattle.flat_snapshot.specs.Files.{calls_of, head_of, saved_pages, state_file}
use Rattle.flat_snapshot.specs.Found.{Snapshot, found}
use Rattle.flat_machine.specs.Entropy.{new_entropy}
use Rattle.flat_machine.specs.Balloon.{TellsBalloon, interval_told, new_balloon, target_in}
use Rattle.flat_machine.specs.Interfaces.{new_net}
use Rattle.flat_machine.specs.Vsock.{new_vsock}
use Rattle.flat_machine.specs.Limits.{limits_of, limits_told, receives_told, transmits_told}
use Rattle.flat_machine.specs.Outcome.{Left, Outcome, nothing_left}
use Rattle.flat_machine.specs.Outcome.Outcome.{Answered, Failed, NoMemory}
use Rattle.flat_machine.specs.Machine.{Machine, phase_of}

-- ---- which call is allowed

-- what is due asks for this call, or is refused: by its bytes, as a call, and by the machine
abbrev pub decided : Machine → Next → Result ApiCall Refusal
decided m (next.Request request) = do
  it ← call_of request
  decision (phase_of m) m.config m.ids it
decided m (next.Bad why) = Err why
decided m next.None = Err refusal.BadHead

-- the bytes of the kernel image: of the file under the configured path, if there are both
abbrev pub image_by : Option BootSource → Saved → Option (List ℕ)
image_by None saved = None
image_by (Some source) saved = get saved source.kernel_image_path

abbrev pub image_of : Machine → Option (List ℕ)
image_of m = image_by m.config.boot_source m.saved

-- the name of the initial RAM disk, if one is configured, and what the files have under it
abbrev pub initrd_name : Option BootSource → Option (List ℕ)
initrd_name None = None
initrd_name (Some source) = source.initrd_path

abbrev pub file_with : Option ℕ → InitrdFile
file_with None = initrd.Missing
file_with (Some len) = initrd.There len

abbrev pub file_by : Option (List ℕ) → Saved → InitrdFile
file_by None saved = initrd.Unnamed
file_by (Some name) saved = file_with (option_map length (get saved name))

abbrev pub disk_by : Option (List ℕ) → Saved → Option (List ℕ)
disk_by name saved = option_and_then (get saved) name

abbrev pub disk_of : Machine → Option (List ℕ)
disk_of m = disk_by (initrd_name m.config.boot_source) m.saved

-- there is a file for each drive
abbrev pub have_files : List Drive → Saved → Bool
have_files drives saved = list_all (λ (d : Drive). is_some (get saved d.path_on_host)) drives

-- what a start is refused by the files
abbrev pub start_refusal : Config → Saved → Option Refusal
start_refusal config saved =
    boot_refusal config (option_map length (image_by config.boot_source saved)) (file_by (initrd_name config.boot_source) saved)
    (have_files config.drives saved)

-- what another file for a drive is refused
abbrev pub file_refusal : Option (List ℕ) → Saved → Option Refusal
file_refusal None saved = None
file_refusal (Some path) saved = if is_some (get saved path) then None else Some refusal.NoSuchFile

-- a start, a load and another file for a drive are also refused by the files, which they alone ask, and what is put into the
-- metadata or merged into them by these
abbrev pub by_contents : Machine → ApiCall → Result ApiCall Refusal
by_contents m call.InstanceStart = unless (start_refusal m.config m.saved) (Ok call.InstanceStart)
by_contents m (call.LoadSnapshot load) = do
  _ ← found m.saved load.files
  Ok (call.LoadSnapshot load)
by_contents m (call.PatchDrive patch) =
    unless (file_refusal patch.path_on_host m.saved) (Ok (call.PatchDrive patch))
by_contents m (call.PutMetadata body) = do
  _ ← put body
  Ok (call.PutMetadata body)
by_contents m (call.PatchMetadata patch) = do
  _ ← patched m.metadata patch
  Ok (call.PatchMetadata patch)
by_contents m it = Ok it

abbrev pub allowed : Machine → Next → Result ApiCall Refusal
allowed m given = do
  it ← decided m given
  by_contents m it

-- what there is to tell of this machine
pub record TellsOf (m : Machine) (told : Told) : Type 0 where
  pub id_is : told.id ≡ m.id
  pub phase_is : told.phase ≡ phase_of m
  pub config_is : told.config ≡ m.config
  pub metadata_is : told.metadata ≡ m.metadata
  pub statistics_is : TellsBalloon m.guest (balloon_device m.config) told.statistics

abbrev pub AnswersBy : Machine → Result ApiCall Refusal → Answer → Type 0
AnswersBy m (Ok it) answer = (told : Told) × TellsOf m told × (answer ≡ accepted it told)
AnswersBy m (Err why) answer = answer ≡ refused why

-- ---- what a call leaves

-- what was configured after it
abbrev pub configured : Machine → ApiCall → Machine
configured m it = record m { config = changed m.config it }

-- where the initial RAM disk stands, if there is one
abbrev pub initrd_place : ℕ → Option (List ℕ) → Option InitrdPlace
initrd_place mib None = None
initrd_place mib (Some disk) = Some (record {
  start = initrd_start mib (length disk);
  end = initrd_start mib (length disk) + length disk;
})

-- what it loads: the image, the disk, and the device tree that says where the disk is
abbrev pub loads_from : Config → List ℕ → Option (List ℕ) → Loads
loads_from config image disk = record {
  image = image;
  initrd = disk;
  tree = tree_bytes config (initrd_place config.machine.mem_size_mib disk);
}

-- how many whole sectors of 512 bytes a file has: the capacity has 64 bits (VIRTIO 1.2, 5.2.4)
abbrev pub sectors_of : Option (List ℕ) → ℕ
sectors_of None = 0
sectors_of (Some bytes) = length bytes / 512 % 2 ^ 64

-- what GET_ID gives of a drive: its id, cut or with zeros behind it (VIRTIO 1.2, 5.2.6)
abbrev pub id_bytes : List ℕ → List ℕ
id_bytes id = take 20 (id ++ replicate 20 0)

-- its driver may ask that what it wrote is flushed
abbrev pub is_writeback : CacheType → Bool
is_writeback cache.Unsafe = false
is_writeback cache.Writeback = true

-- what a start makes of a drive, by the file under its name: a block device
abbrev pub drive_from : Saved → Drive → NewDevice
drive_from saved d = kinds.Block (record {
  drive_id = id_bytes d.drive_id;
  sectors = sectors_of (get saved d.path_on_host);
  is_read_only = d.is_read_only;
  offers_flush = is_writeback d.cache_type;
  limits = limits_of d.rate_limiter;
})

-- the devices by their numbers
abbrev pub device_from : Saved → Configured → NewDevice
device_from saved (of_drive d) = drive_from saved d
device_from saved (of_interface i) = kinds.Net (new_net i)
device_from saved (of_vsock v) = kinds.Vsock (new_vsock v)
device_from saved (of_balloon b) = kinds.Balloon (new_balloon b)
device_from saved (of_entropy e) = kinds.Entropy (new_entropy e)

abbrev pub devices_from : Config → Saved → List NewDevice
devices_from config saved = map (device_from saved) (devices_of config)

-- a start makes the guest of what it loads and of the devices, which runs
abbrev pub started_from : Option (List ℕ) → Option (List ℕ) → Machine → Machine
started_from (Some image) disk m =
    record m {
      guest = Some (started m.config.machine.vcpu_count m.config.machine.mem_size_mib (loads_from m.config image disk)
          (devices_from m.config m.saved));
      paused = false;
    }
started_from None disk m = m

-- the device of this number is told of a change in a guest that has started, if there are both, and its port shows what this
-- makes of it
abbrev pub told_at : Option ℕ → DeviceChange → (Option PortState → Option (List ℕ)) → Option Guest → Option Guest
told_at (Some k) change shows (Some g) = Some (told k change (shows (slice_get g.ports k)) g)
told_at number change shows guest = guest

-- what a change shows of itself, whatever the port
abbrev pub shows_by : DeviceChange → Option PortState → Option (List ℕ)
shows_by change port = shown_by change

-- a device whose drive has another file is told its size in sectors of 512 bytes
abbrev pub resized : Option (List ℕ) → Option ℕ → Saved → Option Guest → Option Guest
resized None number saved guest = guest
resized (Some path) number saved guest =
    told_at number (sectors_change (sectors_of (get saved path))) (shows_by (sectors_change (sectors_of (get saved path)))) guest

-- and one that has other limits is told so of their buckets
abbrev pub relimited : (Limiter → DeviceChange) → Option Limiter → Option ℕ → Option Guest → Option Guest
relimited tells None number guest = guest
relimited tells (Some l) number guest = told_at number (tells l) (shows_by (tells l)) guest

abbrev pub patched_drive : Machine → DrivePatch → Machine
patched_drive m patch = record m {
  guest =
      relimited limits_told patch.rate_limiter (device_of m.config.drives patch.drive_id)
      (resized patch.path_on_host (device_of m.config.drives patch.drive_id) m.saved m.guest);
}

-- the device of an interface is told of the limits of what it receives, and then of what it transmits
abbrev pub patched_interface : Machine → InterfacePatch → Machine
patched_interface m patch = record m {
  guest =
      relimited transmits_told patch.tx_rate_limiter (interface_device m.config patch.iface_id)
      (relimited receives_told patch.rx_rate_limiter (interface_device m.config patch.iface_id) m.guest);
}

-- a balloon that is to take so much is told so by its port, whether or not it took as much before
abbrev pub retargeted : Option Balloon → Option ℕ → Option Guest → Option Guest
retargeted None number guest = guest
retargeted (Some b) number guest = told_at number (interval_told b) (target_in b) guest

abbrev pub patched_balloon : Machine → BalloonPatch → Machine
patched_balloon m patch =
    record m { guest = retargeted (with_amount patch m.config.balloon) (balloon_device m.config) m.guest }

-- and one that has another interval of its reports, of that
abbrev pub retimed : Option Balloon → Option ℕ → Option Guest → Option Guest
retimed None number guest = guest
retimed (Some b) number guest = told_at number (interval_told b) (shows_by (interval_told b)) guest

abbrev pub patched_statistics : Machine → StatisticsPatch → Machine
patched_statistics m patch =
    record m { guest = retimed (with_interval patch m.config.balloon) (balloon_device m.config) m.guest }

-- a guest that is to stand still: one that ran begins its timer anew
abbrev pub halted : Bool → Option Guest → Option Guest
halted true guest = guest
halted false None = None
halted false (Some g) = Some (timer_restarted g)

-- the identity of the next snapshot
abbrev pub next_identity : Machine → Identity
next_identity m = record { lineage = m.ids.lineage; number = m.ids.next }

-- a diff is one since the base
abbrev pub parent_of : SnapshotType → Option Identity → Option Identity
parent_of snapshot.Full base = None
parent_of snapshot.Diff base = base

abbrev pub parent_in : Machine → SnapshotCreate → Option Identity
parent_in m it = parent_of it.snapshot_type m.ids.base

-- A create of this copy of a guest, since the parent if there is one: the files hold it, its calls were made, it is the
-- base from now on, and no page was written since.
abbrev pub created : Machine → Guest → SnapshotFiles → Option Identity → StateCopy → Machine
created m g files parent copy = record m {
  saved = insert (insert m.saved files.mem_file_path
      (1 ∷ head_of parent (next_identity m) copy.pages g ++ saved_pages parent copy.pages g))
      files.snapshot_path (state_file (next_identity m) copy);
  calls = m.calls ++ calls_of files.mem_file_path files.snapshot_path parent (next_identity m) copy g;
  ids = based (next_identity m) (m.ids.next + 1) m.ids;
  guest = Some (unwritten g);
}

-- of a copy of the guest, which has these devices, and which a state file can have under the next identity
abbrev pub CreatesOf : Guest → Machine → SnapshotCreate → List Device → Machine → Type 0
CreatesOf g m it kept n =
    (copy : StateCopy) × IsCopyOf m.config g copy × (copy.devices ≡ kept)
    × IsSaved current_version (record { identity = next_identity m; copy = copy })
    × (n ≡ created m g it.files (parent_in m it) copy)

-- The machine's guest is reset first, and so it is copied, and goes on.
abbrev pub Creates : Option Guest → Machine → SnapshotCreate → List Device → Machine → Type 0
Creates None m it kept n = (kept ≡ []) × (n ≡ m)
Creates (Some g) m it kept n = CreatesOf (reset_guest g) m it kept n

-- A load of this snapshot: its guest goes on, or stands still; the machine keeps its id, its lineage, its connection and
-- its files. Whether dirty pages are tracked is said by the load. A snapshot has no metadata.
abbrev pub carried : Machine → SnapshotLoad → Snapshot → Machine
carried m load it = record m {
  ids = based it.identity (it.identity.number + 1) m.ids;
  config = carried_config load.track_dirty_pages it.copy.configuration (entropy_in it.copy.sections);
  metadata = null;
  guest = Some (carried_guest it.copy it.bytes);
  paused = not load.resume_vm;
}

abbrev pub Restores : Result Snapshot Refusal → Machine → SnapshotLoad → Machine → Type 0
Restores (Ok it) m load n = n ≡ carried m load it
Restores (Err why) m load n = n ≡ m

-- these are the metadata from now on
abbrev pub Stores : Result Data Refusal → Machine → Machine → Type 0
Stores (Ok kept) m n = n ≡ record m { metadata = kept }
Stores (Err why) m n = n ≡ m

-- An allowed call leaves n of m: for most of them, what is configured after it.
abbrev pub Leaves : Machine → ApiCall → Machine → Type 0
Leaves m (call.PatchDrive patch) n = n ≡ configured (patched_drive m patch) (call.PatchDrive patch)
Leaves m (call.PatchInterface patch) n = n ≡ configured (patched_interface m patch) (call.PatchInterface patch)
Leaves m (call.PatchBalloon patch) n = n ≡ configured (patched_balloon m patch) (call.PatchBalloon patch)
Leaves m (call.PatchStatistics patch) n = n ≡ configured (patched_statistics m patch) (call.PatchStatistics patch)
Leaves m (call.PutMetadata body) n = Stores (put body) m n
Leaves m (call.PatchMetadata patch) n = Stores (patched m.metadata patch) m n
Leaves m call.InstanceStart n = n ≡ configured (started_from (image_of m) (disk_of m) m) call.InstanceStart
Leaves m (call.PatchVm Paused) n = n ≡ record m { guest = halted m.paused m.guest; paused = true }
Leaves m (call.PatchVm Resumed) n = n ≡ record m { paused = false }
Leaves m (call.CreateSnapshot it) n = (kept : List Device) × Creates m.guest m it kept n
Leaves m (call.LoadSnapshot load) n = Restores (found m.saved load.files) m load n
Leaves m (call.Get part) n = n ≡ m
Leaves m it n = n ≡ configured m it

-- A refused call changes nothing. What is kept of the devices is told of a snapshot that is written, and nothing is kept else.
abbrev pub LeavesBy : Machine → Result ApiCall Refusal → List Device → Machine → Type 0
LeavesBy m (Ok (call.CreateSnapshot it)) kept n = Creates m.guest m it kept n
LeavesBy m (Ok it) kept n = (kept ≡ []) × Leaves m it n
LeavesBy m (Err why) kept n = (kept ≡ []) × (n ≡ m)

-- ---- what it leaves where a call on the files failed

-- the calls of a create of this copy of a guest, in their order
abbrev pub calls_in : Machine → Guest → SnapshotCreate → StateCopy → List FileCall
calls_in m g it copy =
    calls_of it.files.mem_file_path it.files.snapshot_path (parent_in m it) (next_identity m) copy g

-- A create of such a copy of the guest as it is behind a Reset, which has these devices: so many of its calls were begun, and not
-- all. Its two names hold what is left under them, and each other name what it held. Its number is spent, the pages that were
-- written stay so, and the guest was not reset.
pub record IsCutShort (g : Guest) (m : Machine) (it : SnapshotCreate) (left : Left) (n : Machine) : Type 0 where
  pub copy : StateCopy
  pub is_copy : IsCopyOf m.config (reset_guest g) copy
  pub tells : copy.devices ≡ left.kept
  pub saved : IsSaved current_version (record { identity = next_identity m; copy = copy })
  pub lacks : left.begun < length (calls_in m (reset_guest g) it copy)
  pub begun : n.calls ≡ m.calls ++ take left.begun (calls_in m (reset_guest g) it copy)
  pub memory : get n.saved it.files.mem_file_path ≡ left.memory
  pub state : get n.saved it.files.snapshot_path ≡ left.state
  pub others : (name : List ℕ) → name ≢ it.files.mem_file_path → name ≢ it.files.snapshot_path
      → get n.saved name ≡ get m.saved name
  pub leaves : n ≡ record m { saved = n.saved; calls = n.calls; ids = spent (m.ids.next + 1) m.ids }

abbrev pub CreateFails : Option Guest → Machine → SnapshotCreate → Left → Machine → Type 0
CreateFails None m it left n = ⊥
CreateFails (Some g) m it left n = IsCutShort g m it left n

-- a start, a load or another file for a drive changes nothing; no other call asks the files
abbrev pub Fails : Machine → ApiCall → Left → Machine → Type 0
Fails m (call.PatchDrive patch) left n =
    (path : List ℕ) × (patch.path_on_host ≡ Some path) × (left ≡ nothing_left) × (n ≡ m)
Fails m call.InstanceStart left n = (left ≡ nothing_left) × (n ≡ m)
Fails m (call.LoadSnapshot load) left n = (left ≡ nothing_left) × (n ≡ m)
Fails m (call.CreateSnapshot it) left n = CreateFails m.guest m it left n
Fails m it left n = ⊥

-- ---- what is due

-- the connection ends with the answer to bytes that are no request
abbrev pub closes : Next → Bool
closes (next.Bad why) = true
closes given = false

abbrev pub respond : Next → Answer → List Response
respond given answer = record { answer = answer; closes = closes given } ∷ []

abbrev pub Responds : Machine → Next → List Response → Type 0
Responds m given responses =
    (answer : Answer) × AnswersBy m (allowed m given) answer × (responses ≡ respond given answer)

-- What is answered and left where something is due, by how it went: answered by the machine; 500 where a call on the
-- files failed; 503 where there was no memory, which changes nothing.
abbrev pub RequestStep : Outcome → Next → Machine → List Response → Machine → Type 0
RequestStep (Answered kept) given m responses n =
    Responds m given responses × LeavesBy m (allowed m given) kept n
RequestStep (Failed left) given m responses n =
    (it : ApiCall) × (decided m given ≡ Ok it) × Fails m it left n
    × (responses ≡ respond given (refused refusal.OutsideFailed))
RequestStep NoMemory given m responses n = (responses ≡ respond given (refused refusal.OutOfMemory)) × (n ≡ m)
