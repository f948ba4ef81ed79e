-- What a plan is of the machine, and what it leaves.
use Rattle.std.specs.Prelude.{◌≡◌, ◌≢◌, ◌<◌, ◌⊎◌, ◌+◌, ◌^◌, ℕ, List, ◌++◌, length, Bool, true, false, not}
use Rattle.std.specs.Prelude.{Option, Some, None, is_none, is_some, Ok, Err}
use Rattle.std.specs.FinMap.{get}
use Rattle.serde_json.specs.Data.{Data, null}
use Rattle.vm_outside.specs.Known.{FilesKnown}
use Rattle.http_stream.specs.declared.request.Next.{Next}
use Rattle.api_calls.specs.declared.call.Drive.{Drive}
use Rattle.api_calls.specs.declared.interface.Interface.{Interface}
use Rattle.api_calls.specs.declared.call.SnapshotCreate.{SnapshotCreate}
use Rattle.api_calls.specs.declared.call.SnapshotFiles.{SnapshotFiles}
use Rattle.api_calls.specs.declared.call.SnapshotLoad.{SnapshotLoad}
use Rattle.api_calls.specs.declared.call.VmState.TheVariants.{Paused, Resumed}
use Rattle.metadata_store.specs.Store.{patched, put}
use Rattle.vm_config.specs.declared.config.Phase.{Phase}
use Rattle.vm_config.specs.declared.config.Phase.TheVariants as phase
use Rattle.api_calls.specs.declared.call.ApiCall.{ApiCall}
use Rattle.api_calls.specs.declared.call.ApiCall.TheVariants as call
use Rattle.api_rules.specs.Table.{changed, reads_files, takes_memory}
use Rattle.vm_config.specs.Drives.{device_of, put_drive}
use Rattle.vm_config.specs.Interfaces.{put_interface}
use Rattle.vm_config.specs.Texts.{Told}
use Rattle.api_rules.specs.declared.answer.Answer.{Answer}
use Rattle.api_rules.specs.Ids.{based, spent}
use Rattle.api_rules.specs.declared.ids.Ids.{Ids}
use Rattle.timer_trace.specs.States.{new_timer}
use Rattle.guest_devices.specs.declared.device.Device.{Device}
use Rattle.flat_guest.specs.Changes.{reset_guest}
use Rattle.flat_guest.specs.Guest.{Guest}
use Rattle.flat_guest.specs.Start.{started}
use Rattle.file_format.specs.Versions.{current_version}
use Rattle.snap_state.specs.declared.copy.StateCopy.{StateCopy}
use Rattle.snap_state.specs.Files.{IsSaved}
use Rattle.flat_snapshot.specs.Copies.{IsCopyOf}
use Rattle.flat_snapshot.specs.Files.{head_of, saved_pages, state_body}
use Rattle.snap_writer.specs.Selected.{can_select, selected}
use Rattle.flat_snapshot.specs.Found.{Snapshot, found}
use Rattle.responses.specs.declared.form.ResponseForm.{ResponseForm}
use Rattle.responses.specs.Responses.{Response, written_as}
use Rattle.flat_machine.specs.Limits.{limits_told}
use Rattle.flat_machine.specs.Machine.{Machine}
use Rattle.flat_machine.specs.Ready.{IsFitting}
use Rattle.flat_machine.specs.Requests.{allowed, decided, devices_from, disk_of, image_of, loads_from, next_identity, parent_in, sectors_of}
use Rattle.vm_world.specs.Worlds.{IsWorld, WorldValue}
use Rattle.create_end.specs.Saved.{IsSavedWorld}
use Rattle.monitor_plans.specs.declared.creating.Creation.{Creation}
use Rattle.monitor_plans.specs.declared.drive_changes.Resize.{Resize}
use Rattle.monitor_plans.specs.declared.restoring.Restored.{Restored}
use Rattle.monitor_plans.specs.declared.plan.Plan.{Plan}
use Rattle.monitor_plans.specs.declared.plan.Plan.TheVariants as plan
use Rattle.monitor_plans.specs.declared.plan.Task.{Task}
use Rattle.monitor_plans.specs.declared.plan.Task.TheVariants as task
use Rattle.monitor_plans.specs.Headings.{numbers_in}
use Rattle.monitor_plans.specs.Plans.{IsEarly, KeepsReady, plan_answer}
use Rattle.monitor_plans.specs.Restoring.{GoesOn}
use Rattle.monitor_machine.specs.declared.machine.LiveMachine.{LiveMachine}
use Rattle.monitor_machine.specs.Telling.{Relimits, Resizes, TellsChange, TellsOwn, statistics_in}
use Rattle.monitor_machine.specs.declared.outcome.Outcome.{Outcome}
use Rattle.monitor_machine.specs.declared.outcome.Outcome.TheVariants.{Answered, Failed, NoMemory}

abbrev pub phase_by : Option WorldValue → Bool → Phase
phase_by None paused = phase.NotStarted
phase_by (Some w) false = phase.Running
phase_by (Some w) true = phase.Paused

abbrev pub phase_of : LiveMachine → Phase
phase_of live = phase_by live.guest live.paused

-- a call that neither makes a guest, nor reads or writes a file, nor stores metadata, nor puts a drive or an interface
abbrev pub is_plain : ApiCall → Bool
is_plain (call.PutDrive drive) = false
is_plain (call.PatchDrive patch) = is_none patch.path_on_host
is_plain (call.PutInterface interface) = false
is_plain (call.PutMetadata body) = false
is_plain (call.PatchMetadata patch) = false
is_plain call.InstanceStart = false
is_plain (call.CreateSnapshot it) = false
is_plain (call.LoadSnapshot load) = false
is_plain it = true

-- a create of the machine's guest is due, and this is what it writes, with this kept of the devices
pub record IsCreate (c : Creation) (m : Machine) (given : Next) (kept : List Device) : Type 0 where
  pub it : SnapshotCreate
  pub asks : decided m given ≡ Ok (call.CreateSnapshot it)
  pub names_is : c.names ≡ it.files
  pub guest : Guest
  pub there : m.guest ≡ Some guest
  pub copy : StateCopy
  pub copied : IsCopyOf m.config (reset_guest guest) copy
  pub kept_is : copy.devices ≡ kept
  pub saved : IsSaved current_version (record { identity = next_identity m; copy = copy })
  pub identity_is : c.identity ≡ next_identity m
  pub next_is : c.next ≡ m.ids.next + 1
  pub head_is : c.head ≡ head_of (parent_in m it) (next_identity m) copy.pages guest
  pub pages_are :
      selected (numbers_in c.numbers) guest.memory.bytes ≡ saved_pages (parent_in m it) copy.pages guest
  pub body_is : c.body ≡ state_body (next_identity m) copy

-- the machine goes on from what it loads
pub record IsRestore (r : Restored) (m : Machine) (given : Next) : Type 0 where
  pub load : SnapshotLoad
  pub asks : allowed m given ≡ Ok (call.LoadSnapshot load)
  pub it : Snapshot
  pub there : found m.saved load.files ≡ Ok it
  pub goes_on : GoesOn r load.track_dirty_pages it
  pub resumes_is : r.resumes ≡ load.resume_vm

-- a drive has another file, which is there
pub record IsAnotherFile (r : Resize) (m : Machine) (given : Next) : Type 0 where
  pub asks : allowed m given ≡ Ok (call.PatchDrive r.patch)
  pub path : List ℕ
  pub path_is : r.patch.path_on_host ≡ Some path
  pub device_is : r.device ≡ device_of m.config.drives r.patch.drive_id
  pub sectors_is : r.sectors ≡ sectors_of (get m.saved path)

-- what a call stores is this
abbrev pub IsKept : Data → Machine → ApiCall → Type 0
IsKept kept m (call.PutMetadata body) = put body ≡ Ok kept
IsKept kept m (call.PatchMetadata patch) = patched m.metadata patch ≡ Ok kept
IsKept kept m it = ⊥

-- the plan is what the machine does where that is due; where a call on the files failed, a call of the API that reads them was due
abbrev pub IsPlan : Plan → Machine → Next → Type 0
IsPlan (plan.Refused why) m given = allowed m given ≡ Err why
IsPlan (plan.Changes it) m given = (allowed m given ≡ Ok it) × (is_plain it ≡ true)
IsPlan (plan.Drives drives) m given =
    (drive : Drive) × (allowed m given ≡ Ok (call.PutDrive drive)) × (drives ≡ put_drive m.config.drives drive)
IsPlan (plan.Interfaces interfaces) m given =
    (interface : Interface) × (allowed m given ≡ Ok (call.PutInterface interface))
    × (interfaces ≡ put_interface m.config.interfaces interface)
IsPlan (plan.Resizes r) m given = IsAnotherFile r m given
IsPlan (plan.Stores kept) m given = (it : ApiCall) × (allowed m given ≡ Ok it) × IsKept kept m it
IsPlan (plan.Starts w) m given =
    (allowed m given ≡ Ok call.InstanceStart) × (image : List ℕ) × (image_of m ≡ Some image)
    × IsWorld w (started m.config.machine.vcpu_count m.config.machine.mem_size_mib (loads_from m.config image (disk_of m))
    (devices_from m.config m.saved))
IsPlan (plan.Restores r) m given = IsRestore r m given
IsPlan plan.FilesFailed m given = (it : ApiCall) × (decided m given ≡ Ok it) × (reads_files it ≡ true)
IsPlan plan.NoMemory m given = Unit {0}

abbrev pub IsTask : Task → Machine → Next → List Device → Type 0
IsTask (task.Plan it) m given kept = IsPlan it m given
IsTask (task.Create c) m given kept = IsCreate c m given kept

-- the two files of a create have names of their own
abbrev pub HasTwoNames : SnapshotFiles → Type 0
HasTwoNames names = names.mem_file_path ≢ names.snapshot_path

abbrev pub HasTwoFiles : ApiCall → Type 0
HasTwoFiles (call.CreateSnapshot it) = HasTwoNames it.files
HasTwoFiles it = Unit {0}

-- a create is of a guest that is there
abbrev pub HasGuest : ApiCall → Option WorldValue → Type 0
HasGuest (call.CreateSnapshot it) world = is_some world ≡ true
HasGuest it world = Unit {0}

-- and has a number that files can have
abbrev pub HasNumber : ApiCall → Ids → Type 0
HasNumber (call.CreateSnapshot it) ids = ids.next < 2 ^ 63
HasNumber it ids = Unit {0}

-- what is known of a call that the machine allows: it leaves what is configured as the API takes it, and comes at its
-- time; and a create has a guest, two files and a number
pub record IsDue (live : LiveMachine) (it : ApiCall) : Type 0 where
  pub fits : IsFitting live.config it
  pub early : IsEarly it live.guest
  pub guest : HasGuest it live.guest
  pub two : HasTwoFiles it
  pub number : HasNumber it live.ids

-- a machine that is ready stays so by it; a create has the next number
abbrev pub TaskKeepsReady : Task → LiveMachine → Type 0
TaskKeepsReady (task.Plan it) live = KeepsReady it live.config live.guest
TaskKeepsReady (task.Create c) live = (c.identity.number ≡ live.ids.next) × (c.next ≡ c.identity.number + 1)

-- there is a world, and it has the pages that a create writes
abbrev pub HasPages : Option WorldValue → Creation → Type 0
HasPages None c = ⊥
HasPages (Some w) c = can_select (numbers_in c.numbers) (length w.pages) ≡ true

-- a create that is to be written can be
abbrev pub IsReady : Task → Option WorldValue → Type 0
IsReady (task.Plan it) world = Unit {0}
IsReady (task.Create c) world = HasTwoNames c.names × HasPages world c

-- a plan for which no file was called, or that no call on the files failed
abbrev pub CallsNone : Task → ℕ → ℕ → Type 0
CallsNone (task.Plan it) before now = now ≡ before
CallsNone (task.Create c) before now = ⊥

-- for a create no file is called before its own calls
abbrev pub CallsLater : Task → FilesKnown → FilesKnown → Type 0
CallsLater (task.Plan it) before now = Unit {0}
CallsLater (task.Create c) before now = now ≡ before

-- what it answers, and whether the connection ends with that
abbrev pub told_of : LiveMachine → Told
told_of live = record {
  id = live.id;
  phase = phase_of live;
  config = live.config;
  metadata = live.metadata;
  statistics = statistics_in live.config live.guest;
}

abbrev pub answer_of : Plan → LiveMachine → Answer
answer_of it live = plan_answer it (told_of live)

abbrev pub plan_response : Plan → Bool → LiveMachine → Response
plan_response it closes live = record { answer = answer_of it live; closes = closes }

abbrev pub plan_outcome : Plan → Outcome
plan_outcome (plan.Refused why) = Answered
plan_outcome (plan.Changes it) = Answered
plan_outcome (plan.Drives drives) = Answered
plan_outcome (plan.Interfaces interfaces) = Answered
plan_outcome (plan.Resizes r) = Answered
plan_outcome (plan.Stores kept) = Answered
plan_outcome (plan.Starts w) = Answered
plan_outcome (plan.Restores r) = Answered
plan_outcome plan.FilesFailed = Failed
plan_outcome plan.NoMemory = NoMemory

-- whether the guest stands still after a call
abbrev pub paused_by : ApiCall → Bool → Bool
paused_by (call.PatchVm Paused) paused = true
paused_by (call.PatchVm Resumed) paused = false
paused_by it paused = paused

-- a world that is to stand still: one that ran begins its timer anew
abbrev pub halted_world : Bool → Option WorldValue → Option WorldValue
halted_world true world = world
halted_world false None = None
halted_world false (Some w) = Some (record w { timer = new_timer })

abbrev pub world_by : ApiCall → Bool → Option WorldValue → Option WorldValue
world_by (call.PatchVm Paused) paused world = halted_world paused world
world_by it paused world = world

-- and what it leaves, but for a call that tells devices, or another file of a drive
abbrev pub plan_after : Plan → LiveMachine → LiveMachine
plan_after (plan.Drives drives) live =
    record live { config = record live.config { drives = drives; configured = true } }
plan_after (plan.Interfaces interfaces) live =
    record live { config = record live.config { interfaces = interfaces; configured = true } }
plan_after (plan.Stores kept) live = record live { metadata = kept }
plan_after (plan.Starts w) live =
    record live { config = changed live.config call.InstanceStart; guest = Some w; paused = false }
plan_after (plan.Restores r) live =
    record live {
      ids = based r.identity r.next live.ids;
      config = r.config;
      metadata = null;
      guest = Some r.guest;
      paused = not r.resumes;
    }
plan_after it live = live

-- what becomes of the machine by a call that asks no file
pub record TakesChange (it : ApiCall) (live after : LiveMachine) : Type 0 where
  pub world : TellsChange it live.config (world_by it live.paused live.guest) after.guest
  pub rest :
      after ≡ record live {
        config = changed live.config it;
        guest = after.guest;
        paused = paused_by it live.paused;
      }

-- and where a drive has another file, and perhaps other limits
pub record TakesFile (r : Resize) (live after : LiveMachine) : Type 0 where
  pub mid : Option WorldValue
  pub world : Resizes r.device r.sectors live.guest mid
  pub limits : Relimits limits_told r.patch.rate_limiter r.device mid after.guest
  pub rest :
      after ≡ record live { config = changed live.config (call.PatchDrive r.patch); guest = after.guest }

-- A plan leaves this. A call that takes memory is none of a plan.
abbrev pub PlanLeaves : Plan → LiveMachine → LiveMachine → Type 0
PlanLeaves (plan.Changes it) live after = takes_memory it ≡ false → TakesChange it live after
PlanLeaves (plan.Resizes r) live after = TakesFile r live after
PlanLeaves it live after = after ≡ plan_after it live

-- what is left where a snapshot was written, and where a call on the files failed: its number is spent
abbrev pub IsCreated : Creation → LiveMachine → LiveMachine → Type 0
IsCreated c live after =
    IsSavedWorld live.guest after.guest
    × (after ≡ record live { ids = based c.identity c.next live.ids; guest = after.guest })

abbrev pub failed_after : Creation → LiveMachine → LiveMachine
failed_after c live = record live { ids = spent c.next live.ids }

-- The plan's response, or where there was no memory for it the one that says so, came behind the text, and what it says
-- is done.
pub record Answers (form : ResponseForm) (it : Plan) (closes : Bool) (how : Outcome) (live after : LiveMachine)
    (text written : List ℕ) : Type 0 where
  pub done : Plan
  pub which : (done ≡ it) ⊎ (done ≡ plan.NoMemory)
  pub how_is : how ≡ plan_outcome done
  pub writes : written ≡ text ++ written_as form (plan_response done closes live)
  pub tells : TellsOwn live
  pub leaves : PlanLeaves done live after
