-- A full snapshot and its later diffs, created by machines that run, merged by calls of the merge command, and loaded.
use Rattle.std.specs.Prelude.{◌≡◌, ◌⊎◌, ◌<◌, ◌≤◌, ℕ, ◌^◌, false, List, [], ◌∷◌, length, map, Option, Some, Ok}
use Rattle.std.specs.FinMap.{get}
use Rattle.vm_types.specs.Saved.{Saved}
use Rattle.vm_outside.specs.Calls.{FileCall}
use Rattle.http_stream.specs.declared.request.Next.{Next}
use Rattle.api_calls.specs.declared.call.SnapshotLoad.{SnapshotLoad}
use Rattle.api_calls.specs.declared.call.SnapshotType.{SnapshotType}
use Rattle.api_calls.specs.declared.call.SnapshotType.TheVariants as snapshot
use Rattle.api_calls.specs.declared.call.ApiCall.TheVariants as call
use Rattle.responses.specs.Responses.{Response}
use Rattle.guest_devices.specs.declared.device.Device.{Device}
use Rattle.flat_guest.specs.Changes.{reset_guest}
use Rattle.flat_guest.specs.Guest.{Guest}
use Rattle.flat_snapshot.specs.Copies.{IsCopyOf}
use Rattle.flat_machine.specs.Machine.{Machine, is_off, new_machine}
use Rattle.flat_machine.specs.Outcome.Outcome.{Answered}
use Rattle.flat_machine.specs.Requests.{RequestStep, allowed, decided}
use Rattle.flat_machine.specs.Run.{Act, Run}
use Rattle.flat_trace.specs.Showing as trace
use Rattle.flat_trace.specs.Showing.{Out}
use Rattle.snapshot_chain.specs.Chains.{Follows, IsInside, Saving, memory_text, state_text}
use Rattle.restored_chain.specs.Merged.{MergeCalls}

-- a run, or a trace, leads to this machine from one that had not started
abbrev pub IsLedTo : Machine → Type 0
IsLedTo m =
    (id : List ℕ) × (saved : Saved) × (calls : List FileCall) × (acts : List Act)
    × (((text : List ℕ) × Run acts (new_machine id saved calls) text m)
    ⊎ ((outs : List Out) × trace.Run acts (new_machine id saved calls) outs m))

-- A create of this type, inside an item of a run or of a trace, before which the guest is on; the machine answered it. The guest was
-- reset, and the copy of that has what was kept of its devices.
pub record IsAnswered (type : SnapshotType) (s : Saving) : Type 0 where
  pub type_is : s.asked.snapshot_type ≡ type
  pub between : Machine
  pub led : IsLedTo between
  pub on : is_off between ≡ false
  pub inside : IsInside between s.before
  pub had : Guest
  pub there : s.before.guest ≡ Some had
  pub guest_is : s.guest ≡ reset_guest had
  pub given : Next
  pub said : List Response
  pub allows : allowed s.before given ≡ Ok (call.CreateSnapshot s.asked)
  pub step : RequestStep (Answered s.copy.devices) given s.before said s.after
  pub is_copy : IsCopyOf s.before.config s.guest s.copy

-- diffs that were answered, each since the create before it, up to the last
abbrev pub AnsweredLead : Saving → List Saving → Saving → Type 0
AnsweredLead first [] last = first ≡ last
AnsweredLead first (s ∷ savings) last = IsAnswered snapshot.Diff s × Follows first s × AnsweredLead s savings last

-- A full create, and diffs since it. Calls of the merge command merged what the diffs wrote into what the full one wrote, in
-- order. A machine whose lineage has 64 bits, in whose files stand what they left, and the last create's state file, is asked to
-- load both, and answered that so, and is this machine then.
pub record IsRestored (first : Saving) (savings : List Saving) (last : Saving) (k : Machine) (load : SnapshotLoad)
    (said : List Response) (p : Machine) : Type 0 where
  pub full : IsAnswered snapshot.Full first
  pub leads : AnsweredLead first savings last
  pub few : length savings ≤ 100
  pub base : List ℕ
  pub files : List (List ℕ)
  pub base_is : memory_text first ≡ Some base
  pub files_are : map (λ s. memory_text s) savings ≡ map (λ file. Some file) files
  pub name : List ℕ
  pub left : Option (List ℕ)
  pub merges : MergeCalls name files (Some base) left
  pub lineage : k.ids.lineage < 2 ^ 64
  pub memory : get k.saved load.files.mem_file_path ≡ left
  pub state : get k.saved load.files.snapshot_path ≡ state_text last
  pub given : Next
  pub kept : List Device
  pub asks : decided k given ≡ Ok (call.LoadSnapshot load)
  pub step : RequestStep (Answered kept) given k said p
