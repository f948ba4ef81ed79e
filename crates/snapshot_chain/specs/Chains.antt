-- A full create, and diffs, each since the create before: of one machine, or of machines that loaded what was made.
use Rattle.std.specs.Prelude.{◌≡◌, ◌≢◌, ◌⊎◌, ℕ, ◌*◌, List, [], ◌∷◌, length, Option, Some}
use Rattle.std.specs.FinMap.{get}
use Rattle.vm_types.specs.declared.identity.Identity.{Identity}
use Rattle.http_stream.specs.Stream.{Connection}
use Rattle.http_stream.specs.Conversation.{ConversationFront, arrived}
use Rattle.api_calls.specs.declared.call.SnapshotCreate.{SnapshotCreate}
use Rattle.api_calls.specs.declared.call.SnapshotLoad.{SnapshotLoad}
use Rattle.api_calls.specs.declared.call.SnapshotType.{SnapshotType}
use Rattle.api_calls.specs.declared.call.SnapshotType.TheVariants as snapshot
use Rattle.guest_memory.specs.Ram.{page_size}
use Rattle.flat_guest.specs.Changes.{reset_guest}
use Rattle.flat_guest.specs.Guest.{Guest}
use Rattle.snap_diff.specs.Copies.{DiffCopy, DiffStep, MemoryCopy}
use Rattle.snap_state.specs.declared.copy.StateCopy.{StateCopy}
use Rattle.flat_snapshot.specs.Copies.{IsCopyOf}
use Rattle.flat_snapshot.specs.Files.{diff_in, memory_in}
use Rattle.flat_snapshot.specs.Found.{Snapshot}
use Rattle.flat_machine.specs.Machine.{Machine}
use Rattle.flat_machine.specs.Outcome.{Outcome}
use Rattle.flat_machine.specs.Requests.{Creates, RequestStep, carried, next_identity}
use Rattle.flat_machine.specs.Run.{Act, Run}
use Rattle.responses.specs.Responses.{Response}

-- ---- a create that was answered

-- what was asked, the machine before it and after, its guest behind the Reset, and the copy of that
pub record Saving : Type 0 where
  pub asked : SnapshotCreate
  pub before : Machine
  pub after : Machine
  pub guest : Guest
  pub copy : StateCopy

-- the identity of its snapshot
abbrev pub identity_of : Saving → Identity
identity_of s = next_identity s.before

-- It is of this type, it reset the guest that the machine had, it put the copy of that under two names, and it left the machine
-- after it. The memory is all of the copy's pages.
pub record IsSaving (type : SnapshotType) (s : Saving) : Type 0 where
  pub type_is : s.asked.snapshot_type ≡ type
  pub had : Guest
  pub there : s.before.guest ≡ Some had
  pub guest_is : s.guest ≡ reset_guest had
  pub names : s.asked.files.mem_file_path ≢ s.asked.files.snapshot_path
  pub is_copy : IsCopyOf s.before.config s.guest s.copy
  pub whole : length s.guest.memory.bytes ≡ page_size * s.copy.pages
  pub leaves : Creates s.before.guest s.before s.asked s.copy.devices s.after

-- what stands under its two names after it
abbrev pub memory_text : Saving → Option (List ℕ)
memory_text s = get s.after.saved s.asked.files.mem_file_path

abbrev pub state_text : Saving → Option (List ℕ)
state_text s = get s.after.saved s.asked.files.snapshot_path

-- the memory that it found, and the pages of it that were written since the parent
abbrev pub memory_of : Saving → MemoryCopy
memory_of s = memory_in (identity_of s) s.copy.pages s.guest

abbrev pub diff_since : Identity → Saving → DiffCopy
diff_since parent s = diff_in parent (identity_of s) s.copy.pages s.guest

-- the snapshot that it made, which a load of its files finds
abbrev pub snapshot_of : Saving → Snapshot
snapshot_of s = record { identity = identity_of s; copy = s.copy; bytes = s.guest.memory.bytes }

-- ---- several

-- a load of its snapshot left this machine: any machine's load, of its own files or of merged ones
abbrev pub IsLoaded : Saving → Machine → Type 0
IsLoaded s m = (k : Machine) × (load : SnapshotLoad) × (m ≡ carried k load (snapshot_of s))

-- the machine that it left, whose connection has what is behind the request
abbrev pub IsLeft : Saving → Machine → Type 0
IsLeft s m = (c : Connection) × (m ≡ record s.after { connection = c })

-- n is m, or m after the first requests of an item of these bytes
abbrev pub IsInside : Machine → Machine → Type 0
IsInside m n =
    (n ≡ m)
    ⊎ ((bytes : List ℕ) × (outcomes : List Outcome) × (said : List Response) × (c : Connection)
    × ConversationFront RequestStep outcomes (arrived m.connection bytes) m said c n)

-- The machine that the first left went on, or one that had loaded its snapshot, by acts and then inside an item; and that
-- snapshot is still the base at the second.
pub record Follows (first second : Saving) : Type 0 where
  pub start : Machine
  pub from : IsLeft first start ⊎ IsLoaded first start
  pub acts : List Act
  pub text : List ℕ
  pub between : Machine
  pub ran : Run acts start text between
  pub inside : IsInside between second.before
  pub base : second.before.ids.base ≡ Some (identity_of first)

-- from a create by diffs, each of which follows the one before, to the last
abbrev pub DiffsLead : Saving → List Saving → Saving → Type 0
DiffsLead first [] last = first ≡ last
DiffsLead first (s ∷ savings) last = IsSaving snapshot.Diff s × Follows first s × DiffsLead s savings last

-- each diff, and the memory that it found
abbrev pub steps_of : Saving → List Saving → List DiffStep
steps_of first [] = []
steps_of first (s ∷ savings) =
    record { diff = diff_since (identity_of first) s; after = memory_of s } ∷ steps_of s savings
