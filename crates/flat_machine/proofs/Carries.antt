-- The files of a create are loaded as the machine of its copy.
use Rattle.std.proofs.Common.{◌≡◌, ◌≢◌, ◌*◌, ap, subst, ◌∙◌, length, Option, Some, None, Result, Ok}
use Rattle.vm_types.specs.Saved.{Saved}
use Rattle.refusals.specs.declared.refusal.Refusal.{Refusal}
use Rattle.api_calls.specs.declared.call.SnapshotFiles.{SnapshotFiles}
use Rattle.api_calls.specs.declared.call.SnapshotCreate.{SnapshotCreate}
use Rattle.api_calls.specs.declared.call.SnapshotType.{SnapshotType}
use Rattle.api_calls.specs.declared.call.SnapshotType.TheVariants as snapshot
use Rattle.vm_types.specs.declared.identity.Identity.{Identity}
use Rattle.api_calls.specs.declared.call.SnapshotLoad.{SnapshotLoad}
use Rattle.api_calls.specs.declared.call.ApiCall.TheVariants as call
use Rattle.guest_memory.specs.Ram.{page_size}
use Rattle.flat_guest.specs.Changes.{reset_guest}
use Rattle.flat_guest.specs.Guest.{Guest}
use Rattle.snap_state.specs.declared.copy.StateCopy.{StateCopy}
use Rattle.file_format.specs.Versions.{current_version}
use Rattle.snap_state.specs.Files.{IsSaved}
use Rattle.flat_snapshot.specs.Copies.{IsCopyOf}
use Rattle.flat_snapshot.specs.Found.{Snapshot, found}
use Rattle.flat_snapshot.proofs.Copied.{same_copy}
use Rattle.flat_snapshot.proofs.Loaded.{found_again}
use Rattle.flat_machine.specs.Machine.{Machine}
use Rattle.flat_machine.specs.Requests.{Creates, CreatesOf, Leaves, Restores, carried, created, next_identity, parent_in, parent_of}
use Rattle.flat_machine.proofs.Fields.{new_fits}

-- a create of this copy leaves what it makes of it, as no other copy of the guest has these devices
pub created_is : (m n : Machine) (g : Guest) (it : SnapshotCreate) (copy : StateCopy) → m.guest ≡ Some g
    → IsCopyOf m.config (reset_guest g) copy → Creates m.guest m it copy.devices n
    → n ≡ created m (reset_guest g) it.files (parent_in m it) copy
created_is m n g it copy there of creates =
    let made : CreatesOf (reset_guest g) m it copy.devices n = subst (λ (o : Option Guest). Creates o m it copy.devices n) there creates in
    made.4
    ∙ ap (λ (c : StateCopy). created m (reset_guest g) it.files (parent_in m it) c)
    (same_copy m.config (reset_guest g) made.0 copy made.2 made.1 of)

-- and a state file can have it
pub saved_is : (m n : Machine) (g : Guest) (it : SnapshotCreate) (copy : StateCopy) → m.guest ≡ Some g
    → IsCopyOf m.config (reset_guest g) copy → Creates m.guest m it copy.devices n
    → IsSaved current_version (record { identity = next_identity m; copy = copy })
saved_is m n g it copy there of creates =
    let made : CreatesOf (reset_guest g) m it copy.devices n = subst (λ (o : Option Guest). Creates o m it copy.devices n) there creates in
    subst (λ (c : StateCopy). IsSaved current_version (record { identity = next_identity m; copy = c }))
    (same_copy m.config (reset_guest g) made.0 copy made.2 made.1 of) made.3

module _ (m n k : Machine) (g : Guest) (it : SnapshotCreate) (load : SnapshotLoad) (copy : StateCopy) (full : it.snapshot_type ≡ snapshot.Full)
    (there : m.guest ≡ Some g) (differ : it.files.mem_file_path ≢ it.files.snapshot_path) (of : IsCopyOf m.config (reset_guest g) copy)
    (whole : length g.memory.bytes ≡ page_size * copy.pages) (creates : Creates m.guest m it copy.devices n) (names : load.files ≡ it.files)
    (same : k.saved ≡ n.saved) where
  abbrev snapshot_of : Snapshot
  snapshot_of = record { identity = next_identity m; copy = copy; bytes = g.memory.bytes }

  since : parent_in m it ≡ None
  since = ap (λ (t : SnapshotType). parent_of t m.ids.base) full

  left : n ≡ created m (reset_guest g) it.files None copy
  left =
      created_is m n g it copy there of creates
      ∙ ap (λ (parent : Option Identity). created m (reset_guest g) it.files parent copy) since

  pub finds_of : found k.saved load.files ≡ Ok snapshot_of
  finds_of =
      ap (λ (f : SnapshotFiles). found k.saved f) names
      ∙ ap (λ (s : Saved). found s it.files) (same ∙ ap (λ (q : Machine). q.saved) left)
      ∙ found_again m.saved it.files (next_identity m) copy g.memory.bytes differ (saved_is m n g it copy there of creates)
      (new_fits (next_identity m) copy (saved_is m n g it copy there of creates)) whole

  pub loaded_of : (p : Machine) → Leaves k (call.LoadSnapshot load) p → p ≡ carried k load snapshot_of
  loaded_of p loads = subst (λ (r : Result Snapshot Refusal). Restores r k load p) finds_of loads
