-- What a load finds in files of bytes is what they are files of.
use Rattle.std.proofs.Common.{◌≡◌, ℕ, true, refl, sym, subst, List, length, take, drop, Option, Some, None, Result, Ok, Err, if◌then◌else◌}
use Rattle.std.specs.FinMap.{get}
use Rattle.std.specs.List.{All}
use Rattle.vm_types.specs.Saved.{Saved}
use Rattle.vm_types.specs.declared.identity.Identity.{Identity}
use Rattle.refusals.specs.declared.refusal.Refusal.{Refusal}
use Rattle.refusals.specs.declared.refusal.Refusal.TheVariants as refusal
use Rattle.api_calls.specs.declared.call.SnapshotFiles.{SnapshotFiles}
use Rattle.le_fields.specs.Fields.{IsByte}
use Rattle.file_format.specs.Format.{IsBytes}
use Rattle.file_format.specs.Starts.{is_closed, is_other}
use Rattle.file_format.specs.Versions.{version_of}
use Rattle.file_format.specs.declared.version.Version.{Version}
use Rattle.snap_devices.proofs.Held.{all_of}
use Rattle.snap_diff.proofs.Tables.{bytes_behind}
use Rattle.snap_state.specs.declared.copy.StateCopy.{StateCopy}
use Rattle.snap_state.specs.declared.file.Saved as file
use Rattle.snap_state.specs.Files as state
use Rattle.snap_state.proofs.Copies.{accepted}
use Rattle.flat_snapshot.specs.Bytes.{AreBytes}
use Rattle.flat_snapshot.specs.Found.{Snapshot, found, memory_found, memory_front, state_found, state_read}
use Rattle.flat_snapshot.proofs.Finds.{both, holds, passes}

abbrev saved_of : Identity × StateCopy → file.Saved
saved_of it = record { identity = it.0; copy = it.1 }

-- a copy that a state file of bytes can have
pub record IsSpelled (it : Identity × StateCopy) : Type 0 where
  pub version : Version
  pub saved : state.IsSaved version (saved_of it)
  pub bytes : IsBytes ((state.contents version).bytes (state.contents_of version (saved_of it)))

module _ (text : List ℕ) (are : IsBytes text) (it : Identity × StateCopy) where
  state_by : (o : Option ((ℕ × (Identity × StateCopy)) × List ℕ)) → (state.contents (version_of text)).reads (drop 12 text) ≡ o
      → state_read (length (drop 12 text)) o ≡ Ok it → state.Holds (version_of text) (drop 12 text) (saved_of it)
  state_by None is found = absurd cc
  state_by (Some ((len, (i, c)), left)) is found =
      let one = holds (state.is_accepted (length (drop 12 text)) (length left) len i c) refusal.BadField (Ok (i, c)) it found in
      let same : ◌≡◌ {A = Identity × StateCopy} (i, c) it = let e = one.1 in cc in
      subst (λ (x : Identity × StateCopy). state.Holds (version_of text) (drop 12 text) (saved_of x)) same
      (accepted (version_of text) (drop 12 text) len i c left (bytes_behind 12 text are) is (length left) true refl (sym one.0) refl)

  state_spelled : state_found (Some text) ≡ Ok it → IsSpelled it
  state_spelled is =
      let late : Result (Identity × StateCopy) Refusal =
      state_read (length (drop 12 text)) ((state.contents (version_of text)).reads (drop 12 text)) in
      let one = passes (is_closed 32 text) refusal.GateClosed
      (if is_other (state.magic (version_of text)) text then Err refusal.WrongMagic else late) it is in
      let two = passes (is_other (state.magic (version_of text)) text) refusal.WrongMagic late it one.1 in
      let held = state_by ((state.contents (version_of text)).reads (drop 12 text)) refl two.1 in
      record { version = version_of text; saved = held.saved; bytes = subst IsBytes held.bytes (bytes_behind 12 text are) }

spelled_by : (o : Option (List ℕ)) (it : Identity × StateCopy) → ((text : List ℕ) → o ≡ Some text → IsBytes text)
    → state_found o ≡ Ok it → IsSpelled it
spelled_by None it are is = absurd cc
spelled_by (Some text) it are is = state_spelled text (are text refl) it is

memory_by : (i : Identity) (pages : ℕ) (o : Option (List ℕ)) (bytes : List ℕ) → ((text : List ℕ) → o ≡ Some text → IsBytes text)
    → memory_found i pages o ≡ Ok bytes → All IsByte bytes
memory_by i pages None bytes are is = absurd cc
memory_by i pages (Some text) bytes are is =
    let one = both (memory_front i pages (length text) (take 4096 text)) (λ _. Ok (drop 4096 text)) bytes is in
    let same : drop 4096 text ≡ bytes = let e = one.2 in cc in
    subst (All IsByte) same (all_of (drop 4096 text) (bytes_behind 4096 text (are text refl)))

-- both files
pub record IsFound (it : Snapshot) : Type 0 where
  pub state : IsSpelled (it.identity, it.copy)
  pub bytes : All IsByte it.bytes

pub found_saved : (saved : Saved) (files : SnapshotFiles) (it : Snapshot) → AreBytes saved → found saved files ≡ Ok it → IsFound it
unfolding found
found_saved saved files it are is =
    let one = both (state_found (get saved files.snapshot_path)) _ it is in
    let two = both (memory_found one.0.0 one.0.1.pages (get saved files.mem_file_path)) _ it one.2 in
    let made : Snapshot = record { identity = one.0.0; copy = one.0.1; bytes = two.0 } in
    let same : made ≡ it = let e = two.2 in cc in
    subst IsFound same
    (record {
      state = spelled_by (get saved files.snapshot_path) one.0 (are files.snapshot_path) one.1;
      bytes = memory_by one.0.0 one.0.1.pages (get saved files.mem_file_path) two.0 (are files.mem_file_path) two.1;
    })
