-- A load of an unfinished merge is refused.
use Rattle.std.proofs.Common.{◌≡◌, ℕ, ◌==◌, ◌&&◌, ◌*◌, ◌+◌, Bool, cond, not, List, [], take, drop, Option, Some, Result, Ok, Err, sym, ◌∙◌, ap, append-nil}
use Rattle.std.specs.FinMap.{get}
use Rattle.std.proofs.lemmas.Bool.{ne_eqb}
use Rattle.std.proofs.lemmas.List.{take_at}
use Rattle.std.specs.Prelude.{length}
use Rattle.vm_types.specs.Saved.{Saved}
use Rattle.vm_types.specs.declared.identity.Identity.{Identity}
use Rattle.refusals.specs.declared.refusal.Refusal.{Refusal}
use Rattle.refusals.specs.declared.refusal.Refusal.TheVariants as refusal
use Rattle.api_calls.specs.declared.call.SnapshotFiles.{SnapshotFiles}
use Rattle.api_calls.specs.Call.{◌>>=◌}
use Rattle.file_format.specs.Identities.{is_same}
use Rattle.file_format.specs.Starts.{is_other}
use Rattle.snap_memory.specs.Headers as memory
use Rattle.snap_memory.proofs.Fronts as fronts
use Rattle.snap_state.specs.declared.copy.StateCopy.{StateCopy}
use Rattle.snapshot_merge.specs.Stops.{IsUnfinished}
use Rattle.flat_snapshot.specs.Found.{found, memory_found, memory_front, memory_judged, memory_read, state_found}

module _ (text : List ℕ) (u : IsUnfinished text) (i : Identity) (pages : ℕ) where
  abbrev front : List ℕ
  front = take 4096 text

  front_is : front ≡ memory.header.bytes u.head
  front_is = ap (take 4096) u.holds.bytes ∙ take_at (memory.header.bytes u.head) u.copy.bytes 4096 (fronts.length-header u.head u.holds.fits)

  begins : memory.Begins front u.head
  begins = record { fits = u.holds.fits; valid = u.holds.valid; pages = []; bytes = front_is ∙ sym (append-nil (memory.header.bytes u.head)) }

  judged : memory_judged i pages (length text) u.head ≡ Err refusal.MergeUnfinished
  judged =
      ap (λ (b : Bool). cond (not b) (Err refusal.MergeUnfinished) (cond (not ((u.head.pages == pages) && (length text == 4096 + 4096 * pages))) (Err refusal.SizesDiffer)
      (cond (not (is_same (memory.identity_of u.head) i)) (Err refusal.ParentDiffers) (Ok tt)))) (ne_eqb u.head.merging 0 u.begun)

  front_refused : memory_front i pages (length text) front ≡ Err refusal.MergeUnfinished
  front_refused =
      ap (λ (b : Bool). cond b (Err refusal.GateClosed) (cond (is_other memory.magic front) (Err refusal.WrongMagic) (memory_read i pages (length text) (memory.header.reads front)))) (fronts.opened front u.head begins)
      ∙ ap (λ (b : Bool). cond b (Err refusal.WrongMagic) (memory_read i pages (length text) (memory.header.reads front))) (fronts.known front u.head begins)
      ∙ ap (memory_read i pages (length text)) (ap memory.header.reads begins.bytes ∙ memory.header.again u.head begins.pages begins.fits)
      ∙ ap (λ (b : Bool). cond b (memory_judged i pages (length text) u.head) (Err refusal.BadField)) begins.valid
      ∙ judged

  memory_refused : memory_found i pages (Some text) ≡ Err refusal.MergeUnfinished
  memory_refused = ap (λ (r : Result (Unit {0}) Refusal). r >>= (λ _. Ok (drop 4096 text))) front_refused

pub load_refused : (saved : Saved) (files : SnapshotFiles) (text : List ℕ) (state : Identity × StateCopy) → state_found (get saved files.snapshot_path) ≡ Ok state
    → get saved files.mem_file_path ≡ Some text → IsUnfinished text → found saved files ≡ Err refusal.MergeUnfinished
unfolding found
load_refused saved files text state one there u =
    ap (λ (r : Result (Identity × StateCopy) Refusal). r >>= (λ (s : Identity × StateCopy). memory_found s.0 s.1.pages (get saved files.mem_file_path) >>= (λ (bytes : List ℕ). Ok (record { identity = s.0; copy = s.1; bytes = bytes })))) one
    ∙ ap (λ (o : Option (List ℕ)). memory_found state.0 state.1.pages o >>= (λ (bytes : List ℕ). Ok (record { identity = state.0; copy = state.1; bytes = bytes }))) there
    ∙ ap (λ (r : Result (List ℕ) Refusal). r >>= (λ (bytes : List ℕ). Ok (record { identity = state.0; copy = state.1; bytes = bytes }))) (memory_refused text u state.0 state.1.pages)
