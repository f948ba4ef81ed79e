-- What is merged in order is loaded as the last machine.
use Rattle.std.proofs.Common.{◌≡◌, ℕ, ◌+◌, ◌≤◌, List, [], ◌∷◌, length, map, Option, Some, Result, Ok, refl, sym, ap, subst, ◌∙◌, arith}
use Rattle.std.specs.FinMap.{get}
use Rattle.vm_types.specs.Saved.{Saved}
use Rattle.vm_types.specs.declared.identity.Identity.{Identity}
use Rattle.refusals.specs.declared.refusal.Refusal.{Refusal}
use Rattle.http_stream.specs.declared.request.Next.{Next}
use Rattle.api_calls.specs.Call.{◌>>=◌}
use Rattle.api_calls.specs.declared.call.SnapshotFiles.{SnapshotFiles}
use Rattle.api_calls.specs.declared.call.SnapshotLoad.{SnapshotLoad}
use Rattle.api_calls.specs.declared.call.SnapshotType.{SnapshotType}
use Rattle.api_calls.specs.declared.call.SnapshotType.TheVariants as snapshot
use Rattle.api_calls.specs.declared.call.ApiCall.{ApiCall}
use Rattle.api_calls.specs.declared.call.ApiCall.TheVariants as call
use Rattle.snap_memory.specs.declared.header.MemHeader.{MemHeader}
use Rattle.snap_memory.specs.Headers as memory
use Rattle.snap_diff.specs.Copies.{DiffCopy, JoinAll, MemoryCopy, overlaid_all}
use Rattle.snap_diff.specs.Diffs.{IsDiffFile}
use Rattle.snap_diff.proofs.Overlays.{make_last}
use Rattle.snapshot_merge.specs.InOrder.{AreDiffFiles, MergeAll}
use Rattle.snapshot_merge.specs.Memories.{IsMemoryFile}
use Rattle.snapshot_merge.specs.Merges.{open_slots}
use Rattle.snapshot_merge.proofs.InOrder.{all_merged, some_merged}
use Rattle.flat_snapshot.specs.Files.{diff_file, memory_file, state_file}
use Rattle.flat_snapshot.specs.Found.{Snapshot, found}
use Rattle.flat_snapshot.proofs.Loaded.{created, found_in}
use Rattle.flat_machine.specs.Machine.{Machine}
use Rattle.flat_machine.specs.Requests.{Leaves, Restores, allowed, by_contents, carried, decided}
use Rattle.snapshot_chain.specs.Chains.{DiffsLead, IsSaving, Saving, diff_since, identity_of, memory_of, memory_text, snapshot_of, state_text, steps_of}
use Rattle.snapshot_chain.proofs.Created.{copy_saved, diff_is_file, diff_text, full_file, full_text, is_other, lead, state_is}

-- ---- the files of the diffs

some_same : (a b : List ℕ) → Some a ≡ Some b → a ≡ b
some_same a b is = cc

heads_same : (a b : Option (List ℕ)) (xs ys : List (Option (List ℕ))) → a ∷ xs ≡ b ∷ ys → a ≡ b
heads_same a b xs ys is = cc

tails_same : (a b : Option (List ℕ)) (xs ys : List (Option (List ℕ))) → a ∷ xs ≡ b ∷ ys → xs ≡ ys
tails_same a b xs ys is = cc

abbrev diffs_in : Saving → List Saving → List DiffCopy
diffs_in first savings = map (λ step. step.diff) (steps_of first savings)

pub are_files : (type : SnapshotType) (first last : Saving) (savings : List Saving) (files : List (List ℕ)) → IsSaving type first → DiffsLead first savings last
    → map (λ s. memory_text s) savings ≡ map (λ file. Some file) files → AreDiffFiles files (diffs_in first savings)
are_files type first last [] [] of led texts = tt
are_files type first last [] (file ∷ files) of led texts = absurd cc
are_files type first last (s ∷ savings) [] of led texts = absurd cc
are_files type first last (s ∷ savings) (file ∷ files) of (is, follows, rest) texts =
    let parent : Identity = identity_of first in
    let base = follows.base in
    let own = copy_saved type first of in
    let fits = own.fits.1.0 in
    let other = is_other type first s of is follows in
    let text = diff_text s parent is base fits own.numbered other in
    let same : diff_file (diff_since parent s) ≡ file =
    some_same (diff_file (diff_since parent s)) file (sym text ∙ heads_same (memory_text s) (Some file) (map (λ s. memory_text s) savings) (map (λ file. Some file) files) texts) in (
      subst (λ (t : List ℕ). IsDiffFile t (diff_since parent s)) same (diff_is_file s parent is base fits own.numbered other),
      are_files snapshot.Diff s last savings files is rest (tails_same (memory_text s) (Some file) (map (λ s. memory_text s) savings) (map (λ file. Some file) files) texts),
    )

as_many : (first : Saving) (savings : List Saving) → length (diffs_in first savings) ≡ length savings
as_many first [] = refl
as_many first (s ∷ savings) = omega (arith, as_many s savings)

last_type : (type : SnapshotType) (first last : Saving) (savings : List Saving) → IsSaving type first → DiffsLead first savings last
    → (t : SnapshotType) × IsSaving t last
last_type type first last [] of same = (type, subst (λ (s : Saving). IsSaving type s) same of)
last_type type first last (s ∷ savings) of (is, follows, rest) = last_type snapshot.Diff s last savings is rest

module _ (first last : Saving) (savings : List Saving) (base : List ℕ) (files : List (List ℕ)) (is : IsSaving snapshot.Full first) (led : DiffsLead first savings last)
    (few : length savings ≤ 100) (first_text : memory_text first ≡ Some base) (texts : map (λ s. memory_text s) savings ≡ map (λ file. Some file) files) where
  base_file : (file : IsMemoryFile base (memory_of first)) × (file.head ≡ memory.new_header first.copy.pages (identity_of first))
  base_file =
      subst (λ (t : List ℕ). (file : IsMemoryFile t (memory_of first)) × (file.head ≡ memory.new_header first.copy.pages (identity_of first)))
      (some_same (memory_file (identity_of first) first.copy.pages first.guest.memory.bytes) base (sym (full_text first is) ∙ first_text)) (full_file first is)

  none_open : open_slots base_file.0.head.slots ≡ 0
  none_open = ap (λ (h : MemHeader). open_slots h.slots) base_file.1

  room : open_slots base_file.0.head.slots + length (diffs_in first savings) ≤ 100
  room = omega (arith, none_open, as_many first savings, few)

  made : JoinAll (memory_of first) (diffs_in first savings) × (overlaid_all (memory_of first) (diffs_in first savings) ≡ memory_of last)
  made = make_last (memory_of first) (steps_of first savings) (memory_of last) is.whole (lead snapshot.Full first last savings is led)

  pub some_merge : (merged : List ℕ) × MergeAll base files merged
  some_merge = some_merged files (diffs_in first savings) base (memory_of first) base_file.0 (are_files snapshot.Full first last savings files is led texts) made.0 room

  module _ (merged : List ℕ) (merges : MergeAll base files merged) where
    merged_file : IsMemoryFile merged (memory_of last)
    merged_file =
        subst (λ (m : MemoryCopy). IsMemoryFile merged m) made.1
        (all_merged files (diffs_in first savings) base merged (memory_of first) base_file.0 (are_files snapshot.Full first last savings files is led texts) made.0 room merges)

    pub finds_last : (saved : Saved) (names : SnapshotFiles) → get saved names.mem_file_path ≡ Some merged → get saved names.snapshot_path ≡ state_text last
        → found saved names ≡ Ok (snapshot_of last)
    finds_last saved names memory_there state_there =
        let of = last_type snapshot.Full first last savings is led in
        let file = merged_file in
        found_in saved names (identity_of last) last.copy (state_file (identity_of last) last.copy) last.guest.memory.bytes file.head
        (created (identity_of last) last.copy (copy_saved of.0 last of.1)) file.holds.fits file.holds.valid file.settled file.holds.pages
        file.holds.identity file.holds.whole (state_there ∙ state_is of.0 last of.1) (memory_there ∙ ap (λ (t : List ℕ). Some t) file.holds.bytes)

    -- so a load that the machine allows is answered
    pub allows_last : (k : Machine) (given : Next) (load : SnapshotLoad) → get k.saved load.files.mem_file_path ≡ Some merged
        → get k.saved load.files.snapshot_path ≡ state_text last → decided k given ≡ Ok (call.LoadSnapshot load)
        → allowed k given ≡ Ok (call.LoadSnapshot load)
    allows_last k given load memory_there state_there asks =
        ap (λ (r : Result ApiCall Refusal). r >>= by_contents k) asks
        ∙ ap (λ (r : Result Snapshot Refusal). r >>= λ (s : Snapshot). Ok (call.LoadSnapshot load)) (finds_last k.saved load.files memory_there state_there)

    pub loads_last : (k p : Machine) (load : SnapshotLoad) → get k.saved load.files.mem_file_path ≡ Some merged → get k.saved load.files.snapshot_path ≡ state_text last
        → Leaves k (call.LoadSnapshot load) p
        → p ≡ carried k load (snapshot_of last)
    loads_last k p load memory_there state_there loads =
        subst (λ (r : Result Snapshot Refusal). Restores r k load p) (finds_last k.saved load.files memory_there state_there) loads
