-- A create keeps files in agreement with the list, which its own joins once it is completed. And loads.
use Rattle.std.proofs.Common.{◌≡◌, ◌⊎◌, ℕ, Bool, true, false, List, ◌∷◌, Option, Some, None, Ok, inl, inr, ⊎_elim, refl, sym, ◌∙◌, ap, subst, arith}
use Rattle.std.specs.FinMap.{get}
use Rattle.std.specs.Str.{bytes_eq}
use Rattle.std.proofs.lemmas.Slice.Eq.{bytes_eq-Decides}
use Rattle.vm_types.specs.Saved as names
use Rattle.vm_types.specs.declared.identity.Identity.{Identity}
use Rattle.vm_outside.specs.Calls.{FileCall}
use Rattle.vm_outside.specs.Crashes.{Disk, Images}
use Rattle.gate_file.specs.Moments.{AsBefore, IsShut}
use Rattle.gate_file.specs.Pairs.{IsCompleted, PairLeaves, Target, text_of}
use Rattle.file_format.specs.Format.{IsBytes}
use Rattle.api_calls.specs.declared.call.SnapshotFiles.{SnapshotFiles}
use Rattle.snap_diff.specs.Copies.{MemoryCopy}
use Rattle.snap_diff.specs.Diffs.{IsDiffFile}
use Rattle.snap_diff.proofs.Files.{one as one_diff}
use Rattle.snap_state.specs.declared.copy.StateCopy.{StateCopy}
use Rattle.snap_state.specs.declared.file.Saved.{Saved}
use Rattle.snap_state.specs.Files.{Encodes}
use Rattle.snap_state.proofs.Copies.{one as one_state}
use Rattle.snapshot_merge.specs.Memories.{IsMemoryFile}
use Rattle.flat_snapshot.specs.Found.{Snapshot, found, memory_found, state_found}
use Rattle.create_lists.specs.Listed.{AgreeAll, Agrees, AgreesText, AreCreates, AreFilesOf, Create, HoldBytes, IsAmong, IsMemoryOf, diff_since, memory_of, saved_of, snapshot_of}
use Rattle.create_lists.proofs.FileKinds.{diff_kind, memory_kind, shut_agrees, state_kind, two_kinds}
use Rattle.create_lists.proofs.Listing.{agrees_more, held_agrees}
use Rattle.flat_snapshot.proofs.Finds.{both}
use Rattle.create_lists.proofs.Spelled.{memory_holds, state_encodes}

-- ---- what a create writes

module _ (creates : List Create) (c : Create) where
  abbrev all : List Create
  all = c ∷ creates

  whole_agrees : (text : List ℕ) → IsMemoryFile text (memory_of c) → AgreesText all text
  whole_agrees text file =
      held_agrees all text file.head (memory_of c) file.holds (λ settled. (c, (inl refl, refl))) (λ begun. absurd (begun file.settled))

  diff_agrees : (text : List ℕ) (parent : Identity) → c.base ≡ Some parent → IsDiffFile text (diff_since parent c) → AgreesText all text
  diff_agrees text parent base is =
      let kind = diff_kind text (diff_since parent c) is in
      record {
        state = λ s e. absurd (two_kinds text 68 83 (λ is. omega (arith, is)) kind (state_kind text s e));
        memory = λ m file. absurd (two_kinds text 68 77 (λ is. omega (arith, is)) kind (memory_kind text file.head m file.holds));
        diff = λ d other. (c, (parent, (inl refl, base, one_diff text d (diff_since parent c) other is)));
        unfinished = λ head m holds begun. absurd (two_kinds text 68 77 (λ is. omega (arith, is)) kind (memory_kind text head m holds));
      }

  state_agrees : (text : List ℕ) → Encodes text (saved_of c) → AgreesText all text
  state_agrees text e =
      let kind = state_kind text (saved_of c) e in
      record {
        state = λ s other. (c, (inl refl, one_state text s (saved_of c) other e));
        memory = λ m file. absurd (two_kinds text 83 77 (λ is. omega (arith, is)) kind (memory_kind text file.head m file.holds));
        diff = λ d is. absurd (two_kinds text 83 68 (λ is. omega (arith, is)) kind (diff_kind text d is));
        unfinished = λ head m holds begun. absurd (two_kinds text 83 77 (λ is. omega (arith, is)) kind (memory_kind text head m holds));
      }

  memory_by : (o : Option Identity) (text : List ℕ) → c.base ≡ o → IsMemoryOf c o text → AgreesText all text
  memory_by None text base is = whole_agrees text is
  memory_by (Some parent) text base is = diff_agrees text parent base is

  shut_one : (o : Option (List ℕ)) (text : List ℕ) (some : List Create) → o ≡ Some text → IsShut 2 o → AgreesText some text
  shut_one o text some there shut = shut_agrees some text (subst (λ (x : Option (List ℕ)). IsShut 2 x) there shut)

  same_some : (x y : List ℕ) (o : Option (List ℕ)) → o ≡ Some x → o ≡ Some y → x ≡ y
  same_some x y o first second = let same : ◌≡◌ {A = Option (List ℕ)} (Some x) (Some y) = sym first ∙ second in cc

  module _ (before done : List FileCall) (memory state : Target) (files : AreFilesOf c memory state) (each : AgreeAll creates before) (disk : Disk) (leaves : PairLeaves before memory state done disk) where
    as_before : (name text : List ℕ) → AsBefore before name disk → disk name ≡ Some text → AgreesText creates text
    as_before name text old there = each old.0 old.1 name text (sym old.2 ∙ there)

    memory_all : (text : List ℕ) → disk memory.name ≡ Some text → AgreesText all text
    memory_all text there =
        ⊎_elim (λ old. agrees_more c creates text (as_before memory.name text old there))
        (λ rest. ⊎_elim (λ shut. shut_one (disk memory.name) text all there shut)
        (λ whole. subst (AgreesText all) (same_some (text_of memory) text (disk memory.name) whole.0 there) (memory_by c.base (text_of memory) refl files.memory_is)) rest)
        leaves.memory_file

    state_all : (text : List ℕ) → disk state.name ≡ Some text → AgreesText all text
    state_all text there =
        ⊎_elim (λ old. agrees_more c creates text (as_before state.name text old there))
        (λ rest. ⊎_elim (λ shut. shut_one (disk state.name) text all there shut)
        (λ whole. subst (AgreesText all) (same_some (text_of state) text (disk state.name) whole.0 there) (state_agrees (text_of state) files.state_is)) rest)
        leaves.state_file

    by_name : (some : List Create) (a b : Bool) (name text : List ℕ) → bytes_eq name memory.name ≡ a → bytes_eq name state.name ≡ b → disk name ≡ Some text
        → ((text : List ℕ) → disk memory.name ≡ Some text → AgreesText some text) → ((text : List ℕ) → disk state.name ≡ Some text → AgreesText some text)
        → ((text : List ℕ) → AgreesText creates text → AgreesText some text) → AgreesText some text
    by_name some true b name text first second there of_memory of_state lift = of_memory text (ap disk (sym ((bytes_eq-Decides name memory.name).0 first)) ∙ there)
    by_name some false true name text first second there of_memory of_state lift = of_state text (ap disk (sym ((bytes_eq-Decides name state.name).0 second)) ∙ there)
    by_name some false false name text first second there of_memory of_state lift =
        lift text (as_before name text (leaves.others name
        (λ same. let wrong : true ≡ false = sym ((bytes_eq-Decides name memory.name).1 same) ∙ first in cc)
        (λ same. let wrong : true ≡ false = sym ((bytes_eq-Decides name state.name).1 same) ∙ second in cc)) there)

    completed : IsCompleted memory state done → Agrees creates disk ⊎ IsCompleted memory state done × Agrees all disk
    completed is =
        inr (is, λ name text there. by_name all (bytes_eq name memory.name) (bytes_eq name state.name) name text refl refl there memory_all state_all (λ text agrees. agrees_more c creates text agrees))

    not_whole : (AsBefore before memory.name disk ⊎ IsShut 2 (disk memory.name)) → (AsBefore before state.name disk ⊎ IsShut 2 (disk state.name)) → Agrees creates disk
    not_whole of_memory of_state name text there =
        by_name creates (bytes_eq name memory.name) (bytes_eq name state.name) name text refl refl there
        (λ text there. ⊎_elim (λ old. as_before memory.name text old there) (λ shut. shut_one (disk memory.name) text creates there shut) of_memory)
        (λ text there. ⊎_elim (λ old. as_before state.name text old there) (λ shut. shut_one (disk state.name) text creates there shut) of_state)
        (λ text agrees. agrees)

    -- each file is as before or shut, or the create is completed
    memory_not : (AsBefore before memory.name disk ⊎ IsShut 2 (disk memory.name)) ⊎ IsCompleted memory state done
    memory_not = ⊎_elim (λ old. inl (inl old)) (λ rest. ⊎_elim (λ shut. inl (inr shut)) (λ whole. inr whole.1) rest) leaves.memory_file

    state_not : (AsBefore before state.name disk ⊎ IsShut 2 (disk state.name)) ⊎ IsCompleted memory state done
    state_not = ⊎_elim (λ old. inl (inl old)) (λ rest. ⊎_elim (λ shut. inl (inr shut)) (λ whole. inr whole.2) rest) leaves.state_file

    pub create_agrees : Agrees creates disk ⊎ IsCompleted memory state done × Agrees all disk
    create_agrees = ⊎_elim (λ of_memory. ⊎_elim (λ of_state. inl (not_whole of_memory of_state)) completed state_not) completed memory_not

-- ---- loads

module _ (creates : List Create) (are : AreCreates creates) (i : Identity) (copy : StateCopy) (bytes : List ℕ) where
  load_of : (s o : Option (List ℕ)) → ((text : List ℕ) → s ≡ Some text → IsBytes text × AgreesText creates text) → ((text : List ℕ) → o ≡ Some text → IsBytes text × AgreesText creates text)
      → state_found s ≡ Ok (i, copy) → memory_found i copy.pages o ≡ Ok bytes
      → (c : Create) × (IsAmong c creates × (record { identity = i; copy = copy; bytes = bytes } ≡ snapshot_of c))
  load_of None o of_state of_memory first second = absurd cc
  load_of (Some text) None of_state of_memory first second = absurd cc
  load_of (Some text) (Some other) of_state of_memory first second =
      let one = of_state text refl in
      let two = of_memory other refl in
      let a = one.1.state (record { identity = i; copy = copy }) (state_encodes text one.0 (i, copy) first) in
      let b = two.1.memory (record { identity = i; pages = copy.pages; bytes = bytes }) (memory_holds other two.0 i copy.pages bytes second) in
      let names : a.0.identity ≡ b.0.identity = ap (λ (x : Saved). x.identity) (sym a.1.1) ∙ ap (λ (x : MemoryCopy). x.identity) b.1.1 in
      let same : b.0 ≡ a.0 = sym (are.one a.0 b.0 a.1.0 b.1.0 names) in
      let held : bytes ≡ a.0.bytes = ap (λ (x : MemoryCopy). x.bytes) b.1.1 ∙ ap (λ (x : Create). x.bytes) same in
      (a.0, (a.1.0, λ k. record { identity = (ap (λ (x : Saved). x.identity) a.1.1) k; copy = (ap (λ (x : Saved). x.copy) a.1.1) k; bytes = held k }))

pub load_agrees : (creates : List Create) (calls : List FileCall) (saved : names.Saved) (files : SnapshotFiles) (it : Snapshot) → AreCreates creates → HoldBytes calls → AgreeAll creates calls
    → Images calls (λ name. get saved name) → found saved files ≡ Ok it → (c : Create) × (IsAmong c creates × (it ≡ snapshot_of c))
unfolding found
load_agrees creates calls saved files it are holds each image is =
    let one = both (state_found (get saved files.snapshot_path)) _ it is in
    let two = both (memory_found one.0.0 one.0.1.pages (get saved files.mem_file_path)) _ it one.2 in
    let made : Snapshot = record { identity = one.0.0; copy = one.0.1; bytes = two.0 } in
    let same : made ≡ it = let e = two.2 in cc in
    let disk : Disk = λ name. get saved name in
    let of : (name text : List ℕ) → get saved name ≡ Some text → IsBytes text × AgreesText creates text =
    λ name text there. (holds disk image name text there, each disk image name text there) in
    subst (λ (x : Snapshot). (c : Create) × (IsAmong c creates × (x ≡ snapshot_of c))) same
    (load_of creates are one.0.0 one.0.1 two.0 (get saved files.snapshot_path) (get saved files.mem_file_path) (of files.snapshot_path) (of files.mem_file_path) one.1 two.1)
