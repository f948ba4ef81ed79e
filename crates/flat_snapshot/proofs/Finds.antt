-- What a load finds: a copy that a state file can have, and all of its pages.
use Rattle.std.proofs.Common.{◌≡◌, ℕ, ◌+◌, ◌*◌, Bool, true, false, if◌then◌else◌, List, length, take, drop, length-drop, Option, Some, None, Result, Ok, Err, refl, ap, subst, arith}
use Rattle.std.specs.Prelude.{IsTrue}
use Rattle.std.specs.FinMap.{get}
use Rattle.std.proofs.lemmas.Bool.{eqb-true, and_parts, not-false}
use Rattle.vm_types.specs.Saved.{Saved}
use Rattle.vm_types.specs.declared.identity.Identity.{Identity}
use Rattle.refusals.specs.declared.refusal.Refusal.{Refusal}
use Rattle.refusals.specs.declared.refusal.Refusal.TheVariants as refusal
use Rattle.api_calls.specs.declared.call.SnapshotFiles.{SnapshotFiles}
use Rattle.api_calls.specs.Call.{◌>>=◌}
use Rattle.guest_memory.specs.Ram.{page_size}
use Rattle.file_format.specs.Starts.{is_closed, is_other}
use Rattle.file_format.specs.Versions.{version_of}
use Rattle.snap_memory.specs.declared.header.MemHeader.{MemHeader}
use Rattle.snap_memory.specs.Headers as memory
use Rattle.snap_state.specs.declared.copy.StateCopy.{StateCopy}
use Rattle.snap_state.specs.Files as state
use Rattle.snap_state.specs.Valid.{is_valid}
use Rattle.flat_snapshot.specs.Found.{Snapshot, found, memory_found, memory_front, memory_judged, memory_read, state_found, state_read}

-- a test that refuses was passed
pub passes : {A : Type 0} (b : Bool) (why : Refusal) (r : Result A Refusal) (v : A) → (if b then Err why else r) ≡ Ok v → (b ≡ false) × (r ≡ Ok v)
passes true why r v is = absurd cc
passes false why r v is = (refl, is)

pub holds : {A : Type 0} (b : Bool) (why : Refusal) (r : Result A Refusal) (v : A) → (if b then r else Err why) ≡ Ok v → (b ≡ true) × (r ≡ Ok v)
holds true why r v is = (refl, is)
holds false why r v is = absurd cc

-- what came of both came of the first
pub both : {A B : Type 0} (r : Result A Refusal) (f : A → Result B Refusal) (v : B) → (r >>= f) ≡ Ok v → (a : A) × (r ≡ Ok a) × (f a ≡ Ok v)
both (Ok a) f v is = (a, refl, is)
both (Err why) f v is = absurd cc

-- ---- the state file

read_valid : (size : ℕ) (o : Option ((ℕ × (Identity × StateCopy)) × List ℕ)) (s : Identity × StateCopy) → state_read size o ≡ Ok s → IsTrue (is_valid s.1)
read_valid size None s is = absurd cc
read_valid size (Some read) s is =
    let one = holds (state.is_accepted size (length read.1) read.0.0 read.0.1.0 read.0.1.1) refusal.BadField (Ok read.0.1) s is in
    let same : read.0.1 ≡ s = let e = one.1 in cc in
    subst (λ (x : Identity × StateCopy). IsTrue (is_valid x.1)) same (and_parts _ (is_valid read.0.1.1) one.0).1

state_valid : (o : Option (List ℕ)) (s : Identity × StateCopy) → state_found o ≡ Ok s → IsTrue (is_valid s.1)
state_valid None s is = absurd cc
state_valid (Some given) s is =
    let late : Result (Identity × StateCopy) Refusal = state_read (length (drop 12 given)) ((state.contents (version_of given)).reads (drop 12 given)) in
    let one = passes (is_closed 32 given) refusal.GateClosed (if is_other (state.magic (version_of given)) given then Err refusal.WrongMagic else late) s is in
    let two = passes (is_other (state.magic (version_of given)) given) refusal.WrongMagic late s one.1 in
    read_valid (length (drop 12 given)) ((state.contents (version_of given)).reads (drop 12 given)) s two.1

-- ---- the size of a memory file that isn't refused

judged_size : (i : Identity) (pages size : ℕ) (h : MemHeader) → memory_judged i pages size h ≡ Ok tt → size ≡ 4096 + page_size * pages
judged_size i pages size h is =
    let one = passes _ _ _ tt is in
    let two = passes _ _ _ tt one.1 in
    eqb-true size (4096 + page_size * pages) (and_parts _ _ (not-false _ two.0)).1

read_size : (i : Identity) (pages size : ℕ) (o : Option (MemHeader × List ℕ)) → memory_read i pages size o ≡ Ok tt → size ≡ 4096 + page_size * pages
read_size i pages size None is = absurd cc
read_size i pages size (Some read) is = judged_size i pages size read.0 (holds _ _ _ tt is).1

pub front_size : (i : Identity) (pages size : ℕ) (front : List ℕ) → memory_front i pages size front ≡ Ok tt → size ≡ 4096 + page_size * pages
front_size i pages size front is =
    let late : Result (Unit {0}) Refusal = memory_read i pages size (memory.header.reads front) in
    let one = passes (is_closed 4096 front) refusal.GateClosed (if is_other memory.magic front then Err refusal.WrongMagic else late) tt is in
    let two = passes (is_other memory.magic front) refusal.WrongMagic late tt one.1 in
    read_size i pages size (memory.header.reads front) two.1

memory_long : (i : Identity) (pages : ℕ) (o : Option (List ℕ)) (bytes : List ℕ) → memory_found i pages o ≡ Ok bytes → length bytes ≡ page_size * pages
memory_long i pages None bytes is = absurd cc
memory_long i pages (Some given) bytes is =
    let one = both (memory_front i pages (length given) (take 4096 given)) (λ _. Ok (drop 4096 given)) bytes is in
    let size = front_size i pages (length given) (take 4096 given) one.1 in
    let same : drop 4096 given ≡ bytes = let e = one.2 in cc in
    omega (arith, size, length-drop 4096 given, ap length same)

-- ---- both

pub finds : (saved : Saved) (files : SnapshotFiles) (it : Snapshot) → found saved files ≡ Ok it
    → IsTrue (is_valid it.copy) × (length it.bytes ≡ page_size * it.copy.pages)
unfolding found
finds saved files it is =
    let one = both (state_found (get saved files.snapshot_path)) _ it is in
    let two = both (memory_found one.0.0 one.0.1.pages (get saved files.mem_file_path)) _ it one.2 in
    let made : Snapshot = record { identity = one.0.0; copy = one.0.1; bytes = two.0 } in
    let same : made ≡ it = let e = two.2 in cc in
    subst (λ (x : Snapshot). IsTrue (is_valid x.copy) × (length x.bytes ≡ page_size * x.copy.pages)) same (
      state_valid (get saved files.snapshot_path) one.0 one.1,
      memory_long one.0.0 one.0.1.pages (get saved files.mem_file_path) two.0 two.1,
    )
