-- Where a load finds no snapshot.
use Rattle.std.proofs.Common.{◌≡◌, ◌⊎◌, inl, inr, ℕ, Bool, true, not, ◌||◌, if◌then◌else◌, List, [], ◌∷◌, take, drop, length, Option, Some, None, Result, Ok, Err, refl, sym, ap, subst, ◌∙◌, arith}
use Rattle.std.specs.Prelude.{◌==◌, IsErr, nat_lt, slice_index}
use Rattle.std.specs.FinMap.{get}
use Rattle.std.proofs.Math.Bool.{or-true}
use Rattle.std.proofs.lemmas.Bool.{eqb-true, false_from_ne_true, lt-ltb}
use Rattle.std.proofs.lemmas.List.{length-take}
use Rattle.vm_types.specs.Saved.{Saved}
use Rattle.vm_types.specs.declared.identity.Identity.{Identity}
use Rattle.refusals.specs.declared.refusal.Refusal.{Refusal}
use Rattle.refusals.specs.declared.refusal.Refusal.TheVariants as refusal
use Rattle.api_calls.specs.declared.call.SnapshotFiles.{SnapshotFiles}
use Rattle.api_calls.specs.Call.{◌>>=◌}
use Rattle.file_format.specs.Starts.{is_closed}
use Rattle.file_format.specs.Versions.{version_of}
use Rattle.gate_file.specs.Moments.{IsShut}
use Rattle.snap_state.specs.declared.copy.StateCopy.{StateCopy}
use Rattle.snap_memory.specs.Headers as memory
use Rattle.snap_state.specs.Files as state
use Rattle.file_format.specs.Starts.{is_other}
use Rattle.flat_snapshot.specs.Found.{Snapshot, found, memory_found, memory_read, state_found, state_read}

closed : (size : ℕ) (text : List ℕ) → IsShut size (Some text) → is_closed size text ≡ true
closed size text (inl short) = ap (λ (b : Bool). b || not (slice_index text 0 == 1)) (lt-ltb _ _ short)
closed size text (inr other) =
    ap (λ (b : Bool). nat_lt (length text) size || not b) (false_from_ne_true (slice_index text 0 == 1) (λ e. other (eqb-true _ _ e)))
    ∙ or-true (nat_lt (length text) size)

-- a front of a file that is shut is shut
front_shut : (text : List ℕ) → IsShut 4096 (Some text) → IsShut 4096 (Some (take 4096 text))
front_shut text (inl short) = inl (omega (arith, short, length-take 4096 text))
front_shut [] (inr other) = inr other
front_shut (b ∷ text) (inr other) = inr other

state_shut : (file : Option (List ℕ)) → IsShut 32 file → (why : Refusal) × (state_found file ≡ Err why)
state_shut None shut = (refusal.NoSuchFile, refl)
state_shut (Some text) shut = (
  refusal.GateClosed,
  ap (λ (b : Bool). if b then Err refusal.GateClosed
      else (if is_other (state.magic (version_of text)) text then Err refusal.WrongMagic
      else state_read (length (drop 12 text)) ((state.contents (version_of text)).reads (drop 12 text)))) (closed 32 text shut),
)

memory_shut : (i : Identity) (pages : ℕ) (file : Option (List ℕ)) → IsShut 4096 file
    → (why : Refusal) × (memory_found i pages file ≡ Err why)
memory_shut i pages None shut = (refusal.NoSuchFile, refl)
memory_shut i pages (Some text) shut =
    let front = take 4096 text in (
      refusal.GateClosed,
      ap (λ (b : Bool). (if b then Err refusal.GateClosed
          else (if is_other memory.magic front then Err refusal.WrongMagic
          else memory_read i pages (length text) (memory.header.reads front))) >>= λ _. Ok (drop 4096 text))
          (closed 4096 front (front_shut text shut)),
    )

abbrev with_bytes : Identity × StateCopy → Result (List ℕ) Refusal → Result Snapshot Refusal
with_bytes s memory = memory >>= λ b. Ok (record { identity = s.0; copy = s.1; bytes = b })

-- what both are found as, from what the state file is found as
abbrev snapshot_of : Result (Identity × StateCopy) Refusal → Option (List ℕ) → Result Snapshot Refusal
snapshot_of state file =
    state >>= λ s. with_bytes s (memory_found s.0 s.1.pages file)

first_shut : (found : Option (List ℕ)) (file : Option (List ℕ)) → IsShut 32 found → IsErr (snapshot_of (state_found found) file)
first_shut found file shut =
    let why = state_shut found shut in
    subst (λ (r : Result (Identity × StateCopy) Refusal). IsErr (snapshot_of r file)) (sym why.1) refl

second_shut : (state : Result (Identity × StateCopy) Refusal) (file : Option (List ℕ)) → IsShut 4096 file → IsErr (snapshot_of state file)
second_shut (Err why) file shut = refl
second_shut (Ok s) file shut =
    let why = memory_shut s.0 s.1.pages file shut in
    subst (λ (r : Result (List ℕ) Refusal). IsErr (with_bytes s r)) (sym why.1) refl

pub none_shut : (saved : Saved) (files : SnapshotFiles)
    → IsShut 32 (get saved files.snapshot_path) ⊎ IsShut 4096 (get saved files.mem_file_path) → IsErr (found saved files)
unfolding found
none_shut saved files (inl shut) = first_shut (get saved files.snapshot_path) (get saved files.mem_file_path) shut
none_shut saved files (inr shut) = second_shut (state_found (get saved files.snapshot_path)) (get saved files.mem_file_path) shut
