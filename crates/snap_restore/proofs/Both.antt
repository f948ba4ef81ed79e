-- What is found of both files.
use Rattle.std.proofs.Common.{◌≡◌, ℕ, ◌*◌, List, length, take, drop, length-drop, Option, Some, None, Result, Ok, Err, refl, sym, ap, subst, ◌∙◌, arith}
use Rattle.std.proofs.Math.Seq.{take-length}
use Rattle.std.specs.FinMap.{get}
use Rattle.std.specs.Option.{option_map}
use Rattle.vm_types.specs.Saved.{Saved}
use Rattle.vm_types.specs.declared.identity.Identity.{Identity}
use Rattle.refusals.specs.declared.refusal.Refusal.{Refusal}
use Rattle.refusals.specs.declared.refusal.Refusal.TheVariants as refusal
use Rattle.api_calls.specs.declared.call.SnapshotFiles.{SnapshotFiles}
use Rattle.api_calls.specs.Call.{◌>>=◌}
use Rattle.snap_state.specs.declared.copy.StateCopy.{StateCopy}
use Rattle.flat_snapshot.specs.Found.{Snapshot, found, memory_found, memory_front, state_found}
use Rattle.flat_snapshot.proofs.Finds.{front_size}
use Rattle.gate_file.specs.Reading.{start_of}
use Rattle.snap_restore.specs.declared.finding.FindError.{FindError}
use Rattle.snap_restore.specs.declared.finding.FindError.TheVariants.{Refused, Fault, OutOfMemory}
use Rattle.snap_restore.specs.Finding.{Answers, front_found, nothing_of, snapshot_of, state_of}

abbrev pub rest_of : Saved → SnapshotFiles → Identity × StateCopy → Result Snapshot Refusal
rest_of saved names s =
    memory_found s.0 s.1.pages (get saved names.mem_file_path) >>= λ bytes. Ok (record { identity = s.0; copy = s.1; bytes = bytes })

opened : (saved : Saved) (names : SnapshotFiles) → found saved names ≡ state_found (get saved names.snapshot_path) >>= rest_of saved names
unfolding found
opened saved names = refl

pub state_refuses : (saved : Saved) (names : SnapshotFiles) (why : Refusal) → state_found (get saved names.snapshot_path) ≡ Err why
    → found saved names ≡ Err why
state_refuses saved names why is =
    opened saved names ∙ ap (λ (r : Result (Identity × StateCopy) Refusal). r >>= rest_of saved names) is

memory_of : (i : Identity) (pages : ℕ) (o : Option (List ℕ)) (why : Refusal) → front_found i pages o ≡ Err why → memory_found i pages o ≡ Err why
memory_of i pages None why is =
    let same : refusal.NoSuchFile ≡ why = cc in ap Err same
memory_of i pages (Some given) why is = ap (λ (r : Result (Unit {0}) Refusal). r >>= λ _. Ok (drop 4096 given)) is

pub memory_refuses : (saved : Saved) (names : SnapshotFiles) (i : Identity) (c : StateCopy) (why : Refusal)
    → state_found (get saved names.snapshot_path) ≡ Ok (i, c) → front_found i c.pages (get saved names.mem_file_path) ≡ Err why
    → found saved names ≡ Err why
memory_refuses saved names i c why is refuses =
    opened saved names ∙ ap (λ (r : Result (Identity × StateCopy) Refusal). r >>= rest_of saved names) is
    ∙ ap (λ (r : Result (List ℕ) Refusal). r >>= λ bytes. Ok (record { identity = i; copy = c; bytes = bytes }))
    (memory_of i c.pages (get saved names.mem_file_path) why refuses)

-- ---- a memory file that isn't refused

memory_good : (i : Identity) (pages : ℕ) (o : Option (List ℕ)) (bytes : List ℕ) → front_found i pages o ≡ Ok tt
    → ((content : List ℕ) → o ≡ Some content → bytes ≡ take (4096 * pages) (drop 4096 content)) → memory_found i pages o ≡ Ok bytes
memory_good i pages None bytes is reads = absurd cc
memory_good i pages (Some given) bytes is reads =
    let size = front_size i pages (length given) (take 4096 given) is in
    let rest : length (drop 4096 given) ≡ 4096 * pages = omega (arith, size, length-drop 4096 given) in
    ap (λ (r : Result (Unit {0}) Refusal). r >>= λ _. Ok (drop 4096 given)) is
    ∙ ap Ok (sym (reads given refl ∙ ap (λ (n : ℕ). take n (drop 4096 given)) (sym rest) ∙ take-length (drop 4096 given)))

pub found_good : (saved : Saved) (names : SnapshotFiles) (i : Identity) (c : StateCopy) (bytes : List ℕ)
    → state_found (get saved names.snapshot_path) ≡ Ok (i, c) → front_found i c.pages (get saved names.mem_file_path) ≡ Ok tt
    → ((content : List ℕ) → get saved names.mem_file_path ≡ Some content → bytes ≡ take (4096 * c.pages) (drop 4096 content))
    → found saved names ≡ Ok (record { identity = i; copy = c; bytes = bytes })
found_good saved names i c bytes is fits reads =
    opened saved names ∙ ap (λ (r : Result (Identity × StateCopy) Refusal). r >>= rest_of saved names) is
    ∙ ap (λ (r : Result (List ℕ) Refusal). r >>= λ b. Ok (record { identity = i; copy = c; bytes = b }))
    (memory_good i c.pages (get saved names.mem_file_path) bytes fits reads)

-- ---- as they are answered

-- the front that was read is the file's
pub front_of : (i : Identity) (pages size : ℕ) (front : List ℕ) (o : Option (List ℕ)) (r : Result (Unit {0}) FindError)
    → ◌≡◌ {A = Option (ℕ × List ℕ)} (Some (size, front)) (option_map (start_of 4096) o)
    → Answers nothing_of r (memory_front i pages size front) → Answers nothing_of r (front_found i pages o)
front_of i pages size front None r is judged = absurd cc
front_of i pages size front (Some given) r is judged =
    let same : ◌≡◌ {A = ℕ × List ℕ} (size, front) (length given, take 4096 given) = cc in
    subst (λ (p : ℕ × List ℕ). Answers nothing_of r (memory_front i pages p.0 p.1)) same judged

pub state_err : (saved : Saved) (names : SnapshotFiles) (path : List ℕ) (why : FindError) → path ≡ names.snapshot_path
    → Answers state_of (Err why) (state_found (get saved path)) → Answers snapshot_of (Err why) (found saved names)
state_err saved names path (Refused why) is answer =
    state_refuses saved names why (ap (λ (p : List ℕ). state_found (get saved p)) (sym is) ∙ answer)
state_err saved names path Fault is answer = tt
state_err saved names path OutOfMemory is answer = tt

pub memory_err : (saved mid : Saved) (names : SnapshotFiles) (first second : List ℕ) (i : Identity) (c : StateCopy) (why : FindError)
    → first ≡ names.snapshot_path → second ≡ names.mem_file_path → mid ≡ saved → state_found (get saved first) ≡ Ok (i, c)
    → Answers nothing_of (Err why) (front_found i c.pages (get mid second)) → Answers snapshot_of (Err why) (found saved names)
memory_err saved mid names first second i c (Refused why) is at same state answer =
    memory_refuses saved names i c why (ap (λ (p : List ℕ). state_found (get saved p)) (sym is) ∙ state)
    (ap (λ (p : List ℕ). front_found i c.pages (get saved p)) (sym at)
    ∙ ap (λ (s : Saved). front_found i c.pages (get s second)) (sym same) ∙ answer)
memory_err saved mid names first second i c Fault is at same state answer = tt
memory_err saved mid names first second i c OutOfMemory is at same state answer = tt

pub both_good : (saved mid last : Saved) (names : SnapshotFiles) (first second : List ℕ) (i : Identity) (c : StateCopy) (bytes : List ℕ)
    → first ≡ names.snapshot_path → second ≡ names.mem_file_path → mid ≡ saved → last ≡ mid → state_found (get saved first) ≡ Ok (i, c)
    → front_found i c.pages (get mid second) ≡ Ok tt
    → ((content : List ℕ) → get last second ≡ Some content → bytes ≡ take (4096 * c.pages) (drop 4096 content))
    → found saved names ≡ Ok (record { identity = i; copy = c; bytes = bytes })
both_good saved mid last names first second i c bytes is at same later state fits reads =
    found_good saved names i c bytes (ap (λ (p : List ℕ). state_found (get saved p)) (sym is) ∙ state)
    (ap (λ (p : List ℕ). front_found i c.pages (get saved p)) (sym at)
    ∙ ap (λ (s : Saved). front_found i c.pages (get s second)) (sym same) ∙ fits)
    (λ content there. reads content (ap (λ (s : Saved). get s second) (later ∙ same) ∙ ap (λ (p : List ℕ). get saved p) at ∙ there))
