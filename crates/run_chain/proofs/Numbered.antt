-- What the lines of a round and of the load ask for: each of 64 numbers is computed.
use Rattle.std.proofs.Common.{◌≡◌, ◌≤◌, ◌+◌, ◌==◌, ℕ, zero, suc, Bool, true, false, ◌&&◌, not, nat_le, refl, ap, ◌∙◌, subst, sym, List, ◌++◌, length, codes, Result, Ok, Err, arith}
use Rattle.std.specs.Fmt.{decimal}
use Rattle.std.specs.Str.{bytes_eq}
use Rattle.std.proofs.lemmas.Bool.{and_parts, eqb-true, leb-false, leb-true, not-true}
use Rattle.std.proofs.lemmas.Slice.Eq.{bytes_eq-Decides}
use Rattle.refusals.specs.declared.refusal.Refusal.{Refusal}
use Rattle.httparse.specs.Grammar.{print_request}
use Rattle.http_stream.specs.Body.{body_length}
use Rattle.http_stream.specs.Stream.{headers_of}
use Rattle.api_calls.specs.declared.call.ApiCall.{ApiCall}
use Rattle.api_calls.specs.declared.call.ApiCall.TheVariants as call
use Rattle.api_calls.specs.declared.call.SnapshotType.{SnapshotType}
use Rattle.api_calls.specs.declared.call.SnapshotType.TheVariants as snapshot
use Rattle.api_calls.specs.Call.{call_of}
use Rattle.run_chain.specs.Asked.{Asks, diff_body, load_body}
use Rattle.run_chain.proofs.Asking.{asked_on_literals}
use Rattle.run_chain.proofs.Sends.{head_of, is_head, read_as, sends}

-- a test of each number from 1 to this one
abbrev pub all_upto : (ℕ → Bool) → ℕ → Bool
all_upto p zero = true
all_upto p (suc n) = p (suc n) && all_upto p n

same_number : (p : ℕ → Bool) (n i : ℕ) → i ≡ suc n → p (suc n) ≡ true → p i ≡ true
same_number p n i is holds = subst (λ (k : ℕ). p k ≡ true) (sym is) holds

pub one_of : (p : ℕ → Bool) (n i : ℕ) → all_upto p n ≡ true → 1 ≤ i → i ≤ n → p i ≡ true
one_of p zero i all some few = absurd (omega (arith, some, few))
one_of p (suc n) i all some few =
    let both = and_parts (p (suc n)) (all_upto p n) all in
    by_last (nat_le i n) refl both.0 (λ below. one_of p n i both.1 some below)
  where
    by_last : (b : Bool) → nat_le i n ≡ b → p (suc n) ≡ true → (i ≤ n → p i ≡ true) → p i ≡ true
    by_last true below last again = again (leb-true i n below)
    by_last false above last again =
        let over = leb-false i n above in
        let is : i ≡ suc n = omega (arith, few, over) in
        same_number p n i is last

-- ---- what is sent is read

abbrev is_ok : Result ℕ Refusal → ℕ → Bool
is_ok (Ok k) n = k == n
is_ok (Err why) n = false

ok_is : (r : Result ℕ Refusal) (n : ℕ) → is_ok r n ≡ true → r ≡ Ok n
ok_is (Ok k) n is = ap (λ (x : ℕ). Ok x) (eqb-true k n is)
ok_is (Err why) n is = absurd cc

abbrev reads_well : List ℕ → List ℕ → List ℕ → Bool
reads_well method path body =
    (is_head method path (length body) && is_ok (body_length (headers_of (head_of method path (length body)))) (length body))
    && nat_le (length (print_request (head_of method path (length body))) + length body) 8192

-- ---- a diff

abbrev is_diff : SnapshotType → Bool
is_diff snapshot.Full = false
is_diff snapshot.Diff = true

diff_type : (type : SnapshotType) → is_diff type ≡ true → type ≡ snapshot.Diff
diff_type snapshot.Full is = absurd cc
diff_type snapshot.Diff is = refl

abbrev made_diff : List ℕ → List ℕ → SnapshotType → Result ApiCall Refusal
made_diff state memory type =
    Ok (call.CreateSnapshot (record { files = record { snapshot_path = state; mem_file_path = memory }; snapshot_type = type }))

abbrev is_diff_of : ℕ → Result ApiCall Refusal → Bool
is_diff_of i (Ok (call.CreateSnapshot it)) =
    (bytes_eq it.files.snapshot_path (codes "s" ++ decimal i) && bytes_eq it.files.mem_file_path (codes "d" ++ decimal i))
    && is_diff it.snapshot_type
is_diff_of i r = false

diff_of : (i : ℕ) (r : Result ApiCall Refusal) → is_diff_of i r ≡ true
    → r ≡ made_diff (codes "s" ++ decimal i) (codes "d" ++ decimal i) snapshot.Diff
diff_of i (Ok (call.CreateSnapshot it)) is =
    let p1 = and_parts _ (is_diff it.snapshot_type) is in
    let p0 =
    and_parts (bytes_eq it.files.snapshot_path (codes "s" ++ decimal i)) (bytes_eq it.files.mem_file_path (codes "d" ++ decimal i)) p1.0 in
    let state : it.files.snapshot_path ≡ codes "s" ++ decimal i = (bytes_eq-Decides it.files.snapshot_path (codes "s" ++ decimal i)).0 p0.0 in
    let memory : it.files.mem_file_path ≡ codes "d" ++ decimal i = (bytes_eq-Decides it.files.mem_file_path (codes "d" ++ decimal i)).0 p0.1 in
    ap (λ (l : List ℕ). made_diff l it.files.mem_file_path it.snapshot_type) state
    ∙ ap (λ (l : List ℕ). made_diff (codes "s" ++ decimal i) l it.snapshot_type) memory
    ∙ ap (λ (t : SnapshotType). made_diff (codes "s" ++ decimal i) (codes "d" ++ decimal i) t) (diff_type it.snapshot_type p1.1)
diff_of i (Ok it) is = absurd cc
diff_of i (Err why) is = absurd cc

abbrev asks_diff : ℕ → Bool
asks_diff i =
    reads_well (codes "PUT") (codes "/snapshot/create") (diff_body i)
    && is_diff_of i (call_of (read_as (codes "PUT") (codes "/snapshot/create") (length (diff_body i)) (diff_body i)))

all_diffs : all_upto asks_diff 64 ≡ true
unfolding asked_on_literals
all_diffs = refl

pub diffs : (i : ℕ) → 1 ≤ i → i ≤ 64 → Asks (codes "PUT") (codes "/snapshot/create") (diff_body i)
    (call.CreateSnapshot (record {
      files = record { snapshot_path = codes "s" ++ decimal i; mem_file_path = codes "d" ++ decimal i };
      snapshot_type = snapshot.Diff;
    }))
diffs i some few =
    let body : List ℕ = diff_body i in
    let n : ℕ = length body in
    let both = and_parts (reads_well (codes "PUT") (codes "/snapshot/create") body) _ (one_of asks_diff 64 i all_diffs some few) in
    let well = and_parts _ (nat_le (length (print_request (head_of (codes "PUT") (codes "/snapshot/create") n)) + n) 8192) both.0 in
    let front = and_parts (is_head (codes "PUT") (codes "/snapshot/create") n) _ well.0 in
    record {
      request = read_as (codes "PUT") (codes "/snapshot/create") n body;
      gives =
          sends (codes "PUT") (codes "/snapshot/create") body n refl front.0
          (ok_is (body_length (headers_of (head_of (codes "PUT") (codes "/snapshot/create") n))) n front.1) well.1 refl;
      asks = diff_of i (call_of (read_as (codes "PUT") (codes "/snapshot/create") n body)) both.1;
    }

-- ---- the load

abbrev made_load : List ℕ → List ℕ → Bool → Bool → Result ApiCall Refusal
made_load state memory tracks resumes =
    Ok (call.LoadSnapshot (record {
      files = record { snapshot_path = state; mem_file_path = memory };
      track_dirty_pages = tracks;
      resume_vm = resumes;
    }))

abbrev is_load_of : ℕ → Result ApiCall Refusal → Bool
is_load_of i (Ok (call.LoadSnapshot it)) =
    (bytes_eq it.files.snapshot_path (codes "s" ++ decimal i) && bytes_eq it.files.mem_file_path (codes "m0"))
    && (not it.track_dirty_pages && not it.resume_vm)
is_load_of i r = false

load_of : (i : ℕ) (r : Result ApiCall Refusal) → is_load_of i r ≡ true
    → r ≡ made_load (codes "s" ++ decimal i) (codes "m0") false false
load_of i (Ok (call.LoadSnapshot it)) is =
    let p1 = and_parts _ (not it.track_dirty_pages && not it.resume_vm) is in
    let p0 = and_parts (bytes_eq it.files.snapshot_path (codes "s" ++ decimal i)) (bytes_eq it.files.mem_file_path (codes "m0")) p1.0 in
    let flags = and_parts (not it.track_dirty_pages) (not it.resume_vm) p1.1 in
    let state : it.files.snapshot_path ≡ codes "s" ++ decimal i = (bytes_eq-Decides it.files.snapshot_path (codes "s" ++ decimal i)).0 p0.0 in
    let memory : it.files.mem_file_path ≡ codes "m0" = (bytes_eq-Decides it.files.mem_file_path (codes "m0")).0 p0.1 in
    ap (λ (l : List ℕ). made_load l it.files.mem_file_path it.track_dirty_pages it.resume_vm) state
    ∙ ap (λ (l : List ℕ). made_load (codes "s" ++ decimal i) l it.track_dirty_pages it.resume_vm) memory
    ∙ ap (λ (b : Bool). made_load (codes "s" ++ decimal i) (codes "m0") b it.resume_vm) (not-true it.track_dirty_pages flags.0)
    ∙ ap (λ (b : Bool). made_load (codes "s" ++ decimal i) (codes "m0") false b) (not-true it.resume_vm flags.1)
load_of i (Ok it) is = absurd cc
load_of i (Err why) is = absurd cc

abbrev asks_load : ℕ → Bool
asks_load i =
    reads_well (codes "PUT") (codes "/snapshot/load") (load_body i)
    && is_load_of i (call_of (read_as (codes "PUT") (codes "/snapshot/load") (length (load_body i)) (load_body i)))

all_loads : all_upto asks_load 64 ≡ true
unfolding asked_on_literals
all_loads = refl

pub loads : (i : ℕ) → 1 ≤ i → i ≤ 64 → Asks (codes "PUT") (codes "/snapshot/load") (load_body i)
    (call.LoadSnapshot (record {
      files = record { snapshot_path = codes "s" ++ decimal i; mem_file_path = codes "m0" };
      track_dirty_pages = false;
      resume_vm = false;
    }))
loads i some few =
    let body : List ℕ = load_body i in
    let n : ℕ = length body in
    let both = and_parts (reads_well (codes "PUT") (codes "/snapshot/load") body) _ (one_of asks_load 64 i all_loads some few) in
    let well = and_parts _ (nat_le (length (print_request (head_of (codes "PUT") (codes "/snapshot/load") n)) + n) 8192) both.0 in
    let front = and_parts (is_head (codes "PUT") (codes "/snapshot/load") n) _ well.0 in
    record {
      request = read_as (codes "PUT") (codes "/snapshot/load") n body;
      gives =
          sends (codes "PUT") (codes "/snapshot/load") body n refl front.0
          (ok_is (body_length (headers_of (head_of (codes "PUT") (codes "/snapshot/load") n))) n front.1) well.1 refl;
      asks = load_of i (call_of (read_as (codes "PUT") (codes "/snapshot/load") n body)) both.1;
    }
