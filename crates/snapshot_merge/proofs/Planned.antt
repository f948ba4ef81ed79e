-- What is found under two names.
use Rattle.std.proofs.Common.{◌≡◌, ◌≢◌, ℕ, ◌+◌, ◌≤◌, Bool, true, false, cond, List, length, drop, take, get_or, Option, Some, None, Result, Ok, Err, refl, sym, ap, subst, ◌∙◌, arith}
use Rattle.std.specs.Str.{bytes_eq}
use Rattle.std.proofs.lemmas.List.{get_or-drop, get_or-take}
use Rattle.std.proofs.lemmas.Slice.Eq.{bytes_eq-Decides}
use Rattle.std.specs.Option.{option_map}
use Rattle.vm_types.specs.Saved.{Saved}
use Rattle.std.specs.FinMap.{get}
use Rattle.std.proofs.lemmas.Bool.{not-false}
use Rattle.refusals.specs.declared.refusal.Refusal.{Refusal}
use Rattle.refusals.specs.declared.refusal.Refusal.TheVariants as refusal
use Rattle.file_format.specs.Starts.{is_closed, is_other}
use Rattle.file_format.specs.Versions.{version_of}
use Rattle.snap_memory.specs.Headers as memory
use Rattle.snap_diff.specs.Headers as diffs
use Rattle.vm_outside.specs.Filing.{IsReadAt}
use Rattle.gate_file.specs.Reading.{start_of}
use Rattle.snap_memory.specs.declared.header.MemHeader.{MemHeader}
use Rattle.snap_diff.specs.declared.header.DiffHeader.{DiffHeader}
use Rattle.snap_diff.specs.declared.header.DiffNames.{DiffNames}
use Rattle.snap_diff.specs.declared.run.Run.{Run}
use Rattle.snap_diff.specs.Copies.{DiffCopy}
use Rattle.snap_diff.specs.Runs.{numbers_of}
use Rattle.snap_diff.specs.Diffs.{Begins, size_behind}
use Rattle.snap_diff.specs.Headers.{names_of}
use Rattle.snap_diff.specs.Found.{diff_found, header_read}
use Rattle.snapshot_merge.specs.declared.merge.Merge.{Merge}
use Rattle.snapshot_merge.specs.declared.error.RebaseError.{RebaseError}
use Rattle.snapshot_merge.specs.declared.error.RebaseError.TheVariants.{Refused, Fault, OutOfMemory}
use Rattle.snapshot_merge.specs.declared.finding.DiffStart.{DiffStart}
use Rattle.snapshot_merge.specs.declared.finding.Pair.{Pair}
use Rattle.snapshot_merge.specs.Answering.{Answers, IsPairIn, IsStartIn, IsStartOf, Same, StartJudged, TableJudged}
use Rattle.snapshot_merge.specs.Bases.{base_front, base_found, base_read}
use Rattle.snapshot_merge.specs.Merges.{merge_of, was_merged}
use Rattle.snapshot_merge.specs.Plans.{Plan, both_by, merged_by, plan_by, plan_of, plan_with, planned}

-- a base is what its front says
pub base_of : (size : ℕ) (front : List ℕ) (o : Option (List ℕ)) (r : Result MemHeader RebaseError)
    → ◌≡◌ {A = Option (ℕ × List ℕ)} (Some (size, front)) (option_map (start_of 4096) o)
    → Answers Same r (base_front size front) → Answers Same r (base_found o)
base_of size front None r is judged = absurd cc
base_of size front (Some given) r is judged =
    let same : ◌≡◌ {A = ℕ × List ℕ} (size, front) (length given, take 4096 given) = cc in
    subst (λ (p : ℕ × List ℕ). Answers Same r (base_front p.0 p.1)) same judged

-- a file that was read from its front
pub front_is : (o : Option (List ℕ)) (given bytes : List ℕ) (n : ℕ) → o ≡ Some given → IsReadAt o 0 bytes → length bytes ≡ n → bytes ≡ take n given
front_is None given bytes n there read size = absurd read
front_is (Some found) given bytes n there read size =
    let same : found ≡ given = cc in read.1 ∙ ap (λ (k : ℕ). take k found) size ∙ ap (take n) same

pub table_err : (given : List ℕ) (h : DiffHeader) (why : RebaseError) → TableJudged given h (Err why)
    → Answers (IsStartOf given) (Err why) (diff_found (Some given))
table_err given h (Refused why) is = is
table_err given h Fault is = tt
table_err given h OutOfMemory is = tt

-- a diff is what its table says, and as its front begins
pub diff_of_table : (size : ℕ) (front : List ℕ) (o : Option (List ℕ)) (h : DiffHeader) (r : Result DiffStart RebaseError)
    → ◌≡◌ {A = Option (ℕ × List ℕ)} (Some (size, front)) (option_map (start_of 64) o)
    → ((given : List ℕ) → front ≡ take 64 given → size ≡ length given → StartJudged given (Ok h))
    → ((given : List ℕ) → o ≡ Some given → Begins (take 64 given) h → length given ≡ 64 + size_behind h → Answers (IsStartOf given) r (diff_found (Some given)))
    → Answers (IsStartIn o) r (diff_found o)
diff_of_table size front None h r is begins judged = absurd cc
diff_of_table size front (Some given) h r is begins judged =
    let same : ◌≡◌ {A = ℕ × List ℕ} (size, front) (length given, take 64 given) = cc in
    let start = begins given (ap (λ (p : ℕ × List ℕ). p.1) same) (ap (λ (p : ℕ × List ℕ). p.0) same) in
    judged given refl start.0 start.1

pub start_names : (o : Option (List ℕ)) (start : DiffStart) (d : DiffCopy) → IsStartIn o start d → start.header.names ≡ names_of d
start_names None start d is = absurd is
start_names (Some given) start d is = ap (λ (h : DiffHeader). h.names) is.header ∙ sym (ap names_of is.file.copy)

pub pages_counted : (o : Option (List ℕ)) (start : DiffStart) (d : DiffCopy) → IsStartIn o start d → length (numbers_of start.runs) ≡ length d.numbers
pages_counted None start d is = absurd is
pages_counted (Some given) start d is =
    ap (λ (runs : List Run). length (numbers_of runs)) is.runs ∙ sym (ap (λ (c : DiffCopy). length c.numbers) is.file.copy)

-- both, of which the base was found before
pub both_good : (b : Result MemHeader Refusal) (o p : Option (List ℕ)) (h what : MemHeader) (start : DiffStart) (d : DiffCopy) → o ≡ p → b ≡ Ok what → h ≡ what → diff_found o ≡ Ok d → IsStartIn o start d
    → Answers (IsPairIn p) (Ok (record { base = h; diff = start })) (both_by b (diff_found p))
both_good b o p h what start d same base base_is diff is = (
  (what, d),
  (
    ap (λ (q : Option (List ℕ)). both_by b (diff_found q)) (sym same) ∙ ap (both_by b) diff ∙ ap (λ (c : Result MemHeader Refusal). both_by c (Ok d)) base,
    record { base = base_is; start = subst (λ (q : Option (List ℕ)). IsStartIn q start d) same is },
  ),
)

module _ (r : Result (MemHeader × DiffCopy) Refusal) (both : MemHeader × DiffCopy) (pair : Pair) (o : Option (List ℕ)) (found : r ≡ Ok both) (is : IsPairIn o pair both) where
  merges_as : plan_of r ≡ plan_with both.1 (merge_of pair.base pair.diff.header.names)
  merges_as =
      ap plan_of found ∙ ap (λ (g : MemHeader). plan_with both.1 (merge_of g (names_of both.1))) (sym is.base)
      ∙ ap (λ (g : DiffNames). plan_with both.1 (merge_of pair.base g)) (sym (start_names o pair.diff both.1 is.start))

  pub plan_good : (m : Merge) → Ok m ≡ merge_of pair.base pair.diff.header.names → plan_of r ≡ Ok (record { diff = both.1; merge = m })
  plan_good m merges = merges_as ∙ ap (plan_with both.1) (sym merges)

  pub plan_bad : (why : Refusal) → Err why ≡ merge_of pair.base pair.diff.header.names → plan_of r ≡ Err why
  plan_bad why merges = merges_as ∙ ap (plan_with both.1) (sym merges)

  pub merged_as : merged_by r ≡ was_merged pair.base pair.diff.header.names
  merged_as =
      ap merged_by found ∙ ap (λ (g : MemHeader). was_merged g (names_of both.1)) (sym is.base)
      ∙ ap (λ (g : DiffNames). was_merged pair.base g) (sym (start_names o pair.diff both.1 is.start))

-- ---- where a plan is found

base_opened : (r : Result MemHeader Refusal) (e : Result DiffCopy Refusal) (plan : Plan) → plan_by r e ≡ Ok plan → (h : MemHeader) × (d : DiffCopy) × (r ≡ Ok h) × (e ≡ Ok d)
base_opened (Err why) e plan is = absurd cc
base_opened (Ok h) (Err why) plan is = absurd cc
base_opened (Ok h) (Ok d) plan is = (h, d, refl, refl)

text_of : (o : Option (List ℕ)) (h : MemHeader) → base_found o ≡ Ok h → (text : List ℕ) × (o ≡ Some text)
text_of None h is = absurd cc
text_of (Some text) h is = (text, refl)

no_refusal : (A : Type 0) (c : Bool) (why : Refusal) (r : Result A Refusal) (v : A) → cond c (Err why) r ≡ Ok v → (c ≡ false) × (r ≡ Ok v)
no_refusal A true why r v is = absurd cc
no_refusal A false why r v is = (refl, is)

fifth : (n : ℕ) (given word : List ℕ) → 6 ≤ n → bytes_eq (take 11 (drop 1 (take n given))) word ≡ true → get_or word 4 0 ≡ get_or given 5 0
fifth n given word long same =
    ap (λ (l : List ℕ). get_or l 4 0) (sym ((bytes_eq-Decides (take 11 (drop 1 (take n given))) word).0 same))
    ∙ get_or-take 11 (drop 1 (take n given)) 4 0 (omega arith) ∙ get_or-drop 1 (take n given) 4 0 ∙ get_or-take n given 5 0 (omega (arith, long))

-- no file is both
not_both : (o : Option (List ℕ)) (h : MemHeader) (d : DiffCopy) → base_found o ≡ Ok h → diff_found o ≡ Ok d → ⊥
not_both None h d base diff = absurd cc
not_both (Some given) h d base diff =
    let front : List ℕ = take 4096 given in
    let b1 = no_refusal MemHeader (is_closed 4096 front) refusal.GateClosed (cond (is_other memory.magic front) (Err refusal.WrongMagic) (base_read (length given) (memory.header.reads front))) h base in
    let b2 = no_refusal MemHeader (is_other memory.magic front) refusal.WrongMagic (base_read (length given) (memory.header.reads front)) h b1.1 in
    let start : List ℕ = take 64 given in
    let d1 = no_refusal DiffCopy (is_closed 64 start) refusal.GateClosed (cond (is_other (diffs.magic (version_of start)) start) (Err refusal.WrongMagic) (header_read (drop 64 given) (diffs.header.reads start))) d diff in
    let d2 = no_refusal DiffCopy (is_other (diffs.magic (version_of start)) start) refusal.WrongMagic (header_read (drop 64 given) (diffs.header.reads start)) d d1.1 in
    let one : 77 ≡ get_or given 5 0 = fifth 4096 given memory.magic (omega arith) (not-false _ b2.0) in
    let two : 68 ≡ get_or given 5 0 = fifth 64 given (diffs.magic (version_of start)) (omega arith) (not-false _ d2.0) in
    let bad : 77 ≡ 68 = one ∙ sym two in
    omega (arith, bad)

-- so the files of a merge are two
pub texts_differ : (text file : List ℕ) (plan : Plan) → planned (Some text) (Some file) ≡ Ok plan → text ≢ file
texts_differ text file plan is same =
    let both = base_opened (base_found (Some text)) (diff_found (Some file)) plan is in
    not_both (Some text) both.0 both.1 both.2 (ap (λ (l : List ℕ). diff_found (Some l)) same ∙ both.3)

module _ (saved : Saved) (base diff : List ℕ) (plan : Plan) (is : plan_by (base_found (get saved base)) (diff_found (get saved diff)) ≡ Ok plan) where
  found_both : (h : MemHeader) × (d : DiffCopy) × (base_found (get saved base) ≡ Ok h) × (diff_found (get saved diff) ≡ Ok d)
  found_both = base_opened (base_found (get saved base)) (diff_found (get saved diff)) plan is

  pub base_text : (text : List ℕ) × (get saved base ≡ Some text)
  base_text = text_of (get saved base) found_both.0 found_both.2

  pub names_differ : diff ≢ base
  names_differ same =
      not_both (get saved base) found_both.0 found_both.1 found_both.2 (ap (λ (n : List ℕ). diff_found (get saved n)) (sym same) ∙ found_both.3)
