-- What a convert leaves, by what each of its parts did.
use Rattle.std.proofs.Common.{◌≡◌, ℕ, ◌*◌, ◌+◌, ◌⊎◌, inl, inr, Bool, true, false, cond, List, ◌∷◌, ◌++◌, length, drop, take, Option, Some, None, Result, Ok, Err, refl, sym, ap, subst, ◌∙◌, arith}
use Rattle.std.specs.FinMap.{get, insert}
use Rattle.std.specs.Str.{bytes_eq}
use Rattle.std.proofs.lemmas.List.{drop-drop}
use Rattle.std.proofs.Math.Seq.{take-length}
use Rattle.vm_types.specs.Saved.{Saved}
use Rattle.refusals.specs.declared.refusal.Refusal.{Refusal}
use Rattle.refusals.specs.declared.refusal.Refusal.TheVariants as refusal
use Rattle.vm_outside.specs.Calls.{FileCall, MakesFront}
use Rattle.vm_outside.specs.Crashes.{Disk}
use Rattle.vm_outside.specs.Filing.{SameFiles}
use Rattle.vm_outside.specs.Known.{FilesKnown}
use Rattle.vm_outside.proofs.Passing.{same_more}
use Rattle.gate_file.specs.Moments.{AsBefore, IsShut}
use Rattle.gate_file.specs.Runs.{RunsAll, RunsPart}
use Rattle.gate_file.specs.Stages.{LeftMeanwhile}
use Rattle.file_format.specs.declared.version.Version.TheVariants.{Two}
use Rattle.snap_diff.specs.declared.header.DiffHeader.{DiffHeader}
use Rattle.snap_diff.specs.declared.run.Run.{Run}
use Rattle.snap_diff.specs.Copies.{DiffCopy}
use Rattle.snap_diff.specs.Diffs.{DiffParts, are_stored, copy_of, parts_in, table_size}
use Rattle.snap_diff.specs.Found.{diff_found}
use Rattle.snap_diff.specs.Headers.{header}
use Rattle.snap_diff.proofs.Files.{opened_parts, parts_fit, stored_good, stored_is}
use Rattle.snap_writer.proofs.Moments.{moments_all, moments_none, moments_part}
use Rattle.snapshot_merge.specs.declared.error.RebaseError.{RebaseError}
use Rattle.snapshot_merge.specs.declared.error.RebaseError.TheVariants.{Refused, Fault, OutOfMemory}
use Rattle.snapshot_merge.specs.declared.finding.DiffStart.{DiffStart}
use Rattle.snapshot_merge.specs.Answering.{Answers, IsStartIn, IsStartOf}
use Rattle.diff_convert.specs.Converting.{Leaves, calls_of, file_of, found_in}
use Rattle.diff_convert.specs.Planning.{head_of, pages_of, parts_here}

-- ---- the file

pub file_is : (d : DiffCopy) → 1 ∷ head_of d ++ pages_of d ≡ file_of d
file_is d = opened_parts (parts_in Two d)

-- ---- its parts

pub found_other : (saved : Saved) (from to : List ℕ) → bytes_eq from to ≡ false → found_in saved from to ≡ diff_found (get saved from)
found_other saved from to other = ap (λ (b : Bool). cond b (Err refusal.OutOfRange) (diff_found (get saved from))) other

pub equal_names : (saved : Saved) (from to : List ℕ) → bytes_eq from to ≡ true → found_in saved from to ≡ Err refusal.OutOfRange
equal_names saved from to same = ap (λ (b : Bool). cond b (Err refusal.OutOfRange) (diff_found (get saved from))) same

-- it isn't found
pub not_found : (from to : List ℕ) (why : RebaseError) (old new : FilesKnown) → bytes_eq from to ≡ false
    → Answers {A = DiffStart} (IsStartIn (get old.saved from)) (Err why) (diff_found (get old.saved from)) → SameFiles old new
    → Leaves {T = Unit {0}} from to (Err why) old new
not_found from to (Refused why) old new other found same = record { found = found_other old.saved from to other ∙ found; same = same }
not_found from to Fault old new other found same = inl same
not_found from to OutOfMemory old new other found same = same

-- nothing was done before
runs_on : (name : List ℕ) (script : List FileCall) (text : List ℕ) (old mid new : FilesKnown) → SameFiles old mid → RunsAll name script text mid new
    → RunsAll name script text old new
runs_on name script text old mid new same runs = record {
  saved = runs.saved ∙ ap (λ (m : Saved). insert m name text) same.saved;
  calls = runs.calls ∙ ap (λ (l : List FileCall). l ++ script) same.calls;
}

part_on : (name : List ℕ) (script : List FileCall) (old mid new : FilesKnown) → SameFiles old mid → RunsPart name script mid new → RunsPart name script old new
part_on name script old mid new same part = record {
  others = λ other differs. part.others other differs ∙ ap (λ (m : Saved). get m other) same.saved;
  calls = subst (λ (l : List FileCall). MakesFront script l new.calls) same.calls part.calls;
}

found_on : (from to : List ℕ) (old mid : FilesKnown) (r : Result DiffCopy Refusal) → SameFiles old mid → found_in mid.saved from to ≡ r → found_in old.saved from to ≡ r
found_on from to old mid r same is = ap (λ (m : Saved). found_in m from to) (sym same.saved) ∙ is

pub leaves_on : (from to : List ℕ) (r : Result (Unit {0}) RebaseError) (old mid new : FilesKnown) → SameFiles old mid → Leaves from to r mid new
    → Leaves from to r old new
leaves_on from to (Ok done) old mid new same it = record {
  diff = it.diff;
  found = found_on from to old mid (Ok it.diff) same it.found;
  runs = runs_on to (calls_of to it.diff) (file_of it.diff) old mid new same it.runs;
}
leaves_on from to (Err (Refused why)) old mid new same it =
    record { found = found_on from to old mid (Err why) same it.found; same = same_more old mid new same it.same }
leaves_on from to (Err Fault) old mid new same it = elim it [
  | inl none ↦ inl (same_more old mid new same none)
  | inr part ↦ inr (record {
    diff = part.diff;
    found = found_on from to old mid (Ok part.diff) same part.found;
    runs = part_on to (calls_of to part.diff) old mid new same part.runs;
  })
]
leaves_on from to (Err OutOfMemory) old mid new same it = same_more old mid new same it

-- ---- the diff that is found, by the pages that were read

pub start_of : (content : Option (List ℕ)) (start : DiffStart) (d : DiffCopy) → IsStartIn content start d → (given : List ℕ) × (content ≡ Some given) × IsStartOf given start d
start_of None start d is = absurd is
start_of (Some given) start d is = (given, refl, is)

module _ (given : List ℕ) (start : DiffStart) (d : DiffCopy) (is : IsStartOf given start d) (bytes : List ℕ)
    (read : bytes ≡ take (4096 * start.header.stored) (drop (64 + table_size start.header) given)) where
  abbrev p : DiffParts
  p = is.file.parts_of

  stored_here : drop (64 + table_size start.header) given ≡ p.stored
  stored_here =
      ap (λ (h : DiffHeader). drop (64 + table_size h) given) is.header
      ∙ sym (drop-drop (table_size p.header) 64 given)
      ∙ stored_is given d is.file

  bytes_are : bytes ≡ p.stored
  bytes_are =
      let size = (parts_fit p is.file.fits).size in
      let many : 4096 * start.header.stored ≡ length p.stored = ap (λ (h : DiffHeader). 4096 * h.stored) is.header ∙ sym size in
      read ∙ ap (take (4096 * start.header.stored)) stored_here ∙ ap (λ (n : ℕ). take n p.stored) many ∙ take-length p.stored

  pub full_here : are_stored start.header.version start.header.stored bytes ≡ true
  full_here =
      ap (λ (h : DiffHeader). are_stored h.version h.stored bytes) is.header
      ∙ ap (are_stored p.header.version p.header.stored) bytes_are
      ∙ stored_good p (parts_fit p is.file.fits) is.file.valid

  pub diff_here : d ≡ copy_of (parts_here start.header start.runs bytes)
  diff_here =
      is.file.copy
      ∙ sym (ap (λ (h : DiffHeader). copy_of (parts_here h start.runs bytes)) is.header
      ∙ ap (λ (rs : List Run). copy_of (parts_here p.header rs bytes)) is.runs
      ∙ ap (λ (l : List ℕ). copy_of (parts_here p.header p.runs l)) bytes_are)

-- ---- at any moment

pub crash_by : (from to : List ℕ) (r : Result (Unit {0}) RebaseError) (old new : FilesKnown) (disk : Disk) → Leaves from to r old new
    → LeftMeanwhile old.calls new.calls disk
    → AsBefore old.calls to disk ⊎ IsShut 64 (disk to) ⊎ ((d : DiffCopy) × (found_in old.saved from to ≡ Ok d) × (disk to ≡ Some (file_of d)))
crash_by from to (Ok done) old new disk it left =
    elim (moments_all to (head_of it.diff) (pages_of it.diff) 64 (omega arith) old.calls new.calls disk it.runs.calls left) [
      | inl before ↦ inl before
      | inr (inl shut) ↦ inr (inl shut)
      | inr (inr whole) ↦ inr (inr (it.diff, it.found, whole ∙ ap (λ (l : List ℕ). Some l) (file_is it.diff)))
    ]
crash_by from to (Err (Refused why)) old new disk it left = inl (disk, moments_none old.calls new.calls disk it.same.calls left, refl)
crash_by from to (Err Fault) old new disk it left = elim it [
  | inl same ↦ inl (disk, moments_none old.calls new.calls disk same.calls left, refl)
  | inr part ↦ elim (moments_part to (head_of part.diff) (pages_of part.diff) 64 (omega arith) old.calls new.calls disk part.runs.calls left) [
    | inl before ↦ inl before
    | inr (inl shut) ↦ inr (inl shut)
    | inr (inr whole) ↦ inr (inr (part.diff, part.found, whole ∙ ap (λ (l : List ℕ). Some l) (file_is part.diff)))
  ]
]
crash_by from to (Err OutOfMemory) old new disk it left = inl (disk, moments_none old.calls new.calls disk it.calls left, refl)
