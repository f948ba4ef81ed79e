-- A merge keeps files in agreement with the list, at every moment.
use Rattle.std.proofs.Common.{◌≡◌, ℕ, Bool, true, false, List, [], ◌++◌, Option, Some, None, Result, Ok, Err, inl, inr, ⊎_elim, refl, sym, ◌∙◌, ap, subst, append-nil}
use Rattle.std.specs.FinMap.{get}
use Rattle.std.specs.Str.{bytes_eq}
use Rattle.std.proofs.lemmas.Slice.Eq.{bytes_eq-Decides}
use Rattle.refusals.specs.declared.refusal.Refusal.{Refusal}
use Rattle.refusals.specs.declared.refusal.Refusal.TheVariants as refusal
use Rattle.vm_outside.specs.Calls.{FileCall}
use Rattle.vm_outside.specs.Crashes.{Disk, Images, NoFile}
use Rattle.vm_outside.specs.Filing.{SameFiles}
use Rattle.vm_outside.specs.Known.{FilesKnown}
use Rattle.gate_file.specs.Stages.{LeftMeanwhile, Moment, calls_of}
use Rattle.gate_file.proofs.Staging.{left_then, of_other}
use Rattle.file_format.specs.Format.{IsBytes}
use Rattle.snap_memory.specs.declared.header.MemHeader.{MemHeader}
use Rattle.snap_diff.specs.Copies.{DiffCopy, Joins, MemoryCopy}
use Rattle.snap_diff.specs.Diffs.{IsDiffFile}
use Rattle.snapshot_merge.specs.Bases.{base_found}
use Rattle.snapshot_merge.specs.declared.error.RebaseError.{RebaseError}
use Rattle.snapshot_merge.specs.declared.error.RebaseError.TheVariants.{Refused, Fault, OutOfMemory}
use Rattle.snapshot_merge.specs.Calls.{stages}
use Rattle.snapshot_merge.specs.Plans.{Plan, plan_by, planned, planned_in}
use Rattle.snapshot_merge.specs.Rebasing.{MergesPart, Rebases, Refuses}
use Rattle.snapshot_merge.specs.Stops.{IsMerge}
use Rattle.snapshot_merge.proofs.Meanwhile.{front_moment, none_made, refused_each}
use Rattle.snapshot_merge.proofs.Standing.{at_bytes, from_at}
use Rattle.snapshot_merge.proofs.Stopping.{calls_are, in_calls, not_both, same_some}
use Rattle.create_lists.specs.Listed.{AgreeAll, Agrees, AgreesText, AreCreates, Create, HoldBytes, HoldsBytes, diff_since, memory_of}
use Rattle.create_lists.proofs.Planning.{AtText, at_text, c, e, is_diff, left_agrees, parent, text_joins}

-- a diff that isn't there has no plan
no_diff : (r : Result MemHeader Refusal) (plan : Plan) → plan_by r (Err refusal.NoSuchFile) ≡ Ok plan → ⊥
no_diff (Ok h) plan is = cc
no_diff (Err why) plan is = cc

module _ (creates : List Create) (are : AreCreates creates) (base diff : List ℕ) (before : List FileCall) (holds : HoldBytes before) (each : AgreeAll creates before) where
  module _ (file : List ℕ) (calls : List FileCall) (merge : IsMerge base diff file before calls) (disk : Disk) (moment : Moment before calls disk) where
    of_text : IsBytes merge.text
    of_text = holds merge.image merge.is base merge.text merge.there

    of_file : IsBytes file
    of_file = holds merge.image merge.is diff file merge.diff_there

    base_agrees : AgreesText creates merge.text
    base_agrees = each merge.image merge.is base merge.text merge.there

    diff_agrees : AgreesText creates file
    diff_agrees = each merge.image merge.is diff file merge.diff_there

    abbrev base_copy : MemoryCopy
    base_copy = memory_of (c creates are merge.text file of_text of_file base_agrees diff_agrees merge.plan merge.planned)

    abbrev of_diff : DiffCopy
    of_diff = diff_since (parent creates are merge.text file of_text of_file base_agrees diff_agrees merge.plan merge.planned) (e creates are merge.text file of_text of_file base_agrees diff_agrees merge.plan merge.planned)

    abbrev joined : Joins base_copy of_diff
    joined = text_joins creates are merge.text file of_text of_file base_agrees diff_agrees merge.plan merge.planned

    abbrev is_d : IsDiffFile file of_diff
    is_d = is_diff creates are merge.text file of_text of_file base_agrees diff_agrees merge.plan merge.planned

    abbrev AtOf : List ℕ → Type 0
    AtOf left = AtText creates are merge.text file of_text of_file base_agrees diff_agrees merge.plan merge.planned left

    at_first : AtOf merge.text
    at_first = at_text creates are merge.text file of_text of_file base_agrees diff_agrees merge.plan merge.planned

    -- it agrees with the list, and is of bytes
    abbrev IsGood : List ℕ → Type 0
    IsGood now = AgreesText creates now × IsBytes now

    of_image : (old : Disk) → Images before old → (name now : List ℕ) → old name ≡ Some now → IsGood now
    of_image old image name now there = (each old image name now there, holds old image name now there)

    in_base : (now : List ℕ) → disk base ≡ Some now → IsGood now
    in_base now there =
        ⊎_elim
        (λ going.
        ⊎_elim (λ image. of_image disk image base now there)
        (λ at. subst IsGood (same_some at.0 now (sym at.1.0 ∙ there)) (
          left_agrees creates are merge.text file of_text of_file base_agrees diff_agrees merge.plan merge.planned at.0 at.1.1,
          at_bytes base_copy of_diff joined file of_file is_d at.0 at.1.1,
        ))
        (in_calls base diff file base_copy of_diff joined of_file is_d before merge.text going moment.done moment.rest
        (moment.parts ∙ calls_are base diff file base_copy of_diff joined of_file is_d before calls merge going) disk (left_then NoFile before moment.done disk moment.left)))
        (λ over. absurd (not_both merge.plan (sym merge.planned ∙ over.1)))
        (from_at base_copy of_diff joined file of_file is_d merge.text at_first)

    by_name : (b : Bool) (name now : List ℕ) → bytes_eq name base ≡ b → disk name ≡ Some now → ((name ≡ base → ⊥) → (old : Disk) × Images before old × (disk name ≡ old name)) → IsGood now
    by_name true name now is there of_other_name = in_base now (ap disk (sym ((bytes_eq-Decides name base).0 is)) ∙ there)
    by_name false name now is there of_other_name =
        let old = of_other_name (λ same. let wrong : true ≡ false = sym ((bytes_eq-Decides name base).1 same) ∙ is in cc) in
        of_image old.0 old.1 name now (sym old.2 ∙ there)

    pub merge_keeps : Agrees creates disk × HoldsBytes disk
    merge_keeps = ((λ name now there. (good name now there).0), (λ name now there. (good name now there).1))
      where
        good : (name now : List ℕ) → disk name ≡ Some now → IsGood now
        good name now there =
            by_name (bytes_eq name base) name now refl there
            (λ other. of_other base before name other (stages merge.plan.merge merge.plan.diff) merge.text disk
            (record { done = moment.done; rest = moment.rest; parts = moment.parts ∙ merge.makes; left = moment.left }))

-- ---- by what a merge says of its calls

file_in : (saved : Disk) (diff text : List ℕ) (plan : Plan) → planned (Some text) (saved diff) ≡ Ok plan → (file : List ℕ) × (saved diff ≡ Some file)
file_in saved diff text plan is = by (saved diff) refl is
  where
    by : (o : Option (List ℕ)) → saved diff ≡ o → planned (Some text) o ≡ Ok plan → (file : List ℕ) × (saved diff ≡ Some file)
    by (Some file) there is = (file, there)
    by None there is = absurd (no_diff (base_found (Some text)) plan is)

module _ (creates : List Create) (are : AreCreates creates) (base diff : List ℕ) (old new : FilesKnown) (holds : HoldBytes old.calls) (each : AgreeAll creates old.calls)
    (image : Images old.calls (λ name. get old.saved name)) (disk : Disk) (left : LeftMeanwhile old.calls new.calls disk) where
  abbrev Kept : Type 0
  Kept = Agrees creates disk × HoldsBytes disk

  nothing_made : SameFiles old new → Kept
  nothing_made same = let image = none_made old.calls new.calls disk same.calls left in (each disk image, holds disk image)

  refused_made : (why : Refusal) → Refuses base diff why old new → Kept
  refused_made why refuses =
      let was = refused_each base diff old new image why disk refuses left in (
        (λ name text there. each (was name).0 (was name).1 name text (sym (was name).2 ∙ there)),
        (λ name text there. holds (was name).0 (was name).1 name text (sym (was name).2 ∙ there)),
      )

  module _ (plan : Plan) (text : List ℕ) (is : planned_in old.saved base diff ≡ Ok plan) (there : get old.saved base ≡ Some text) where
    abbrev script : List FileCall
    script = calls_of base (stages plan.merge plan.diff) text

    by_text : planned (Some text) (get old.saved diff) ≡ Ok plan
    by_text = ap (λ (o : Option (List ℕ)). planned o (get old.saved diff)) (sym there) ∙ is

    other : (file : List ℕ) × (get old.saved diff ≡ Some file)
    other = file_in (λ name. get old.saved name) diff text plan by_text

    is_merge : IsMerge base diff other.0 old.calls script
    is_merge = record {
      image = λ name. get old.saved name;
      is = image;
      text = text;
      there = there;
      diff_there = other.1;
      plan = plan;
      planned = ap (λ (o : Option (List ℕ)). planned (Some text) o) (sym other.1) ∙ by_text;
      makes = refl;
    }

    some_made : (done rest : List FileCall) → done ++ rest ≡ script → new.calls ≡ old.calls ++ done → Kept
    some_made done rest parts calls =
        merge_keeps creates are base diff old.calls holds each other.0 script is_merge disk
        (front_moment old.calls new.calls script done rest disk parts calls left)

  part_made : MergesPart base diff old new → Kept
  part_made merges =
      let front = merges.runs.calls in
      some_made merges.plan merges.text merges.planned merges.there front.done front.rest front.parts front.calls

  pub rebase_keeps : (result : Result (Unit {0}) RebaseError) → Rebases base diff result old new → Kept
  rebase_keeps (Ok done) merges =
      let script : List FileCall = calls_of base (stages merges.plan.merge merges.plan.diff) merges.text in
      some_made merges.plan merges.text merges.planned merges.there script [] (append-nil script) merges.runs.calls
  rebase_keeps (Err (Refused why)) refuses = refused_made why refuses
  rebase_keeps (Err Fault) (inl same) = nothing_made same
  rebase_keeps (Err Fault) (inr merges) = part_made merges
  rebase_keeps (Err OutOfMemory) same = nothing_made same
