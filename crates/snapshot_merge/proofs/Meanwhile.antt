-- From the calls that a merge made to the moments inside it.
use Rattle.std.proofs.Common.{◌≡◌, ℕ, Bool, true, false, cond, List, [], ◌∷◌, ◌++◌, Option, Some, Result, Ok, Err, inl, inr, refl, sym, ◌∙◌, ap, subst, append_assoc, append-nil}
use Rattle.std.proofs.lemmas.List.{append_cancel_left}
use Rattle.std.specs.Prelude.{OnOk}
use Rattle.std.specs.FinMap.{get}
use Rattle.vm_types.specs.Saved.{Saved}
use Rattle.refusals.specs.declared.refusal.Refusal.{Refusal}
use Rattle.refusals.specs.declared.refusal.Refusal.TheVariants as refusal
use Rattle.vm_outside.specs.Calls.{FileCall}
use Rattle.vm_outside.specs.Calls.FileCall.{Synced}
use Rattle.vm_outside.specs.Crashes.{Disk, Images}
use Rattle.vm_outside.specs.Filing.{SameFiles}
use Rattle.vm_outside.specs.Known.{FilesKnown}
use Rattle.gate_file.specs.Moments.{AsBefore}
use Rattle.gate_file.specs.Stages.{LeftMeanwhile, Moment, calls_of, text_after}
use Rattle.gate_file.proofs.Inserts.{got_there}
use Rattle.snap_diff.specs.Copies.{DiffCopy, MemoryCopy, overlaid}
use Rattle.snap_diff.specs.Found.{diff_found}
use Rattle.snapshot_merge.specs.declared.error.RebaseError.{RebaseError}
use Rattle.snapshot_merge.specs.declared.error.RebaseError.TheVariants.{Refused, Fault, OutOfMemory}
use Rattle.snapshot_merge.specs.Bases.{base_found}
use Rattle.snapshot_merge.specs.Calls.{stages}
use Rattle.snapshot_merge.specs.Plans.{Plan, both_by, both_in, merged_by, planned, planned_in}
use Rattle.snapshot_merge.specs.Rebasing.{Merges, MergesPart, Rebases, Refuses, refused_calls}
use Rattle.snapshot_merge.specs.Stops.{IsMerge, IsMerged, Restarts, StandsOn, WasBegun}
use Rattle.snapshot_merge.proofs.Overlaid.{is_merged_by}
use Rattle.snapshot_merge.proofs.Refusing.{each_name, first_none, synced}
use Rattle.snapshot_merge.proofs.Stopping.{AtBoth, as_before, at_its_end, between, each, end_text, goes_on, inside, over_at, same_diff, stopped_more}

-- no call was made, so no moment is but the first
pub none_made : (before now : List FileCall) (disk : Disk) → now ≡ before → LeftMeanwhile before now disk → Images before disk
none_made before now disk same left =
    let none : left.done ≡ [] = append_cancel_left before left.done [] (sym left.calls ∙ same ∙ sym (append-nil before)) in
    let front : left.moment.done ≡ [] = first_none left.moment.done left.moment.rest (left.moment.parts ∙ none) in
    subst (λ (l : List FileCall). Images l disk) (append-nil before) (subst (λ (l : List FileCall). Images (before ++ l) disk) front left.moment.left)

-- the moments of the first of the calls are moments of all
pub front_moment : (before now script done rest : List FileCall) (disk : Disk) → done ++ rest ≡ script → now ≡ before ++ done → LeftMeanwhile before now disk
    → Moment before script disk
front_moment before now script done rest disk parts calls left =
    let same : left.done ≡ done = append_cancel_left before left.done done (sym left.calls ∙ calls) in
    record {
      done = left.moment.done;
      rest = left.moment.rest ++ rest;
      parts = sym (append_assoc left.moment.done left.moment.rest rest) ∙ ap (λ (l : List FileCall). l ++ rest) (left.moment.parts ∙ same) ∙ parts;
      left = left.moment.left;
    }

module _ (base diff : List ℕ) (old new : FilesKnown) (image : Images old.calls (λ name. get old.saved name)) where
  abbrev pub held : Disk
  held = λ name. get old.saved name

  abbrev pub script_of : Plan → List ℕ → List FileCall
  script_of plan text = calls_of base (stages plan.merge plan.diff) text

  -- at a refusal each name has what it had in some image
  pub refused_each : (why : Refusal) (disk : Disk) → Refuses base diff why old new → LeftMeanwhile old.calls new.calls disk → (name : List ℕ) → AsBefore old.calls name disk
  refused_each why disk refuses left =
      let script : List FileCall = refused_calls old.saved base diff in
      let moment = front_moment old.calls new.calls script script [] disk (append-nil script) refuses.calls left in
      each_name old.calls held image base disk (merged_by (both_in old.saved base diff)) moment.done moment.rest moment.parts moment.left

  module _ (file : List ℕ) (m : MemoryCopy) (d : DiffCopy) (was : WasBegun base diff m d file old.calls) where
    -- what the plan was made of
    is_merge : (plan : Plan) (text : List ℕ) → planned_in old.saved base diff ≡ Ok plan → get old.saved base ≡ Some text
        → IsMerge base diff file old.calls (script_of plan text)
    is_merge plan text is there =
        let other : get old.saved diff ≡ Some file = same_diff base diff file m d old.calls was held image in
        record {
          image = held;
          is = image;
          text = text;
          there = there;
          diff_there = other;
          plan = plan;
          planned = ap (λ (o : Option (List ℕ)). planned o (Some file)) (sym there) ∙ ap (λ (o : Option (List ℕ)). planned (get old.saved base) o) (sym other) ∙ is;
          makes = refl;
        }

    of_merge : (merges : Merges base diff old new) → IsMerge base diff file old.calls (script_of merges.plan merges.text)
    of_merge merges = is_merge merges.plan merges.text merges.planned merges.there

    of_part : (merges : MergesPart base diff old new) → IsMerge base diff file old.calls (script_of merges.plan merges.text)
    of_part merges = is_merge merges.plan merges.text merges.planned merges.there

    -- ---- what a stop inside it leaves

    module _ (disk : Disk) where
      pub nothing_made : SameFiles old new → LeftMeanwhile old.calls new.calls disk → StandsOn base diff m d file disk
      nothing_made same left = between base diff file m d old.calls was disk (none_made old.calls new.calls disk same.calls left)

      pub refused : (why : Refusal) → Refuses base diff why old new → LeftMeanwhile old.calls new.calls disk → StandsOn base diff m d file disk
      refused why refuses left =
          let each = refused_each why disk refuses left in
          as_before base diff file m d old.calls was disk (each base) (each diff)

      pub all_made : Merges base diff old new → LeftMeanwhile old.calls new.calls disk → StandsOn base diff m d file disk
      all_made merges left =
          let script : List FileCall = script_of merges.plan merges.text in
          inside base diff file m d old.calls was script (of_merge merges) disk
          (front_moment old.calls new.calls script script [] disk (append-nil script) merges.runs.calls left)

      pub part_made : MergesPart base diff old new → LeftMeanwhile old.calls new.calls disk → StandsOn base diff m d file disk
      part_made merges left =
          let script : List FileCall = script_of merges.plan merges.text in
          let front = merges.runs.calls in
          inside base diff file m d old.calls was script (of_part merges) disk
          (front_moment old.calls new.calls script front.done front.rest disk front.parts front.calls left)

      pub crash : {T : Type 0} (result : Result T RebaseError) → Rebases base diff result old new → LeftMeanwhile old.calls new.calls disk
          → StandsOn base diff m d file disk
      crash (Ok done) merges left = all_made merges left
      crash (Err (Refused why)) refuses left = refused why refuses left
      crash (Err Fault) (inl same) left = nothing_made same left
      crash (Err Fault) (inr merges) left = part_made merges left
      crash (Err OutOfMemory) same left = nothing_made same left

    -- ---- where it is done

    pub over : Merges base diff old new → IsMerged base diff m d file new
    unfolding of_merge is_merge
    over merges =
        let merge = of_merge merges in
        let script : List FileCall = script_of merges.plan merges.text in
        let last : List ℕ = text_after (stages merges.plan.merge merges.plan.diff) merges.text in
        let done = end_text base diff file m d was.joins was.are_bytes was.is old.calls script merge (each base diff file m d old.calls was) in
        record {
          text = last;
          there = ap (λ (s : Saved). get s base) merges.runs.saved ∙ got_there old.saved base last;
          are_bytes = done.0;
          merged = done.1;
          settled = λ disk left.
              at_its_end base diff file m d was.joins was.are_bytes was.is old.calls script merge (each base diff file m d old.calls was) disk
              (subst (λ (l : List FileCall). Images l disk) merges.runs.calls left);
        }

    -- the text of the base as it was found
    found_at : AtBoth base diff file m d was.joins was.are_bytes was.is held
    found_at = each base diff file m d old.calls was held image

    pub over_before : Refuses base diff refusal.ParentDiffers old new → IsMerged base diff m d file new
    over_before refuses =
        let text : List ℕ = found_at.0.0 in
        let there : get old.saved base ≡ Some text = found_at.0.1.0 in
        let other : get old.saved diff ≡ Some file = found_at.1 in
        let is : planned (Some text) (Some file) ≡ Err refusal.ParentDiffers =
        ap (λ (o : Option (List ℕ)). planned o (Some file)) (sym there) ∙ ap (λ (o : Option (List ℕ)). planned (get old.saved base) o) (sym other) ∙ refuses.planned in
        let done = over_at base diff file m d was.joins was.are_bytes was.is text found_at.0.1.1 is in
        let again : merged_by (both_in old.saved base diff) ≡ true =
        ap (λ (o : Option (List ℕ)). merged_by (both_by (base_found o) (diff_found (get old.saved diff)))) there
        ∙ ap (λ (o : Option (List ℕ)). merged_by (both_by (base_found (Some text)) (diff_found o))) other
        ∙ is_merged_by text file done.1.head (overlaid m d) d done.1.holds was.is was.joins.pages done.1.settled refl in
        let calls : new.calls ≡ old.calls ++ Synced base (get old.saved base) ∷ [] =
        refuses.calls ∙ ap (λ (b : Bool). old.calls ++ cond b (Synced base (get old.saved base) ∷ []) []) again in
        record {
          text = text;
          there = ap (λ (s : Saved). get s base) refuses.saved ∙ there;
          are_bytes = done.0;
          merged = done.1;
          settled = λ disk left.
              let behind = subst (λ (l : List FileCall). Images l disk) calls left in
              let second = each_name old.calls held image base disk true (Synced base (get old.saved base) ∷ []) [] refl behind diff in
              ((synced old.calls held image base disk behind).2.file ∙ there, second.2 ∙ same_diff base diff file m d old.calls was second.0 second.1);
        }

    -- ---- the same files, merged again

    same_calls : new.calls ≡ old.calls → WasBegun base diff m d file new.calls
    same_calls same = subst (λ (l : List FileCall). WasBegun base diff m d file l) (sym same) was

    -- each image of the files behind a front of these calls is a moment of them
    front_restarts : (script done rest : List FileCall) → done ++ rest ≡ script → new.calls ≡ old.calls ++ done → Restarts base diff old.calls script new.calls
    front_restarts script done rest parts calls disk left =
        (disk, record { done = done; rest = rest; parts = parts; left = subst (λ (l : List FileCall). Images l disk) calls left }, (refl, refl))

    refused_on : (why : Refusal) → Refuses base diff why old new → WasBegun base diff m d file new.calls
    refused_on why refuses = by_sync (merged_by (both_in old.saved base diff)) refuses.calls
      where
        by_sync : (again : Bool) → new.calls ≡ old.calls ++ cond again (Synced base (get old.saved base) ∷ []) [] → WasBegun base diff m d file new.calls
        by_sync false calls = same_calls (calls ∙ append-nil old.calls)
        by_sync true calls =
            goes_on base diff file m d old.calls was new.calls
            (λ disk left.
            let behind = subst (λ (l : List FileCall). Images l disk) calls left in
            let second = each_name old.calls held image base disk true (Synced base (get old.saved base) ∷ []) [] refl behind diff in
            let same : disk diff ≡ get old.saved diff = second.2 ∙ same_diff base diff file m d old.calls was second.0 second.1 ∙ sym found_at.1 in
            (held, image, ((synced old.calls held image base disk behind).2.file, same)))

    pub begun : {T : Type 0} (result : Result T RebaseError) → Rebases base diff result old new → WasBegun base diff m d file new.calls
    begun (Ok done) merges =
        let script : List FileCall = script_of merges.plan merges.text in
        stopped_more base diff file m d old.calls was script (of_merge merges) new.calls (front_restarts script script [] (append-nil script) merges.runs.calls)
    begun (Err (Refused why)) refuses = refused_on why refuses
    begun (Err Fault) (inl same) = same_calls same.calls
    begun (Err Fault) (inr merges) =
        let script : List FileCall = script_of merges.plan merges.text in
        let front = merges.runs.calls in
        stopped_more base diff file m d old.calls was script (of_part merges) new.calls (front_restarts script front.done front.rest front.parts front.calls)
    begun (Err OutOfMemory) same = same_calls same.calls

pub lasting : {T : Type 0} (base diff : List ℕ) (P : Type 0) (result : Result T RebaseError) (old new : FilesKnown)
    → (P → Images old.calls (λ name. get old.saved name)) → (P → Rebases base diff result old new)
    → OnOk result (P → (file : List ℕ) (m : MemoryCopy) (d : DiffCopy) → WasBegun base diff m d file old.calls → IsMerged base diff m d file new)
lasting base diff P (Ok done) old new image rebases = λ tells file m d was. over base diff old new (image tells) file m d was (rebases tells)
lasting base diff P (Err why) old new image rebases = tt
