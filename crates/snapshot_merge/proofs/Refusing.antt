-- A refusal, with a sync of the base or without, and what a stop inside it leaves.
use Rattle.std.proofs.Common.{◌≡◌, ℕ, Bool, true, false, cond, List, [], ◌∷◌, ◌++◌, Result, Ok, Err, inl, inr, refl, sym, ◌∙◌, ap, subst, append-nil}
use Rattle.std.specs.FinMap.{get}
use Rattle.std.specs.Str.{bytes_eq}
use Rattle.std.proofs.lemmas.Slice.Eq.{bytes_eq-Decides}
use Rattle.vm_types.specs.Saved.{Saved}
use Rattle.vm_outside.specs.Calls.{FileCall}
use Rattle.vm_outside.specs.Calls.FileCall.{Synced}
use Rattle.vm_outside.specs.Crashes.{Disk, Images, NoFile}
use Rattle.vm_outside.specs.Filing.{SameFiles}
use Rattle.vm_outside.specs.Known.{FilesKnown}
use Rattle.vm_outside.proofs.Passing.{same_more}
use Rattle.gate_file.specs.Moments.{AsBefore}
use Rattle.gate_file.proofs.Staging.{Step, left_then}
use Rattle.snapshot_merge.specs.declared.error.RebaseError.{RebaseError}
use Rattle.snapshot_merge.specs.declared.error.RebaseError.TheVariants.{Refused, Fault, OutOfMemory}
use Rattle.snapshot_merge.specs.Plans.{planned_in}
use Rattle.snapshot_merge.specs.Rebasing.{Rebases, refused_calls}
use Rattle.snapshot_merge.proofs.Whole.{all_since, part_since}

-- ---- from before the files were read

pub since : {T : Type 0} (base diff : List ℕ) (r : Result T RebaseError) (old mid new : FilesKnown) → SameFiles old mid → Rebases base diff r mid new → Rebases base diff r old new
since base diff (Ok done) old mid new same m = record {
  plan = m.plan;
  text = m.text;
  planned = ap (λ (s : Saved). planned_in s base diff) (sym same.saved) ∙ m.planned;
  there = ap (λ (s : Saved). get s base) (sym same.saved) ∙ m.there;
  runs = all_since base _ _ old mid new same m.runs;
}
since base diff (Err (Refused why)) old mid new same r = record {
  planned = ap (λ (s : Saved). planned_in s base diff) (sym same.saved) ∙ r.planned;
  saved = r.saved ∙ same.saved;
  calls = r.calls ∙ ap (λ (l : List FileCall). l ++ refused_calls mid.saved base diff) same.calls
      ∙ ap (λ (s : Saved). old.calls ++ refused_calls s base diff) same.saved;
}
since base diff (Err Fault) old mid new same (inl none) = inl (same_more old mid new same none)
since base diff (Err Fault) old mid new same (inr m) = inr (record {
  plan = m.plan;
  text = m.text;
  planned = ap (λ (s : Saved). planned_in s base diff) (sym same.saved) ∙ m.planned;
  there = ap (λ (s : Saved). get s base) (sym same.saved) ∙ m.there;
  runs = part_since base _ old mid new same m.runs;
})
since base diff (Err OutOfMemory) old mid new same none = same_more old mid new same none

-- ---- what a stop inside it leaves

pub first_none : (a b : List FileCall) → a ++ b ≡ [] → a ≡ []
first_none [] b is = refl
first_none (c ∷ a) b is = absurd cc

module _ (before : List FileCall) (saved : Disk) (image : Images before saved) (base : List ℕ) (disk : Disk) where
  abbrev pub sync_of : FileCall
  sync_of = Synced base (saved base)

  by_name : (b : Bool) (name : List ℕ) → bytes_eq name base ≡ b → Step sync_of (Images before) disk → AsBefore before name disk
  by_name true name is step =
      let same : name ≡ base = (bytes_eq-Decides name base).0 is in
      (saved, image, ap disk same ∙ step.2.file ∙ ap saved (sym same))
  by_name false name is step =
      (step.0, step.1, step.2.others name (λ same. let wrong : true ≡ false = sym ((bytes_eq-Decides name base).1 same) ∙ is in cc))

  -- behind the sync
  pub synced : Images (before ++ sync_of ∷ []) disk → Step sync_of (Images before) disk
  synced left = left_then NoFile before (sync_of ∷ []) disk left

  -- each name has what it had in some image before
  pub each_name : (again : Bool) (done rest : List FileCall) → done ++ rest ≡ cond again (sync_of ∷ []) [] → Images (before ++ done) disk → (name : List ℕ) → AsBefore before name disk
  each_name again [] rest parts left name = (disk, subst (λ (l : List FileCall). Images l disk) (append-nil before) left, refl)
  each_name false (call ∷ done) rest parts left name = absurd cc
  each_name true (call ∷ done) rest parts left name =
      let first : call ≡ sync_of = cc in
      let none : done ++ rest ≡ [] = cc in
      let all : call ∷ done ≡ sync_of ∷ [] = ap (λ (c : FileCall). c ∷ done) first ∙ ap (λ (l : List FileCall). sync_of ∷ l) (first_none done rest none) in
      by_name (bytes_eq name base) name refl (synced (subst (λ (l : List FileCall). Images (before ++ l) disk) all left))
