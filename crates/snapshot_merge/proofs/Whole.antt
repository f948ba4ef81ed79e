-- A merge from its first sync on.
use Rattle.std.proofs.Common.{◌≡◌, ℕ, List, [], ◌∷◌, ◌++◌, Option, Some, Result, Ok, Err, sym, ap, subst, ◌∙◌}
use Rattle.std.specs.Prelude.{OnErr, OnOk}
use Rattle.std.specs.FinMap.{get, insert}
use Rattle.vm_types.specs.Saved.{Saved}
use Rattle.vm_outside.specs.Calls.{FileCall, MakesFront}
use Rattle.vm_outside.specs.Filing.{SameFiles, Syncs}
use Rattle.vm_outside.specs.Calls.FileCall.{Synced}
use Rattle.vm_outside.specs.Known.{FilesKnown}
use Rattle.gate_file.specs.Runs.{RunsAll, RunsPart}
use Rattle.gate_file.proofs.Steps.{sync_part, sync_runs, there_after}
use Rattle.file_format.specs.Identities.{identity}
use Rattle.snap_diff.specs.Copies.{DiffCopy}
use Rattle.snap_diff.specs.declared.header.DiffNames.{DiffNames}
use Rattle.snapshot_merge.specs.declared.finding.DiffStart.{DiffStart}
use Rattle.snapshot_merge.specs.declared.merge.Merge.{Merge}
use Rattle.snapshot_merge.specs.declared.merge.Merge.TheVariants.{Begin, GoOn, Finish}
use Rattle.snapshot_merge.specs.Answering.{AreThere, IsStartIn}
use Rattle.gate_file.specs.Stages.{calls_of, stage_calls, text_after}
use Rattle.snapshot_merge.specs.Calls.{filling, marking, naming, slot_at, stages}
use Rattle.snapshot_merge.specs.Plans.{Plan}
use Rattle.snapshot_merge.proofs.PagingRuns.{still_there}
use Rattle.snapshot_merge.proofs.Planned.{start_names}
use Rattle.snapshot_merge.proofs.Staged.{later_fails, others_fail, stage_fails, stage_then, stages_fail, stages_then}

pub ok_map : {T E : Type 0} (r : Result T E) (P Q : Type 0) → (P → Q) → OnOk r P → OnOk r Q
ok_map (Ok v) P Q f h = f h
ok_map (Err e) P Q f h = tt

pub err_map : {T E : Type 0} (r : Result T E) (P Q : Type 0) → (P → Q) → OnErr r P → OnErr r Q
err_map (Ok v) P Q f h = tt
err_map (Err e) P Q f h = f h

pub name_is : (o : Option (List ℕ)) (start : DiffStart) (d : DiffCopy) (name : List ℕ) → IsStartIn o start d → name ≡ identity.bytes start.header.names.identity → name ≡ identity.bytes d.identity
name_is o start d name is same = same ∙ ap (λ (n : DiffNames). identity.bytes n.identity) (start_names o start d is)

-- the first two stages of a merge from its beginning
abbrev pub beginning : ℕ → List ℕ → List (List (ℕ × List ℕ))
beginning slot name = ((slot_at slot, name) ∷ []) ∷ (marking 1 ∷ []) ∷ []

module _ (base diff : List ℕ) (start : DiffStart) (plan : Plan) (text : List ℕ) (old : FilesKnown)
    (there : get old.saved base ≡ Some text) (are : AreThere base diff start plan.diff old.saved) where
  pub not_synced : (new : FilesKnown) → SameFiles old new → RunsPart base (calls_of base (stages plan.merge plan.diff) text) old new
  not_synced new same = by_merge plan.merge
    where
      by_merge : (m : Merge) → RunsPart base (calls_of base (stages m plan.diff) text) old new
      by_merge (Begin slot) = stage_fails base [] ((naming slot plan.diff.identity ∷ []) ∷ (marking 1 ∷ []) ∷ filling slot plan.diff) text old new (sync_part base (Synced base (Some text)) [] old new same)
      by_merge (GoOn slot) = stage_fails base [] (filling slot plan.diff) text old new (sync_part base (Synced base (Some text)) [] old new same)
      by_merge Finish = stage_fails base [] ((marking 0 ∷ []) ∷ []) text old new (sync_part base (Synced base (Some text)) [] old new same)

  module _ (mid : FilesKnown) (synced : Syncs old base mid) where
    first : RunsAll base (stage_calls base [] text) text old mid
    first = sync_runs base text old mid there synced

    pub there_synced : get mid.saved base ≡ Some text
    there_synced = there_after base (stage_calls base [] text) text old mid first

    pub are_synced : AreThere base diff start plan.diff mid.saved
    are_synced = still_there base diff start plan.diff text old there are (stage_calls base [] text) text mid first

    -- all of it
    module _ (slot : ℕ) (name : List ℕ) (is : plan.merge ≡ Begin slot) (named : name ≡ identity.bytes plan.diff.identity) where
      stages_are : [] ∷ ((slot_at slot, name) ∷ []) ∷ (marking 1 ∷ []) ∷ filling slot plan.diff ≡ stages plan.merge plan.diff
      stages_are =
          ap (λ (l : List ℕ). [] ∷ ((slot_at slot, l) ∷ []) ∷ (marking 1 ∷ []) ∷ filling slot plan.diff) named
          ∙ ap (λ (m : Merge). stages m plan.diff) (sym is)

      pub not_begun : (new : FilesKnown) → RunsPart base (calls_of base (beginning slot name) text) mid new → RunsPart base (calls_of base (stages plan.merge plan.diff) text) old new
      not_begun new part =
          subst (λ (ws : List (List (ℕ × List ℕ))). RunsPart base (calls_of base ws text) old new) stages_are
          (later_fails base [] (((slot_at slot, name) ∷ []) ∷ (marking 1 ∷ []) ∷ filling slot plan.diff) text old mid new first
          (stages_fail base (beginning slot name) (filling slot plan.diff) text mid new part))

      module _ (begun : FilesKnown) (runs : RunsAll base (calls_of base (beginning slot name) text) (text_after (beginning slot name) text) mid begun) where
        pub there_begun : get begun.saved base ≡ Some (text_after (beginning slot name) text)
        there_begun = there_after base _ _ mid begun runs

        pub are_begun : AreThere base diff start plan.diff begun.saved
        are_begun = still_there base diff start plan.diff text mid there_synced are_synced (calls_of base (beginning slot name) text) (text_after (beginning slot name) text) begun runs

        pub begin_fails : (new : FilesKnown) → RunsPart base (calls_of base (filling slot plan.diff) (text_after (beginning slot name) text)) begun new → RunsPart base (calls_of base (stages plan.merge plan.diff) text) old new
        begin_fails new part =
            subst (λ (ws : List (List (ℕ × List ℕ))). RunsPart base (calls_of base ws text) old new) stages_are
            (later_fails base [] (((slot_at slot, name) ∷ []) ∷ (marking 1 ∷ []) ∷ filling slot plan.diff) text old mid new first
            (others_fail base (beginning slot name) (filling slot plan.diff) text mid begun new runs part))

        pub begin_done : (new : FilesKnown)
            → RunsAll base (calls_of base (filling slot plan.diff) (text_after (beginning slot name) text)) (text_after (filling slot plan.diff) (text_after (beginning slot name) text)) begun new
            → RunsAll base (calls_of base (stages plan.merge plan.diff) text) (text_after (stages plan.merge plan.diff) text) old new
        begin_done new filled =
            subst (λ (ws : List (List (ℕ × List ℕ))). RunsAll base (calls_of base ws text) (text_after ws text) old new) stages_are
            (stage_then base [] (((slot_at slot, name) ∷ []) ∷ (marking 1 ∷ []) ∷ filling slot plan.diff) text old mid new first
            (stages_then base (beginning slot name) (filling slot plan.diff) text mid begun new runs filled))

    -- what is left of it
    module _ (rest : List (List (ℕ × List ℕ))) (are_rest : [] ∷ rest ≡ stages plan.merge plan.diff) where
      pub rest_fails : (new : FilesKnown) → RunsPart base (calls_of base rest text) mid new → RunsPart base (calls_of base (stages plan.merge plan.diff) text) old new
      rest_fails new part =
          subst (λ (ws : List (List (ℕ × List ℕ))). RunsPart base (calls_of base ws text) old new) are_rest (later_fails base [] rest text old mid new first part)

      pub rest_done : (new : FilesKnown) → RunsAll base (calls_of base rest text) (text_after rest text) mid new
          → RunsAll base (calls_of base (stages plan.merge plan.diff) text) (text_after (stages plan.merge plan.diff) text) old new
      rest_done new runs =
          subst (λ (ws : List (List (ℕ × List ℕ))). RunsAll base (calls_of base ws text) (text_after ws text) old new) are_rest (stage_then base [] rest text old mid new first runs)

-- ---- from before the files were read

pub all_since : (name : List ℕ) (script : List FileCall) (text : List ℕ) (old mid new : FilesKnown) → SameFiles old mid → RunsAll name script text mid new → RunsAll name script text old new
all_since name script text old mid new same runs = record {
  saved = runs.saved ∙ ap (λ (m : Saved). insert m name text) same.saved;
  calls = runs.calls ∙ ap (λ (l : List FileCall). l ++ script) same.calls;
}

pub part_since : (name : List ℕ) (script : List FileCall) (old mid new : FilesKnown) → SameFiles old mid → RunsPart name script mid new → RunsPart name script old new
part_since name script old mid new same part = record {
  others = λ other differs. part.others other differs ∙ ap (λ (m : Saved). get m other) same.saved;
  calls = subst (λ (calls : List FileCall). MakesFront script calls new.calls) same.calls part.calls;
}
