-- The merges of a run are such as calls of the merge command make.
use Rattle.std.proofs.Common.{◌≡◌, ℕ, zero, suc, ◌+◌, true, refl, sym, ap, subst, ◌∙◌, List, [], ◌∷◌, ◌++◌, Option, Some, Ok, Result}
use Rattle.std.specs.FinMap.{get, insert}
use Rattle.vm_types.specs.Saved.{Saved}
use Rattle.vm_outside.specs.Known.{FilesKnown}
use Rattle.refusals.specs.declared.refusal.Refusal.{Refusal}
use Rattle.gate_file.specs.Stages.{calls_of, text_after}
use Rattle.snapshot_merge.specs.Calls.{stages}
use Rattle.snapshot_merge.specs.InOrder.{MergeAll}
use Rattle.snapshot_merge.specs.Plans.{Plan, planned, planned_in}
use Rattle.restored_chain.specs.Merged.{MergeCall, MergeCalls}
use Rattle.load_run.specs.Merging.{diff_name, diffs_in, memory_name, merged, merged_by, with_diff}
use Rattle.load_run.proofs.Overlaid.{all_merged, all_there, merge_split, other_name, others_kept, split}

-- ---- one merge

module _ (saved : Saved) (diff mid file : List ℕ) (plan : Plan) (there : get saved memory_name ≡ Some mid) (given : get saved diff ≡ Some file)
    (plans : planned (Some mid) (Some file) ≡ Ok plan) where
  -- it finds and leaves these files
  abbrev before : FilesKnown
  before = record { health = record { tells = true; faults = 0 }; saved = saved; calls = [] }

  abbrev after : FilesKnown
  after = record {
    health = record { tells = true; faults = 0 };
    saved = with_diff diff saved;
    calls = calls_of memory_name (stages plan.merge plan.diff) mid;
  }

  planned_is : planned_in saved memory_name diff ≡ Ok plan
  planned_is =
      ap (λ (o : Option (List ℕ)). planned o (get saved diff)) there
      ∙ ap (λ (o : Option (List ℕ)). planned (Some mid) o) given ∙ plans

  leaves : with_diff diff saved ≡ insert saved memory_name (text_after (stages plan.merge plan.diff) mid)
  leaves =
      ap (λ (p : Result Plan Refusal). merged_by p (get saved memory_name) saved) planned_is
      ∙ ap (λ (o : Option (List ℕ)). merged_by (Ok plan) o saved) there

  one_call : MergeCall memory_name file (get saved memory_name) (get (with_diff diff saved) memory_name)
  one_call = record {
    diff = diff;
    old = before;
    new = after;
    finds = refl;
    has = given;
    ends = record { plan = plan; text = mid; planned = planned_is; there = there; runs = record { saved = leaves; calls = refl } };
    leaves = refl;
  }

-- ---- one after another

calls_append : (files : List (List ℕ)) (file : List ℕ) (now mid left : Option (List ℕ)) → MergeCalls memory_name files now mid
    → MergeCall memory_name file mid left → MergeCalls memory_name (files ++ file ∷ []) now left
calls_append [] file now mid left same call =
    (left, subst (λ (o : Option (List ℕ)). MergeCall memory_name file o left) (sym same) call, refl)
calls_append (first ∷ files) file now mid left (between, did, more) call =
    (between, did, calls_append files file between mid left more call)

pub all_called : (rounds : ℕ) (saved : Saved) (memory : List ℕ) (files : List (List ℕ)) (last : List ℕ) → get saved memory_name ≡ Some memory
    → diffs_in rounds saved ≡ all_there files → MergeAll memory files last
    → MergeCalls memory_name files (Some memory) (get (merged rounds saved) memory_name)
all_called zero saved memory [] last there are all = sym there
all_called zero saved memory (f ∷ files) last there are all = cc are
all_called (suc before) saved memory files last there are all =
    let parts = split (diffs_in before saved) (get saved (diff_name (before + 1))) files are in
    let merges = merge_split memory parts.front parts.last last (subst (λ (l : List (List ℕ)). MergeAll memory l last) parts.parts all) in
    let there_then = all_merged before saved memory parts.front merges.0 there parts.before merges.1 in
    let given =
    others_kept before saved (diff_name (before + 1)) (other_name (before + 1)) ∙ parts.there in
    subst (λ (l : List (List ℕ)). MergeCalls memory_name l (Some memory) (get (merged (suc before) saved) memory_name)) (sym parts.parts)
    (calls_append parts.front parts.last (Some memory) (get (merged before saved) memory_name) (get (merged (suc before) saved) memory_name)
    (all_called before saved memory parts.front merges.0 there parts.before merges.1)
    (one_call (merged before saved) (diff_name (before + 1)) merges.0 parts.last merges.2.0 there_then given merges.2.1))
