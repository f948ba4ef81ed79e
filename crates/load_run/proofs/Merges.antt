-- What a merge leaves of the files.
use Rattle.std.proofs.Common.{◌≡◌, ℕ, suc, ◌+◌, sym, ap, ◌∙◌, List, Option, Result, Ok, arith}
use Rattle.std.specs.FinMap.{get}
use Rattle.vm_types.specs.Saved.{Saved}
use Rattle.refusals.specs.declared.refusal.Refusal.{Refusal}
use Rattle.vm_outside.specs.Known.{FilesKnown}
use Rattle.snap_diff.specs.Found.{diff_found}
use Rattle.snapshot_merge.specs.Plans.{Plan}
use Rattle.snapshot_merge.specs.Rebasing.{Merges, Refuses}
use Rattle.load_run.specs.Merging.{diff_name, memory_name, merged, merged_by, pages_by, pages_in, with_diff}

pub one_merged : (diff : List ℕ) (old new : FilesKnown) → Merges memory_name diff old new → new.saved ≡ with_diff diff old.saved
one_merged diff old new m =
    m.runs.saved ∙ sym (ap (λ (p : Result Plan Refusal). merged_by p (get old.saved memory_name) old.saved) m.planned
    ∙ ap (λ (t : Option (List ℕ)). merged_by (Ok m.plan) t old.saved) m.there)

pub none_merged : (diff : List ℕ) (why : Refusal) (old new : FilesKnown) → Refuses memory_name diff why old new → new.saved ≡ with_diff diff old.saved
none_merged diff why old new refuses =
    refuses.saved ∙ sym (ap (λ (p : Result Plan Refusal). merged_by p (get old.saved memory_name) old.saved) refuses.planned)

pub merged_more : (before : ℕ) (saved mid now : Saved) → mid ≡ merged before saved → now ≡ with_diff (diff_name (before + 1)) mid → now ≡ merged (before + 1) saved
merged_more before saved mid now was is =
    let next : suc before ≡ before + 1 = omega arith in
    is ∙ ap (λ (s : Saved). with_diff (diff_name (before + 1)) s) was ∙ ap (λ (n : ℕ). merged n saved) next

pub pages_more : (before pages more : ℕ) (saved now : Saved) → pages ≡ pages_in before saved → now ≡ saved → more ≡ pages_by (diff_found (get now (diff_name (before + 1))))
    → pages + more ≡ pages_in (before + 1) saved
pages_more before pages more saved now was same is =
    let next : suc before ≡ before + 1 = omega arith in
    ap (λ (n : ℕ). n + more) was ∙ ap (λ (n : ℕ). pages_in before saved + n) (is ∙ ap (λ (s : Saved). pages_by (diff_found (get s (diff_name (before + 1))))) same)
    ∙ ap (λ (n : ℕ). pages_in n saved) next
