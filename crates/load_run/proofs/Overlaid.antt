-- The merges of a run are those of the files of its diffs, in order.
use Rattle.std.proofs.Common.{◌≡◌, ◌≢◌, ℕ, zero, suc, ◌+◌, refl, ap, subst, ◌∙◌, List, [], ◌∷◌, ◌++◌, map, Option, Some, None, Result, Ok, Err, arith}
use Rattle.std.specs.FinMap.{get}
use Rattle.vm_types.specs.Saved.{Saved}
use Rattle.refusals.specs.declared.refusal.Refusal.{Refusal}
use Rattle.gate_file.proofs.Inserts.{got_other, got_there}
use Rattle.gate_file.specs.Stages.{text_after}
use Rattle.snapshot_merge.specs.Calls.{stages}
use Rattle.snapshot_merge.specs.InOrder.{MergeAll}
use Rattle.snapshot_merge.specs.Plans.{Plan, planned, planned_in}
use Rattle.load_run.specs.Merging.{diff_name, diffs_in, memory_name, merged, merged_by, with_diff}

abbrev pub all_there : List (List ℕ) → List (Option (List ℕ))
all_there files = map (λ (file : List ℕ). Some file) files

-- a list that ends so, of files that are all there
pub record Split (xs : List (Option (List ℕ))) (x : Option (List ℕ)) (files : List (List ℕ)) : Type 0 where
  pub front : List (List ℕ)
  pub last : List ℕ
  pub parts : files ≡ front ++ last ∷ []
  pub before : xs ≡ all_there front
  pub there : x ≡ Some last

abbrev head_or : Option (List ℕ) → List (Option (List ℕ)) → Option (List ℕ)
head_or other [] = other
head_or other (x ∷ xs) = x

abbrev behind : List (Option (List ℕ)) → List (Option (List ℕ))
behind [] = []
behind (x ∷ xs) = xs

pub split : (xs : List (Option (List ℕ))) (x : Option (List ℕ)) (files : List (List ℕ)) → xs ++ x ∷ [] ≡ all_there files → Split xs x files
split [] x [] is = cc is
split [] x (f ∷ []) is = record { front = []; last = f; parts = refl; before = refl; there = ap (head_or x) is }
split [] x (f ∷ g ∷ files) is = absurd (none (ap behind is))
  where
    none : [] ≡ Some g ∷ all_there files → ⊥
    none same = cc same
split (y ∷ xs) x [] is = cc is
split (y ∷ xs) x (f ∷ files) is =
    let rest = split xs x files (ap behind is) in
    record {
      front = f ∷ rest.front;
      last = rest.last;
      parts = ap (λ (l : List (List ℕ)). f ∷ l) rest.parts;
      before = ap (λ (l : List (Option (List ℕ))). y ∷ l) rest.before ∙ ap (λ (z : Option (List ℕ)). z ∷ all_there rest.front) (ap (head_or y) is);
      there = rest.there;
    }

pub merge_split : (base : List ℕ) (front : List (List ℕ)) (file last : List ℕ) → MergeAll base (front ++ file ∷ []) last
    → (mid : List ℕ) × MergeAll base front mid × MergeAll mid (file ∷ []) last
merge_split base [] file last all = (base, refl, all)
merge_split base (f ∷ front) file last (plan, is, all) =
    let rest = merge_split (text_after (stages plan.merge plan.diff) base) front file last all in (rest.0, (plan, is, rest.1), rest.2)

abbrev first_of : List ℕ → ℕ
first_of [] = 0
first_of (c ∷ text) = c

pub other_name : (round : ℕ) → diff_name round ≢ memory_name
other_name round same =
    let letters : 100 ≡ 109 = ap first_of same in
    absurd (omega (arith, letters))

by_plan : (plan : Result Plan Refusal) (memory : Option (List ℕ)) (saved : Saved) (name : List ℕ) → name ≢ memory_name → get (merged_by plan memory saved) name ≡ get saved name
by_plan (Ok plan) (Some memory) saved name other = got_other saved memory_name (text_after (stages plan.merge plan.diff) memory) name other
by_plan (Ok plan) None saved name other = refl
by_plan (Err why) memory saved name other = refl

pub others_kept : (rounds : ℕ) (saved : Saved) (name : List ℕ) → name ≢ memory_name → get (merged rounds saved) name ≡ get saved name
others_kept zero saved name other = refl
others_kept (suc before) saved name other =
    by_plan (planned_in (merged before saved) memory_name (diff_name (before + 1))) (get (merged before saved) memory_name) (merged before saved) name other
    ∙ others_kept before saved name other

-- one more
merged_one : (saved : Saved) (diff mid file last : List ℕ) (plan : Plan) → get saved memory_name ≡ Some mid → get saved diff ≡ Some file
    → planned (Some mid) (Some file) ≡ Ok plan → text_after (stages plan.merge plan.diff) mid ≡ last → get (with_diff diff saved) memory_name ≡ Some last
merged_one saved diff mid file last plan there given is leaves =
    let plans : planned_in saved memory_name diff ≡ Ok plan = ap (λ (o : Option (List ℕ)). planned o (get saved diff)) there
    ∙ ap (λ (o : Option (List ℕ)). planned (Some mid) o) given ∙ is in
    ap (λ (p : Result Plan Refusal). get (merged_by p (get saved memory_name) saved) memory_name) plans
    ∙ ap (λ (o : Option (List ℕ)). get (merged_by (Ok plan) o saved) memory_name) there
    ∙ got_there saved memory_name (text_after (stages plan.merge plan.diff) mid) ∙ ap (λ (t : List ℕ). Some t) leaves

pub all_merged : (rounds : ℕ) (saved : Saved) (memory : List ℕ) (files : List (List ℕ)) (last : List ℕ) → get saved memory_name ≡ Some memory → diffs_in rounds saved ≡ all_there files
    → MergeAll memory files last → get (merged rounds saved) memory_name ≡ Some last
all_merged zero saved memory [] last there are all = there ∙ ap (λ (t : List ℕ). Some t) all
all_merged zero saved memory (f ∷ files) last there are all = cc are
all_merged (suc before) saved memory files last there are all =
    let parts = split (diffs_in before saved) (get saved (diff_name (before + 1))) files are in
    let merges = merge_split memory parts.front parts.last last (subst (λ (l : List (List ℕ)). MergeAll memory l last) parts.parts all) in
    merged_one (merged before saved) (diff_name (before + 1)) merges.0 parts.last last merges.2.0 (all_merged before saved memory parts.front merges.0 there parts.before merges.1)
    (others_kept before saved (diff_name (before + 1)) (other_name (before + 1)) ∙ parts.there) merges.2.1 merges.2.2
