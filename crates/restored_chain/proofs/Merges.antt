-- What calls of the merge command leave.
use Rattle.std.proofs.Common.{◌≡◌, ℕ, List, [], ◌∷◌, Option, Some, Ok, refl, sym, ap, subst, ◌∙◌}
use Rattle.std.specs.FinMap.{get}
use Rattle.vm_types.specs.Saved.{Saved}
use Rattle.gate_file.specs.Stages.{text_after}
use Rattle.gate_file.proofs.Inserts.{got_there}
use Rattle.snapshot_merge.specs.Calls.{stages}
use Rattle.snapshot_merge.specs.InOrder.{MergeAll}
use Rattle.snapshot_merge.specs.Plans.{Plan, planned}
use Rattle.restored_chain.specs.Merged.{MergeCall, MergeCalls}

some_text : (a b : List ℕ) → ◌≡◌ {A = Option (List ℕ)} (Some a) (Some b) → a ≡ b
some_text a b is = cc

module _ (base file text : List ℕ) (left : Option (List ℕ)) (did : MergeCall base file (Some text) left) where
  abbrev plan : Plan
  plan = did.ends.plan

  -- what it found is what the first of its files held
  found : did.ends.text ≡ text
  found = some_text did.ends.text text (sym did.ends.there ∙ did.finds)

  plan_is : planned (Some text) (Some file) ≡ Ok plan
  plan_is = (λ i. planned (sym did.finds i) (sym did.has i)) ∙ did.ends.planned

  left_is : left ≡ Some (text_after (stages plan.merge plan.diff) text)
  left_is =
      sym did.leaves
      ∙ ap (λ (s : Saved). get s base) did.ends.runs.saved
      ∙ got_there did.old.saved base (text_after (stages plan.merge plan.diff) did.ends.text)
      ∙ ap (λ (t : List ℕ). Some (text_after (stages plan.merge plan.diff) t)) found

pub calls_merged : (base : List ℕ) (files : List (List ℕ)) (text : List ℕ) (left : Option (List ℕ)) → MergeCalls base files (Some text) left
    → (merged : List ℕ) × (left ≡ Some merged) × MergeAll text files merged
calls_merged base [] text left is = (text, sym is, refl)
calls_merged base (file ∷ files) text left (mid, did, more) =
    let plan = did.ends.plan in
    let next : List ℕ = text_after (stages plan.merge plan.diff) text in
    let rest = calls_merged base files next left
    (subst (λ (o : Option (List ℕ)). MergeCalls base files o left) (left_is base file text mid did) more) in
    (rest.0, rest.1, (plan, plan_is base file text mid did, rest.2))
