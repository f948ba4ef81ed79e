use Rattle.std.proofs.Common.{◌∷◌, ◌++◌, ◌∙◌, List, ℕ, ap, inr, subst, sym}
use Rattle.gate_file.proofs.Steps.{same_part, same_runs}
use Rattle.guest_pages.specs.Pages.{flat_of}
use Rattle.snap_diff.specs.Copies.{DiffCopy}
use Rattle.snap_writer.specs.Saving.{saving_calls}
use Rattle.diff_convert.specs.Planning.{IsPlan, pages_of}
use Rattle.diff_convert.proofs.Leaving.{file_is}
use Rattle.diff_convert.proofs.converting.write_found.Goals as goal

pub returns-in-Ok-write-clause-leaves : goal.returns-in-Ok-write-clause-leaves
returns-in-Ok-write-clause-leaves g c = λ told from d found full is.
    let to = c.args.to.now in
    let plan = subst (λ (x : DiffCopy). IsPlan c.in-Ok.plan (flat_of c.args.pages.now.pages).bytes x) (sym is) (c.in-Ok.ensures.plans full) in
    record {
      diff = d;
      found = found;
      runs = same_runs to _ _ _ _ _ _ (ap (λ (l : List ℕ). saving_calls to l (pages_of d)) plan.head_is)
          (ap (λ (l : List ℕ). 1 ∷ l ++ pages_of d) plan.head_is ∙ file_is d)
          (c.in-Ok-write.ensures.done told (pages_of d) plan.pages_are);
    }

pub returns-clause-leaves : goal.returns-clause-leaves
returns-clause-leaves g c = λ told from d found full is.
    let to = c.args.to.now in
    let plan = subst (λ (x : DiffCopy). IsPlan c.in-Ok.plan (flat_of c.args.pages.now.pages).bytes x) (sym is) (c.in-Ok.ensures.plans full) in
    inr (record {
      diff = d;
      found = found;
      runs = same_part to _ _ _ _ (ap (λ (l : List ℕ). saving_calls to l (pages_of d)) plan.head_is)
          (c.in-Err.ensures.begun told (pages_of d) plan.pages_are);
    })
