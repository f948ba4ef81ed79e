use Rattle.std.proofs.Common.{◌≡◌, ◌∷◌, ◌++◌, ◌∙◌, List, ℕ, subst}
use Rattle.gate_file.specs.Runs.{RunsAll, RunsPart}
use Rattle.gate_file.proofs.Steps.{on_err}
use Rattle.guest_pages.specs.Pages.{flat_of}
use Rattle.snap_writer.specs.Saving.{saving_calls}
use Rattle.snap_writer.specs.Selected.{selected}
use Rattle.vm_outside.specs.Known.{Tells}
use Rattle.diff_convert.specs.Planning.{numbers_in}
use Rattle.diff_convert.proofs.converting.write.Goals as goal

pub returns-clause-done : goal.returns-clause-done
returns-clause-done g c = λ told bytes same.
    let known = g.F.Files.known in
    let to = c.args.to.now in
    subst (λ (l : List ℕ). RunsAll to (saving_calls to c.args.plan.now.head.items l) (1 ∷ c.args.plan.now.head.items ++ l) (known c.args.files.now) (known c.save.new.files))
    (c.saved_of-saved.ensures ∙ same)
    (subst (λ (l : List ℕ). RunsAll to (saving_calls to l c.saved_of-saved.result) (1 ∷ l ++ c.saved_of-saved.result) (known c.args.files.now) (known c.save.new.files))
    c.deref.ensures.value (c.in_ok-save.ensures.saved told))

pub returns-in_err-save-clause-begun : goal.returns-in_err-save-clause-begun
returns-in_err-save-clause-begun g c =
    let known = g.F.Files.known in
    let to = c.args.to.now in
    let head = c.args.plan.now.head.items in
    let part : Tells (known c.args.files.now).health → (bytes : List ℕ)
    → selected (numbers_in c.args.plan.now.numbers) (flat_of c.args.pages.now.pages).bytes ≡ bytes
    → RunsPart to (saving_calls to head bytes) (known c.args.files.now) (known c.save.new.files) = λ told bytes same.
    subst (λ (l : List ℕ). RunsPart to (saving_calls to head l) (known c.args.files.now) (known c.save.new.files)) (c.saved_of-saved.ensures ∙ same)
    (subst (λ (l : List ℕ). RunsPart to (saving_calls to l c.saved_of-saved.result) (known c.args.files.now) (known c.save.new.files)) c.deref.ensures.value
    (c.in_err-save.ensures.begun told)) in
    on_err _ _ part
