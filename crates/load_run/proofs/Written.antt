-- From the line of a run, written or cut off, to what the command owes.
use Rattle.std.proofs.Common.{◌≡◌, ◌∙◌, inl, ℕ, List, ◌++◌, Option, Some, None, ap, refl, sym, subst, unwrap_or}
use Rattle.vm_types.specs.Causes.{Rose}
use Rattle.vm_types.specs.declared.exit.Exit.{Exit}
use Rattle.vm_types.specs.declared.exit.Object.TheVariants as object
use Rattle.vm_outside.specs.Known.{Lasts, SinkKnown, Tells}
use Rattle.vm_outside.specs.Passing.{TakesPart}
use Rattle.command_line.specs.Commands.{run_number}
use Rattle.load_run.specs.Running.{IsRun, Ran}

no_number : (number : ℕ) → None ≡ Some number → ⊥
no_number number is = cc

done_no_usage : Exit.Done ≡ Exit.Usage → ⊥
done_no_usage is = cc

fault_no_usage : Exit.Fault object.Sink ≡ Exit.Usage → ⊥
fault_no_usage is = cc

module _ (words : List (List ℕ)) (number : ℕ) (is : run_number words ≡ Some number) (line bytes : List ℕ) (given : bytes ≡ line) (run : IsRun number line)
    (before now : SinkKnown) (lasts : Lasts before.health now.health) where
  same : (other : ℕ) → run_number words ≡ Some other → number ≡ other
  same other named = ap (λ (o : Option ℕ). unwrap_or o number) (sym is ∙ named)

  run_of : (other : ℕ) → run_number words ≡ Some other → IsRun other bytes
  run_of other named = subst (λ (n : ℕ). IsRun n bytes) (same other named) (subst (λ (l : List ℕ). IsRun number l) (sym given) run)

  pub wrote_line : (Tells before.health → now.taken ≡ before.taken ++ bytes) → now.health.faults ≡ before.health.faults → Ran words Exit.Done before now
  wrote_line takes kept = record {
    usage = (λ e. absurd (done_no_usage e), λ none. absurd (no_number number (sym none ∙ is)));
    unbegun = λ e told. absurd (done_no_usage e);
    wrote = λ tells other named. (bytes, run_of other named, takes tells);
    ends = tt;
    cause = kept;
    complete = λ other named never. inl refl;
    lasts = lasts;
  }

  pub wrote_front : (Tells before.health → TakesPart before.taken now.taken bytes) → Rose before.health.faults now.health.faults
      → Ran words (Exit.Fault object.Sink) before now
  wrote_front takes rose = record {
    usage = (λ e. absurd (fault_no_usage e), λ none. absurd (no_number number (sym none ∙ is)));
    unbegun = λ e told. absurd (fault_no_usage e);
    wrote = λ tells other named. (bytes, run_of other named, takes tells);
    ends = tt;
    cause = rose;
    complete = λ other named never. absurd (never rose);
    lasts = lasts;
  }
