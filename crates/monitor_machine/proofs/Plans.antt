-- What is due is answered by its plan.
use Rattle.std.proofs.Common.{◌≡◌, ℕ, ◌≤◌, ◌⊎◌, inl, inr, refl, sym, ap, subst, ◌∙◌, List, ◌++◌}
use Rattle.std.proofs.Math.Nat.{le_refl}
use Rattle.std.proofs.lemmas.List.{append-nil}
use Rattle.http_stream.specs.declared.request.Next.{Next}
use Rattle.vm_outside.specs.Filing.{SameFiles}
use Rattle.vm_outside.specs.Known.{FilesKnown, Lasts, Tells}
use Rattle.flat_machine.specs.Machine.{Machine}
use Rattle.flat_machine.specs.Requests.{RequestStep, closes, respond}
use Rattle.responses.specs.declared.form.ResponseForm.{ResponseForm}
use Rattle.responses.specs.Responses.{written_as}
use Rattle.monitor_plans.specs.declared.plan.Plan.{Plan}
use Rattle.monitor_plans.specs.declared.plan.Plan.TheVariants as plan
use Rattle.monitor_plans.specs.Plans.{PlanCause}
use Rattle.monitor_machine.specs.declared.machine.LiveMachine.{LiveMachine}
use Rattle.monitor_machine.specs.declared.outcome.Outcome.{Outcome}
use Rattle.monitor_machine.specs.Plans.{Answers, IsPlan, answer_of, plan_outcome, plan_response}
use Rattle.monitor_machine.specs.Replying.{OutcomeCause, Replies}
use Rattle.monitor_machine.specs.State.{IsMachine}
use Rattle.monitor_machine.proofs.Leaving.{as_it_went, outcome_of, plan_does}

cause_by : (it done : Plan) (how : Outcome) (before now : ℕ) → (done ≡ it) ⊎ (done ≡ plan.NoMemory) → how ≡ plan_outcome done → PlanCause it before now
    → before ≤ now → OutcomeCause how before now
cause_by it done how before now (inl same) is cause later =
    subst (λ (h : Outcome). OutcomeCause h before now) (sym (is ∙ ap plan_outcome same)) (own it before now cause later)
  where
    own : (it : Plan) (before now : ℕ) → PlanCause it before now → before ≤ now → OutcomeCause (plan_outcome it) before now
    own (plan.Refused why) before now cause later = cause
    own (plan.Changes c) before now cause later = cause
    own (plan.Drives drives) before now cause later = cause
    own (plan.Interfaces interfaces) before now cause later = cause
    own (plan.Resizes r) before now cause later = cause
    own (plan.Stores kept) before now cause later = cause
    own (plan.Starts w) before now cause later = cause
    own (plan.Restores r) before now cause later = cause
    own plan.FilesFailed before now cause later = cause
    own plan.NoMemory before now cause later = later
cause_by it done how before now (inr same) is cause later =
    subst (λ (h : Outcome). OutcomeCause h before now) (sym (is ∙ ap plan_outcome same)) later

done_plan : (it done : Plan) (m : Machine) (given : Next) → (done ≡ it) ⊎ (done ≡ plan.NoMemory) → IsPlan it m given → IsPlan done m given
done_plan it done m given (inl same) is = subst (λ (p : Plan). IsPlan p m given) (sym same) is
done_plan it done m given (inr same) is = subst (λ (p : Plan). IsPlan p m given) (sym same) tt

-- files that hold what they held, and on which no call was made, are as good
pub on_same : (live : LiveMachine) (known left : FilesKnown) (m : Machine) → SameFiles known left → IsMachine live known m → IsMachine live left m
on_same live known left m same is = record {
  own = is.own;
  files = record { saved_is = same.saved ∙ is.files.saved_is; calls_is = same.calls ∙ is.files.calls_is };
}

-- what is due is answered by its plan
pub replies : (form : ResponseForm) (it : Plan) (how : Outcome) (live after : LiveMachine) (text written : List ℕ) (known left : FilesKnown) (given : Next)
    → Answers form it (closes given) how live after text written → PlanCause it known.health.faults left.health.faults → Lasts known.health left.health
    → (Tells known.health → SameFiles known left) → (Tells known.health → (m : Machine) → IsMachine live known m → IsPlan it m given)
    → Replies form given how live after text written known left
replies form it how live after text written known left given a cause lasts same is_plan = record {
  cause = cause_by it a.done how known.health.faults left.health.faults a.which a.how_is cause lasts.later;
  outcome = outcome_of how;
  went_as = as_it_went how;
  responses = respond given (answer_of a.done live);
  writes = a.writes
      ∙ ap (λ (l : List ℕ). text ++ l) (sym (append-nil (written_as form (plan_response a.done (closes given) live))));
  went = λ told m here.
      let does = plan_does a.done live after known m given here a.tells (done_plan it a.done m given a.which (is_plan told m here)) a.leaves in (
        does.0,
        subst (λ (h : Outcome). RequestStep (outcome_of h) given m (respond given (answer_of a.done live)) does.0)
            (sym a.how_is) does.1,
        on_same after known left does.0 (same told) does.2,
      );
}

-- where no file is asked
pub replies_alone : (form : ResponseForm) (it : Plan) (how : Outcome) (live after : LiveMachine) (text written : List ℕ) (known : FilesKnown) (given : Next)
    → Answers form it (closes given) how live after text written → PlanCause it known.health.faults known.health.faults
    → ((m : Machine) → IsPlan it m given) → Replies form given how live after text written known known
replies_alone form it how live after text written known given a cause is_plan =
    replies form it how live after text written known known given a cause (record { still = λ told. told; later = le_refl known.health.faults })
    (λ told. record { saved = refl; calls = refl }) (λ told m here. is_plan m)
