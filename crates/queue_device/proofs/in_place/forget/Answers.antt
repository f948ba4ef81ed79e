use Rattle.std.proofs.Common.{◌≡◌, ℕ, ap, refl, sym, subst, ◌∙◌, true}
use Rattle.std.proofs.lemmas.Bool.{and_from}
use Rattle.vq_split.proofs.Kept.{is_eq}
use Rattle.dev_core.specs.declared.returning.ReturnStage.{ReturnStage}
use Rattle.dev_core.specs.Returning.{return_left}
use Rattle.queue_device.specs.declared.lanes.Rounds.{Rounds}
use Rattle.queue_device.specs.declared.phase.InHand.{InHand}
use Rattle.queue_device.specs.Kept.{is_told}
use Rattle.queue_device.specs.Left.{used_chain}
use Rattle.queue_device.proofs.in_place.forget.Goals as goal

-- where neither head nor length is told any more
module _ (stage : ReturnStage) (chain old : InHand) (len before : ℕ) (is : chain ≡ record old { head = 0 }) (none : len ≡ 0) where
  none_left : ((r : Rounds) → return_left stage (used_chain (record old { head = 0 }) 0 r) ≡ return_left stage (used_chain old before r))
      → (r : Rounds) → return_left stage (used_chain chain len r) ≡ return_left stage (used_chain old before r)
  none_left same r = (λ i. return_left stage (used_chain (is i) (none i) r)) ∙ same r

  none_told : is_told stage 0 0 ≡ true → is_told stage len chain.head ≡ true
  none_told told =
      let head : chain.head ≡ 0 = ap (λ (x : InHand). x.head) is in
      subst (λ (n : ℕ). is_told stage n chain.head ≡ true) (sym none) (subst (λ (n : ℕ). is_told stage 0 n ≡ true) (sym head) told)

  none_kept : chain ≡ record old { head = chain.head }
  none_kept = is ∙ (λ i. record old { head = (sym (ap (λ (x : InHand). x.head) is)) i })

pub returns-in-Pair-clause-told : goal.returns-in-Pair-clause-told
returns-in-Pair-clause-told c = subst (λ (x : ReturnStage). is_told x c.args.len.now c.args.chain.now.head ≡ true) (sym c.in-Pair.is) refl

pub returns-in-Half-clause-left : goal.returns-in-Half-clause-left
returns-in-Half-clause-left c = λ r.
    subst (λ (x : ReturnStage). return_left x (used_chain (record c.args.chain.now { head = 0 }) c.args.len.now r)
    ≡ return_left x (used_chain c.args.chain.now c.args.len.now r)) (sym c.in-Half.is) refl

pub returns-in-Half-clause-told : goal.returns-in-Half-clause-told
returns-in-Half-clause-told c = subst (λ (x : ReturnStage). is_told x c.args.len.now 0 ≡ true) (sym c.in-Half.is) (is_eq 0 0 refl)

pub returns-in-Index-clause-left : goal.returns-in-Index-clause-left
returns-in-Index-clause-left c =
    none_left c.args.stage c.clear.new.chain c.args.chain.now c.clear.new.len c.args.len.now c.clear.ensures.chain c.clear.ensures.len
    (λ r. subst (λ (x : ReturnStage). return_left x (used_chain (record c.args.chain.now { head = 0 }) 0 r)
    ≡ return_left x (used_chain c.args.chain.now c.args.len.now r)) (sym c.in-Index.is) refl)

pub returns-in-Index-clause-told : goal.returns-in-Index-clause-told
returns-in-Index-clause-told c =
    none_told c.args.stage c.clear.new.chain c.args.chain.now c.clear.new.len c.args.len.now c.clear.ensures.chain c.clear.ensures.len
    (subst (λ (x : ReturnStage). is_told x 0 0 ≡ true) (sym c.in-Index.is) (and_from _ _ (is_eq 0 0 refl) (is_eq 0 0 refl)))

pub returns-in-Index-clause-chain : goal.returns-in-Index-clause-chain
returns-in-Index-clause-chain c =
    none_kept c.args.stage c.clear.new.chain c.args.chain.now c.clear.new.len c.args.len.now c.clear.ensures.chain c.clear.ensures.len

pub returns-in-Event-clause-left : goal.returns-in-Event-clause-left
returns-in-Event-clause-left c =
    none_left c.args.stage c.clear-in-Event.new.chain c.args.chain.now c.clear-in-Event.new.len c.args.len.now c.clear-in-Event.ensures.chain c.clear-in-Event.ensures.len
    (λ r. subst (λ (x : ReturnStage). return_left x (used_chain (record c.args.chain.now { head = 0 }) 0 r)
    ≡ return_left x (used_chain c.args.chain.now c.args.len.now r)) (sym c.in-Event.is) refl)

pub returns-in-Event-clause-told : goal.returns-in-Event-clause-told
returns-in-Event-clause-told c =
    none_told c.args.stage c.clear-in-Event.new.chain c.args.chain.now c.clear-in-Event.new.len c.args.len.now c.clear-in-Event.ensures.chain c.clear-in-Event.ensures.len
    (subst (λ (x : ReturnStage). is_told x 0 0 ≡ true) (sym c.in-Event.is) (and_from _ _ (is_eq 0 0 refl) (is_eq 0 0 refl)))

pub returns-in-Event-clause-chain : goal.returns-in-Event-clause-chain
returns-in-Event-clause-chain c =
    none_kept c.args.stage c.clear-in-Event.new.chain c.args.chain.now c.clear-in-Event.new.len c.args.len.now c.clear-in-Event.ensures.chain c.clear-in-Event.ensures.len

pub returns-in-Interrupt-clause-left : goal.returns-in-Interrupt-clause-left
returns-in-Interrupt-clause-left c =
    none_left c.args.stage c.clear-in-Interrupt.new.chain c.args.chain.now c.clear-in-Interrupt.new.len c.args.len.now c.clear-in-Interrupt.ensures.chain c.clear-in-Interrupt.ensures.len
    (λ r. subst (λ (x : ReturnStage). return_left x (used_chain (record c.args.chain.now { head = 0 }) 0 r)
    ≡ return_left x (used_chain c.args.chain.now c.args.len.now r)) (sym c.in-Interrupt.is) refl)

pub returns-in-Interrupt-clause-told : goal.returns-in-Interrupt-clause-told
returns-in-Interrupt-clause-told c =
    none_told c.args.stage c.clear-in-Interrupt.new.chain c.args.chain.now c.clear-in-Interrupt.new.len c.args.len.now c.clear-in-Interrupt.ensures.chain c.clear-in-Interrupt.ensures.len
    (subst (λ (x : ReturnStage). is_told x 0 0 ≡ true) (sym c.in-Interrupt.is) (and_from _ _ (is_eq 0 0 refl) (is_eq 0 0 refl)))

pub returns-in-Interrupt-clause-chain : goal.returns-in-Interrupt-clause-chain
returns-in-Interrupt-clause-chain c =
    none_kept c.args.stage c.clear-in-Interrupt.new.chain c.args.chain.now c.clear-in-Interrupt.new.len c.args.len.now c.clear-in-Interrupt.ensures.chain c.clear-in-Interrupt.ensures.len

pub returns-in-Line-clause-left : goal.returns-in-Line-clause-left
returns-in-Line-clause-left c =
    none_left c.args.stage c.clear-in-Line.new.chain c.args.chain.now c.clear-in-Line.new.len c.args.len.now c.clear-in-Line.ensures.chain c.clear-in-Line.ensures.len
    (λ r. subst (λ (x : ReturnStage). return_left x (used_chain (record c.args.chain.now { head = 0 }) 0 r)
    ≡ return_left x (used_chain c.args.chain.now c.args.len.now r)) (sym c.in-Line.is) refl)

pub returns-in-Line-clause-told : goal.returns-in-Line-clause-told
returns-in-Line-clause-told c =
    none_told c.args.stage c.clear-in-Line.new.chain c.args.chain.now c.clear-in-Line.new.len c.args.len.now c.clear-in-Line.ensures.chain c.clear-in-Line.ensures.len
    (subst (λ (x : ReturnStage). is_told x 0 0 ≡ true) (sym c.in-Line.is) (and_from _ _ (is_eq 0 0 refl) (is_eq 0 0 refl)))

pub returns-in-Line-clause-chain : goal.returns-in-Line-clause-chain
returns-in-Line-clause-chain c =
    none_kept c.args.stage c.clear-in-Line.new.chain c.args.chain.now c.clear-in-Line.new.len c.args.len.now c.clear-in-Line.ensures.chain c.clear-in-Line.ensures.len
