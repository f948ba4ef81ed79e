-- A run that goes on by one act.
use Rattle.std.proofs.Common.{◌≡◌, ℕ, ◌+◌, false, refl, sym, ap, subst, ◌∙◌, List, [], ◌∷◌, ◌++◌, length, Option, Some, arith, append_assoc}
use Rattle.std.proofs.lemmas.List.{append-nil}
use Rattle.script_text.specs.declared.item.Item.{Item}
use Rattle.flat_machine.specs.Outcome.{AreAnswered, failed_in}
use Rattle.flat_machine.specs.Machine.{Machine, is_off}
use Rattle.flat_machine.specs.Items.{ItemStep}
use Rattle.flat_machine.specs.Run.{Act, AllAnswered, OnBefore, Run, failures, lines_done}
use Rattle.flat_machine.proofs.Determined.{item_one}

pub run_push : (acts : List Act) (act : Act) (m n k : Machine) (text out : List ℕ) → Run acts m text n → ItemStep act.item act.outcomes n out k → Run (acts ++ act ∷ []) m (text ++ out) k
run_push [] act m n k text out ran step = (
  out,
  k,
  [],
  subst (λ (q : Machine). ItemStep act.item act.outcomes q out k) (sym ran.1) step,
  (refl, refl),
  ap (λ (t : List ℕ). t ++ out) ran.0 ∙ sym (append-nil out),
)
run_push (a ∷ acts) act m n k text out ran step = (
  ran.0,
  ran.1,
  ran.2 ++ out,
  ran.3,
  run_push acts act ran.1 n k ran.2 out ran.4 step,
  ap (λ (t : List ℕ). t ++ out) ran.5 ∙ append_assoc ran.0 ran.2 out,
)

pub on_push : (acts : List Act) (act : Act) (m n : Machine) (text : List ℕ) → OnBefore acts m → Run acts m text n → is_off n ≡ false → OnBefore (acts ++ act ∷ []) m
on_push [] act m n text before ran on = (subst (λ (q : Machine). is_off q ≡ false) (sym ran.1) on, λ out k step. tt)
on_push (a ∷ acts) act m n text before ran on = (
  before.0,
  λ out k step. let same = (item_one a.item a.outcomes m ran.1 k ran.0 out ran.3 step).1 in
      on_push acts act k n ran.2 (before.1 out k step) (subst (λ (q : Machine). Run acts q ran.2 n) same ran.4) on,
)

pub lines_push : (acts : List Act) (act : Act) (more : List (Option Item)) → lines_done acts ++ Some act.item ∷ more ≡ lines_done (acts ++ act ∷ []) ++ more
lines_push [] act more = refl
lines_push (a ∷ acts) act more = ap (λ (l : List (Option Item)). Some a.item ∷ l) (lines_push acts act more)

pub length_push : (acts : List Act) (act : Act) → length (acts ++ act ∷ []) ≡ length acts + 1
length_push [] act = refl
length_push (a ∷ acts) act = omega (arith, length_push acts act)

pub failures_push : (acts : List Act) (act : Act) → failures (acts ++ act ∷ []) ≡ failures acts + failed_in act.outcomes
failures_push [] act = omega arith
failures_push (a ∷ acts) act = omega (arith, failures_push acts act)

pub answered_push : (acts : List Act) (act : Act) → AllAnswered (acts ++ act ∷ []) → AllAnswered acts × AreAnswered act.outcomes
answered_push [] act good = (tt, good.0)
answered_push (a ∷ acts) act good = let rest = answered_push acts act good.1 in ((good.0, rest.0), rest.1)
