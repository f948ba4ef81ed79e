-- A replay in which the machine answers every request is determined.
use Rattle.std.proofs.Common.{◌≡◌, ℕ, ◌+◌, false, refl, sym, ap, subst, ◌∙◌, List, [], ◌∷◌, ◌++◌, length, Option, Some, inl, inr}
use Rattle.script_text.specs.declared.item.Item.{Item}
use Rattle.vm_types.specs.declared.exit.Exit.{Exit}
use Rattle.flat_machine.specs.Outcome.{Outcome}
use Rattle.flat_machine.specs.Machine.{Machine, is_off}
use Rattle.flat_machine.specs.Items.{ItemStep}
use Rattle.flat_machine.specs.Replay.{IsEnd, IsReplay, closed, closing, judged_script}
use Rattle.flat_machine.specs.Run.{Act, AllAnswered, OnBefore, Run, SameKept, lines_done}
use Rattle.flat_machine.proofs.Determined.{answered_alike, item_one, run_one}

-- where a run could go on, it hasn't ended
goes_on : (exit : Exit) (item : Item) (more : List (Option Item)) (left : List (Option Item)) (number : ℕ) (m : Machine) → left ≡ Some item ∷ more → is_off m ≡ false → IsEnd exit left number m → ⊥
goes_on Exit.Done item more left number m is on (inl none) = cc
goes_on Exit.Done item more left number m is on (inr off) = cc
goes_on (Exit.Script line) item more left number m is on ends = let bad = ends.3 in cc
goes_on Exit.Usage item more left number m is on ends = absurd ends
goes_on (Exit.Fault name) item more left number m is on ends = absurd ends
goes_on Exit.OutOfMemory item more left number m is on ends = absurd ends

record Ended (judges : List (Option Item)) (m : Machine) (acts : List Act) (exit : Exit) (number : ℕ) : Type 0 where
  answers : List ℕ
  last : Machine
  left : List (Option Item)
  lines : judges ≡ lines_done acts ++ left
  on : OnBefore acts m
  ran : Run acts m answers last
  good : AllAnswered acts
  ends : IsEnd exit left number last

tail_of : (a b : Option Item) (xs ys : List (Option Item)) → a ∷ xs ≡ b ∷ ys → (a ≡ b) × (xs ≡ ys)
tail_of a b xs ys same = (cc, cc)

some_same : (i o : Item) → ◌≡◌ {A = Option Item} (Some i) (Some o) → i ≡ o
some_same i o same = cc

act_one : (a b : Act) → a.item ≡ b.item → a.outcomes ≡ b.outcomes → a ≡ b
act_one a b item outcomes = λ j. record { item = item j; outcomes = outcomes j }

acts_one : (acts others : List Act) (judges : List (Option Item)) (m : Machine) (exit stop : Exit) (number count : ℕ) → SameKept acts others
    → Ended judges m acts exit number → Ended judges m others stop count → acts ≡ others
acts_one [] [] judges m exit stop number count alike x y = refl
acts_one [] (o ∷ others) judges m exit stop number count alike x y =
    absurd (goes_on exit o.item (lines_done others ++ y.left) x.left number x.last (sym x.lines ∙ y.lines) (subst (λ (q : Machine). is_off q ≡ false) x.ran.1 y.on.0) x.ends)
acts_one (a ∷ acts) [] judges m exit stop number count alike x y =
    absurd (goes_on stop a.item (lines_done acts ++ x.left) y.left count y.last (sym y.lines ∙ x.lines) (subst (λ (q : Machine). is_off q ≡ false) y.ran.1 x.on.0) y.ends)
acts_one (a ∷ acts) (o ∷ others) judges m exit stop number count alike x y =
    let both = tail_of (Some a.item) (Some o.item) (lines_done acts ++ x.left) (lines_done others ++ y.left) (sym x.lines ∙ y.lines) in
    let item : a.item ≡ o.item = some_same a.item o.item both.0 in
    let step : ItemStep o.item a.outcomes m x.ran.0 x.ran.1 = subst (λ (i : Item). ItemStep i a.outcomes m x.ran.0 x.ran.1) item x.ran.3 in
    let went : a.outcomes ≡ o.outcomes = answered_alike a.outcomes o.outcomes x.good.0 y.good.0 alike.0 in
    let first = item_one o.item o.outcomes m x.ran.1 y.ran.1 x.ran.0 y.ran.0 (subst (λ (os : List Outcome). ItemStep o.item os m x.ran.0 x.ran.1) went step) y.ran.3 in
    let one : Ended (lines_done others ++ y.left) y.ran.1 acts exit number = record {
      answers = x.ran.2;
      last = x.last;
      left = x.left;
      lines = sym both.1;
      on = subst (λ (q : Machine). OnBefore acts q) first.1 (x.on.1 x.ran.0 x.ran.1 x.ran.3);
      ran = subst (λ (q : Machine). Run acts q x.ran.2 x.last) first.1 x.ran.4;
      good = x.good.1;
      ends = x.ends;
    } in
    let two : Ended (lines_done others ++ y.left) y.ran.1 others stop count = record {
      answers = y.ran.2;
      last = y.last;
      left = y.left;
      lines = refl;
      on = y.on.1 y.ran.0 y.ran.1 y.ran.3;
      ran = y.ran.4;
      good = y.good.1;
      ends = y.ends;
    } in
    let same : a ≡ o = act_one a o item went in
    let rest : acts ≡ others = acts_one acts others (lines_done others ++ y.left) y.ran.1 exit stop number count alike.1 one two in
    λ j. same j ∷ rest j

left_one : (acts : List Act) (xs ys : List (Option Item)) → lines_done acts ++ xs ≡ lines_done acts ++ ys → xs ≡ ys
left_one [] xs ys same = same
left_one (a ∷ acts) xs ys same = left_one acts xs ys (tail_of (Some a.item) (Some a.item) (lines_done acts ++ xs) (lines_done acts ++ ys) same).1

exit_one : (exit stop : Exit) (left : List (Option Item)) (number : ℕ) (m : Machine) → IsEnd exit left number m → IsEnd stop left number m → exit ≡ stop
exit_one Exit.Done Exit.Done left number m x y = refl
exit_one Exit.Done (Exit.Script line) left number m (inl none) y = let bad = y.3 in cc
exit_one Exit.Done (Exit.Script line) left number m (inr off) y = let on = y.1 in cc
exit_one (Exit.Script line) Exit.Done left number m x (inl none) = let bad = x.3 in cc
exit_one (Exit.Script line) Exit.Done left number m x (inr off) = let on = x.1 in cc
exit_one (Exit.Script line) (Exit.Script other) left number m x y = ap (λ (n : ℕ). Exit.Script n) (x.0 ∙ sym y.0)
exit_one Exit.Usage stop left number m x y = absurd x
exit_one (Exit.Fault name) stop left number m x y = absurd x
exit_one Exit.OutOfMemory stop left number m x y = absurd x
exit_one Exit.Done Exit.Usage left number m x y = absurd y
exit_one Exit.Done (Exit.Fault name) left number m x y = absurd y
exit_one Exit.Done Exit.OutOfMemory left number m x y = absurd y
exit_one (Exit.Script line) Exit.Usage left number m x y = absurd y
exit_one (Exit.Script line) (Exit.Fault name) left number m x y = absurd y
exit_one (Exit.Script line) Exit.OutOfMemory left number m x y = absurd y

module _ (script : List ℕ) (m n k : Machine) (acts others : List Act) (exit stop : Exit) (t u : List ℕ) (good : AllAnswered acts) (fine : AllAnswered others) (alike : SameKept acts others) (x : IsReplay script m acts exit t n) (y : IsReplay script m others stop u k) where
  ended_x : Ended (judged_script script) m acts exit (length acts + 1)
  ended_x = record { answers = x.answers; last = x.last; left = x.left; lines = x.plays.lines; on = x.plays.on; ran = x.plays.ran; good = good; ends = x.ends }

  ended_y : Ended (judged_script script) m others stop (length others + 1)
  ended_y = record { answers = y.answers; last = y.last; left = y.left; lines = y.plays.lines; on = y.plays.on; ran = y.plays.ran; good = fine; ends = y.ends }

  pub replay_acts : acts ≡ others
  replay_acts = acts_one acts others (judged_script script) m exit stop (length acts + 1) (length others + 1) alike ended_x ended_y

  both_ran : (x.answers ≡ y.answers) × (x.last ≡ y.last)
  both_ran = run_one others m x.last y.last x.answers y.answers (subst (λ (xs : List Act). Run xs m x.answers x.last) replay_acts x.plays.ran) y.plays.ran

  both_left : x.left ≡ y.left
  both_left = left_one others x.left y.left (subst (λ (xs : List Act). lines_done xs ++ x.left ≡ judged_script script) replay_acts (sym x.plays.lines) ∙ y.plays.lines)

  pub replay_exit : exit ≡ stop
  replay_exit =
      exit_one exit stop y.left (length others + 1) y.last
      (subst (λ (l : List (Option Item)). IsEnd exit l (length others + 1) y.last) both_left
      (subst (λ (q : Machine). IsEnd exit x.left (length others + 1) q) both_ran.1
      (subst (λ (xs : List Act). IsEnd exit x.left (length xs + 1) x.last) replay_acts x.ends)))
      y.ends

  pub replay_text : t ≡ u
  replay_text =
      x.writes ∙ ap (λ (s : List ℕ). s ++ closing exit x.last) both_ran.0 ∙ ap (λ (e : Exit). y.answers ++ closing e x.last) replay_exit ∙ ap (λ (q : Machine). y.answers ++ closing stop q) both_ran.1 ∙ sym y.writes

  pub replay_after : n ≡ k
  replay_after =
      x.leaves ∙ ap (λ (e : Exit). closed e x.last) replay_exit ∙ ap (λ (q : Machine). closed stop q) both_ran.1 ∙ sym y.leaves
