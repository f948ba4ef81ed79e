-- Where a timer's steps lead: what may come after the timer continues them, one more step leads to the next timer, and
-- steps lead to one timer at most.
use Rattle.std.proofs.Common.{◌≡◌, ℕ, refl, sym, ap, subst, ◌∙◌, Bool, true, if◌then◌else◌, List, [], ◌∷◌, ◌++◌, Option, Some, None, append_assoc}
use Rattle.std.proofs.lemmas.List.{append-nil}
use Rattle.vm_types.specs.declared.reply.Reply.{Reply}
use Rattle.vm_types.specs.declared.entry.Step.{Step}
use Rattle.vm_types.specs.Fits.{fits}
use Rattle.timer_trace.specs.declared.timer.Timer.{Timer}
use Rattle.timer_trace.specs.Traces.{asked, advanced, difference, rounds, TimerTrace}
use Rattle.timer_trace.specs.States.{BegunBy, LeadsTo, last_of, new_timer, stepped_by, timer_next, timer_stepped, timer_wants, wants_by}
use Rattle.timer_trace.proofs.Rounds.{Rest, RestBy}

rounds_append : (last : Option ℕ) (xs ys : List ℕ)
    → rounds last (xs ++ ys) ≡ rounds last xs ++ rounds (last_of last xs) ys
rounds_append last [] ys = refl
rounds_append last (x ∷ xs) ys =
    ap (λ (l : List Step). asked x ∷ advanced (difference last x) ∷ l) (rounds_append (Some x) xs ys)

last_append : (last : Option ℕ) (xs : List ℕ) (x : ℕ) → last_of last (xs ++ x ∷ []) ≡ Some x
last_append last [] x = refl
last_append last (y ∷ xs) x = last_append (Some y) xs x

-- what may come after the timer continues the steps that lead to it
on_by : (es : List Step) (due last : Option ℕ) (answers : List ℕ) (part more : List Step)
    → BegunBy (last_of None answers) due last part → rounds None answers ++ part ≡ es → RestBy due last more
    → TimerTrace (es ++ more)
on_by es None last answers part more begun whole r =
    let joins = rounds_append None answers r.0 in (
      answers ++ r.0,
      rw (← whole, begun.0, append-nil (rounds None answers), ← r.1, begun.1) joins,
    )
on_by es (Some due) last answers part [] begun whole r = absurd r
on_by es (Some due) last answers part (s ∷ more) begun whole r =
    let answer : ℕ = begun.0 in
    let joins = rounds_append None answers (answer ∷ r.1) in
    let rest : rounds (Some answer) r.1 ≡ more = ap (λ (l : Option ℕ). rounds l r.1) (sym begun.3) ∙ r.2 in
    let first : advanced (difference (last_of None answers) answer) ≡ s = ap advanced (sym begun.2) ∙ sym r.0 in (
      answers ++ answer ∷ r.1,
      joins
          ∙ ap (λ (l : List Step). rounds None answers ++ asked answer ∷ advanced (difference (last_of None answers) answer) ∷ l) rest
          ∙ ap (λ (x : Step). rounds None answers ++ asked answer ∷ x ∷ more) first
          ∙ sym (append_assoc (rounds None answers) (asked answer ∷ []) (s ∷ more))
          ∙ ap (λ (l : List Step). (rounds None answers ++ l) ++ s ∷ more) (sym begun.1)
          ∙ ap (λ (l : List Step). l ++ s ∷ more) whole,
    )

pub leads_on : (es : List Step) (t : Timer) → LeadsTo es t → (more : List Step) → Rest t more → TimerTrace (es ++ more)
leads_on es t l more r = on_by es t.due t.last l.0 l.1 more l.2 l.3 r

-- one more step
next_by : (es : List Step) (due last : Option ℕ) (answers : List ℕ) (part : List Step) (reply : Reply)
    → BegunBy (last_of None answers) due last part → rounds None answers ++ part ≡ es → fits (wants_by due) reply ≡ true
    → LeadsTo (es ++ record { op = wants_by due; reply = reply } ∷ []) (stepped_by due last reply)
next_by es None last answers part (Reply.Word answer) begun whole fit =
    let before : difference last answer ≡ difference (last_of None answers) answer =
    ap (λ (l : Option ℕ). difference l answer) begun.1 in (
      answers,
      asked answer ∷ [],
      (answer, refl, before, refl),
      rw (← whole, begun.0, append-nil (rounds None answers)) refl,
    )
next_by es (Some due) last answers part Reply.Done begun whole fit =
    let answer : ℕ = begun.0 in
    let joins = rounds_append None answers (answer ∷ []) in
    let last_is : last ≡ last_of None (answers ++ answer ∷ []) = begun.3 ∙ sym (last_append None answers answer) in
    let second : advanced (difference (last_of None answers) answer) ≡ advanced due = ap advanced (sym begun.2) in (
      answers ++ answer ∷ [],
      [],
      (refl, last_is),
      append-nil (rounds None (answers ++ answer ∷ []))
          ∙ joins
          ∙ ap (λ (x : Step). rounds None answers ++ asked answer ∷ x ∷ []) second
          ∙ sym (append_assoc (rounds None answers) (asked answer ∷ []) (advanced due ∷ []))
          ∙ ap (λ (l : List Step). (rounds None answers ++ l) ++ advanced due ∷ []) (sym begun.1)
          ∙ ap (λ (l : List Step). l ++ advanced due ∷ []) whole,
    )
next_by es None last answers part reply begun whole fit = cc
next_by es (Some due) last answers part reply begun whole fit = cc

pub leads_next : (es : List Step) (t : Timer) (reply : Reply) → LeadsTo es t → fits (timer_wants t) reply ≡ true
    → LeadsTo (es ++ record { op = timer_wants t; reply = reply } ∷ []) (timer_next t reply)
leads_next es t reply l fit =
    subst (λ (b : Bool). LeadsTo (es ++ record { op = timer_wants t; reply = reply } ∷ [])
    (if b then timer_stepped t reply else t)) (sym fit) (next_by es t.due t.last l.0 l.1 reply l.2 l.3 fit)

-- steps lead to the timer that walking along them gives
abbrev walk : Timer → List Step → Timer
walk t [] = t
walk t (e ∷ es) = walk (timer_next t e.reply) es

walk-append : (t : Timer) (xs ys : List Step) → walk t (xs ++ ys) ≡ walk (walk t xs) ys
walk-append t [] ys = refl
walk-append t (e ∷ xs) ys = walk-append (timer_next t e.reply) xs ys

abbrev timer_of : Option ℕ → Option ℕ → Timer
timer_of due last = record { last = last; due = due }

walk_rounds : (last : Option ℕ) (answers : List ℕ)
    → walk (timer_of None last) (rounds last answers) ≡ timer_of None (last_of last answers)
walk_rounds last [] = refl
walk_rounds last (answer ∷ answers) = walk_rounds (Some answer) answers

walk_begun : (before due last : Option ℕ) (part : List Step) → BegunBy before due last part
    → walk (timer_of None before) part ≡ timer_of due last
walk_begun before None last part begun =
    ap (λ (l : List Step). walk (timer_of None before) l) begun.0 ∙ ap (λ (o : Option ℕ). timer_of None o) (sym begun.1)
walk_begun before (Some due) last part begun =
    ap (λ (l : List Step). walk (timer_of None before) l) begun.1
    ∙ ap (λ (n : ℕ). timer_of (Some n) (Some begun.0)) (sym begun.2)
    ∙ ap (λ (o : Option ℕ). timer_of (Some due) o) (sym begun.3)

walk_leads : (es : List Step) (t : Timer) → LeadsTo es t → walk new_timer es ≡ t
walk_leads es t l =
    ap (λ (x : List Step). walk new_timer x) (sym l.3)
    ∙ walk-append new_timer (rounds None l.0) l.1
    ∙ ap (λ (u : Timer). walk u l.1) (walk_rounds None l.0)
    ∙ walk_begun (last_of None l.0) t.due t.last l.1 l.2

pub one_timer : (es : List Step) (t u : Timer) → LeadsTo es t → LeadsTo es u → t ≡ u
one_timer es t u l m = sym (walk_leads es t l) ∙ walk_leads es u m
