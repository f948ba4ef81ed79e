-- The first step of what may still come has the op that is wanted, and what is after it may come after the reply.
use Rattle.std.proofs.Common.{◌≡◌, ℕ, refl, sym, ap, subst, ◌∙◌, Bool, true, if◌then◌else◌, List, [], ◌∷◌, ◌++◌, Option, Some, None}
use Rattle.vm_types.specs.declared.op.Op.{Op}
use Rattle.vm_types.specs.declared.reply.Reply.{Reply}
use Rattle.vm_types.specs.declared.entry.Step.{Step}
use Rattle.vm_types.specs.Fits.{fits, Fits}
use Rattle.timer_trace.specs.declared.timer.Timer.{Timer}
use Rattle.timer_trace.specs.Traces.{asked, advanced, difference, rounds}
use Rattle.timer_trace.specs.States.{timer_wants, timer_next, timer_stepped, wants_by, stepped_by}

-- the rest of the round that is begun, and then whole rounds
abbrev pub RestBy : Option ℕ → Option ℕ → List Step → Type 0
RestBy None last steps = (answers : List ℕ) × (rounds last answers ≡ steps)
RestBy (Some due) last [] = ⊥
RestBy (Some due) last (s ∷ steps) = (s ≡ advanced due) × (answers : List ℕ) × (rounds last answers ≡ steps)

abbrev pub Rest : Timer → List Step → Type 0
Rest t steps = RestBy t.due t.last steps

-- a step with a fitting reply leads on
next_fits : (t : Timer) (reply : Reply) → fits (timer_wants t) reply ≡ true → timer_stepped t reply ≡ timer_next t reply
next_fits t reply fit = ap (λ (b : Bool). if b then timer_stepped t reply else t) (sym fit)

abbrev pub Headed : Timer → Step → List Step → Type 0
Headed t e es = (e.op ≡ timer_wants t) × Fits e.op e.reply × Rest (timer_next t e.reply) es

-- with these parts
abbrev timer_of : Option ℕ → Option ℕ → Timer
timer_of due last = record { last = last; due = due }

headed_round : (last : Option ℕ) (answers : List ℕ) (e : Step) (es : List Step) → rounds last answers ≡ e ∷ es
    → Headed (timer_of None last) e es
headed_round last [] e es is = cc
headed_round last (answer ∷ answers) e es is =
    let first : asked answer ≡ e = cc in
    let rest : advanced (difference last answer) ∷ rounds (Some answer) answers ≡ es = cc in
    subst (λ (x : Step). Headed (timer_of None last) x es) first
    (subst (λ (xs : List Step). Headed (timer_of None last) (asked answer) xs) rest (refl, refl, (refl, answers, refl)))

headed_by : (due last : Option ℕ) (e : Step) (es : List Step) → RestBy due last (e ∷ es)
    → Headed (timer_of due last) e es
headed_by None last e es r = headed_round last r.0 e es r.1
headed_by (Some due) last e es r =
    subst (λ (x : Step). Headed (timer_of (Some due) last) x es) (sym r.0) (refl, refl, (r.1, r.2))

pub headed : (t : Timer) (e : Step) (es : List Step) → Rest t (e ∷ es) → Headed t e es
headed t e es r = headed_by t.due t.last e es r

-- and back
answered_round : (last : Option ℕ) (answer : ℕ) (es : List Step) → RestBy (Some (difference last answer)) (Some answer) es
    → RestBy None last (asked answer ∷ es)
answered_round last answer [] r = absurd r
answered_round last answer (e ∷ es) r = (
  answer ∷ r.1,
  ap (λ (x : Step). asked answer ∷ x ∷ rounds (Some answer) r.1) (sym r.0)
      ∙ ap (λ (xs : List Step). asked answer ∷ e ∷ xs) r.2,
)

unheaded_reply : (due last : Option ℕ) (reply : Reply) (es : List Step) → fits (wants_by due) reply ≡ true
    → Rest (stepped_by due last reply) es → RestBy due last (record { op = wants_by due; reply = reply } ∷ es)
unheaded_reply None last (Reply.Word answer) es fit r = answered_round last answer es r
unheaded_reply (Some due) last Reply.Done es fit r = (refl, r.0, r.1)
unheaded_reply None last reply es fit r = cc
unheaded_reply (Some due) last reply es fit r = cc

pub unheaded : (t : Timer) (e : Step) (es : List Step) → e.op ≡ timer_wants t → Fits e.op e.reply
    → Rest (timer_next t e.reply) es → Rest t (e ∷ es)
unheaded t e es is fit r =
    let fit_here : fits (timer_wants t) e.reply ≡ true = subst (λ (o : Op). Fits o e.reply) is fit in
    let stepped : Rest (timer_stepped t e.reply) es = subst (λ (u : Timer). Rest u es) (sym (next_fits t e.reply fit_here)) r in
    subst (λ (o : Op). Rest t (record { op = o; reply = e.reply } ∷ es)) (sym is)
    (unheaded_reply t.due t.last e.reply es fit_here stepped)

-- what is begun can end
some_by : (due last : Option ℕ) → (es : List Step) × RestBy due last es
some_by None last = ([], ([], refl))
some_by (Some due) last = (advanced due ∷ [], (refl, [], refl))

pub some_rest : (t : Timer) → (es : List Step) × Rest t es
some_rest t = some_by t.due t.last

-- for each want a reply that fits
abbrev settled_by : Option ℕ → Reply
settled_by None = Reply.Word 0
settled_by (Some due) = Reply.Done

settled_fits : (due : Option ℕ) → fits (wants_by due) (settled_by due) ≡ true
settled_fits None = refl
settled_fits (Some due) = refl

pub settled_step : (t : Timer) → (e : Step) × (e.op ≡ timer_wants t) × Fits e.op e.reply
settled_step t = (record { op = timer_wants t; reply = settled_by t.due }, refl, settled_fits t.due)

-- two steps that may come after the same steps have one op
pub unique : (t : Timer) (es : List Step) (a b : Step) (m n : List Step) → Rest t (es ++ a ∷ m) → Rest t (es ++ b ∷ n)
    → a.op ≡ b.op
unique t [] a b m n x y = (headed t a m x).0 ∙ sym (headed t b n y).0
unique t (e ∷ es) a b m n x y =
    unique (timer_next t e.reply) es a b m n (headed t e (es ++ a ∷ m) x).2 (headed t e (es ++ b ∷ n) y).2

-- any other fitting reply may come in the place of the one that came
pub other_reply : (t : Timer) (es : List Step) (a b : Step) (m : List Step) → Rest t (es ++ a ∷ m) → b.op ≡ a.op
    → Fits b.op b.reply → (n : List Step) × Rest t (es ++ b ∷ n)
other_reply t [] a b m x same fit =
    let r = some_rest (timer_next t b.reply) in
    (r.0, unheaded t b r.0 (same ∙ (headed t a m x).0) fit r.1)
other_reply t (e ∷ es) a b m x same fit =
    let h = headed t e (es ++ a ∷ m) x in
    let r = other_reply (timer_next t e.reply) es a b m h.2 same fit in
    (r.0, unheaded t e (es ++ b ∷ r.0) h.0 h.1 r.1)

-- after steps that may come there is one that may come next
pub some_next : (t : Timer) (es more : List Step) → Rest t (es ++ more)
    → (a : Step) × (n : List Step) × Rest t (es ++ a ∷ n)
some_next t [] more x =
    let e = settled_step t in
    let r = some_rest (timer_next t e.0.reply) in
    (e.0, r.0, unheaded t e.0 r.0 e.1 e.2 r.1)
some_next t (e ∷ es) more x =
    let h = headed t e (es ++ more) x in
    let r = some_next (timer_next t e.reply) es more h.2 in
    (r.0, r.1, unheaded t e (es ++ r.0 ∷ r.1) h.0 h.1 r.2)

-- the reply of a step that may come fits
pub rest_fits : (t : Timer) (es : List Step) (e : Step) (more : List Step) → Rest t (es ++ e ∷ more) → Fits e.op e.reply
rest_fits t [] e more r = (headed t e more r).1
rest_fits t (x ∷ es) e more r =
    rest_fits (timer_next t x.reply) es e more (headed t x (es ++ e ∷ more) r).2
