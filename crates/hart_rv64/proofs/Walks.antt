-- A hart that is given the steps of a list, one after another, is where they lead.
use Rattle.std.proofs.Common.{◌≡◌, ℕ, sym, ap, subst, ◌∙◌, true, List, [], ◌∷◌, ◌++◌, append_assoc, ◌<◌, length}
use Rattle.std.proofs.Common.{get_or, take, drop, suc, ◌+◌, ◌≤◌, drop-cons}
use Rattle.std.proofs.lemmas.List.{take-append-drop, take_more, take_all}
use Rattle.vm_types.specs.declared.op.Op.{Op}
use Rattle.vm_types.specs.declared.entry.Step.{Step}
use Rattle.vm_types.specs.Fits.{fits}
use Rattle.rv_supervisor.specs.declared.regs.Regs.{Regs}
use Rattle.hart_trace.specs.Traces.{Continues, HartTrace}
use Rattle.hart_trace.specs.States.{Hart, LeadsTo, hart_next, hart_wants}
use Rattle.hart_trace.proofs.Leads.{leads_next}
use Rattle.hart_trace.proofs.Traces.{hart_continues, step_continues, step_fits, wants_only}

-- where a step isn't of the op that is wanted, or its reply doesn't fit, nothing continues
pub stray : (start : Regs) (all done rest : List Step) (h : Hart) (e : Step) → all ≡ done ++ e ∷ rest
    → LeadsTo start done h → (e.op ≡ hart_wants h → fits (hart_wants h) e.reply ≡ true → ⊥) → (op : Op)
    → Continues start all op → ⊥
stray start all done rest h e whole l not op s =
    let x : Step = record { op = op; reply = s.0 } in
    let t : HartTrace start (done ++ e ∷ (rest ++ x ∷ s.1)) s.2 = subst (λ (z : List Step). HartTrace start z s.2)
    (ap (λ (z : List Step). z ++ x ∷ s.1) whole ∙ append_assoc done (e ∷ rest) (x ∷ s.1)) s.3 in
    let is = wants_only start done h e.op l (step_continues start done e (rest ++ x ∷ s.1) s.2 t) in
    not is (subst (λ (o : Op). fits o e.reply ≡ true) is (step_fits start done e (rest ++ x ∷ s.1) s.2 t))

pub split_at : (xs : List Step) (i : ℕ) (e : Step) → i < length xs → e ≡ get_or xs i e
    → xs ≡ take i xs ++ e ∷ drop (suc i) xs
split_at xs i e short is =
    let whole = take-append-drop i xs in
    let cut = drop-cons xs i e short in
    sym whole ∙ ap (λ (z : List Step). take i xs ++ z) (cut ∙ ap (λ (z : Step). z ∷ drop (suc i) xs) (sym is))

pub steps_on : (start : Regs) (all : List Step) (i : ℕ) (h q : Hart) (e : Step) (op : Op) → i < length all
    → e ≡ get_or all i e → LeadsTo start (take i all) h → op ≡ hart_wants h → op ≡ e.op → fits op e.reply ≡ true
    → q ≡ hart_next h e.reply → LeadsTo start (take (i + 1) all) q
steps_on start all i h q e op short item l want is fit next =
    let more = take_more all i e short in
    let whole : take (i + 1) all ≡ take i all ++ e ∷ [] = more ∙ ap (λ (z : Step). take i all ++ z ∷ []) (sym item) in
    let on = leads_next start (take i all) h e.reply l (subst (λ (o : Op). fits o e.reply ≡ true) want fit) in
    let same : record { op = hart_wants h; reply = e.reply } ≡ e = λ j. record
    { op = (sym want ∙ is) j; reply = e.reply } in
    rw (whole, next) (subst (λ (z : Step). LeadsTo start (take i all ++ z ∷ []) (hart_next h e.reply)) same on)

pub at_end : (start : Regs) (all : List Step) (i : ℕ) (h : Hart) (op : Op) → length all ≤ i
    → LeadsTo start (take i all) h → op ≡ hart_wants h → Continues start all op
at_end start all i h op past l is =
    let whole = take_all i all past in
    rw is (hart_continues start all h (subst (λ (z : List Step). LeadsTo start z h) whole l))
