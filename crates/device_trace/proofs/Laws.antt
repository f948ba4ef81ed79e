-- Three laws: the first item of what may still come is of the wanted op or a change, what is after it may come after
-- it, and something may always come.
use Rattle.std.proofs.Common.{◌≡◌, refl, sym, ap, subst, ◌∙◌, List, [], ◌∷◌, ◌++◌}
use Rattle.vm_types.specs.declared.op.Op.{Op}
use Rattle.vm_types.specs.declared.reply.Reply.{Reply}
use Rattle.vm_types.specs.declared.entry.Step.{Step}
use Rattle.vm_types.specs.Fits.{Fits}
use Rattle.device_trace.specs.Script.{Script, Ends, Asks}
use Rattle.device_trace.specs.Traces.{Rules, Item, Did, Changed, Completes, Group, Lead, Trace, joined}
use Rattle.device_trace.specs.States.{wants, stepped, changed_at, Leads}
use Rattle.device_trace.proofs.Fitting.{some_fit}

fits_of : (a b : Op) (reply : Reply) → a ≡ b → Fits b reply → Fits a reply
fits_of a b reply e f = subst (λ o. Fits o reply) (sym e) f

module _ {D C : Type 0} (rules : Rules D C) where
  abbrev pub Headed : Script D → List (Item C) → D → Type 0
  Headed t [] end = Unit {0}
  Headed t (Did s ∷ items) end = (s.op ≡ wants rules t) × Fits s.op s.reply
      × Trace rules (stepped rules t s.reply) items end
  Headed t (Changed c ∷ items) end = Trace rules (changed_at rules c t) items end

  group_head : (d : D) (g : List (Item C)) (groups : List (List (Item C))) (after end : D) → Group rules d g after
      → Lead rules after groups end → Headed (Ends d) (g ++ joined groups) end
  group_head d [] groups after end group lead = absurd group
  group_head d (Did s ∷ items) groups after end group lead =
      (group.0, group.1, (items, groups, after, group.2, lead, refl))
  group_head d (Changed c ∷ []) groups after end group lead = ([], groups, after, group, lead, refl)
  group_head d (Changed c ∷ (i ∷ items)) groups after end group lead = absurd group

  lead_head : (d : D) (groups : List (List (Item C))) (end : D) → Lead rules d groups end
      → Headed (Ends d) (joined groups) end
  lead_head d [] end lead = tt
  lead_head d (g ∷ groups) end lead = group_head d g groups lead.0 end lead.1 lead.2

  parts_head : (t : Script D) (first : List (Item C)) (groups : List (List (Item C))) (after end : D)
      → Completes rules t first after → Lead rules after groups end → Headed t (first ++ joined groups) end
  parts_head (Asks d op on) [] groups after end acts lead = absurd acts
  parts_head (Asks d op on) (Did s ∷ items) groups after end acts lead =
      (acts.0, fits_of s.op op s.reply acts.0 acts.1, (items, groups, after, acts.2, lead, refl))
  parts_head (Asks d op on) (Changed c ∷ items) groups after end acts lead = (items, groups, after, acts, lead, refl)
  parts_head (Ends d) [] groups after end acts lead = lead_head d groups end
      (subst (λ q. Lead rules q groups end) (sym acts) lead)
  parts_head (Ends d) (i ∷ items) groups after end acts lead = absurd acts

  pub headed : (t : Script D) (items : List (Item C)) (end : D) → Trace rules t items end → Headed t items end
  headed t items end r = subst (λ xs. Headed t xs end) r.5 (parts_head t r.0 r.1 r.2 end r.3 r.4)

  -- and back: a step of the wanted op with a fitting reply goes before what may come after the reply
  pub unheaded : (t : Script D) (s : Step) (items : List (Item C)) (end : D) → s.op ≡ wants rules t
      → Fits s.op s.reply → Trace rules (stepped rules t s.reply) items end → Trace rules t (Did s ∷ items) end
  unheaded (Asks d op on) s items end is fits r =
      (Did s ∷ r.0, r.1, r.2, (is, fits_of op s.op s.reply (sym is) fits, r.3), r.4, ap (λ xs. Did s ∷ xs) r.5)
  unheaded (Ends d) s items end is fits r =
      ([], (Did s ∷ r.0) ∷ r.1, d, refl, (r.2, (is, fits, r.3), r.4), ap (λ xs. Did s ∷ xs) r.5)

  change_first : (d : D) (c : C) (first : List (Item C)) (groups : List (List (Item C))) (after end : D)
      (items : List (Item C)) → Completes rules (Ends (rules.changing.between c d)) first after → Lead rules after groups end
      → first ++ joined groups ≡ items → Trace rules (Ends d) (Changed c ∷ items) end
  change_first d c [] groups after end items acts lead is =
      ([], (Changed c ∷ []) ∷ groups, d, refl, (after, acts, lead), ap (λ xs. Changed c ∷ xs) is)
  change_first d c (i ∷ first) groups after end items acts lead is = absurd acts

  pub unchanged : (t : Script D) (c : C) (items : List (Item C)) (end : D)
      → Trace rules (changed_at rules c t) items end → Trace rules t (Changed c ∷ items) end
  unchanged (Asks d op on) c items end r =
      (Changed c ∷ r.0, r.1, r.2, r.3, r.4, ap (λ xs. Changed c ∷ xs) r.5)
  unchanged (Ends d) c items end r = change_first d c r.0 r.1 r.2 end items r.3 r.4 r.5

  -- what is begun can end
  pub some_rest : (t : Script D) → (items : List (Item C)) × (end : D) × Trace rules t items end
  some_rest (Ends d) = ([], d, ([], [], d, refl, refl, refl))
  some_rest (Asks d op on) =
      let fit = some_fit op in
      let s : Step = record { op = op; reply = fit.0 } in
      let t = some_rest (on d fit.0) in
      (Did s ∷ t.0, t.1, unheaded (Asks d op on) s t.0 t.1 refl fit.1 t.2)

  -- what may come behind where the items lead may come behind the items
  pub leads_rest : (t : Script D) (items : List (Item C)) (u : Script D) (more : List (Item C)) (end : D)
      → Leads rules t items u → Trace rules u more end → Trace rules t (items ++ more) end
  leads_rest t [] u more end l r = subst (λ x. Trace rules x more end) (sym l) r
  leads_rest t (Did s ∷ items) u more end l r =
      unheaded t s (items ++ more) end l.0 l.1 (leads_rest (stepped rules t s.reply) items u more end l.2 r)
  leads_rest t (Changed c ∷ items) u more end l r =
      unchanged t c (items ++ more) end (leads_rest (changed_at rules c t) items u more end l r)

  -- items that may come lead somewhere, and what is behind them may come there
  pub rest_leads : (t : Script D) (items more : List (Item C)) (end : D) → Trace rules t (items ++ more) end
      → (u : Script D) × Leads rules t items u × Trace rules u more end
  rest_leads t [] more end r = (t, refl, r)
  rest_leads t (Did s ∷ items) more end r =
      let h = headed t (Did s ∷ (items ++ more)) end r in
      let q = rest_leads (stepped rules t s.reply) items more end h.2 in
      (q.0, (h.0, h.1, q.1), q.2)
  rest_leads t (Changed c ∷ items) more end r =
      rest_leads (changed_at rules c t) items more end (headed t (Changed c ∷ (items ++ more)) end r)

  -- they lead to one
  pub leads_one : (t : Script D) (items : List (Item C)) (u v : Script D) → Leads rules t items u
      → Leads rules t items v → u ≡ v
  leads_one t [] u v l m = sym l ∙ m
  leads_one t (Did s ∷ items) u v l m = leads_one (stepped rules t s.reply) items u v l.2 m.2
  leads_one t (Changed c ∷ items) u v l m = leads_one (changed_at rules c t) items u v l m

  -- items and then more of them
  pub leads_append : (t : Script D) (items : List (Item C)) (u : Script D) (more : List (Item C)) (v : Script D)
      → Leads rules t items u → Leads rules u more v → Leads rules t (items ++ more) v
  leads_append t [] u more v l m = subst (λ x. Leads rules x more v) (sym l) m
  leads_append t (Did s ∷ items) u more v l m =
      (l.0, l.1, leads_append (stepped rules t s.reply) items u more v l.2 m)
  leads_append t (Changed c ∷ items) u more v l m = leads_append (changed_at rules c t) items u more v l m
