-- What holds of every trace of every kind of device, and of where it leads.
use Rattle.std.proofs.Common.{◌≡◌, refl, sym, subst, true, List, [], ◌∷◌, ◌++◌, if◌then◌else◌}
use Rattle.vm_types.specs.declared.op.Op.{Op}
use Rattle.vm_types.specs.declared.reply.Reply.{Reply}
use Rattle.vm_types.specs.declared.entry.Step.{Step}
use Rattle.vm_types.specs.Fits.{fits}
use Rattle.device_trace.specs.Script.{Script}
use Rattle.device_trace.specs.Traces.{Rules, Item, Did, Changed, IsPrefix, Continues}
use Rattle.device_trace.specs.States.{wants, stepped, next, changed_at, Leads}
use Rattle.device_trace.proofs.Fitting.{some_fit}
use Rattle.device_trace.proofs.Laws.{headed, unheaded, some_rest, leads_rest, rest_leads, leads_one, leads_append}

module _ {D C : Type 0} (rules : Rules D C) where
  pub begins : (start : Script D) → Leads rules start [] start
  begins start = refl

  pub prefix : (start : Script D) (items : List (Item C)) (u : Script D) → Leads rules start items u
      → IsPrefix rules start items
  prefix start items u l =
      let t = some_rest rules u in (t.0, t.1, leads_rest rules start items u t.0 t.1 l t.2)

  pub some : (start : Script D) (items : List (Item C)) → IsPrefix rules start items
      → (u : Script D) × Leads rules start items u
  some start items p = let q = rest_leads rules start items p.0 p.1 p.2 in (q.0, q.1)

  pub one : (start : Script D) (items : List (Item C)) (u v : Script D) → Leads rules start items u
      → Leads rules start items v → u ≡ v
  one start items u v l m = leads_one rules start items u v l m

  pub continued : (start : Script D) (items : List (Item C)) (u : Script D) → Leads rules start items u
      → Continues rules start items (wants rules u)
  continued start items u l =
      let op = wants rules u in
      let fit = some_fit op in
      let s : Step = record { op = op; reply = fit.0 } in
      let t = some_rest rules (stepped rules u s.reply) in (
        s.reply,
        t.0,
        t.1,
        leads_rest rules start items u (Did s ∷ t.0) t.1 l (unheaded rules u s t.0 t.1 refl fit.1 t.2),
      )

  pub only : (start : Script D) (items : List (Item C)) (u : Script D) (op : Op) → Leads rules start items u
      → Continues rules start items op → op ≡ wants rules u
  only start items u op l k =
      let s : Step = record { op = op; reply = k.0 } in
      let q = rest_leads rules start items (Did s ∷ k.1) k.2 k.3 in
      let h = headed rules q.0 (Did s ∷ k.1) k.2 q.2 in
      subst (λ x. op ≡ wants rules x) (leads_one rules start items q.0 u q.1 l) h.0

  -- where an op continues the items, they lead to what wants it
  pub wanted : (start : Script D) (items : List (Item C)) (op : Op) → Continues rules start items op
      → (u : Script D) × Leads rules start items u × (op ≡ wants rules u)
  wanted start items op k =
      let s : Step = record { op = op; reply = k.0 } in
      let q = rest_leads rules start items (Did s ∷ k.1) k.2 k.3 in
      let h = headed rules q.0 (Did s ∷ k.1) k.2 q.2 in
      (q.0, q.1, h.0)

  -- a step of a trace leads on, whatever fitting reply it has
  pub goes_on : (start : Script D) (items : List (Item C)) (u : Script D) (reply : Reply) → Leads rules start items u
      → fits (wants rules u) reply ≡ true
      → Leads rules start (items ++ Did (record { op = wants rules u; reply = reply }) ∷ []) (next rules u reply)
  goes_on start items u reply l fit =
      subst (λ b. Leads rules start (items ++ Did (record { op = wants rules u; reply = reply }) ∷ []) (if b
      then stepped rules u reply else u)) (sym fit)
      (leads_append rules start items u (Did (record { op = wants rules u; reply = reply })
      ∷ []) (stepped rules u reply) l (refl, fit, refl))

  pub change : (start : Script D) (items : List (Item C)) (u : Script D) (c : C) → Leads rules start items u
      → Leads rules start (items ++ Changed c ∷ []) (changed_at rules c u)
  change start items u c l = leads_append rules start items u (Changed c ∷ []) (changed_at rules c u) l refl
