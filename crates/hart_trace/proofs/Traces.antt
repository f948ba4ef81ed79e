-- One op continues the steps, there always is one, and it is what the hart wants where they lead.
use Rattle.std.proofs.Common.{◌≡◌, ℕ, refl, sym, subst, true, List, [], ◌∷◌, ◌++◌, Option, Some, None}
use Rattle.std.proofs.Common.{append_assoc}
use Rattle.std.proofs.lemmas.List.{append-nil}
use Rattle.rv_supervisor.specs.declared.regs.Regs.{Regs}
use Rattle.vm_types.specs.declared.op.Op.{Op}
use Rattle.vm_types.specs.declared.reply.Reply.{Reply}
use Rattle.vm_types.specs.declared.entry.Step.{Step}
use Rattle.rv_doing.specs.Doing.{Doing, Ends, Asks, asked}
use Rattle.hart_trace.specs.Traces.{executes}
use Rattle.vm_types.specs.Fits.{fits}
use Rattle.hart_trace.specs.Traces.{HartTrace, IsPrefix, Continues}
use Rattle.hart_trace.proofs.Rest.{Rest, doing_wants, doing_next}
use Rattle.hart_trace.specs.States.{Hart, fresh, wants_by, hart_wants, hart_next, op_or_idle, BegunBy, LeadsTo}
use Rattle.hart_trace.proofs.Laws.{headed, unheaded, settled, fits-settled, some_rest, unique, other_reply, some_next}
use Rattle.hart_trace.proofs.Leads.{doing_by, leads_on, leads_next, wanted_by}

pub leads_start : (start : Regs) → LeadsTo start [] (fresh start)
leads_start start = ([], [], refl, refl, refl)

pub rest_of_trace : (start : Regs) (es : List Step) (end : Regs) → HartTrace start es end → Rest (Ends start) es end
rest_of_trace start es end t = ([], t.0, start, (refl, refl), t.1, t.2)

trace_of_rest : (start : Regs) (es : List Step) (end : Regs) → Rest (Ends start) es end → HartTrace start es end
trace_of_rest start es end t = leads_on start [] (fresh start) (leads_start start) es end t

pub one_op : (start : Regs) (es : List Step) (a b : Op) → Continues start es a → Continues start es b → a ≡ b
one_op start es a b s t =
    let x : Step = record { op = a; reply = s.0 } in
    let y : Step = record { op = b; reply = t.0 } in
    unique (Ends start) es x y s.1 t.1 s.2 t.2 (rest_of_trace start (es ++ x ∷ s.1) s.2 s.3)
    (rest_of_trace start (es ++ y ∷ t.1) t.2 t.3)

pub some_op : (start : Regs) (es : List Step) → IsPrefix start es → (op : Op) × Continues start es op
some_op start es p =
    let t = some_next (Ends start) es p.0 p.1 (rest_of_trace start (es ++ p.0) p.1 p.2) in
    (t.0.op, (t.0.reply, t.1, t.2, trace_of_rest start (es ++ t.0 ∷ t.1) t.2 t.3))

pub any_reply : (start : Regs) (es : List Step) (op : Op) (reply : Reply) → Continues start es op → fits op reply ≡ true
    → IsPrefix start (es ++ record { op = op; reply = reply } ∷ [])
any_reply start es op reply s fit =
    let x : Step = record { op = op; reply = s.0 } in
    let y : Step = record { op = op; reply = reply } in
    let t = other_reply (Ends start) es x y s.1 s.2 (rest_of_trace start (es ++ x ∷ s.1) s.2 s.3) refl fit in (
      t.0,
      t.1,
      subst (λ (z : List Step). HartTrace start z t.1) (sym (append_assoc es (y ∷ []) t.0))
          (trace_of_rest start (es ++ y ∷ t.0) t.1 t.2),
    )

wants_asked : (d : Doing) (op : Op) → asked d ≡ Some op → op_or_idle (asked d) ≡ doing_wants d
wants_asked (Ends r) op is = cc
wants_asked (Asks op2 ends) op is = refl

wants_is : (b : Option ℕ) (r : Regs) (part : List Step) → BegunBy b r part → wants_by b r ≡ doing_wants (doing_by b r)
wants_is None r part begun = refl
wants_is (Some w) r part begun =
    let o = wanted_by r w part begun in
    wants_asked (executes w r) o.0 o.1

-- what the hart wants continues the steps that lead to it
pub hart_continues : (start : Regs) (es : List Step) (h : Hart) → LeadsTo start es h → Continues start es (hart_wants h)
hart_continues start es h l =
    let d = doing_by h.begun h.regs in
    let e : Step = record { op = hart_wants h; reply = settled (hart_wants h) } in
    let t = some_rest (doing_next d e.reply) in (
      e.reply,
      t.0,
      t.1,
      leads_on start es h l (e ∷ t.0) t.1
          (unheaded d e t.0 t.1 (wants_is h.begun h.regs l.1 l.3) (fits-settled (hart_wants h)) t.2),
    )

pub hart_prefix : (start : Regs) (es : List Step) (h : Hart) → LeadsTo start es h → IsPrefix start es
hart_prefix start es h l =
    let t = some_rest (doing_by h.begun h.regs) in
    (t.0, t.1, leads_on start es h l t.0 t.1 t.2)

-- and only that
pub wants_only : (start : Regs) (es : List Step) (h : Hart) (op : Op) → LeadsTo start es h → Continues start es op
    → op ≡ hart_wants h
wants_only start es h op l s = one_op start es op (hart_wants h) s (hart_continues start es h l)

-- a step after which a trace may go on continues the steps before it, and its reply fits
pub step_continues : (start : Regs) (es : List Step) (e : Step) (more : List Step) (end : Regs)
    → HartTrace start (es ++ e ∷ more) end → Continues start es e.op
step_continues start es e more end t = (e.reply, more, end, t)

rest_fits : (d : Doing) (es : List Step) (e : Step) (more : List Step) (end : Regs) → Rest d (es ++ e ∷ more) end
    → fits e.op e.reply ≡ true
rest_fits d [] e more end r = (headed d (e ∷ more) end r).1
rest_fits d (x ∷ es) e more end r = rest_fits (doing_next d x.reply) es e more end
    (headed d (x ∷ (es ++ e ∷ more)) end r).2

pub step_fits : (start : Regs) (es : List Step) (e : Step) (more : List Step) (end : Regs)
    → HartTrace start (es ++ e ∷ more) end → fits e.op e.reply ≡ true
step_fits start es e more end t = rest_fits (Ends start) es e more end (rest_of_trace start (es ++ e ∷ more) end t)

-- after a hart, a step of a trace is of the op that it wants and leads to the next hart
pub step_leads : (start : Regs) (es : List Step) (h : Hart) (e : Step) (more : List Step) (end : Regs)
    → LeadsTo start es h → HartTrace start (es ++ e ∷ more) end → LeadsTo start (es ++ e ∷ []) (hart_next h e.reply)
step_leads start es h e more end l t =
    let is = wants_only start es h e.op l (step_continues start es e more end t) in
    let fit = step_fits start es e more end t in
    subst (λ (o : Op). LeadsTo start (es ++ record { op = o; reply = e.reply } ∷ []) (hart_next h e.reply)) (sym is)
    (leads_next start es h e.reply l (subst (λ (o : Op). fits o e.reply ≡ true) is fit))

walked : (start : Regs) (done es more : List Step) (end : Regs) (h : Hart) → LeadsTo start done h
    → HartTrace start (done ++ (es ++ more)) end → (q : Hart) × LeadsTo start (done ++ es) q
walked start done [] more end h l t = (h, rw append-nil l)
walked start done (e ∷ es) more end h l t =
    let next = step_leads start done h e (es ++ more) end l t in
    let q = walked start (done ++ e ∷ []) es more end (hart_next h e.reply) next (rw append_assoc t) in
    (q.0, rw append_assoc at q.1)

-- a trace's first steps lead to a hart
pub some_hart : (start : Regs) (es : List Step) → IsPrefix start es → (h : Hart) × LeadsTo start es h
some_hart start es p = walked start [] es p.0 p.1 (fresh start) (leads_start start) p.2
