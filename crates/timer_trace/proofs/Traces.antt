-- One op continues the steps, there always is one, and it is what the timer wants where they lead.
use Rattle.std.proofs.Common.{◌≡◌, refl, sym, subst, true, List, [], ◌∷◌, ◌++◌, append_assoc}
use Rattle.std.proofs.lemmas.List.{append-nil}
use Rattle.vm_types.specs.declared.op.Op.{Op}
use Rattle.vm_types.specs.declared.reply.Reply.{Reply}
use Rattle.vm_types.specs.declared.entry.Step.{Step}
use Rattle.vm_types.specs.Fits.{fits}
use Rattle.timer_trace.specs.declared.timer.Timer.{Timer}
use Rattle.timer_trace.specs.Traces.{Continues, IsPrefix, TimerTrace}
use Rattle.timer_trace.specs.States.{LeadsTo, new_timer, timer_next, timer_wants}
use Rattle.timer_trace.proofs.Rounds.{other_reply, rest_fits, settled_step, some_next, some_rest, unheaded, unique}
use Rattle.timer_trace.proofs.Leads.{leads_next, leads_on}

pub leads_start : LeadsTo [] new_timer
leads_start = ([], [], (refl, refl), refl)

pub one_op : (es : List Step) (a b : Op) → Continues es a → Continues es b → a ≡ b
one_op es a b s t =
    unique new_timer es (record { op = a; reply = s.0 }) (record { op = b; reply = t.0 }) s.1 t.1 s.2 t.2

pub some_op : (es : List Step) → IsPrefix es → (op : Op) × Continues es op
some_op es p =
    let t = some_next new_timer es p.0 p.1 in
    (t.0.op, (t.0.reply, t.1, t.2))

pub any_reply : (es : List Step) (op : Op) (reply : Reply) → Continues es op → fits op reply ≡ true
    → IsPrefix (es ++ record { op = op; reply = reply } ∷ [])
any_reply es op reply s fit =
    let x : Step = record { op = op; reply = s.0 } in
    let y : Step = record { op = op; reply = reply } in
    let t = other_reply new_timer es x y s.1 s.2 refl fit in
    (t.0, subst (λ (z : List Step). TimerTrace z) (sym (append_assoc es (y ∷ []) t.0)) t.1)

-- what the timer wants continues the steps that lead to it
pub timer_continues : (es : List Step) (t : Timer) → LeadsTo es t → Continues es (timer_wants t)
timer_continues es t l =
    let e = settled_step t in
    let r = some_rest (timer_next t e.0.reply) in (
      e.0.reply,
      r.0,
      leads_on es t l (record { op = timer_wants t; reply = e.0.reply } ∷ r.0)
          (unheaded t (record { op = timer_wants t; reply = e.0.reply }) r.0 refl (subst (λ (o : Op). fits o e.0.reply ≡ true) e.1 e.2) r.1),
    )

pub timer_prefix : (es : List Step) (t : Timer) → LeadsTo es t → IsPrefix es
timer_prefix es t l =
    let r = some_rest t in
    (r.0, leads_on es t l r.0 r.1)

-- and only that
pub wants_only : (es : List Step) (t : Timer) (op : Op) → LeadsTo es t → Continues es op → op ≡ timer_wants t
wants_only es t op l s = one_op es op (timer_wants t) s (timer_continues es t l)

-- after a timer, a step of a trace is of the op that it wants and leads to the next timer
step_leads : (es : List Step) (t : Timer) (e : Step) (more : List Step) → LeadsTo es t → TimerTrace (es ++ e ∷ more)
    → LeadsTo (es ++ e ∷ []) (timer_next t e.reply)
step_leads es t e more l trace =
    let is = wants_only es t e.op l (e.reply, more, trace) in
    let fit = rest_fits new_timer es e more trace in
    subst (λ (o : Op). LeadsTo (es ++ record { op = o; reply = e.reply } ∷ []) (timer_next t e.reply)) (sym is)
    (leads_next es t e.reply l (subst (λ (o : Op). fits o e.reply ≡ true) is fit))

walked : (done es more : List Step) (t : Timer) → LeadsTo done t → TimerTrace (done ++ (es ++ more))
    → (u : Timer) × LeadsTo (done ++ es) u
walked done [] more t l trace = (t, rw append-nil l)
walked done (e ∷ es) more t l trace =
    let next = step_leads done t e (es ++ more) l trace in
    let u = walked (done ++ e ∷ []) es more (timer_next t e.reply) next (rw append_assoc trace) in
    (u.0, rw append_assoc at u.1)

-- a trace's first steps lead to a timer
pub some_timer : (es : List Step) → IsPrefix es → (t : Timer) × LeadsTo es t
some_timer es p = walked [] es p.0 new_timer leads_start p.1
