-- Steps lead to one hart at most: the one that walking along them gives.
use Rattle.std.proofs.Common.{◌≡◌, ℕ, refl, sym, ap, subst, ◌∙◌, Bool, true, false, if◌then◌else◌, MatchBool, List, []}
use Rattle.std.proofs.Common.{◌∷◌, ◌++◌, Option, Some, None, ◌==◌}
use Rattle.rv_supervisor.specs.declared.regs.Regs.{Regs}
use Rattle.rv_supervisor.specs.declared.regs.Turn.{Turn}
use Rattle.vm_types.specs.declared.op.Op.{Op}
use Rattle.vm_types.specs.declared.reply.Reply.{Reply}
use Rattle.vm_types.specs.declared.entry.Step.{Step}
use Rattle.rv_doing.specs.Doing.{Doing, Ends, Asks, asked, ended}
use Rattle.hart_trace.specs.Traces.{executes}
use Rattle.hart_trace.specs.Traces.{fetch_fault}
use Rattle.le_fields.specs.Fields.{little_endian}
use Rattle.vm_types.specs.Fits.{fits, Fits}
use Rattle.hart_trace.specs.Traces.{Completes, Group, Lead, joined, looked, opening, going, is_full}
use Rattle.hart_trace.specs.States.{Hart, fresh, hart_wants, hart_stepped, hart_next, turned_by, begins_by, op_or_idle}
use Rattle.hart_trace.specs.States.{Waits, Begins, BegunBy, LeadsTo}

abbrev pub walk : Hart → List Step → Hart
walk h [] = h
walk h (e ∷ es) = walk (hart_next h e.reply) es

walk-append : (h : Hart) (xs ys : List Step) → walk h (xs ++ ys) ≡ walk (walk h xs) ys
walk-append h [] ys = refl
walk-append h (e ∷ xs) ys = walk-append (hart_next h e.reply) xs ys

-- a reply that fits
walk_fit : (h q : Hart) (e : Step) (es : List Step) → fits (hart_wants h) e.reply ≡ true
    → walk (hart_stepped h e.reply) es ≡ q → walk h (e ∷ es) ≡ q
walk_fit h q e es fit is = subst (λ (b : Bool). walk (if b then hart_stepped h e.reply else h) es ≡ q) (sym fit) is

abbrev pub Parts : Doing → Op → List Step → Regs → Type 0
Parts d op [] after = ⊥
Parts d op (e ∷ es) after = Fits op e.reply × MatchBool (is_full e.reply) (Completes d es after)
    ((es ≡ []) × (ended d e.reply ≡ after))

parts_of : (d : Doing) (op : Op) (es : List Step) (after : Regs) → asked d ≡ Some op → Completes d es after
    → Parts d op es after
parts_of (Ends r) op es after is acts = cc
parts_of (Asks op2 ends) op [] after is acts = absurd acts
parts_of (Asks op2 ends) op (e ∷ es) after is acts =
    let same : op2 ≡ op = cc in
    (subst (λ (o : Op). Fits o e.reply) same acts.1, acts.2)

ends_of : (d : Doing) (es : List Step) (after : Regs) (reply : Reply) → asked d ≡ None → Completes d es after
    → (es ≡ []) × (ended d reply ≡ after)
ends_of (Ends r) es after reply is acts = acts
ends_of (Asks op ends) es after reply is acts = cc

fresh_end : (r after : Regs) (es : List Step) → es ≡ [] → r ≡ after → walk (fresh r) es ≡ fresh after
fresh_end r after es none is = rw none (ap fresh is)

module _ (r : Regs) (w : ℕ) (op : Op) (is : asked (executes w r) ≡ Some op) where
  begun_fit : (reply : Reply) → Fits op reply → fits (op_or_idle (asked (executes w r))) reply ≡ true
  begun_fit reply fit = subst (λ (o : Option Op). fits (op_or_idle o) reply ≡ true) (sym is) fit

  walk_last : (e : Step) (es : List Step) (after : Regs) (b : Bool)
      → (Completes (executes w r) es after → walk (record { regs = r; begun = Some w }) es ≡ fresh after)
      → MatchBool b (Completes (executes w r) es after) ((es ≡ []) × (ended (executes w r) e.reply ≡ after))
      → walk (if b then record { regs = r; begun = Some w } else fresh (ended (executes w r) e.reply)) es ≡ fresh after
  walk_last e es after true on m = on m
  walk_last e es after false on m = fresh_end (ended (executes w r) e.reply) after es m.0 m.1

  walk_does : (es : List Step) (after : Regs) → Completes (executes w r) es after
      → walk (record { regs = r; begun = Some w }) es ≡ fresh after
  walk_does [] after acts = absurd (parts_of (executes w r) op [] after is acts)
  walk_does (e ∷ es) after acts =
      let p = parts_of (executes w r) op (e ∷ es) after is acts in
      walk_fit (record { regs = r; begun = Some w }) (fresh after) e es (begun_fit e.reply p.0)
      (walk_last e es after (is_full e.reply) (walk_does es after) p.1)

  walk_waits : (es : List Step) → Waits op es
      → walk (record { regs = r; begun = Some w }) es ≡ record { regs = r; begun = Some w }
  walk_waits [] wait = refl
  walk_waits (e ∷ es) wait =
      let full : Reply.Full ≡ e.reply = ap (λ (x : Step). x.reply) (sym wait.0) in
      subst (λ (x : Reply). walk (hart_next (record { regs = r; begun = Some w }) x) es ≡ record
      { regs = r; begun = Some w }) full
      (walk_fit (record { regs = r; begun = Some w }) (record { regs = r; begun = Some w })
      (record { op = op; reply = Reply.Full }) es (begun_fit Reply.Full wait.1) (walk_waits es wait.2))

module _ (r : Regs) where
  walk_word : (piece : List ℕ) (es : List Step) (after : Regs) (o : Option Op) → asked (executes (little_endian piece) r) ≡ o
      → Completes (executes (little_endian piece) r) es after
      → walk (begins_by o (little_endian piece) r (Reply.Bytes piece)) es ≡ fresh after
  walk_word piece es after (Some op) is acts = walk_does r (little_endian piece) op is es after acts
  walk_word piece es after None is acts =
      let e = ends_of (executes (little_endian piece) r) es after (Reply.Bytes piece) is acts in
      fresh_end (ended (executes (little_endian piece) r) (Reply.Bytes piece)) after es e.0 e.1

  walk_turn : (t : Turn) (reply : Reply) (es : List Step) (after : Regs) → Completes (going t r reply) es after
      → walk (turned_by t r reply) es ≡ fresh after
  walk_turn Turn.Look reply es after acts = fresh_end (looked reply r) after es acts.0 acts.1
  walk_turn Turn.WakeLook reply es after acts = fresh_end (looked reply r) after es acts.0 acts.1
  walk_turn Turn.Idle reply es after acts = fresh_end (record r { turn = Turn.Look }) after es acts.0 acts.1
  walk_turn Turn.WakeIdle reply es after acts = fresh_end (record r { turn = Turn.WakeLook }) after es acts.0 acts.1
  walk_turn Turn.Fetch (Reply.Bytes piece) es after acts = walk_word piece es after (asked (executes (little_endian piece) r))
      refl acts
  walk_turn Turn.Fetch reply es after acts = fresh_end (fetch_fault r) after es acts.0 acts.1

  walk_group : (g : List Step) (after : Regs) → Group r g after → walk (fresh r) g ≡ fresh after
  walk_group [] after group = absurd group
  walk_group (e ∷ es) after group =
      let fit : fits (opening r.turn r) e.reply ≡ true = subst (λ (o : Op). fits o e.reply ≡ true) group.0 group.1 in
      walk_fit (fresh r) (fresh after) e es fit (walk_turn r.turn e.reply es after group.2)

  walk_begins : (w : ℕ) (part : List Step) → Begins r w part → walk (fresh r) part ≡ record { regs = r; begun = Some w }
  walk_begins w [] begun = absurd begun
  walk_begins w (e ∷ ws) begun =
      let piece = begun.1 in
      let fetch : Step = record { op = Op.Read r.pc 4; reply = Reply.Bytes piece } in
      let fit : fits (opening r.turn r) (Reply.Bytes piece) ≡ true = subst
      (λ (t : Turn). fits (opening t r) (Reply.Bytes piece) ≡ true) (sym begun.0) (ap (λ n. n == 4) begun.3) in
      let next : begins_by (asked (executes (little_endian piece) r)) (little_endian piece) r (Reply.Bytes piece) ≡ record
      { regs = r; begun = Some w } =
      subst (λ (n : ℕ). begins_by (asked (executes n r)) n r (Reply.Bytes piece) ≡ record { regs = r; begun = Some w })
      (sym begun.4) (ap (λ (o : Option Op). begins_by o w r (Reply.Bytes piece)) begun.6) in
      let turned : turned_by r.turn r (Reply.Bytes piece) ≡ record { regs = r; begun = Some w } = ap
      (λ (t : Turn). turned_by t r (Reply.Bytes piece)) begun.0 ∙ next in
      subst (λ (x : Step). walk (fresh r) (x ∷ ws) ≡ record { regs = r; begun = Some w }) (sym begun.2)
      (walk_fit (fresh r) (record { regs = r; begun = Some w }) fetch ws fit
      (ap (λ (h : Hart). walk h ws) turned ∙ walk_waits r w begun.5 begun.6 ws begun.7))

  walk_begun : (b : Option ℕ) (part : List Step) → BegunBy b r part
      → walk (fresh r) part ≡ record { regs = r; begun = b }
  walk_begun None part begun = rw begun refl
  walk_begun (Some w) part begun = walk_begins w part begun

walk_lead : (start : Regs) (groups : List (List Step)) (end : Regs) → Lead start groups end
    → walk (fresh start) (joined groups) ≡ fresh end
walk_lead start [] end lead = ap fresh lead
walk_lead start (g ∷ groups) end lead =
    walk-append (fresh start) g (joined groups) ∙ ap (λ (h : Hart). walk h (joined groups))
    (walk_group start g lead.0 lead.1) ∙ walk_lead lead.0 groups end lead.2

walk_leads : (start : Regs) (es : List Step) (h : Hart) → LeadsTo start es h → walk (fresh start) es ≡ h
walk_leads start es h l =
    ap (walk (fresh start)) (sym l.4) ∙ walk-append (fresh start) (joined l.0) l.1 ∙ ap (λ (x : Hart). walk x l.1)
    (walk_lead start l.0 h.regs l.2) ∙ walk_begun h.regs h.begun l.1 l.3

-- steps lead to one hart
pub one_hart : (start : Regs) (es : List Step) (h q : Hart) → LeadsTo start es h → LeadsTo start es q → h ≡ q
one_hart start es h q l m = sym (walk_leads start es h l) ∙ walk_leads start es q m
