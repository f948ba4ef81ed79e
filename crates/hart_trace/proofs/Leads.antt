-- Where a hart's steps lead: what may come after the hart continues them, and the next hart is where the steps and
-- one more lead.
use Rattle.std.proofs.Common.{◌≡◌, ℕ, refl, sym, ap, subst, ◌∙◌, Bool, true, false, if◌then◌else◌, List, [], ◌∷◌, ◌++◌}
use Rattle.std.proofs.Common.{length, Option, Some, None, append_assoc, MatchBool, ◌==◌}
use Rattle.std.proofs.lemmas.Bool.{eqb-true}
use Rattle.std.proofs.lemmas.List.{append-nil}
use Rattle.rv_supervisor.specs.declared.regs.Regs.{Regs}
use Rattle.rv_supervisor.specs.declared.regs.Turn.{Turn}
use Rattle.vm_types.specs.declared.op.Op.{Op}
use Rattle.vm_types.specs.declared.op.BoardOp.TheVariants as board
use Rattle.vm_types.specs.declared.reply.Reply.{Reply}
use Rattle.vm_types.specs.declared.entry.Step.{Step}
use Rattle.rv_doing.specs.Doing.{Doing, Ends, Asks, asked, ended}
use Rattle.hart_trace.specs.Traces.{executes}
use Rattle.hart_trace.specs.Traces.{fetch_fault}
use Rattle.le_fields.specs.Fields.{little_endian}
use Rattle.vm_types.specs.Fits.{fits, Fits}
use Rattle.hart_trace.specs.Traces.{Completes, Group, Lead, joined, looked, opening, going, is_full, HartTrace}
use Rattle.hart_trace.proofs.Rest.{Rest}
use Rattle.hart_trace.specs.States.{Hart, fresh, wants_by, hart_wants, stepped_by, begins_by, hart_fetched}
use Rattle.hart_trace.specs.States.{hart_stepped, hart_next, turned_by, op_or_idle, Waits, Begins, BegunBy, LeadsTo}

lead_append : (r q s : Regs) (gs hs : List (List Step)) → Lead r gs q → Lead q hs s → Lead r (gs ++ hs) s
lead_append r q s [] hs l m = subst (λ x. Lead x hs s) (sym l) m
lead_append r q s (g ∷ gs) hs l m = (l.0, l.1, lead_append l.0 q s gs hs l.2 m)

joined-append : (gs hs : List (List Step)) → joined (gs ++ hs) ≡ joined gs ++ joined hs
joined-append [] hs = refl
joined-append (g ∷ gs) hs = ap (λ xs. g ++ xs) (joined-append gs hs) ∙ sym (append_assoc g (joined gs) (joined hs))

-- what a hart is inside
abbrev pub doing_by : Option ℕ → Regs → Doing
doing_by None r = Ends r
doing_by (Some w) r = executes w r

does_waits : (d : Doing) (op : Op) (ws first : List Step) (after : Regs) → asked d ≡ Some op → Waits op ws
    → Completes d first after → Completes d (ws ++ first) after
does_waits (Ends r) op ws first after is wait acts = cc
does_waits (Asks op2 ends) op [] first after is wait acts = acts
does_waits (Asks op2 ends) op (e ∷ ws) first after is wait acts =
    let same : op ≡ op2 = cc in
    let one : record { op = op; reply = Reply.Full } ≡ e = sym wait.0 in
    subst (λ (x : Step). Completes (Asks op2 ends) (x ∷ (ws ++ first)) after) one
    (same, subst (λ o. Fits o Reply.Full) same wait.1, does_waits (Asks op2 ends) op ws first after is wait.2 acts)

does_none : (d : Doing) (reply : Reply) → asked d ≡ None → Completes d [] (ended d reply)
does_none (Ends r) reply is = (refl, refl)
does_none (Asks op ends) reply is = cc

does_last : (d : Doing) (op : Op) (reply : Reply) → asked d ≡ Some op → fits op reply ≡ true → is_full reply ≡ false
    → Completes d (record { op = op; reply = reply } ∷ []) (ended d reply)
does_last (Ends r) op reply is fit full = cc
does_last (Asks op2 ends) op reply is fit full =
    let same : op ≡ op2 = cc in (
      same,
      subst (λ o. Fits o reply) same fit,
      subst
          (λ b. MatchBool b (Completes (Asks op2 ends) [] (ends reply))
          (◌≡◌ {A = List Step} [] [] × (ends reply ≡ ends reply))) (sym full) (refl, refl),
    )

group_by : (r : Regs) (e : Step) (es : List Step) (after : Regs) (t : Turn) → r.turn ≡ t
    → (e.op ≡ opening t r) × Fits e.op e.reply × Completes (going t r e.reply) es after → Group r (e ∷ es) after
group_by r e es after t is m =
    subst (λ (x : Turn). (e.op ≡ opening x r) × Fits e.op e.reply × Completes (going x r e.reply) es after) (sym is) m

-- the steps of an instruction begun, and then the rest of it, are a group
begun_group : (r : Regs) (w : ℕ) (part first : List Step) (after : Regs) → Begins r w part
    → Completes (executes w r) first after → Group r (part ++ first) after
begun_group r w [] first after begun acts = absurd begun
begun_group r w (e ∷ ws) first after begun acts =
    let piece = begun.1 in
    let fetch : Step = record { op = Op.Read r.pc 4; reply = Reply.Bytes piece } in
    let rest : Completes (executes w r) (ws ++ first) after = does_waits (executes w r) begun.5 ws first after begun.6 begun.7
    acts in
    subst (λ (x : Step). Group r (x ∷ (ws ++ first)) after) (sym begun.2)
    (group_by r fetch (ws ++ first) after Turn.Fetch begun.0
    (refl, ap (λ n. n == 4) begun.3, subst (λ n. Completes (executes n r) (ws ++ first) after) (sym begun.4) rest))

on_by : (start : Regs) (es : List Step) (b : Option ℕ) (r : Regs) (groups : List (List Step)) (part : List Step)
    → Lead start groups r → BegunBy b r part → joined groups ++ part ≡ es → (more : List Step) (end : Regs)
    → Rest (doing_by b r) more end → HartTrace start (es ++ more) end
on_by start es None r groups part lead begun whole more end t =
    let joins = joined-append groups t.1 in
    let none = append-nil (joined groups) in (
      groups ++ t.1,
      lead_append start r end groups t.1 lead (subst (λ x. Lead x t.1 end) (sym t.3.1) t.4),
      rw
          (← whole, begun, none, ← t.5, t.3.0) joins,
    )
on_by start es (Some w) r groups part lead begun whole more end t =
    let g = part ++ t.0 in
    let joins = joined-append groups (g ∷ t.1) in (
      groups ++ g ∷ t.1,
      lead_append start r end groups (g ∷ t.1) lead
          (t.2, begun_group r w part t.0 t.2 begun t.3, t.4),
      rw (← whole, ← t.5) (joins ∙ simp append_assoc),
    )

-- what may come after the hart continues the steps that lead to it
pub leads_on : (start : Regs) (es : List Step) (h : Hart) → LeadsTo start es h → (more : List Step) (end : Regs)
    → Rest (doing_by h.begun h.regs) more end → HartTrace start (es ++ more) end
leads_on start es h l = on_by start es h.begun h.regs l.0 l.1 l.2 l.3 l.4

-- one group more
group_more : (start r after : Regs) (es g : List Step) (groups : List (List Step)) (part : List Step) (e : Step)
    → Lead start groups r → joined groups ++ part ≡ es → Group r (part ++ e ∷ []) after
    → LeadsTo start (es ++ e ∷ []) (fresh after)
group_more start r after es g groups part e lead whole group =
    let joins = joined-append groups ((part ++ e ∷ []) ∷ []) in (
      groups ++ (part ++ e ∷ []) ∷ [],
      [],
      lead_append start r after groups ((part ++ e ∷ []) ∷ []) lead
          (after, group, refl),
      refl,
      rw (← whole) (simp append-nil (joins ∙ simp (append_assoc, append-nil))),
    )

module _ (start r : Regs) (es : List Step) (groups : List (List Step)) (lead : Lead start groups r) where
  -- a word that was fetched begins, or is done
  fetched_word : joined groups ++ [] ≡ es → r.turn ≡ Turn.Fetch → (piece : List ℕ) → length piece ≡ 4 → (o : Option Op)
      → asked (executes (little_endian piece) r) ≡ o
      → LeadsTo start (es ++ record { op = Op.Read r.pc 4; reply = Reply.Bytes piece } ∷ [])
      (begins_by o (little_endian piece) r (Reply.Bytes piece))
  fetched_word whole idle piece four (Some op) is =
      let e : Step = record { op = Op.Read r.pc 4; reply = Reply.Bytes piece } in
      (groups, e ∷ [], lead, (idle, piece, refl, four, refl, op, is, tt), rw (← whole) (simp append-nil))
  fetched_word whole idle piece four None is =
      let e : Step = record { op = Op.Read r.pc 4; reply = Reply.Bytes piece } in
      group_more start r (ended (executes (little_endian piece) r) (Reply.Bytes piece)) es [] groups [] e lead whole
      (group_by r e [] (ended (executes (little_endian piece) r) (Reply.Bytes piece)) Turn.Fetch idle
      (refl, ap (λ n. n == 4) four, does_none (executes (little_endian piece) r) (Reply.Bytes piece) is))

  after_fetch : joined groups ++ [] ≡ es → r.turn ≡ Turn.Fetch → (reply : Reply) → fits (Op.Read r.pc 4) reply ≡ true
      → LeadsTo start (es ++ record { op = Op.Read r.pc 4; reply = reply } ∷ []) (hart_fetched r reply)
  after_fetch whole idle (Reply.Bytes piece) fit =
      fetched_word whole idle piece (eqb-true (length piece) 4 fit) (asked (executes (little_endian piece) r)) refl
  after_fetch whole idle Reply.AccessFault fit =
      let e : Step = record { op = Op.Read r.pc 4; reply = Reply.AccessFault } in
      group_more start r (fetch_fault r) es [] groups [] e lead whole
      (group_by r e [] (fetch_fault r) Turn.Fetch idle (refl, refl, (refl, refl)))
  after_fetch whole idle reply fit = cc

  after_none : joined groups ++ [] ≡ es → (t : Turn) → r.turn ≡ t → (reply : Reply) → fits (opening t r) reply ≡ true
      → LeadsTo start (es ++ record { op = opening t r; reply = reply } ∷ []) (turned_by t r reply)
  after_none whole Turn.Fetch is reply fit = after_fetch whole is reply fit
  after_none whole Turn.Look is reply fit =
      let e : Step = record { op = Op.Board board.Look; reply = reply } in
      group_more start r (looked reply r) es [] groups [] e lead whole
      (group_by r e [] (looked reply r) Turn.Look is (refl, fit, (refl, refl)))
  after_none whole Turn.WakeLook is reply fit =
      let e : Step = record { op = Op.Board board.Look; reply = reply } in
      group_more start r (looked reply r) es [] groups [] e lead whole
      (group_by r e [] (looked reply r) Turn.WakeLook is (refl, fit, (refl, refl)))
  after_none whole Turn.Idle is reply fit =
      let e : Step = record { op = Op.Idle; reply = reply } in
      let after : Regs = record r { turn = Turn.Look } in
      group_more start r after es [] groups [] e lead whole
      (group_by r e [] after Turn.Idle is (refl, fit, (refl, refl)))
  after_none whole Turn.WakeIdle is reply fit =
      let e : Step = record { op = Op.Idle; reply = reply } in
      let after : Regs = record r { turn = Turn.WakeLook } in
      group_more start r after es [] groups [] e lead whole
      (group_by r e [] after Turn.WakeIdle is (refl, fit, (refl, refl)))

full_is : (reply : Reply) → is_full reply ≡ true → reply ≡ Reply.Full
full_is Reply.Full is = refl
full_is reply is = cc

waits_more : (op : Op) (ws : List Step) → Waits op ws → fits op Reply.Full ≡ true
    → Waits op (ws ++ record { op = op; reply = Reply.Full } ∷ [])
waits_more op [] wait fit = (refl, fit, tt)
waits_more op (e ∷ ws) wait fit = (wait.0, wait.1, waits_more op ws wait.2 fit)

pub wanted_by : (r : Regs) (w : ℕ) (part : List Step) → Begins r w part → (op : Op) × (asked (executes w r) ≡ Some op)
wanted_by r w [] begun = absurd begun
wanted_by r w (e ∷ ws) begun = (begun.5, begun.6)

begins_more : (r : Regs) (w : ℕ) (part : List Step) → Begins r w part
    → fits (op_or_idle (asked (executes w r))) Reply.Full ≡ true
    → Begins r w (part ++ record { op = op_or_idle (asked (executes w r)); reply = Reply.Full } ∷ [])
begins_more r w [] begun fit = absurd begun
begins_more r w (e ∷ ws) begun fit =
    let same = ap op_or_idle begun.6 in (
      begun.0,
      begun.1,
      begun.2,
      begun.3,
      begun.4,
      begun.5,
      begun.6,
      subst (λ (o : Op). Waits begun.5 (ws ++ record { op = o; reply = Reply.Full } ∷ [])) (sym same)
          (waits_more begun.5 ws begun.7 (subst (λ (o : Op). fits o Reply.Full ≡ true) same fit)),
    )

module _ (start r : Regs) (es : List Step) (groups : List (List Step)) (lead : Lead start groups r) where
  after_begun : (w : ℕ) (part : List Step) → Begins r w part → joined groups ++ part ≡ es → (reply : Reply)
      → fits (op_or_idle (asked (executes w r))) reply ≡ true → (b : Bool) → is_full reply ≡ b
      → LeadsTo start (es ++ record { op = op_or_idle (asked (executes w r)); reply = reply } ∷ [])
      (if b then record { regs = r; begun = Some w } else fresh (ended (executes w r) reply))
  after_begun w part begun whole reply fit true full =
      let is : Reply.Full ≡ reply = sym (full_is reply full) in
      let e : Step = record { op = op_or_idle (asked (executes w r)); reply = Reply.Full } in
      subst (λ (x : Reply). LeadsTo start (es ++ record { op = op_or_idle (asked (executes w r)); reply = x } ∷ [])
      (record { regs = r; begun = Some w })) is (
        groups,
        part ++ e ∷ [],
        lead,
        begins_more r w part begun
            (subst (λ (x : Reply). fits (op_or_idle (asked (executes w r))) x ≡ true) (sym is) fit),
        rw (← whole)
            (sym (append_assoc (joined groups) part (e ∷ []))),
      )
  after_begun w part begun whole reply fit false full =
      let o = wanted_by r w part begun in
      let same = ap op_or_idle o.1 in
      let e : Step = record { op = op_or_idle (asked (executes w r)); reply = reply } in
      let acts = subst (λ (x : Op). Completes (executes w r) (record { op = x; reply = reply } ∷ [])
      (ended (executes w r) reply)) (sym same)
      (does_last (executes w r) o.0 reply o.1 (subst (λ (x : Op). fits x reply ≡ true) same fit) full) in
      group_more start r (ended (executes w r) reply) es [] groups part e lead whole
      (begun_group r w part (e ∷ []) (ended (executes w r) reply) begun acts)

  after_by : (b : Option ℕ) (part : List Step) → BegunBy b r part → joined groups ++ part ≡ es → (reply : Reply)
      → fits (wants_by b r) reply ≡ true
      → LeadsTo start (es ++ record { op = wants_by b r; reply = reply } ∷ []) (stepped_by b r reply)
  after_by None part begun whole reply fit =
      after_none start r es groups lead (subst (λ (x : List Step). joined groups ++ x ≡ es) begun whole) r.turn refl
      reply fit
  after_by (Some w) part begun whole reply fit = after_begun w part begun whole reply fit (is_full reply) refl

-- with one more step, of the op that is wanted and a fitting reply, the steps lead to the next hart
pub leads_next : (start : Regs) (es : List Step) (h : Hart) (reply : Reply) → LeadsTo start es h
    → fits (hart_wants h) reply ≡ true
    → LeadsTo start (es ++ record { op = hart_wants h; reply = reply } ∷ []) (hart_next h reply)
leads_next start es h reply l fit =
    subst (λ b. LeadsTo start (es ++ record { op = hart_wants h; reply = reply } ∷ [])
    (if b then hart_stepped h reply else h)) (sym fit)
    (after_by start h.regs es l.0 l.2 h.begun l.1 l.3 l.4 reply fit)
