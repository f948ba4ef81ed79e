-- The first step of what may still come has the op that is wanted, and what is after it may come after the reply.
use Rattle.std.proofs.Common.{◌≡◌, refl, sym, ap, subst, ◌∙◌, Bool, true, false, if◌then◌else◌, List, [], ◌∷◌, ◌++◌}
use Rattle.std.proofs.Common.{MatchBool}
use Rattle.rv_supervisor.specs.declared.regs.Regs.{Regs}
use Rattle.vm_types.specs.declared.op.Op.{Op}
use Rattle.vm_types.specs.declared.op.BoardOp.{BoardOp}
use Rattle.vm_types.specs.declared.op.BoardOp.TheVariants as board
use Rattle.vm_types.specs.declared.op.PortOp.{PortOp}
use Rattle.vm_types.specs.declared.op.PortOp.TheVariants as port
use Rattle.vm_types.specs.declared.port_look.QueueShown.{QueueShown}
use Rattle.vm_types.specs.declared.op.OutOp.{OutOp}
use Rattle.vm_types.specs.declared.op.OutOp.TheVariants as out
use Rattle.vm_types.specs.declared.reply.Reply.{Reply}
use Rattle.vm_types.specs.declared.reply.Shown.TheVariants.{Stopped}
use Rattle.vm_types.specs.declared.entry.Step.{Step}
use Rattle.rv_doing.specs.Doing.{Doing, Ends, Asks}
use Rattle.vm_types.specs.Fits.{board_fits, out_fits, port_fits, Fits}
use Rattle.hart_trace.specs.Traces.{Completes, Group, Lead, joined, is_full}
use Rattle.hart_trace.proofs.Rest.{Rest, doing_wants, doing_next}

abbrev pub Headed : Doing → List Step → Regs → Type 0
Headed d [] end = Unit {0}
Headed d (e ∷ es) end = (e.op ≡ doing_wants d) × Fits e.op e.reply × Rest (doing_next d e.reply) es end

fits_of : (a b : Op) (reply : Reply) → a ≡ b → Fits b reply → Fits a reply
fits_of a b reply e f = subst (λ o. Fits o reply) (sym e) f

asks_tail : (op : Op) (ends : Reply → Regs) (e : Step) (es : List Step) (groups : List (List Step)) (after end : Regs)
    → Lead after groups end → (b : Bool)
    → MatchBool b (Completes (Asks op ends) es after) ((es ≡ []) × (ends e.reply ≡ after))
    → Rest (if b then Asks op ends else Ends (ends e.reply)) (es ++ joined groups) end
asks_tail op ends e es groups after end lead true m = (es, groups, after, m, lead, refl)
asks_tail op ends e es groups after end lead false m = (es, groups, after, m, lead, refl)

group_head : (r : Regs) (g : List Step) (groups : List (List Step)) (after end : Regs) → Group r g after
    → Lead after groups end → Headed (Ends r) (g ++ joined groups) end
group_head r [] groups after end group lead = absurd group
group_head r (e ∷ es) groups after end group lead = (group.0, group.1, (es, groups, after, group.2, lead, refl))

lead_head : (r : Regs) (groups : List (List Step)) (end : Regs) → Lead r groups end
    → Headed (Ends r) (joined groups) end
lead_head r [] end lead = tt
lead_head r (g ∷ groups) end lead = group_head r g groups lead.0 end lead.1 lead.2

parts_head : (d : Doing) (first : List Step) (groups : List (List Step)) (after end : Regs) → Completes d first after
    → Lead after groups end → Headed d (first ++ joined groups) end
parts_head (Asks op ends) [] groups after end acts lead = absurd acts
parts_head (Asks op ends) (e ∷ es) groups after end acts lead = (
  acts.0,
  fits_of e.op op e.reply acts.0 acts.1,
  asks_tail op ends e es groups after end lead (is_full e.reply)
      acts.2,
)
parts_head (Ends r) first groups after end acts lead =
    subst (λ xs. Headed (Ends r) (xs ++ joined groups) end) (sym acts.0)
    (lead_head r groups end (subst (λ q. Lead q groups end) (sym acts.1) lead))

pub headed : (d : Doing) (es : List Step) (end : Regs) → Rest d es end → Headed d es end
headed d es end r = subst (λ xs. Headed d xs end) r.5 (parts_head d r.0 r.1 r.2 end r.3 r.4)

asks_back : (op : Op) (ends : Reply → Regs) (e : Step) (es : List Step) (end : Regs) (b : Bool)
    → Rest (if b then Asks op ends else Ends (ends e.reply)) es end
    → (first : List Step) × (groups : List (List Step)) × (after : Regs) × MatchBool b
    (Completes (Asks op ends) first after) ((first ≡ []) × (ends e.reply ≡ after)) × Lead after groups end ×
    (first ++ joined groups ≡ es)
asks_back op ends e es end true r = r
asks_back op ends e es end false r = r

-- and back: a step of the wanted op with a fitting reply goes before what may come after the reply
pub unheaded : (d : Doing) (e : Step) (es : List Step) (end : Regs) → e.op ≡ doing_wants d → Fits e.op e.reply
    → Rest (doing_next d e.reply) es end → Rest d (e ∷ es) end
unheaded (Asks op ends) e es end is fits r =
    let t = asks_back op ends e es end (is_full e.reply) r in
    (e ∷ t.0, t.1, t.2, (is, fits_of op e.op e.reply (sym is) fits, t.3), t.4, ap (λ xs. e ∷ xs) t.5)
unheaded (Ends q) e es end is fits r =
    ([], (e ∷ r.0) ∷ r.1, q, (refl, refl), (r.2, (is, fits, r.3), r.4), ap (λ xs. e ∷ xs) r.5)

-- for each act a reply that ends it
abbrev pub board_settled : BoardOp → Reply
board_settled board.Look = Reply.Shown Stopped
board_settled (board.Reset kind reason) = Reply.Returned 0 0
board_settled board.Time = Reply.Word 0
board_settled (board.SoftwarePending clear set) = Reply.Word 0
board_settled (board.SendIpi mask base) = Reply.Returned 0 0
board_settled (board.StartHart hart pc word) = Reply.Returned 0 0
board_settled (board.HartStatus hart) = Reply.Returned 0 0
board_settled act = Reply.Done

abbrev idle_queue : QueueShown
idle_queue = record { descriptors = 0; available = 0; used = 0; size = 0; is_ready = false; is_kicked = false }

abbrev pub port_settled : PortOp → Reply
port_settled port.Look = Reply.Port
    (record { first = idle_queue; second = idle_queue; third = idle_queue; accepted = record { indirect = false; event_index = false }; status = 0; was_reset = false })
port_settled (port.Interrupt causes) = Reply.Done
port_settled port.Break = Reply.Word 0

abbrev pub out_settled : OutOp → Reply
out_settled out.Clock = Reply.Word 0
out_settled act = Reply.Failed

abbrev pub settled : Op → Reply
settled (Op.Read at len) = Reply.AccessFault
settled (Op.Write at piece) = Reply.Done
settled (Op.Amo at value kind wide) = Reply.Word 0
settled (Op.Lr at wide) = Reply.Word 0
settled (Op.Sc at value wide) = Reply.Word 0
settled (Op.Port port act) = port_settled act
settled (Op.Board act) = board_settled act
settled (Op.Out act) = out_settled act
settled Op.Idle = Reply.Done

board_fits-settled : (act : BoardOp) → board_fits act (board_settled act) ≡ true
board_fits-settled board.Look = refl
board_fits-settled (board.Putchar byte) = refl
board_fits-settled (board.Reset kind reason) = refl
board_fits-settled board.Time = refl
board_fits-settled (board.SoftwarePending clear set) = refl
board_fits-settled (board.SetTimer deadline) = refl
board_fits-settled (board.SendIpi mask base) = refl
board_fits-settled (board.StartHart hart pc word) = refl
board_fits-settled board.StopHart = refl
board_fits-settled (board.HartStatus hart) = refl
board_fits-settled board.RaiseLine = refl
board_fits-settled (board.Advance nanoseconds) = refl

port_fits-settled : (act : PortOp) → port_fits act (port_settled act) ≡ true
port_fits-settled port.Look = refl
port_fits-settled (port.Interrupt causes) = refl
port_fits-settled port.Break = refl

out_fits-settled : (act : OutOp) → out_fits act (out_settled act) ≡ true
out_fits-settled out.Clock = refl
out_fits-settled act = refl

pub fits-settled : (op : Op) → Fits op (settled op)
fits-settled (Op.Read at len) = refl
fits-settled (Op.Write at piece) = refl
fits-settled (Op.Amo at value kind wide) = refl
fits-settled (Op.Lr at wide) = refl
fits-settled (Op.Sc at value wide) = refl
fits-settled (Op.Port port act) = port_fits-settled act
fits-settled (Op.Board act) = board_fits-settled act
fits-settled (Op.Out act) = out_fits-settled act
fits-settled Op.Idle = refl

is_full-board_settled : (act : BoardOp) → is_full (board_settled act) ≡ false
is_full-board_settled board.Look = refl
is_full-board_settled (board.Putchar byte) = refl
is_full-board_settled (board.Reset kind reason) = refl
is_full-board_settled board.Time = refl
is_full-board_settled (board.SoftwarePending clear set) = refl
is_full-board_settled (board.SetTimer deadline) = refl
is_full-board_settled (board.SendIpi mask base) = refl
is_full-board_settled (board.StartHart hart pc word) = refl
is_full-board_settled board.StopHart = refl
is_full-board_settled (board.HartStatus hart) = refl
is_full-board_settled board.RaiseLine = refl
is_full-board_settled (board.Advance nanoseconds) = refl

is_full-port_settled : (act : PortOp) → is_full (port_settled act) ≡ false
is_full-port_settled port.Look = refl
is_full-port_settled (port.Interrupt causes) = refl
is_full-port_settled port.Break = refl

is_full-out_settled : (act : OutOp) → is_full (out_settled act) ≡ false
is_full-out_settled out.Clock = refl
is_full-out_settled act = refl

pub is_full-settled : (op : Op) → is_full (settled op) ≡ false
is_full-settled (Op.Read at len) = refl
is_full-settled (Op.Write at piece) = refl
is_full-settled (Op.Amo at value kind wide) = refl
is_full-settled (Op.Lr at wide) = refl
is_full-settled (Op.Sc at value wide) = refl
is_full-settled (Op.Port port act) = is_full-port_settled act
is_full-settled (Op.Board act) = is_full-board_settled act
is_full-settled (Op.Out act) = is_full-out_settled act
is_full-settled Op.Idle = refl

rest_nothing : (r : Regs) → Rest (Ends r) [] r
rest_nothing r = ([], [], r, (refl, refl), refl, refl)

-- what is begun can end
pub some_rest : (d : Doing) → (es : List Step) × (end : Regs) × Rest d es end
some_rest (Ends r) = ([], r, rest_nothing r)
some_rest (Asks op ends) =
    let e : Step = record { op = op; reply = settled op } in
    let end = ends (settled op) in (
      e ∷ [],
      end,
      unheaded (Asks op ends) e [] end refl (fits-settled op)
          (subst (λ b. Rest (if b then Asks op ends else Ends end) [] end) (sym (is_full-settled op))
          (rest_nothing end)),
    )

-- two steps that may come after the same steps have one op
pub unique : (d : Doing) (es : List Step) (a b : Step) (m n : List Step) (x y : Regs) → Rest d (es ++ a ∷ m) x
    → Rest d (es ++ b ∷ n) y → a.op ≡ b.op
unique d [] a b m n x y r s = (headed d (a ∷ m) x r).0 ∙ sym (headed d (b ∷ n) y s).0
unique d (e ∷ es) a b m n x y r s =
    unique (doing_next d e.reply) es a b m n x y (headed d (e ∷ (es ++ a ∷ m)) x r).2
    (headed d (e ∷ (es ++ b ∷ n)) y s).2

-- any other fitting reply may come in the place of the one that came
pub other_reply : (d : Doing) (es : List Step) (a b : Step) (m : List Step) (x : Regs) → Rest d (es ++ a ∷ m) x
    → b.op ≡ a.op → Fits b.op b.reply → (n : List Step) × (y : Regs) × Rest d (es ++ b ∷ n) y
other_reply d [] a b m x r same fits =
    let t = some_rest (doing_next d b.reply) in
    (t.0, t.1, unheaded d b t.0 t.1 (same ∙ (headed d (a ∷ m) x r).0) fits t.2)
other_reply d (e ∷ es) a b m x r same fits =
    let h = headed d (e ∷ (es ++ a ∷ m)) x r in
    let t = other_reply (doing_next d e.reply) es a b m x h.2 same fits in
    (t.0, t.1, unheaded d e (es ++ b ∷ t.0) t.1 h.0 h.1 t.2)

-- after steps that may come there is an op that may come next
pub some_next : (d : Doing) (es more : List Step) (x : Regs) → Rest d (es ++ more) x
    → (a : Step) × (n : List Step) × (y : Regs) × Rest d (es ++ a ∷ n) y
some_next d [] more x r =
    let e : Step = record { op = doing_wants d; reply = settled (doing_wants d) } in
    let t = some_rest (doing_next d e.reply) in
    (e, t.0, t.1, unheaded d e t.0 t.1 refl (fits-settled (doing_wants d)) t.2)
some_next d (e ∷ es) more x r =
    let h = headed d (e ∷ (es ++ more)) x r in
    let t = some_next (doing_next d e.reply) es more x h.2 in
    (t.0, t.1, t.2, unheaded d e (es ++ t.0 ∷ t.1) t.2 h.0 h.1 t.3)
