-- What happened to a place in a round, with one more act.
use Rattle.std.proofs.Common.{ℕ, ◌≡◌, ◌+◌, ◌^◌, ◌<◌, Bool, cond, max, List, [], ◌∷◌, ◌++◌, refl, sym, ap, ◌∙◌, subst, arith, eq-eqb}
use Rattle.vm_types.specs.declared.ids.ActorId.{ActorId}
use Rattle.vm_types.specs.declared.op.Op.{Op}
use Rattle.vm_types.specs.declared.reply.Reply.{Reply}
use Rattle.vm_types.specs.declared.entry.Entry.{Entry}
use Rattle.place_locks.specs.Held.{IsLast}
use Rattle.place_locks.proofs.Grows.{history_grows}
use Rattle.turn_table.specs.declared.held.Held.{Held}
use Rattle.turn_table.specs.Acts.{IsActed}
use Rattle.turn_table.specs.Rule.{Leads, before_of}

-- what leads to the place as it was found leads, with the act, to how it was left
pub leads_more : {P V : Type 0} (touch : V → ActorId → Op → Reply × V) (value : P → V) (made : P → Type 0) (n : ℕ) (first found left : Held P) (es : List Entry) (e : Entry) (clock : ℕ) → Leads touch value made n first es found → IsActed touch value made n e found left → e.stamp ≡ 1 + max clock e.before → clock < 2 ^ 63 → Leads touch value made n first (es ++ e ∷ []) left
leads_more touch value made n first found left es e clock h a stamp small =
    let s : ℕ = before_of n left in
    let is : s ≡ e.stamp = ap (λ (b : Bool). let k : ℕ = cond b left.last 0 in k) (eq-eqb left.round n a.round) ∙ a.stamp in
    let grown = history_grows touch first.id (value first.place) (value found.place) (value left.place) es (es ++ e ∷ []) e e.actor e.op clock (before_of n found) h.history h.last small record { actor_is = refl; place_is = a.place ∙ h.id; op_is = refl; stamp_is = stamp } a.earlier a.replied a.became refl in
    record {
      history = grown.0;
      last = subst (λ (k : ℕ). IsLast k (es ++ e ∷ [])) (sym is) grown.1;
      id = a.id ∙ h.id;
      old = (let k : ℕ = left.round in let same : k ≡ n = a.round in omega (arith, same));
      stays = λ m. a.stays (h.stays m);
    }
