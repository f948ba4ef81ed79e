-- A history that grows by one entry.
use Rattle.std.proofs.Common.{ℕ, ◌≡◌, ◌<◌, ◌≤◌, ◌+◌, ◌^◌, List, [], ◌∷◌, ◌++◌, length, sym, ◌∙◌, ap, refl, subst, arith, length-append}
use Rattle.std.specs.List.{AllByRecursion}
use Rattle.vm_types.specs.declared.ids.ActorId.{ActorId}
use Rattle.vm_types.specs.declared.ids.PlaceId.{PlaceId}
use Rattle.vm_types.specs.declared.op.Op.{Op}
use Rattle.vm_types.specs.declared.reply.Reply.{Reply}
use Rattle.vm_types.specs.declared.entry.Entry.{Entry}
use Rattle.vm_types.specs.Histories.{Replays, Rises, last_stamp}
use Rattle.place_locks.specs.Held.{IsEntryOf, IsHistory, IsLast}

replays_more : {V : Type 0} (touch : V → ActorId → Op → Reply × V) (v : V) (es : List Entry) (w : V) (e : Entry) (x : V) → Replays touch v es w → e.reply ≡ (touch w e.actor e.op).0 → x ≡ (touch w e.actor e.op).1 → Replays touch v (es ++ e ∷ []) x
replays_more touch v [] w e x h r s =
    (r ∙ ap (λ u. (touch u e.actor e.op).0) (sym h), ap (λ u. (touch u e.actor e.op).1) h ∙ sym s)
replays_more touch v (d ∷ es) w e x h r s = (h.0, replays_more touch (touch v d.actor d.op).1 es w e x h.1 r s)

rises_more : (b : ℕ) (es : List Entry) (e : Entry) → Rises b es → e.before ≡ last_stamp b es → e.before < e.stamp → Rises b (es ++ e ∷ [])
rises_more b [] e h is up = (is, subst (λ n. n < e.stamp) is up, tt)
rises_more b (d ∷ es) e h is up = (h.0, h.1, rises_more d.stamp es e h.2 is up)

last_more : (b : ℕ) (es : List Entry) (e : Entry) → last_stamp b (es ++ e ∷ []) ≡ e.stamp
last_more b [] e = refl
last_more b (d ∷ es) e = last_more d.stamp es e

own_more : (p : PlaceId) (es : List Entry) (e : Entry) → AllByRecursion (λ (d : Entry). d.place ≡ p) es → e.place ≡ p → AllByRecursion (λ (d : Entry). d.place ≡ p) (es ++ e ∷ [])
own_more p [] e h is = (is, tt)
own_more p (d ∷ es) e h is = (h.0, own_more p es e h.1 is)

-- what a lock keeps is kept by one more act
pub history_grows : {V : Type 0} (touch : V → ActorId → Op → Reply × V) (place : PlaceId) (v w x : V) (es now : List Entry) (e : Entry) (actor : ActorId) (op : Op) (clock last : ℕ) → IsHistory touch place v es w → IsLast last es → clock < 2 ^ 63 → IsEntryOf e actor place op clock → e.before ≡ last → e.reply ≡ (touch w actor op).0 → x ≡ (touch w actor op).1 → now ≡ es ++ e ∷ [] → IsHistory touch place v now x × IsLast e.stamp now
history_grows touch place v w x es now e actor op clock last h l small is before reply value items =
    let r : e.reply ≡ (touch w e.actor e.op).0 = reply ∙ (λ i. (touch w (sym is.actor_is i) (sym is.op_is i)).0) in
    let s : x ≡ (touch w e.actor e.op).1 = value ∙ (λ i. (touch w (sym is.actor_is i) (sym is.op_is i)).1) in
    let b : e.before ≡ last_stamp 0 es = before ∙ l.is in
    let up : e.before < e.stamp = omega (arith, is.stamp_is) in
    let bound : e.stamp ≤ 2 ^ 63 + length (es ++ e ∷ []) = omega (arith, is.stamp_is, l.low, length-append es (e ∷ [])) in
    rw items (
      record {
        replays = replays_more touch v es w e x h.replays r s;
        rises = rises_more 0 es e h.rises b up;
        own = own_more place es e h.own is.place_is;
      },
      record { is = sym (last_more 0 es e); low = bound },
    )
