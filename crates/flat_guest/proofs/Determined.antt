-- An event does one thing.
use Rattle.std.proofs.Common.{◌≡◌, ℕ, zero, suc, ◌<◌, true, false, refl, sym, ap, subst, ◌∙◌, List, [], ◌∷◌, length}
use Rattle.std.proofs.Common.{Option, Some, None, ◌⊎◌, inl, inr, arith, slice_get}
use Rattle.vm_types.specs.declared.ids.ActorId.{ActorId}
use Rattle.vm_types.specs.declared.ids.PlaceId.{PlaceId}
use Rattle.vm_types.specs.declared.op.Op.{Op}
use Rattle.vm_types.specs.declared.reply.Reply.{Reply}
use Rattle.vm_types.specs.declared.entry.Step.{Step}
use Rattle.vm_types.specs.declared.entry.Entry.{Entry}
use Rattle.rv_supervisor.specs.declared.regs.Regs.{Regs}
use Rattle.flat_guest.specs.Given.{Event, Given}
use Rattle.flat_guest.specs.Given.Given.{Nothing}
use Rattle.hart_trace.proofs.Traces.{one_op}
use Rattle.hart_trace.specs.Asks.{is_host_op}
use Rattle.timer_trace.proofs.Traces as timer_traces
use Rattle.flat_guest.specs.declared.places.Layout.{Layout}
use Rattle.guest_devices.specs.Devices.{FlatDevice}
use Rattle.guest_devices.proofs.Follows.{wants_left, wants_only}
use Rattle.flat_guest.specs.Guest.{Guest, Wants, WantsFrom, WantsOf, layout_of}
use Rattle.flat_guest.specs.Places.{place_of}
use Rattle.flat_guest.specs.Steps.{Answers, AnswersOut, FlatStep, IsOnBefore, Makes, StepsBy, Stops, Waits, guest_after}

out_one : (op : Op) (given : Given) (r s : Reply) → AnswersOut op given r → AnswersOut op given s → r ≡ s
out_one (Op.Out act) given r s a b =
    let first = a.0 in
    let second = b.0 in
    cc
out_one (Op.Port port act) given r s a b = absurd a.1
out_one (Op.Board act) given r s a b = absurd a.1
out_one Op.Idle given r s a b = a.1 ∙ sym b.1
out_one op given r s a b = a.1 ∙ sym b.1

answers_one : (p : PlaceId) (g : Guest) (actor : ActorId) (op : Op) (given : Given) (r s : Reply)
    → Answers p g actor op given r → Answers p g actor op given s → r ≡ s
answers_one (PlaceId.Page i) g actor op given r s a b = a.1 ∙ sym b.1
answers_one PlaceId.Board g actor op given r s a b = a.1 ∙ sym b.1
answers_one (PlaceId.Port k) g actor op given r s a b = a.1 ∙ sym b.1
answers_one PlaceId.Out g actor op given r s a b = out_one op given r s a b

from_one : (start : Option Regs) (steps : List Step) (a b : Op) → WantsFrom start steps a → WantsFrom start steps b
    → a ≡ b
from_one None steps a b x y = absurd x
from_one (Some start) steps a b x y = one_op start steps a b x y

device_one : (d : Option FlatDevice) (a b : Op) → WantsOf d a → WantsOf d b → a ≡ b
device_one None a b x y = absurd x
device_one (Some d) a b x y = let left = wants_left d a x in left.2 ∙ sym (wants_only d left.0 b left.1 y)

pub wants_one : (g : Guest) (actor : ActorId) (a b : Op) → Wants g actor a → Wants g actor b → a ≡ b
wants_one g ActorId.Timer a b x y = timer_traces.one_op (g.steps ActorId.Timer) a b x y
wants_one g (ActorId.Hart k) a b x y = from_one (slice_get g.starts k) (g.steps (ActorId.Hart k)) a b x y
wants_one g (ActorId.Device k) a b x y = device_one (slice_get g.devices k) a b x y

-- the guest after an entry, by what of it matters
abbrev after_by : Guest → PlaceId → ActorId → Op → Reply → Guest
after_by g place actor op reply =
    guest_after g (record { stamp = 0; before = 0; actor = actor; place = place; op = op; reply = reply })

module _ (g h k : Guest) (event : Event) (d e : Entry) (x : FlatStep g event d h) (y : FlatStep g event e k) where
  same_actor_id : d.actor ≡ e.actor
  same_actor_id = x.actor ∙ sym y.actor

  pub same_op : d.op ≡ e.op
  same_op = wants_one g e.actor d.op e.op (subst (λ (a : ActorId). Wants g a d.op) same_actor_id x.want) y.want

  pub same_place : d.place ≡ e.place
  same_place = x.place ∙ ap (λ (o : Op). place_of (layout_of g) o) same_op ∙ sym y.place

  pub same_reply : d.reply ≡ e.reply
  same_reply =
      answers_one e.place g e.actor e.op event.given d.reply e.reply
      (subst (λ (o : Op). Answers e.place g e.actor o event.given d.reply) same_op
      (subst (λ (a : ActorId). Answers e.place g a d.op event.given d.reply) same_actor_id
      (subst (λ (p : PlaceId). Answers p g d.actor d.op event.given d.reply) same_place x.answer)))
      y.answer

  pub same_after : h ≡ k
  same_after =
      let middle : after_by g d.place d.actor d.op d.reply ≡ after_by g e.place e.actor e.op e.reply = λ i. after_by g
      (same_place i) (same_actor_id i) (same_op i) (same_reply i) in
      x.after ∙ middle ∙ sym y.after

-- where a host object's reply is waited for, no event is made without one
not_answered : (there : Layout) (g : Guest) (actor : ActorId) (op : Op) (reply : Reply) → is_host_op op ≡ true
    → Answers (place_of there op) g actor op Nothing reply → ⊥
not_answered there g actor (Op.Out act) reply host answer = let none = answer.0 in cc
not_answered there g actor op reply host answer = cc

not_made : (g mid : Guest) (actor : ActorId) (e : Entry) → Waits g actor
    → FlatStep g (record { actor = actor; given = Nothing }) e mid → ⊥
not_made g mid actor e waits step =
    let mine : Wants g actor e.op = subst (λ (a : ActorId). Wants g a e.op) step.actor step.want in
    let same : e.op ≡ waits.0 = wants_one g actor e.op waits.0 mine waits.1 in
    let host : is_host_op e.op ≡ true = ap is_host_op same ∙ waits.2 in
    not_answered (layout_of g) g e.actor e.op e.reply host
    (subst (λ (p : PlaceId). Answers p g e.actor e.op Nothing e.reply) step.place step.answer)

abbrev All : ℕ → ℕ → ActorId → Guest → Type 0
All made count actor h = (made ≡ count) ⊎ ((made < count) × Stops h actor)

stops_not : (g mid : Guest) (actor : ActorId) (e : Entry) → Stops g actor → g.board.off ≡ false
    → FlatStep g (record { actor = actor; given = Nothing }) e mid → ⊥
stops_not g mid actor e (inl off) on step = cc
stops_not g mid actor e (inr waits) on step = not_made g mid actor e waits.1 step

stopped : (g mid : Guest) (actor : ActorId) (e : Entry) (made count : ℕ) → All 0 count actor g
    → (suc made ≡ count) ⊎ (suc made < count) → g.board.off ≡ false
    → FlatStep g (record { actor = actor; given = Nothing }) e mid → ⊥
stopped g mid actor e made count (inl none) (inl all) on step = omega arith
stopped g mid actor e made count (inl none) (inr less) on step = omega arith
stopped g mid actor e made count (inr ends) later on step = stops_not g mid actor e ends.1 on step

sooner : (made count : ℕ) (actor : ActorId) (h : Guest) → All made count actor h → (made ≡ count) ⊎ (made < count)
sooner made count actor h (inl all) = inl all
sooner made count actor h (inr less) = inr less.0

fewer : (made count : ℕ) (actor : ActorId) (h : Guest) → All (suc made) (suc count) actor h → All made count actor h
fewer made count actor h (inl all) = inl (omega arith)
fewer made count actor h (inr less) = inr (omega arith, less.1)

some_left : (made count : ℕ) (actor : ActorId) (h : Guest) → All (suc made) count actor h
    → (rest : ℕ) × (count ≡ suc rest)
some_left made zero actor h (inl all) = absurd (omega arith)
some_left made (suc rest) actor h (inl all) = (rest, refl)
some_left made zero actor h (inr less) = let short = less.0 in absurd (omega arith)
some_left made (suc rest) actor h (inr less) = (rest, refl)

-- the guest is on before the rest, from where the first event leads
on_behind : (g mid : Guest) (e : Entry) (es : List Entry) → mid ≡ guest_after g e → IsOnBefore g (e ∷ es)
    → IsOnBefore mid es
on_behind g mid e es after on = subst (λ (q : Guest). IsOnBefore q es) (sym after) on.1

one_run : (ds es : List Entry) (g h k : Guest) (actor : ActorId) (count : ℕ) → Makes g actor ds h → IsOnBefore g ds
    → All (length ds) count actor h → Makes g actor es k → IsOnBefore g es → All (length es) count actor k
    → (h ≡ k) × (length ds ≡ length es)
one_run [] [] g h k actor count x on_x m y on_y n = (sym x ∙ y, refl)
one_run [] (e ∷ es) g h k actor count x on_x m y on_y n =
    absurd (stopped g y.1 actor e (length es) count (subst (λ (q : Guest). All 0 count actor q) (sym x) m)
    (sooner (suc (length es)) count actor k n) on_y.0 y.2)
one_run (d ∷ ds) [] g h k actor count x on_x m y on_y n =
    absurd (stopped g x.1 actor d (length ds) count (subst (λ (q : Guest). All 0 count actor q) (sym y) n)
    (sooner (suc (length ds)) count actor h m) on_x.0 x.2)
one_run (d ∷ ds) (e ∷ es) g h k actor count x on_x m y on_y n =
    let left = some_left (length ds) count actor h m in
    let rest : ℕ = left.0 in
    let mid : x.1 ≡ y.1 = same_after g x.1 y.1 (record { actor = actor; given = Nothing }) d e x.2 y.2 in
    let on_ds : IsOnBefore y.1 ds = subst (λ (q : Guest). IsOnBefore q ds) mid (on_behind g x.1 d ds x.2.after on_x) in
    let same = one_run ds es y.1 h k actor rest (subst (λ (q : Guest). Makes q actor ds h) mid x.3) on_ds
    (fewer (length ds) rest actor h (subst (λ (c : ℕ). All (suc (length ds)) c actor h) left.1 m)) y.3
    (on_behind g y.1 e es y.2.after on_y)
    (fewer (length es) rest actor k (subst (λ (c : ℕ). All (suc (length es)) c actor k) left.1 n)) in
    (same.0, ap suc same.1)

module _ (g h k : Guest) (actor : ActorId) (count : ℕ) (ds es : List Entry) (x : StepsBy g actor count ds h)
    (y : StepsBy g actor count es k) where
  pub several_one : h ≡ k
  several_one = (one_run ds es g h k actor count x.made x.on x.all y.made y.on y.all).0

  pub several_made : length ds ≡ length es
  several_made = (one_run ds es g h k actor count x.made x.on x.all y.made y.on y.all).1
