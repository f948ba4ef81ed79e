-- Who made the events of a wait.
use Rattle.std.proofs.Common.{◌≡◌, ◌<◌, ◌+◌, ◌-◌, ◌*◌, ℕ, suc, nat_lt, ltb-false, Bool, true, false, arith, refl, sym, ap, ◌∙◌, subst, List, [], ◌∷◌, ◌++◌, length, Option, None, append_assoc, append-nil, if◌then◌else◌}
use Rattle.std.proofs.lemmas.List.{map-append}
use Rattle.vm_types.specs.declared.ids.ActorId.{ActorId}
use Rattle.vm_types.specs.declared.entry.Entry.{Entry}
use Rattle.vm_types.specs.declared.op.Op.{Op}
use Rattle.vm_types.specs.declared.op.OutOp.{OutOp}
use Rattle.vm_types.specs.declared.op.OutOp.TheVariants.{Clock}
use Rattle.vm_types.specs.declared.reply.Reply.{Reply}
use Rattle.vm_host.specs.Telling.{ClockKnown}
use Rattle.flat_guest.specs.Given.{Given}
use Rattle.flat_guest.specs.Guest.{Guest, Wants, is_actor}
use Rattle.flat_guest.specs.Steps.{guest_after}
use Rattle.guest_pages.specs.Made.{HasRoom, PagesValue, Spends}
use Rattle.guest_pages.proofs.Making.{less_room, room_left}
use Rattle.vm_world.specs.Refusing.{refusal_of}
use Rattle.vm_world.specs.Worlds.{IsWorld, MakesEvent, WorldValue}
use Rattle.slice_runner.specs.Runs.{IsAsked}
use Rattle.monitor_running.specs.Waiting.{HasMade, hart_turn, is_left_out, takes_turn, turns}
use Rattle.monitor_running.proofs.Asked.{turn_asks}

-- an actor stays among as many harts
still_there : (actor : ActorId) (g h : Guest) → length h.starts ≡ length g.starts → takes_turn g actor ≡ true
    → takes_turn h actor ≡ true
still_there ActorId.Timer g h same is = refl
still_there (ActorId.Hart k) g h same is = ap (nat_lt k) same ∙ is
still_there (ActorId.Device k) g h same is = is

turn_there : (g : Guest) (actor : ActorId) → takes_turn g actor ≡ true → is_actor g actor ≡ true
turn_there g ActorId.Timer is = refl
turn_there g (ActorId.Hart k) is = is
turn_there g (ActorId.Device k) is = cc

asked_of : (act : OutOp) (given : Option Reply) (old now : ClockKnown) → act ≡ Clock → IsAsked (Op.Out act) old given now
    → refusal_of (Op.Out act) given ≡ None
asked_of act given old now is asked =
    let it : IsAsked (Op.Out Clock) old given now = subst (λ (a : OutOp). IsAsked (Op.Out a) old given now) is asked in
    ap (λ (a : OutOp). refusal_of (Op.Out a) given) is ∙ ap (refusal_of (Op.Out Clock)) it.1

-- what an actor wants is given what it is to be given
unrefused : (g : Guest) (actor : ActorId) (op : Op) (given : Option Reply) (old now : ClockKnown) → takes_turn g actor ≡ true
    → Wants g actor op → IsAsked op old given now → refusal_of op given ≡ None
unrefused g actor (Op.Out act) given old now turn wants asked = asked_of act given old now (turn_asks g actor act turn wants).1 asked
unrefused g actor (Op.Read at len) given old now turn wants asked = ap (refusal_of (Op.Read at len)) asked.0
unrefused g actor (Op.Write at piece) given old now turn wants asked = ap (refusal_of (Op.Write at piece)) asked.0
unrefused g actor (Op.Amo at value kind wide) given old now turn wants asked = ap (refusal_of (Op.Amo at value kind wide)) asked.0
unrefused g actor (Op.Lr at wide) given old now turn wants asked = ap (refusal_of (Op.Lr at wide)) asked.0
unrefused g actor (Op.Sc at value wide) given old now turn wants asked = ap (refusal_of (Op.Sc at value wide)) asked.0
unrefused g actor (Op.Port port act) given old now turn wants asked = ap (refusal_of (Op.Port port act)) asked.0
unrefused g actor (Op.Board act) given old now turn wants asked = ap (refusal_of (Op.Board act)) asked.0
unrefused g actor Op.Idle given old now turn wants asked = ap (refusal_of Op.Idle) asked.0

-- ---- one event more

module _ (first w : WorldValue) (actors : List ActorId) (actor : ActorId) (es : List Entry)
    (there : (g : Guest) → IsWorld first g → takes_turn g actor ≡ true) (has : HasMade actors es first w) where
  pub made_more : (given : Given) (v : WorldValue) (e : Entry)
      → MakesEvent w (record { actor = actor; given = given }) e v → HasMade (actors ++ actor ∷ []) (es ++ e ∷ []) first v
  made_more given v e made g is =
      let before = has g is in
      let step = made.step before.0 before.1 in (
        guest_after before.0 e,
        made.stays before.0 before.1,
        before.2,
        map-append (λ (d : Entry). d.actor) es (e ∷ [])
            ∙ ap (λ (l : List ActorId). l ++ e.actor ∷ []) before.3
            ∙ ap (λ (a : ActorId). actors ++ a ∷ []) step.actor,
      )

  -- it is there
  pub never_absent : ((g : Guest) → IsWorld w g → is_actor g actor ≡ false) → (to : WorldValue) (new : List Entry)
      → HasMade (actors ++ actor ∷ []) new first to
  never_absent absent to new g is =
      let before = has g is in
      let both : true ≡ false =
      sym (turn_there before.0 actor (still_there actor g before.0 before.2 (there g is))) ∙ absent before.0 before.1 in cc

  -- and what it wants is not refused
  pub never_refused : (op : Op) (given : Option Reply) (old now : ClockKnown) → ((g : Guest) → IsWorld w g → Wants g actor op)
      → IsAsked op old given now
      → ((g : Guest) → IsWorld w g → Wants g actor op → refusal_of op given ≡ None → ⊥) → (to : WorldValue) (new : List Entry)
      → HasMade (actors ++ actor ∷ []) new first to
  never_refused op given old now wants asked never to new g is =
      let before = has g is in
      let want = wants before.0 before.1 in
      absurd (never before.0 before.1 want (unrefused before.0 actor op given old now (still_there actor g before.0 before.2 (there g is)) want asked))

-- nothing was done so far
pub made_none : (w : WorldValue) → HasMade [] [] w w
made_none w g is = (g, is, refl, refl)

less_by : (k n : ℕ) (b : Bool) → nat_lt k n ≡ b → k < n → nat_lt k n ≡ true
less_by k n true is less = is
less_by k n false is less = let past = ltb-false k n is in absurd (omega (arith, past, less))

-- a hart is there by its number
pub hart_there : (w : WorldValue) (k : ℕ) → k < length w.harts → (g : Guest) → IsWorld w g → takes_turn g (ActorId.Hart k) ≡ true
hart_there w k less g is =
    ap (nat_lt k) (sym is.harts_are.count) ∙ less_by k (length w.harts) (nat_lt k (length w.harts)) refl less

-- twice the same is two more
pub made_twice : (actors : List ActorId) (actor : ActorId) (es : List Entry) (first w : WorldValue)
    → HasMade ((actors ++ actor ∷ []) ++ actor ∷ []) es first w → HasMade (actors ++ actor ∷ actor ∷ []) es first w
made_twice actors actor es first w made =
    subst (λ (l : List ActorId). HasMade l es first w) (append_assoc actors (actor ∷ []) (actor ∷ [])) made

pub turns_more : (but : Option ℕ) (k : ℕ) → turns but k ++ hart_turn but k ≡ turns but (k + 1)
turns_more but k =
    let next : suc k ≡ k + 1 = omega arith in ap (turns but) next

-- a hart that is left out makes none, and else two
pub made_out : (but : Option ℕ) (k : ℕ) (actors : List ActorId) (es : List Entry) (first w : WorldValue) → is_left_out but k ≡ true
    → HasMade actors es first w → HasMade (actors ++ hart_turn but k) es first w
made_out but k actors es first w out made =
    subst (λ (b : Bool). HasMade (actors ++ (if b then [] else ActorId.Hart k ∷ ActorId.Hart k ∷ [])) es first w) (sym out)
    (subst (λ (l : List ActorId). HasMade l es first w) (sym (append-nil actors)) made)

pub made_in : (but : Option ℕ) (k : ℕ) (actors : List ActorId) (es : List Entry) (first w : WorldValue) → is_left_out but k ≡ false
    → HasMade (actors ++ ActorId.Hart k ∷ ActorId.Hart k ∷ []) es first w → HasMade (actors ++ hart_turn but k) es first w
made_in but k actors es first w out made =
    subst (λ (b : Bool). HasMade (actors ++ (if b then [] else ActorId.Hart k ∷ ActorId.Hart k ∷ [])) es first w) (sym out) made

-- ---- room for a round: two events of the timer, and two of each hart

pub left_first : (harts : ℕ) (old new : PagesValue) → HasRoom (2 * harts + 2) old → Spends 2 old new → HasRoom (2 * (harts - 0)) new
left_first harts old new room spends =
    room_left 2 (2 * (harts - 0)) old new (less_room (2 + 2 * (harts - 0)) (2 * harts + 2) old (omega arith) room) spends

pub room_for : (k harts : ℕ) (old : PagesValue) → k < harts → HasRoom (2 * (harts - k)) old → HasRoom 2 old
room_for k harts old less room = less_room 2 (2 * (harts - k)) old (omega (arith, less)) room

pub left_next : (k harts : ℕ) (old new : PagesValue) → k < harts → HasRoom (2 * (harts - k)) old → Spends 2 old new
    → HasRoom (2 * (harts - (k + 1))) new
left_next k harts old new less room spends =
    room_left 2 (2 * (harts - (k + 1))) old new
    (less_room (2 + 2 * (harts - (k + 1))) (2 * (harts - k)) old (omega (arith, less)) room) spends
