-- Events of one hart alone, and how they are told.
use Rattle.std.proofs.Common.{◌≡◌, ◌<◌, ◌+◌, ℕ, zero, suc, min, nat_eq, eqb→eq, T, Bool, true, false, Some, arith, refl, sym, ap, ◌∙◌, subst, List, [], ◌∷◌, ◌++◌, replicate, length, ◌⊎◌, inl, inr}
use Rattle.std.specs.List.{AllByRecursion}
use lib.Dec.{eqb_refl}
use lib.ListN.{replicate-append-replicate}
use Rattle.vm_types.specs.declared.ids.ActorId.{ActorId}
use Rattle.vm_types.specs.declared.entry.Entry.{Entry}
use Rattle.vm_types.specs.declared.op.Op.{Op}
use Rattle.vm_types.specs.declared.reply.Reply.{Reply}
use Rattle.script_text.specs.declared.item.Item.{Item}
use Rattle.script_text.specs.declared.item.Item.TheVariants as item
use Rattle.serve_host.specs.Tracing.{steps_of}
use Rattle.flat_guest.specs.Given.Given.{Nothing}
use Rattle.flat_guest.specs.Guest.{Guest, Wants}
use Rattle.flat_guest.specs.Steps.{FlatStep, Makes}
use Rattle.vm_world.specs.Worlds.{Runs, WorldValue, want_in}
use Rattle.slice_runner.specs.Slices.{Leads}
use Rattle.serve_host.specs.Events.{event_items, item_by, item_of}
use Rattle.monitor_running.specs.Alone.{HasRun}
use Rattle.monitor_running.specs.Asked.{HostKnown}
use Rattle.monitor_running.specs.Happened.{HasHappened, HostGone}
use Rattle.monitor_running.specs.Objects.{TurnKnown}
use Rattle.monitor_running.specs.Waiting.{IsAlone, OthersIdle}
use Rattle.monitor_running.proofs.Asked.{hart_asks}
use Rattle.monitor_running.proofs.Attached.{ports_hart}
use Rattle.monitor_running.proofs.Events.{hart_rests, unasked_hart}
use Rattle.monitor_running.proofs.Going.{step_told}
use Rattle.monitor_running.proofs.Led.{items_append}

-- ---- an event of a hart is told as a step

module _ (g mid : Guest) (k : ℕ) (e : Entry) (step : FlatStep g (record { actor = ActorId.Hart k; given = Nothing }) e mid) where
  item_on : (op : Op) → e.op ≡ op → item_by op e.actor e.reply ≡ item.Step (ActorId.Hart k) 1
  item_on (Op.Out act) is =
      absurd (hart_asks g k act
      (subst (λ (o : Op). Wants g (ActorId.Hart k) o) is (subst (λ (a : ActorId). Wants g a e.op) step.actor step.want)))
  item_on op is = ap (λ (a : ActorId). item.Step a 1) step.actor

  item_is : item_of e ≡ item.Step (ActorId.Hart k) 1
  item_is = item_on e.op refl

leads_by : (k : ℕ) (es : List Entry) (g h : Guest) → Makes g (ActorId.Hart k) es h
    → Leads g es h × (event_items es ≡ steps_of (ActorId.Hart k) (length es))
leads_by k [] g h made = (made, refl)
leads_by k (e ∷ es) g h made =
    let rest = leads_by k es made.1 h made.3 in (
      (made.1, step_told g made.1 (record { actor = ActorId.Hart k; given = Nothing }) e made.2, rest.0),
      ap (λ (it : Item). it ∷ event_items es) (item_is g made.1 k e made.2)
          ∙ ap (λ (l : List Item). item.Step (ActorId.Hart k) 1 ∷ l) rest.1,
    )

-- ---- and what is told so is an event of the hart

step_actor : (op : Op) (actor : ActorId) (reply : Reply) (a : ActorId) → item_by op actor reply ≡ item.Step a 1 → actor ≡ a
step_actor (Op.Out act) actor reply a is = cc
step_actor op actor reply a is = cc

first_same : (x y : Item) (xs ys : List Item) → x ∷ xs ≡ y ∷ ys → (x ≡ y) × (xs ≡ ys)
first_same x y xs ys is = (cc, cc)

own_by : (k made : ℕ) (es : List Entry) → event_items es ≡ steps_of (ActorId.Hart k) made
    → AllByRecursion (λ (e : Entry). e.actor ≡ ActorId.Hart k) es
own_by k made [] is = tt
own_by k zero (e ∷ es) is = cc
own_by k (suc made) (e ∷ es) is =
    let parts = first_same (item_of e) (item.Step (ActorId.Hart k) 1) (event_items es) (steps_of (ActorId.Hart k) made) is in
    (step_actor e.op e.actor e.reply (ActorId.Hart k) parts.0, own_by k made es parts.1)

-- so neither the clock nor an object of a device was asked
steps_gone : (k made : ℕ) (w v : WorldValue) (host : HostKnown) → HasRun k made w v
    → HostGone (steps_of (ActorId.Hart k) made) w v host host
steps_gone k made w v host run g is =
    let one = run g is in
    let own = own_by k made one.0 one.4 in
    (one.0, one.4, ((one.1, one.2, one.3), hart_rests k host.clock one.0 own, unasked_hart k one.0 host.devices own, ports_hart k one.0 own))

pub steps_happened : (k made : ℕ) (w v : WorldValue) (known : TurnKnown) → HasRun k made w v
    → HasHappened (steps_of (ActorId.Hart k) made) known w known v
steps_happened k made w v known run = record { trace = refl; gone = steps_gone k made w v known.host run }

-- ---- runs one behind another

pub run_none : (k : ℕ) (w : WorldValue) → HasRun k 0 w w
run_none k w g is = ([], g, refl, is, refl)

leads_append : (es ds : List Entry) (g h n : Guest) → Leads g es h → Leads h ds n → Leads g (es ++ ds) n
leads_append [] ds g h n first behind = subst (λ (x : Guest). Leads x ds n) (sym first) behind
leads_append (e ∷ es) ds g h n first behind = (first.0, first.1, leads_append es ds first.0 h n first.2 behind)

counted : (n count next : ℕ) (S : Type 0) → n ≡ count → (n ≡ next) ⊎ ((n < next) × S) → n ≡ min count next
counted n count next S is (inl all) = omega (arith, is, all)
counted n count next S is (inr few) = let less = few.0 in omega (arith, is, less)

pub run_more : (k made next count : ℕ) (w v u : WorldValue) → HasRun k made w v → Runs v (ActorId.Hart k) next count u
    → HasRun k (made + min count next) w u
run_more k made next count w v u run runs g is =
    let one = run g is in
    let two = runs one.1 one.3 in
    let lead = leads_by k two.0 one.1 two.1 two.2.made in
    let step : Item = item.Step (ActorId.Hart k) 1 in (
      one.0 ++ two.0,
      two.1,
      leads_append one.0 two.0 g one.1 two.1 one.2 lead.0,
      two.4,
      items_append one.0 two.0 ∙ ap (λ (l : List Item). l ++ event_items two.0) one.4
          ∙ ap (λ (l : List Item). steps_of (ActorId.Hart k) made ++ l) lead.1
          ∙ replicate-append-replicate made (length two.0) step
          ∙ ap (λ (n : ℕ). replicate (made + n) step) (counted (length two.0) count next _ two.3 two.2.all),
    )

-- more pages are spare, of which no guest knows
pub run_to_reserved : (k made : ℕ) (w v more : WorldValue) → more ≡ record v { spare = more.spare } → HasRun k made w v → HasRun k made w more
run_to_reserved k made w v more same run = subst (λ (x : WorldValue). HasRun k made w x) (sym same) run

pub run_from_reserved : (k made : ℕ) (w more v : WorldValue) → more ≡ record w { spare = more.spare } → HasRun k made more v → HasRun k made w v
run_from_reserved k made w more v same run = subst (λ (x : WorldValue). HasRun k made x v) same run

pub run_same : (k made : ℕ) (w v u : WorldValue) → u ≡ v → HasRun k made w v → HasRun k made w u
run_same k made w v u same run = subst (λ (x : WorldValue). HasRun k made w x) (sym same) run

-- ---- which hart is alone

same_or_not : (a b : ℕ) (t : Bool) → nat_eq a b ≡ t → (a ≡ b) ⊎ (a ≡ b → ⊥)
same_or_not a b true is = inl (eqb→eq a b (subst T (sym is) tt))
same_or_not a b false is = inr (λ same. subst T is (subst (λ (x : ℕ). T (nat_eq a x)) same (eqb_refl a)))

-- one that doesn't wait is, or none is
pub none_alone : (w : WorldValue) (hart k : ℕ) → (want_in w (ActorId.Hart hart) ≡ Some Op.Idle → ⊥) → hart < length w.harts
    → (OthersIdle hart w → ⊥) → IsAlone k w → ⊥
none_alone w hart k busy there not alone = by (same_or_not hart k (nat_eq hart k) refl)
  where
    by : (hart ≡ k) ⊎ (hart ≡ k → ⊥) → ⊥
    by (inl same) = not (subst (λ (n : ℕ). OthersIdle n w) (sym same) alone.others)
    by (inr other) = busy (alone.others hart there other)
