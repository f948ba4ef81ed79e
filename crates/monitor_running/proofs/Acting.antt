-- One event more of a device.
use Rattle.std.proofs.Common.{◌≡◌, ◌<◌, ℕ, true, refl, sym, subst, List, [], ◌∷◌, ◌++◌, Option, Some, None}
use Rattle.std.proofs.lemmas.List.Elements.{All-push, All-from_recursion}
use Rattle.vm_types.specs.declared.ids.ActorId.{ActorId}
use Rattle.vm_types.specs.declared.ids.PlaceId.{PlaceId}
use Rattle.vm_types.specs.declared.entry.Entry.{Entry}
use Rattle.vm_types.specs.declared.op.Op.{Op}
use Rattle.vm_types.specs.declared.reply.Reply.{Reply}
use Rattle.guest_pages.specs.Made.{is_ready}
use Rattle.port_table.specs.Window.{most_ports}
use Rattle.flat_guest.specs.Given.{Event, as_given}
use Rattle.flat_guest.specs.Given.Given.{Host}
use Rattle.flat_guest.specs.Guest.{Guest, Wants, layout_of}
use Rattle.flat_guest.specs.Steps.{Answers, FlatStep, guest_after}
use Rattle.flat_guest.proofs.Determined.{wants_one}
use Rattle.vm_world.specs.Refusing.{refusal_of}
use Rattle.vm_world.specs.Worlds.{IsWorld, MakesEvent, WorldValue, pages_of, place_in}
use Rattle.slice_runner.specs.Slices.{given_of}
use Rattle.monitor_machine.specs.Kinds.{DevicesKnown}
use Rattle.monitor_running.specs.Devices.{AsksDevices, HaveActed, IsDevices, IsGiven, IsShort}
use Rattle.monitor_running.proofs.Events.{asked_more, asks_nothing, rests_same}
use Rattle.monitor_running.proofs.Going.{given_is, leads_more, step_told}

-- nothing was done so far
pub acted_none : (w : WorldValue) (known : DevicesKnown) → HaveActed [] w w known known
acted_none w known = record {
  serial = λ g is. (g, refl, is);
  made = λ g is. All-from_recursion IsDevices [] tt;
  answered = λ g is. rests_same known;
}

-- but that more pages are spare, of which no guest knows
pub acted_reserved : (w more : WorldValue) (known : DevicesKnown) (es : List Entry) → es ≡ [] → more ≡ record w { spare = more.spare }
    → HaveActed es w more known known
acted_reserved w more known es none same =
    subst (λ (l : List Entry). HaveActed l w more known known) (sym none)
    (subst (λ (v : WorldValue). HaveActed [] w v known known) (sym same)
    (record {
      serial = λ g is. (g, refl, is);
      made = λ g is. All-from_recursion IsDevices [] tt;
      answered = λ g is. rests_same known;
    }))

host_same : (x y : Reply) → Host x ≡ Host y → x ≡ y
host_same x y is = cc

-- what is given is the reply of the object that was asked, and what is not asks none
asks_by : (k : ℕ) (op : Op) (given : Option Reply) (reply : Reply) (old now : DevicesKnown) → IsGiven k op old given now
    → as_given given ≡ given_of op reply → AsksDevices op (ActorId.Device k) reply old now
asks_by k (Op.Out act) (Some r) reply old now it is =
    subst (λ (x : Reply). AsksDevices (Op.Out act) (ActorId.Device k) x old now) (host_same r reply is) it.2
asks_by k (Op.Out act) None reply old now it is = let never = is in cc
asks_by k op None reply old now it is = asks_nothing op (ActorId.Device k) reply old now refl it
asks_by k op (Some r) reply old now it is = absurd it

-- and so much of a socket at once
short_by : (k : ℕ) (op : Op) (given : Option Reply) (reply : Reply) (old now : DevicesKnown) → IsGiven k op old given now
    → as_given given ≡ given_of op reply → IsShort op reply
short_by k (Op.Out act) (Some r) reply old now it is = subst (λ (x : Reply). IsShort (Op.Out act) x) (host_same r reply is) it.1
short_by k (Op.Out act) None reply old now it is = let never = is in cc
short_by k op given reply old now it is = tt

module _ (first w : WorldValue) (asked old now : DevicesKnown) (es : List Entry) (k : ℕ) (op : Op) (given : Option Reply)
    (port : k < most_ports) (wants : (g : Guest) → IsWorld w g → Wants g (ActorId.Device k) op) (was_given : IsGiven k op old given now)
    (acted : HaveActed es first w asked old) where
  abbrev event : Event
  event = record { actor = ActorId.Device k; given = as_given given }

  asks : (h n : Guest) (e : Entry) → IsWorld w h → FlatStep h event e n → AsksDevices e.op e.actor e.reply old now
  asks h n e is step =
      let same : e.op ≡ op =
      wants_one h (ActorId.Device k) e.op op (subst (λ (a : ActorId). Wants h a e.op) step.actor step.want) (wants h is) in
      let told : as_given given ≡ given_of e.op e.reply =
      given_is (layout_of h) h e.actor e.op (as_given given) e.reply
      (subst (λ (p : PlaceId). Answers p h e.actor e.op (as_given given) e.reply) step.place step.answer) in
      subst (λ (a : ActorId). AsksDevices e.op a e.reply old now) (sym step.actor)
      (asks_by k e.op given e.reply old now (subst (λ (o : Op). IsGiven k o old given now) (sym same) was_given) told)

  hears : (h n : Guest) (e : Entry) → IsWorld w h → FlatStep h event e n → IsShort e.op e.reply
  hears h n e is step =
      let same : e.op ≡ op =
      wants_one h (ActorId.Device k) e.op op (subst (λ (a : ActorId). Wants h a e.op) step.actor step.want) (wants h is) in
      let told : as_given given ≡ given_of e.op e.reply =
      given_is (layout_of h) h e.actor e.op (as_given given) e.reply
      (subst (λ (p : PlaceId). Answers p h e.actor e.op (as_given given) e.reply) step.place step.answer) in
      short_by k e.op given e.reply old now (subst (λ (o : Op). IsGiven k o old given now) (sym same) was_given) told

  pub acted_more : (v : WorldValue) (e : Entry) → MakesEvent w event e v → HaveActed (es ++ e ∷ []) first v asked now
  acted_more v e made = record {
    serial = λ g is.
        let before = acted.serial g is in
        let h : Guest = before.0 in
        let step = made.step h before.2 in (
          guest_after h e,
          leads_more es g h (guest_after h e) e before.1 (step_told h (guest_after h e) event e step),
          made.stays h before.2,
        );
    made = λ g is.
        let before = acted.serial g is in
        All-push IsDevices es e (acted.made g is) (
          k,
          port,
          (made.step before.0 before.2).actor,
          hears before.0 (guest_after before.0 e) e before.2 (made.step before.0 before.2),
        );
    answered = λ g is.
        let before = acted.serial g is in
        asked_more es e asked old now (acted.answered g is)
        (asks before.0 (guest_after before.0 e) e before.2 (made.step before.0 before.2));
  }

  unasked : (given : Option Reply) (op : Op) → IsGiven k op old given now
      → ((h : Guest) → IsWorld w h → refusal_of op given ≡ None → is_ready (pages_of w) (place_in w op) ≡ true → ⊥)
      → (h : Guest) → IsWorld w h → now ≡ old
  unasked None op it never h is = it
  unasked (Some r) (Op.Out act) it never h is = absurd (never h is (rw it.0 refl) refl)
  unasked (Some r) op it never h is = absurd it

  -- where it is refused, or lacks a page, nothing was asked
  pub acted_still : (v : WorldValue) → v ≡ w
      → ((h : Guest) → IsWorld w h → refusal_of op given ≡ None → is_ready (pages_of w) (place_in w op) ≡ true → ⊥)
      → HaveActed es first v asked now
  acted_still v same never = record {
    serial = λ g is. rw same (acted.serial g is);
    made = λ g is. acted.made g is;
    answered = λ g is.
        let before = acted.serial g is in
        rw (unasked given op was_given never before.0 before.2) (acted.answered g is);
  }
