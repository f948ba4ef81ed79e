-- One event more.
use Rattle.std.proofs.Common.{◌≡◌, ℕ, Bool, true, false, cond, refl, sym, ap, ◌∙◌, subst, List, [], ◌∷◌, ◌++◌, Option, None}
use Rattle.vm_types.specs.declared.ids.ActorId.{ActorId}
use Rattle.vm_types.specs.declared.ids.PlaceId.{PlaceId}
use Rattle.vm_types.specs.declared.entry.Entry.{Entry}
use Rattle.vm_types.specs.declared.op.Op.{Op}
use Rattle.vm_types.specs.declared.op.OutOp.TheVariants.{Clock}
use Rattle.vm_types.specs.declared.reply.Reply.{Reply}
use Rattle.vm_types.specs.Ids.{of_actor, same_actor}
use Rattle.vm_host.specs.Telling.{AreNext, ClockKnown, Gives}
use Rattle.flat_guest.specs.declared.places.Layout.{Layout}
use Rattle.flat_guest.specs.Given.{Event, Given, as_given}
use Rattle.flat_guest.specs.Given.Given.{Host, Nothing}
use Rattle.flat_guest.specs.Guest.{Guest, Wants, layout_of}
use Rattle.flat_guest.specs.Places.{place_of}
use Rattle.flat_guest.specs.Steps.{Answers, AnswersOut, FlatStep, guest_after}
use Rattle.flat_guest.proofs.Determined.{wants_one}
use Rattle.vm_world.specs.Refusing.{refusal_of}
use Rattle.vm_world.specs.Worlds.{IsWorld, MakesEvent, WorldValue}
use Rattle.slice_runner.specs.Runs.{IsAsked}
use Rattle.slice_runner.specs.Slices.{ClockWasAsked, Leads, answer_in, answers_of, event_of, given_of}
use Rattle.slice_runner.proofs.Answers.{next_more, nil_more}
use Rattle.monitor_running.specs.Waiting.{HasGone}
use Rattle.flat_guest.specs.Sound.{IsSound}
use Rattle.monitor_running.proofs.Asked.{clock_asking}
use Rattle.monitor_running.proofs.Sound.{world_sound}

-- ---- the event is the one that its entry tells

plain : (p : PlaceId) (g : Guest) (actor : ActorId) (op : Op) (given : Given) (reply : Reply)
    → (AnswersOut op given reply → given ≡ Nothing) → Answers p g actor op given reply → given ≡ Nothing
plain (PlaceId.Page i) g actor op given reply out answer = answer.0
plain (PlaceId.Port k) g actor op given reply out answer = answer.0
plain PlaceId.Board g actor op given reply out answer = answer.0
plain PlaceId.Out g actor op given reply out answer = out answer

pub given_is : (there : Layout) (g : Guest) (actor : ActorId) (op : Op) (given : Given) (reply : Reply)
    → Answers (place_of there op) g actor op given reply → given ≡ given_of op reply
given_is there g actor (Op.Out act) given reply answer = answer.0
given_is there g actor (Op.Read at len) given reply answer =
    plain (place_of there (Op.Read at len)) g actor (Op.Read at len) given reply (λ out. out.0) answer
given_is there g actor (Op.Write at piece) given reply answer =
    plain (place_of there (Op.Write at piece)) g actor (Op.Write at piece) given reply (λ out. out.0) answer
given_is there g actor (Op.Amo at value kind wide) given reply answer =
    plain (place_of there (Op.Amo at value kind wide)) g actor (Op.Amo at value kind wide) given reply (λ out. out.0) answer
given_is there g actor (Op.Lr at wide) given reply answer =
    plain (place_of there (Op.Lr at wide)) g actor (Op.Lr at wide) given reply (λ out. out.0) answer
given_is there g actor (Op.Sc at value wide) given reply answer =
    plain (place_of there (Op.Sc at value wide)) g actor (Op.Sc at value wide) given reply (λ out. out.0) answer
given_is there g actor (Op.Port port act) given reply answer =
    plain (place_of there (Op.Port port act)) g actor (Op.Port port act) given reply (λ out. out.0) answer
given_is there g actor (Op.Board act) given reply answer = answer.0
given_is there g actor Op.Idle given reply answer = answer.0

pub step_told : (g h : Guest) (event : Event) (e : Entry) → FlatStep g event e h → FlatStep g (event_of e) e h
step_told g h event e step =
    let same : event.given ≡ given_of e.op e.reply =
    given_is (layout_of g) g e.actor e.op event.given e.reply
    (subst (λ (p : PlaceId). Answers p g e.actor e.op event.given e.reply) step.place step.answer) in record {
      actor = refl;
      want = step.want;
      place = step.place;
      answer = subst (λ (r : Given). Answers e.place g e.actor e.op r e.reply) same step.answer;
      after = step.after;
    }

pub leads_more : (es : List Entry) (g h k : Guest) (e : Entry) → Leads g es h → FlatStep h (event_of e) e k → Leads g (es ++ e ∷ []) k
leads_more [] g h k e leads step = (k, subst (λ (x : Guest). FlatStep x (event_of e) e k) (sym leads) step, refl)
leads_more (d ∷ es) g h k e leads step = (leads.0, leads.1, leads_more es leads.0 h k e leads.2 step)

-- ---- what the clock answered

answer_behind : (op : Op) (reply : Reply) (more last : List ℕ) → answer_in op reply (more ++ last) ≡ answer_in op reply more ++ last
answer_behind (Op.Out Clock) (Reply.Word answer) more last = refl
answer_behind op reply more last = refl

answers_append : (xs ys : List Entry) → answers_of (xs ++ ys) ≡ answers_of xs ++ answers_of ys
answers_append [] ys = refl
answers_append (x ∷ xs) ys =
    ap (answer_in x.op x.reply) (answers_append xs ys) ∙ answer_behind x.op x.reply (answers_of xs) (answers_of ys)

timer_by : (b : Bool) (d : Entry) (xs ys all : List Entry) → all ≡ xs ++ ys → cond b (d ∷ all) all ≡ cond b (d ∷ xs) xs ++ ys
timer_by true d xs ys all is = ap (λ (l : List Entry). d ∷ l) is
timer_by false d xs ys all is = is

timers_more : (es : List Entry) (e : Entry)
    → of_actor ActorId.Timer (es ++ e ∷ []) ≡ of_actor ActorId.Timer es ++ of_actor ActorId.Timer (e ∷ [])
timers_more [] e = refl
timers_more (d ∷ es) e =
    timer_by (same_actor d.actor ActorId.Timer) d (of_actor ActorId.Timer es) (of_actor ActorId.Timer (e ∷ []))
    (of_actor ActorId.Timer (es ++ e ∷ [])) (timers_more es e)

-- the answers of the events before, and those of one more
answers_with : (es : List Entry) (e : Entry) (last : List ℕ) → answers_of (of_actor ActorId.Timer (e ∷ [])) ≡ last
    → answers_of (of_actor ActorId.Timer (es ++ e ∷ [])) ≡ answers_of (of_actor ActorId.Timer es) ++ last
answers_with es e last is =
    ap answers_of (timers_more es e) ∙ answers_append (of_actor ActorId.Timer es) (of_actor ActorId.Timer (e ∷ []))
    ∙ ap (λ (l : List ℕ). answers_of (of_actor ActorId.Timer es) ++ l) is

none_of : (e : Entry) (b : Bool) → answer_in e.op e.reply [] ≡ [] → answers_of (cond b (e ∷ []) []) ≡ []
none_of e true none = none
none_of e false none = refl

-- no answer of the clock's
unasked : (asked old now : ClockKnown) (es : List Entry) (e : Entry) → answer_in e.op e.reply [] ≡ [] → now ≡ old
    → ClockWasAsked asked es old → ClockWasAsked asked (es ++ e ∷ []) now
unasked asked old now es e none same was tells =
    let all = answers_with es e [] (none_of e (same_actor e.actor ActorId.Timer) none)
    ∙ nil_more (answers_of (of_actor ActorId.Timer es)) in
    rw (all, same) (was tells)

-- its next answer
was_answered : (asked old now : ClockKnown) (es : List Entry) (e : Entry) (answer : ℕ) → e.actor ≡ ActorId.Timer
    → e.op ≡ Op.Out Clock → e.reply ≡ Reply.Word answer → Gives old answer now → ClockWasAsked asked es old
    → ClockWasAsked asked (es ++ e ∷ []) now
was_answered asked old now es e answer actor op reply gives was tells =
    let before = was tells in
    let mine : of_actor ActorId.Timer (e ∷ []) ≡ e ∷ [] =
    ap (λ (a : ActorId). cond (same_actor a ActorId.Timer) (e ∷ []) []) actor in
    let one : answers_of (e ∷ []) ≡ answer ∷ [] =
    ap (λ (o : Op). answer_in o e.reply []) op ∙ ap (λ (r : Reply). answer_in (Op.Out Clock) r []) reply in
    let all = answers_with es e (answer ∷ []) (ap answers_of mine ∙ one) in (
      gives.still before.0,
      subst (λ (l : List ℕ). AreNext asked.left l now.left) (sym all)
          (next_more asked.left old.left now.left (answers_of (of_actor ActorId.Timer es)) answer before.1
          (gives.next before.0) (gives.rest before.0)),
    )

host_same : (x y : Reply) → Host x ≡ Host y → x ≡ y
host_same x y is = cc

-- ---- one more event

module _ (first w : WorldValue) (asked old now : ClockKnown) (es : List Entry) (actor : ActorId) (op : Op) (given : Option Reply)
    (wants : (g : Guest) → IsWorld w g → Wants g actor op) (was_given : IsAsked op old given now)
    (gone : HasGone es first w asked old) where
  abbrev event : Event
  event = record { actor = actor; given = as_given given }

  clock_on : (o : Op) (h k : Guest) (e : Entry) → IsSound h → FlatStep h event e k → e.op ≡ o → IsAsked o old given now
      → ClockWasAsked asked es old → ClockWasAsked asked (es ++ e ∷ []) now
  clock_on (Op.Out Clock) h k e sound step is it was =
      let asking = clock_asking h event e k sound step is in
      let told : as_given given ≡ given_of e.op e.reply =
      given_is (layout_of h) h e.actor e.op (as_given given) e.reply
      (subst (λ (p : PlaceId). Answers p h e.actor e.op (as_given given) e.reply) step.place step.answer) in
      let reply : e.reply ≡ Reply.Word it.0 =
      host_same e.reply (Reply.Word it.0) (sym (told ∙ ap (λ (x : Op). given_of x e.reply) is) ∙ ap as_given it.1) in
      was_answered asked old now es e it.0 asking.actor is reply it.2 was
  clock_on o h k e sound step is it was =
      unasked asked old now es e (ap (λ (x : Op). answer_in x e.reply []) is) it.1 was

  pub gone_more : (v : WorldValue) (e : Entry) → MakesEvent w event e v → HasGone (es ++ e ∷ []) first v asked now
  gone_more v e made g is =
      let before = gone g is in
      let h : Guest = before.0.0 in
      let step = made.step h before.0.2 in
      let same : e.op ≡ op =
      wants_one h actor e.op op (subst (λ (a : ActorId). Wants h a e.op) step.actor step.want) (wants h before.0.2) in (
        (
          guest_after h e,
          leads_more es g h (guest_after h e) e before.0.1 (step_told h (guest_after h e) event e step),
          made.stays h before.0.2,
        ),
        clock_on op h (guest_after h e) e (world_sound w h before.0.2) step same was_given before.1,
      )

  refused_on : (o : Op) → IsAsked o old given now → ((h : Guest) → IsWorld w h → refusal_of o given ≡ None → ⊥)
      → HasGone es first w asked now
  refused_on (Op.Out Clock) it never g is =
      let before = gone g is in
      absurd (never before.0.0 before.0.2 (ap (refusal_of (Op.Out Clock)) it.1))
  refused_on o it never g is = subst (λ (k : ClockKnown). HasGone es first w asked k) (sym it.1) gone g is

  -- where it is refused nothing was asked
  pub gone_still : (v : WorldValue) → v ≡ w → ((h : Guest) → IsWorld w h → refusal_of op given ≡ None → ⊥)
      → HasGone es first v asked now
  gone_still v same never = subst (λ (x : WorldValue). HasGone es first x asked now) (sym same) (refused_on op was_given never)

-- nothing was done so far
pub gone_none : (w : WorldValue) (asked : ClockKnown) → HasGone [] w w asked asked
gone_none w asked g is = ((g, refl, is), λ tells. (tells, refl))
