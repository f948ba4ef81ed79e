-- Guests that are one body's take the same events, and stay so.
use Rattle.std.proofs.Common.{◌≡◌, ℕ, true, false, Bool, refl, sym, ap, subst, ◌∙◌, List, [], ◌∷◌, ◌<◌, length}
use Rattle.std.proofs.Common.{Option, Some, None, ◌⊎◌, inl, inr, slice_get}
use Rattle.vm_types.specs.declared.ids.ActorId.{ActorId}
use Rattle.vm_types.specs.declared.ids.PlaceId.{PlaceId}
use Rattle.vm_types.specs.declared.op.Op.{Op}
use Rattle.vm_types.specs.declared.reply.Reply.{Reply}
use Rattle.vm_types.specs.declared.entry.Entry.{Entry}
use Rattle.guest_memory.specs.Memory as memory
use Rattle.board_table.specs.Board.{Board}
use Rattle.board_table.specs.Acts as board
use Rattle.port_table.specs.declared.state.PortState.{PortState}
use Rattle.rv_supervisor.specs.declared.regs.Regs.{Regs}
use Rattle.flat_guest.specs.Given.{Event, Given}
use Rattle.flat_guest.specs.Given.Given.{Nothing}
use Rattle.hart_trace.specs.Asks.{is_host_op}
use Rattle.hart_trace.specs.States.{Hart, hart_wants}
use Rattle.timer_trace.specs.States as timer
use Rattle.guest_devices.specs.Devices.{DeviceLeft, FlatDevice, device_wants}
use Rattle.guest_devices.specs.Kept.{device_want}
use Rattle.flat_guest.specs.Guest.{Guest, Wants, WantsFrom, WantsOf, layout_of}
use Rattle.flat_guest.specs.Places.{place_of}
use Rattle.flat_guest.specs.Steps.{Answers, AnswersOut, FlatStep, IsOnBefore, Makes, StepsBy, Stops, guest_after, is_given, port_reply}
use Rattle.flat_guest.specs.Body.{Body, IsGuest, body_after, body_layout, reply_at, want_of, wants}
use Rattle.flat_guest.specs.Same.{AreAlike}
use Rattle.flat_guest.proofs.Acting.{want_in}
use Rattle.flat_guest.proofs.Determined.{wants_one, same_place, same_reply}
use Rattle.flat_guest.proofs.Lists.{there_too}
use Rattle.flat_guest.proofs.Soundness.{none_given}
use Rattle.flat_guest.proofs.Stepping.{entry_of, stays, step_is}

-- ---- a guest's want is its body's

module _ (b : Body) (g : Guest) (is : IsGuest b g) where
  hart_there : (k : ℕ) (op : Op) (start : Option Regs) → slice_get g.starts k ≡ start
      → WantsFrom start (g.steps (ActorId.Hart k)) op → (hart : Hart) × (slice_get b.harts k ≡ Some hart)
  hart_there k op None here want = absurd want
  hart_there k op (Some start) here want = there_too g.starts b.harts k start (sym is.harts_are.count) here

  left_there : (k : ℕ) (op : Op) (d : Option FlatDevice) → slice_get g.devices k ≡ d → WantsOf d op
      → (left : DeviceLeft) × (slice_get b.devices k ≡ Some left)
  left_there k op None here want = absurd want
  left_there k op (Some d) here want = there_too g.devices b.devices k d (sym is.devices_are.count) here

  -- what the body has for an actor that wants something
  some_there : (actor : ActorId) (op : Op) → Wants g actor op
      → (mine : Op) × (wants b.timer b.harts b.devices actor ≡ Some mine)
  some_there ActorId.Timer op want = (timer.timer_wants b.timer, refl)
  some_there (ActorId.Hart k) op want =
      let h = hart_there k op (slice_get g.starts k) refl want in
      (hart_wants h.0, ap want_of h.1)
  some_there (ActorId.Device k) op want =
      let l = left_there k op (slice_get g.devices k) refl want in
      (device_wants l.0, ap device_want l.1)

  pub want_there : (actor : ActorId) (op : Op) → Wants g actor op → wants b.timer b.harts b.devices actor ≡ Some op
  want_there actor op want =
      let mine = some_there actor op want in
      mine.1 ∙ ap Some (wants_one g actor mine.0 op (want_in b g is actor mine.0 mine.1) want)

-- ---- what is answered has what it is to be given

out_none : (op : Op) (given : Given) (reply : Reply) → is_host_op op ≡ false → AnswersOut op given reply
    → given ≡ Nothing
out_none (Op.Out act) given reply host answer = cc
out_none (Op.Port port act) given reply host answer = answer.0
out_none (Op.Board act) given reply host answer = answer.0
out_none Op.Idle given reply host answer = answer.0
out_none op given reply host answer = answer.0

given_none : (p : PlaceId) (g : Guest) (actor : ActorId) (op : Op) (given : Given) (reply : Reply)
    → is_host_op op ≡ false → Answers p g actor op given reply → given ≡ Nothing
given_none (PlaceId.Page i) g actor op given reply host answer = answer.0
given_none PlaceId.Board g actor op given reply host answer = answer.0
given_none (PlaceId.Port k) g actor op given reply host answer = answer.0
given_none PlaceId.Out g actor op given reply host answer = out_none op given reply host answer

host_given : (g : Guest) (actor : ActorId) (op : Op) (given : Given) (reply : Reply) → is_host_op op ≡ true
    → Answers (place_of (layout_of g) op) g actor op given reply → is_given op given ≡ true
host_given g actor (Op.Out act) given reply host answer =
    subst (λ (o : Given). is_given (Op.Out act) o ≡ true) (sym answer.0) answer.1
host_given g actor op given reply host answer = cc

given_by : (g : Guest) (actor : ActorId) (op : Op) (given : Given) (reply : Reply) (host : Bool)
    → is_host_op op ≡ host → Answers (place_of (layout_of g) op) g actor op given reply → is_given op given ≡ true
given_by g actor op given reply true host answer = host_given g actor op given reply host answer
given_by g actor op given reply false host answer =
    subst (λ (o : Given). is_given op o ≡ true)
    (sym (given_none (place_of (layout_of g) op) g actor op given reply host answer)) (none_given op host)

-- ---- the same is answered in both

answers_too : (p : PlaceId) (g h : Guest) (actor : ActorId) (op : Op) (given : Given) (reply : Reply)
    → g.memory ≡ h.memory → g.board ≡ h.board → g.ports ≡ h.ports → Answers p g actor op given reply
    → Answers p h actor op given reply
answers_too (PlaceId.Page i) g h actor op given reply m b ports answer =
    (answer.0, answer.1 ∙ ap (λ (x : memory.Memory). (memory.touch x actor op).0) m)
answers_too PlaceId.Board g h actor op given reply m b ports answer =
    (answer.0, answer.1 ∙ ap (λ (x : Board). (board.touch x actor op).0) b)
answers_too (PlaceId.Port k) g h actor op given reply m b ports answer =
    (answer.0, answer.1 ∙ ap (λ (x : List PortState). port_reply (slice_get x k) actor op) ports)
answers_too PlaceId.Out g h actor op given reply m b ports answer = answer

-- ---- one event

module _ (b : Body) (g h k : Guest) (first : IsGuest b g) (second : IsGuest b h) (event : Event) (e : Entry)
    (step : FlatStep g event e k) where
  want : wants b.timer b.harts b.devices e.actor ≡ Some e.op
  want = want_there b g first e.actor e.op step.want

  fit : is_given e.op event.given ≡ true
  fit =
      given_by g e.actor e.op event.given e.reply (is_host_op e.op) refl
      (subst (λ (p : PlaceId). Answers p g e.actor e.op event.given e.reply) step.place step.answer)

  same_memory : g.memory ≡ h.memory
  same_memory = sym first.memory_is ∙ second.memory_is

  same_board : g.board ≡ h.board
  same_board = sym first.board_is ∙ second.board_is

  same_ports : g.ports ≡ h.ports
  same_ports = sym first.ports_are ∙ second.ports_are

  abbrev place_by : memory.Memory → List PortState → PlaceId
  place_by m ports = place_of (record { memory_size = length m.bytes; ports = length ports }) e.op

  pub step_too : FlatStep h event e (guest_after h e)
  step_too = record {
    actor = step.actor;
    want = want_in b h second e.actor e.op want;
    place =
        step.place ∙ ap (λ (m : memory.Memory). place_by m g.ports) same_memory
        ∙ ap (λ (ports : List PortState). place_by h.memory ports) same_ports;
    answer =
        answers_too e.place g h e.actor e.op event.given e.reply same_memory same_board same_ports step.answer;
    after = refl;
  }

  abbrev placed : PlaceId
  placed = place_of (body_layout b) e.op

  abbrev replied : Reply
  replied = reply_at placed b.memory b.board b.ports e.actor e.op event.given

  mine : FlatStep g (record { actor = e.actor; given = event.given }) (entry_of placed e.actor e.op replied)
      (guest_after g (entry_of placed e.actor e.op replied))
  mine = step_is b g e.actor e.op event.given placed replied first want fit refl refl

  again : FlatStep g (record { actor = e.actor; given = event.given }) e k
  again = record { actor = refl; want = step.want; place = step.place; answer = step.answer; after = step.after }

  at : placed ≡ e.place
  at =
      same_place g (guest_after g (entry_of placed e.actor e.op replied)) k
      (record { actor = e.actor; given = event.given }) (entry_of placed e.actor e.op replied) e mine again

  says : replied ≡ e.reply
  says =
      same_reply g (guest_after g (entry_of placed e.actor e.op replied)) k
      (record { actor = e.actor; given = event.given }) (entry_of placed e.actor e.op replied) e mine again

  reply_is : e.reply ≡ reply_at e.place b.memory b.board b.ports e.actor e.op event.given
  reply_is = sym says ∙ ap (λ (p : PlaceId). reply_at p b.memory b.board b.ports e.actor e.op event.given) at

  stays_in : (q : Guest) → IsGuest b q → IsGuest (body_after e.place e.actor e.op e.reply b) (guest_after q e)
  stays_in q is =
      stays b (body_after e.place e.actor e.op e.reply b) q e.actor e.op event.given e.place e.reply is want fit (sym at)
      reply_is refl

  pub alike_after : AreAlike k (guest_after h e)
  alike_after = record {
    body = body_after e.place e.actor e.op e.reply b;
    first =
        subst (λ (q : Guest). IsGuest (body_after e.place e.actor e.op e.reply b) q) (sym step.after) (stays_in g first);
    second = stays_in h second;
  }

pub same_step : (g h k : Guest) (event : Event) (e : Entry) → AreAlike g h → FlatStep g event e k
    → FlatStep h event e (guest_after h e) × AreAlike k (guest_after h e)
same_step g h k event e alike step = (
  step_too alike.body g h k alike.first alike.second event e step,
  alike_after alike.body g h k alike.first alike.second event e step,
)

-- ---- several

alike_on : (g h : Guest) → AreAlike g h → g.board.off ≡ false → h.board.off ≡ false
alike_on g h alike on =
    ap (λ (x : Board). x.off) (sym alike.second.board_is ∙ alike.first.board_is) ∙ on

several_too : (es : List Entry) (g h k : Guest) (actor : ActorId) → AreAlike g h → Makes g actor es k → IsOnBefore g es
    → (l : Guest) × Makes h actor es l × IsOnBefore h es × AreAlike k l
several_too [] g h k actor alike made on = (h, refl, tt, subst (λ (q : Guest). AreAlike q h) made alike)
several_too (e ∷ es) g h k actor alike made on =
    let mid : Guest = made.1 in
    let step = same_step g h mid (record { actor = actor; given = Nothing }) e alike made.2 in
    let later : IsOnBefore mid es = subst (λ (q : Guest). IsOnBefore q es) (sym made.2.after) on.1 in
    let rest = several_too es mid (guest_after h e) k actor step.1 made.3 later in
    (rest.0, (made.0, guest_after h e, step.0, rest.1), (alike_on g h alike on.0, rest.2), rest.3)

stops_too : (k l : Guest) (actor : ActorId) → AreAlike k l → Stops k actor → Stops l actor
stops_too k l actor alike (inl off) =
    inl (ap (λ (x : Board). x.off) (sym alike.second.board_is ∙ alike.first.board_is) ∙ off)
stops_too k l actor alike (inr waits) =
    let op : Op = waits.1.0 in
    inr (
      alike_on k l alike waits.0,
      (op, want_in alike.body l alike.second actor op (want_there alike.body k alike.first actor op waits.1.1), waits.1.2),
    )

all_too : (k l : Guest) (actor : ActorId) (made count : ℕ) → AreAlike k l
    → (made ≡ count) ⊎ ((made < count) × Stops k actor) → (made ≡ count) ⊎ ((made < count) × Stops l actor)
all_too k l actor made count alike (inl all) = inl all
all_too k l actor made count alike (inr less) = inr (less.0, stops_too k l actor alike less.1)

pub same_steps : (g h k : Guest) (actor : ActorId) (count : ℕ) (es : List Entry) → AreAlike g h
    → StepsBy g actor count es k → (l : Guest) × StepsBy h actor count es l × AreAlike k l
same_steps g h k actor count es alike by =
    let too = several_too es g h k actor alike by.made by.on in (
      too.0,
      record { made = too.1; on = too.2; all = all_too k too.0 actor (length es) count too.3 by.all },
      too.3,
    )
