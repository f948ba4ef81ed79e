-- A body's step is the flat step, and several are the flat machine's.
use Rattle.std.proofs.Common.{◌≡◌, ℕ, ◌+◌, ◌<◌, true, false, refl, sym, ap, subst, ◌∙◌, List, [], ◌∷◌, ◌++◌}
use Rattle.std.proofs.Common.{length, Some, ◌⊎◌, inl, inr, arith, length-append}
use Rattle.vm_types.specs.declared.ids.ActorId.{ActorId}
use Rattle.vm_types.specs.declared.ids.PlaceId.{PlaceId}
use Rattle.vm_types.specs.declared.op.Op.{Op}
use Rattle.vm_types.specs.declared.reply.Reply.{Reply}
use Rattle.vm_types.specs.declared.entry.Entry.{Entry}
use Rattle.vm_types.specs.Fits.{fits}
use Rattle.guest_memory.specs.Memory as memory
use Rattle.board_table.specs.Board.{Board}
use Rattle.port_table.specs.declared.state.PortState.{PortState}
use Rattle.flat_guest.specs.Given.{Given}
use Rattle.flat_guest.specs.Given.Given.{Nothing}
use Rattle.hart_trace.specs.Asks.{is_host_op}
use Rattle.flat_guest.specs.Guest.{Guest}
use Rattle.flat_guest.specs.Places.{place_of}
use Rattle.flat_guest.specs.Steps.{Answers, FlatStep, IsOnBefore, IsUnstamped, Makes, StepsBy, Stops, guest_after}
use Rattle.flat_guest.specs.Steps.{is_given, memory_after, board_after, ports_after}
use Rattle.flat_guest.specs.Body.{Body, IsGuest, body_after, body_layout, reply_at, wants}
use Rattle.flat_guest.proofs.Acting.{devices_on, harts_on, port_there, timer_on, want_in}
use Rattle.flat_guest.proofs.Marked.{marks_on}
use Rattle.flat_guest.proofs.Answering.{IsPortThere, answers_at, answer_fits}

abbrev pub entry_of : PlaceId → ActorId → Op → Reply → Entry
entry_of place actor op reply =
    record { stamp = 0; before = 0; actor = actor; place = place; op = op; reply = reply }

module _ (b : Body) (g : Guest) (is : IsGuest b g) (actor : ActorId) (op : Op) (given : Given)
    (want : wants b.timer b.harts b.devices actor ≡ Some op) (fit : is_given op given ≡ true) where
  -- the place of what is wanted, and its reply
  abbrev placed : PlaceId
  placed = place_of (body_layout b) op

  abbrev replied : Reply
  replied = reply_at placed b.memory b.board b.ports actor op given

  -- the same of what is the guest's
  abbrev AnswersOf : memory.Memory → Board → List PortState → Type 0
  AnswersOf m board ports =
      let place : PlaceId = place_of (record { memory_size = length m.bytes; ports = length ports }) op in
      Answers place g actor op given (reply_at place m board ports actor op given)

  answers : AnswersOf b.memory b.board b.ports
  answers =
      subst (λ (m : memory.Memory). AnswersOf m b.board b.ports) (sym is.memory_is)
      (subst (λ (n : Board). AnswersOf g.memory n b.ports) (sym is.board_is)
      (subst (λ (ports : List PortState). AnswersOf g.memory g.board ports) (sym is.ports_are)
      (answers_at g actor op given (port_there b g is actor op want) fit)))

  place_same : placed ≡ place_of (record { memory_size = length g.memory.bytes; ports = length g.ports }) op
  place_same =
      ap (λ (m : memory.Memory). place_of (record { memory_size = length m.bytes; ports = length b.ports }) op) is.memory_is
      ∙ ap (λ (ports : List PortState). place_of (record { memory_size = length g.memory.bytes; ports = length ports }) op)
      is.ports_are

  step_here : FlatStep g (record { actor = actor; given = given }) (entry_of placed actor op replied)
      (guest_after g (entry_of placed actor op replied))
  step_here = record {
    actor = refl;
    want = want_in b g is actor op want;
    place = place_same;
    answer = answers;
    after = refl;
  }

  fits_here : fits op replied ≡ true
  fits_here =
      answer_fits (length b.memory.bytes) b.memory b.board b.ports actor op given
      (subst (λ (ports : List PortState). IsPortThere (length ports) op) (sym is.ports_are)
      (port_there b g is actor op want)) fit

  stays_here : IsGuest (body_after placed actor op replied b) (guest_after g (entry_of placed actor op replied))
  stays_here = record {
    memory_is = ap (λ (n : memory.Memory). memory_after placed n actor op) is.memory_is;
    marks_are = marks_on b.marks g.written is.marks_are placed op replied;
    board_is = ap (λ (n : Board). board_after placed n actor op) is.board_is;
    ports_are = ap (λ (ports : List PortState). ports_after placed ports actor op) is.ports_are;
    timer_is = timer_on b g is op placed replied fits_here actor want;
    harts_are = harts_on b g is op placed replied fits_here actor want;
    devices_are = devices_on b g is op placed replied fits_here actor want;
  }

-- with the values as the program has them
pub step_is : (b : Body) (g : Guest) (actor : ActorId) (op : Op) (given : Given) (place : PlaceId) (reply : Reply)
    → IsGuest b g → wants b.timer b.harts b.devices actor ≡ Some op → is_given op given ≡ true
    → place ≡ place_of (body_layout b) op → reply ≡ reply_at place b.memory b.board b.ports actor op given
    → FlatStep g (record { actor = actor; given = given }) (entry_of place actor op reply)
    (guest_after g (entry_of place actor op reply))
step_is b g actor op given place reply is want fit at answer =
    rw (answer, at) (step_here b g is actor op given want fit)

pub stays : (b n : Body) (g : Guest) (actor : ActorId) (op : Op) (given : Given) (place : PlaceId) (reply : Reply)
    → IsGuest b g → wants b.timer b.harts b.devices actor ≡ Some op → is_given op given ≡ true
    → place ≡ place_of (body_layout b) op → reply ≡ reply_at place b.memory b.board b.ports actor op given
    → n ≡ body_after place actor op reply b → IsGuest n (guest_after g (entry_of place actor op reply))
stays b n g actor op given place reply is want fit at answer after =
    rw (after, answer, at) (stays_here b g is actor op given want fit)

-- and one more event, where the guest is on
makes_more : (g h : Guest) (actor : ActorId) (es : List Entry) (e : Entry) (k : Guest) → Makes g actor es h
    → IsUnstamped e → FlatStep h (record { actor = actor; given = Nothing }) e k → Makes g actor (es ++ e ∷ []) k
makes_more g h actor [] e k made unstamped step =
    (unstamped, k, subst (λ (x : Guest). FlatStep x (record { actor = actor; given = Nothing }) e k) (sym made) step, refl)
makes_more g h actor (d ∷ es) e k made unstamped step =
    (made.0, made.1, made.2, makes_more made.1 h actor es e k made.3 unstamped step)

on_more : (g h : Guest) (actor : ActorId) (es : List Entry) (e : Entry) → Makes g actor es h → IsOnBefore g es
    → h.board.off ≡ false → IsOnBefore g (es ++ e ∷ [])
on_more g h actor [] e made before on = (subst (λ (x : Guest). x.board.off ≡ false) (sym made) on, tt)
on_more g h actor (d ∷ es) e made before on =
    let after : made.1 ≡ guest_after g d = made.2.after in
    let rest : IsOnBefore made.1 es = subst (λ (x : Guest). IsOnBefore x es) (sym after) before.1 in
    (before.0, subst (λ (x : Guest). IsOnBefore x (es ++ e ∷ [])) after (on_more made.1 h actor es e made.3 rest on))

-- so many events of an actor were made, from any guest that the data were, to one that they are
abbrev pub HasMade : ActorId → Body → ℕ → Body → Type 0
HasMade actor b count n =
    (g : Guest) → IsGuest b g
    → (es : List Entry) × (h : Guest) × Makes g actor es h × IsOnBefore g es × (length es ≡ count) × IsGuest n h

pub has_made_none : (actor : ActorId) (b : Body) → HasMade actor b 0 b
has_made_none actor b g is = ([], g, refl, tt, refl, is)

pub has_made_more : (actor : ActorId) (b n k : Body) (count : ℕ) (e : Entry) → HasMade actor b count n
    → n.board.off ≡ false → IsUnstamped e
    → ((g : Guest) → IsGuest n g → FlatStep g (record { actor = actor; given = Nothing }) e (guest_after g e))
    → ((g : Guest) → IsGuest n g → IsGuest k (guest_after g e))
    → HasMade actor b (count + 1) k
has_made_more actor b n k count e made on unstamped step stay g is =
    let before = made g is in
    let h = before.1 in
    let on_here : h.board.off ≡ false = ap (λ (x : Board). x.off) (sym before.5.board_is) ∙ on in (
      before.0 ++ e ∷ [],
      guest_after h e,
      makes_more g h actor before.0 e (guest_after h e) before.2 unstamped (step h before.5),
      on_more g h actor before.0 e before.2 before.3 on_here,
      omega (arith, length-append before.0 (e ∷ []), before.4),
      stay h before.5,
    )

-- no further event is made: the guest is off, or the actor waits for a host object's reply
abbrev pub HasStopped : ActorId → Body → Type 0
HasStopped actor b =
    (b.board.off ≡ true)
    ⊎ ((b.board.off ≡ false) × (op : Op) × (wants b.timer b.harts b.devices actor ≡ Some op) × (is_host_op op ≡ true))

stops_too : (actor : ActorId) (b : Body) (g : Guest) → IsGuest b g → HasStopped actor b → Stops g actor
stops_too actor b g is (inl off) = inl (ap (λ (x : Board). x.off) (sym is.board_is) ∙ off)
stops_too actor b g is (inr waits) = inr (
  ap (λ (x : Board). x.off) (sym is.board_is) ∙ waits.0,
  (waits.1, want_in b g is actor waits.1 waits.2, waits.3),
)

-- all were made, or no further one is
pub ran : (actor : ActorId) (b n : Body) (made count : ℕ) → HasMade actor b made n
    → (made ≡ count) ⊎ ((made < count) × HasStopped actor n) → (g : Guest) → IsGuest b g
    → (es : List Entry) × (h : Guest) × StepsBy g actor count es h × (length es ≡ made) × IsGuest n h
ran actor b n made count has (inl all) g is =
    let x = has g is in
    (x.0, x.1, record { made = x.2; on = x.3; all = inl (x.4 ∙ all) }, x.4, x.5)
ran actor b n made count has (inr less) g is =
    let x = has g is in
    let stops : Stops x.1 actor = stops_too actor n x.1 x.5 less.1 in
    let few : length x.0 < count = omega (arith, x.4, less.0) in
    (x.0, x.1, record { made = x.2; on = x.3; all = inr (few, stops) }, x.4, x.5)
