-- One entry is one step of the flat machine.
use Rattle.std.proofs.Common.{◌≡◌, ℕ, zero, suc, ◌<◌, ◌==◌, Bool, true, false, cond, MatchBool, refl, sym, ap, ◌∙◌, subst, arith}
use Rattle.std.proofs.Common.{List, [], ◌∷◌, length, get_or, set, slice_get, Option, Some, None}
use Rattle.std.proofs.lemmas.List.{get_or_default, length-set}
use Rattle.std.proofs.lemmas.Bool.{eqb-true, eqb-false}
use Rattle.vm_types.specs.declared.entry.Entry.{Entry}
use Rattle.vm_types.specs.declared.ids.ActorId.{ActorId}
use Rattle.vm_types.specs.declared.ids.PlaceId.{PlaceId}
use Rattle.vm_types.specs.declared.op.Op.{Op}
use Rattle.vm_types.specs.declared.reply.Reply.{Reply}
use Rattle.vm_types.specs.Ids.{is_out}
use Rattle.vm_types.specs.Serial.{IsReplied, OutFits, put_actor, vals_after}
use Rattle.board_table.specs.Acts as board
use Rattle.guest_pages.specs.Flat.{ArePages}
use Rattle.guest_pages.specs.Marks.{AreMarks, marks_after}
use Rattle.guest_pages.specs.Pages.{PageValue, flat_of, marks_of, new_page, page_touch}
use Rattle.guest_pages.proofs.Here.{size_of_pages}
use Rattle.guest_pages.proofs.Marking.{acted_marks}
use Rattle.guest_pages.proofs.Sets.{act_memory, act_reply, act_stays}
use Rattle.hart_trace.specs.States.{Hart, fresh, hart_next}
use Rattle.flat_guest.specs.Body.{Body, IsGuest, body_after, body_layout, harts_after, lefts_after, out_reply, reply_at, timer_after, want_of, wants, with_reply}
use Rattle.flat_guest.specs.Given.{Event, Given}
use Rattle.flat_guest.specs.Given.Given.{Nothing}
use Rattle.guest_devices.specs.Devices.{DeviceLeft, device_next}
use Rattle.guest_devices.specs.Kept.{device_want, devices_given, devices_left}
use Rattle.port_table.specs.Acts as port
use Rattle.port_table.specs.declared.state.PortState.{PortState}
use Rattle.stamp_merge.specs.declared.layout.Layout.{Layout}
use Rattle.hart_trace.specs.Stopped.{stopped_regs}
use Rattle.flat_guest.specs.Guest.{Guest}
use Rattle.flat_guest.specs.Places.{place_of}
use Rattle.flat_guest.specs.Steps.{FlatStep, board_after, guest_after, is_given, memory_after, port_after, port_reply, ports_after, written_after}
use Rattle.flat_guest.proofs.Marked.{marks_on}
use Rattle.flat_guest.proofs.Lists.{get_set_same}
use Rattle.flat_guest.proofs.Stepping.{entry_of, stays, step_is}
use Rattle.flat_guest.proofs.Devices.{port_many}
use Rattle.vm_world.specs.Worlds.{WorldValue}
use Rattle.vm_world.proofs.Events.{place_access}
use Rattle.slice_runner.specs.Slices.{IsThere, event_of, given_of}
use Rattle.board_table.specs.Board.{Board}
use Rattle.timer_trace.specs.declared.timer.Timer.{Timer}
use Rattle.machine_places.specs.declared.place.MachinePlace.{MachinePlace}
use Rattle.machine_places.specs.declared.place.MachinePlace.TheVariants as holds
use Rattle.machine_places.specs.Acts.{touch as place_touch}
use Rattle.slice_runner.specs.Values.{ActorState, DeviceIs, HartIs, actor_among, actor_next, actor_wants, device_or_none, hart_or_none, no_port, page_or_none, place_among, port_or_none, route_among}
use Rattle.slice_runner.proofs.Routes.{page_there, port_there}

-- where all actors and places stand: a world, with what its devices have still to do
pub record Standing : Type 0 where
  pub pages : List PageValue
  pub board : Board
  pub ports : List PortState
  pub timer : Timer
  pub harts : List Hart
  pub lefts : List DeviceLeft

abbrev pub standing_of : WorldValue → Standing
standing_of w = record {
  pages = w.pages;
  board = w.board;
  ports = w.ports;
  timer = w.timer;
  harts = w.harts;
  lefts = devices_left w.devices;
}

abbrev pub body_at : Standing → Body
body_at s = record {
  memory = flat_of s.pages;
  marks = marks_of s.pages;
  board = s.board;
  ports = s.ports;
  timer = s.timer;
  harts = s.harts;
  devices = s.lefts;
}

abbrev pub IsStanding : Standing → Guest → Type 0
IsStanding s g = IsGuest (body_at s) g

abbrev pub want_at : Standing → ActorId → Option Op
want_at s actor = wants s.timer s.harts s.lefts actor

abbrev pub place_at : Standing → Op → PlaceId
place_at s op = place_of (body_layout (body_at s)) op

abbrev pub layout_at : Standing → Layout
layout_at s = record { pages = length s.pages; ports = length s.ports }

abbrev pub places_at : Standing → PlaceId → MachinePlace
places_at s = place_among s.pages s.ports s.board

abbrev pub actors_at : Standing → ActorId → ActorState
actors_at s = actor_among s.timer s.harts s.lefts

-- the event that this entry tells, of each guest that stood so, to the guest that it is
pub record Made (old : Standing) (event : Event) (e : Entry) (new : Standing) : Type 0 where
  pub step : (g : Guest) → IsStanding old g → FlatStep g event e (guest_after g e)
  pub stays : (g : Guest) → IsStanding old g → IsStanding new (guest_after g e)

made_by : (old new : Standing) (actor : ActorId) (op : Op) (given : Given) (place : PlaceId) (reply : Reply)
    → want_at old actor ≡ Some op → is_given op given ≡ true → place ≡ place_at old op
    → reply ≡ reply_at place (flat_of old.pages) old.board old.ports actor op given
    → flat_of new.pages ≡ memory_after place (flat_of old.pages) actor op
    → marks_of new.pages ≡ marks_after place (marks_of old.pages) op reply → new.board ≡ board_after place old.board actor op
    → new.ports ≡ ports_after place old.ports actor op → new.timer ≡ timer_after actor old.timer reply
    → new.harts ≡ harts_after actor old.harts reply → new.lefts ≡ lefts_after actor old.lefts reply
    → Made old (record { actor = actor; given = given }) (entry_of place actor op reply) new
made_by old new actor op given place reply want fit at answer memory marks board ports timer harts lefts =
    let after : body_at new ≡ body_after place actor op reply (body_at old) = λ i. record {
      memory = memory i;
      marks = marks i;
      board = board i;
      ports = ports i;
      timer = timer i;
      harts = harts i;
      devices = lefts i;
    } in record {
      step = λ g is. step_is (body_at old) g actor op given place reply is want fit at answer;
      stays = λ g is. stays (body_at old) (body_at new) g actor op given place reply is want fit at answer after;
    }

-- the pages after an act at a place
abbrev pub pages_after : PlaceId → List PageValue → ActorId → Op → List PageValue
pages_after (PlaceId.Page i) pages actor op = set pages i (page_touch (page_or_none pages i) actor op).1
pages_after place pages actor op = pages

abbrev pub standing_after : Standing → Entry → Standing
standing_after s e = record {
  pages = pages_after e.place s.pages e.actor e.op;
  board = board_after e.place s.board e.actor e.op;
  ports = ports_after e.place s.ports e.actor e.op;
  timer = timer_after e.actor s.timer e.reply;
  harts = harts_after e.actor s.harts e.reply;
  lefts = lefts_after e.actor s.lefts e.reply;
}

got : {A : Type 0} (xs : List A) (k : ℕ) (d : A) → k < length xs → slice_get xs k ≡ Some (get_or xs k d)
got [] k d lt = absurd (omega arith)
got (x ∷ xs) zero d lt = refl
got (x ∷ xs) (suc k) d lt = got xs k d (omega arith)

set_there : {A : Type 0} (xs : List A) (k : ℕ) (x d : A) → k < length xs → get_or (set xs k x) k d ≡ x
set_there [] k x d lt = absurd (omega arith)
set_there (y ∷ xs) zero x d lt = refl
set_there (y ∷ xs) (suc k) x d lt = set_there xs k x d (omega arith)

set_other : {A : Type 0} (xs : List A) (j k : ℕ) (x d : A) → (k ≡ j → ⊥) → get_or (set xs k x) j d ≡ get_or xs j d
set_other [] j k x d ne = refl
set_other (y ∷ xs) zero zero x d ne = absurd (ne refl)
set_other (y ∷ xs) (suc j) zero x d ne = refl
set_other (y ∷ xs) zero (suc k) x d ne = refl
set_other (y ∷ xs) (suc j) (suc k) x d ne = set_other xs j k x d (λ e. ne (ap suc e))

-- one item changed, seen by index
changed_by : {A B : Type 0} (f : A → B) (xs : List A) (j k : ℕ) (x d : A) → k < length xs → (t : Bool) → (k == j) ≡ t
    → cond t (f x) (f (get_or xs j d)) ≡ f (get_or (set xs k x) j d)
changed_by f xs j k x d lt true is =
    let same : k ≡ j = eqb-true k j is in
    ap f (sym (set_there xs k x d lt)) ∙ ap (λ (n : ℕ). f (get_or (set xs k x) n d)) same
changed_by f xs j k x d lt false is = ap f (sym (set_other xs j k x d (eqb-false k j is)))

changed : {A B : Type 0} (f : A → B) (xs : List A) (j k : ℕ) (x d : A) → k < length xs
    → cond (k == j) (f x) (f (get_or xs j d)) ≡ f (get_or (set xs k x) j d)
changed f xs j k x d lt = changed_by f xs j k x d lt (k == j) refl

wants_there_by : (o : Option DeviceLeft) → ((o ≡ None) → ⊥) → device_want o ≡ Some (actor_wants (device_or_none o))
wants_there_by None not = absurd (not refl)
wants_there_by (Some left) not = refl

some_there : {A : Type 0} (xs : List A) (k : ℕ) → k < length xs → (x : A) × (slice_get xs k ≡ Some x)
some_there [] k lt = absurd (omega arith)
some_there (x ∷ xs) zero lt = (x, refl)
some_there (x ∷ xs) (suc k) lt = some_there xs k (omega arith)

pub wants_there : (w : Standing) (actor : ActorId) → IsThere (length w.harts) (length w.lefts) actor
    → want_at w actor ≡ Some (actor_wants (actors_at w actor))
wants_there w ActorId.Timer there = refl
wants_there w (ActorId.Hart k) there = ap want_of (got w.harts k (fresh stopped_regs) there)
wants_there w (ActorId.Device k) there =
    let here = some_there w.lefts k there in
    wants_there_by (slice_get w.lefts k) (λ none. let both = sym here.1 ∙ none in cc)

-- what is given is what the reply says
given_out : (op : Op) (reply : Reply) → OutFits op reply → is_given op (given_of op reply) ≡ true
given_out (Op.Out act) reply fit = fit
given_out (Op.Read at len) reply fit = refl
given_out (Op.Write at piece) reply fit = refl
given_out (Op.Amo at value kind wide) reply fit = refl
given_out (Op.Lr at wide) reply fit = refl
given_out (Op.Sc at value wide) reply fit = refl
given_out (Op.Port port act) reply fit = absurd fit
given_out (Op.Board act) reply fit = absurd fit
given_out Op.Idle reply fit = refl

reply_out : (op : Op) (reply : Reply) → OutFits op reply → reply ≡ out_reply op (given_of op reply)
reply_out (Op.Out act) reply fit = refl
reply_out (Op.Read at len) reply fit = fit
reply_out (Op.Write at piece) reply fit = fit
reply_out (Op.Amo at value kind wide) reply fit = fit
reply_out (Op.Lr at wide) reply fit = fit
reply_out (Op.Sc at value wide) reply fit = fit
reply_out (Op.Port port act) reply fit = absurd fit
reply_out (Op.Board act) reply fit = absurd fit
reply_out Op.Idle reply fit = fit

-- an op with a place asks no host object
given_in : (layout : Layout) (op : Op) (reply : Reply) → is_out (route_among layout op) ≡ false → given_of op reply ≡ Nothing
given_in layout (Op.Out act) reply inner = cc
given_in layout op reply inner = refl

given_none : (layout : Layout) (op : Op) (reply : Reply) → is_out (route_among layout op) ≡ false → is_given op (given_of op reply) ≡ true
given_none layout (Op.Out act) reply inner = cc
given_none layout (Op.Read at len) reply inner = refl
given_none layout (Op.Write at piece) reply inner = refl
given_none layout (Op.Amo at value kind wide) reply inner = refl
given_none layout (Op.Lr at wide) reply inner = refl
given_none layout (Op.Sc at value wide) reply inner = refl
given_none layout (Op.Port port act) reply inner = refl
given_none layout (Op.Board act) reply inner = refl
given_none layout Op.Idle reply inner = refl

-- an entry is a step from one world to another
pub record Steps (w : Standing) (e : Entry) : Type 0 where
  pub made : Made w (event_of e) (entry_of e.place e.actor e.op e.reply) (standing_after w e)
  pub pages : ArePages 0 (standing_after w e).pages
  pub layout : layout_at (standing_after w e) ≡ layout_at w
  pub marks : (written : ℕ → Bool) → AreMarks (marks_of w.pages) written
      → AreMarks (marks_of (standing_after w e).pages) (written_after written e)
  pub places : vals_after place_touch (places_at w) e ≡ places_at (standing_after w e)

module _ (w : Standing) (are : ArePages 0 w.pages) (actor : ActorId) (op : Op) (reply : Reply) (stamp before : ℕ)
    (want : want_at w actor ≡ Some op) where
  abbrev at : PlaceId → Entry
  at place = record { stamp = stamp; before = before; actor = actor; place = place; op = op; reply = reply }

  routed : (place : PlaceId) → place ≡ route_among (layout_at w) op → place ≡ place_at w op
  routed place is =
      is ∙ ap (λ (n : ℕ). place_of (record { memory_size = n; ports = length w.ports }) op) (sym (size_of_pages w.pages are))

  -- marks that are as the act leaves them are those of what was written
  follows : (place : PlaceId)
      → marks_of (standing_after w (at place)).pages ≡ marks_after place (marks_of w.pages) op reply
      → (written : ℕ → Bool) → AreMarks (marks_of w.pages) written
      → AreMarks (marks_of (standing_after w (at place)).pages) (written_after written (at place))
  follows place left written are_marks =
      subst (λ (l : List Bool). AreMarks l (written_after written (at place))) (sym left)
      (marks_on (marks_of w.pages) written are_marks place op reply)

  on_page : (i : ℕ) → PlaceId.Page i ≡ route_among (layout_at w) op
      → reply ≡ (page_touch (page_or_none w.pages i) actor op).0 → Steps w (at (PlaceId.Page i))
  on_page i is answer =
      let old = page_or_none w.pages i in
      let new = (page_touch old actor op).1 in
      let there : i < length w.pages = page_there (layout_at w) i op (sym is) in
      let here : place_at w op ≡ PlaceId.Page i = sym (routed (PlaceId.Page i) is) in
      let size = length (flat_of w.pages).bytes in
      let access = place_access (record { memory_size = size; ports = length w.ports }) i op here in
      let same : old ≡ get_or w.pages i old = get_or_default w.pages i (new_page 0) old there in
      let inner : is_out (route_among (layout_at w) op) ≡ false = ap is_out (sym is) in
      let none = given_in (layout_at w) op reply inner in
      let made = made_by w (standing_after w (at (PlaceId.Page i))) actor op (given_of op reply) (PlaceId.Page i) reply want
      (given_none (layout_at w) op reply inner) (sym here)
      (act_reply w.pages w.pages i actor op old new refl are there same refl reply access answer)
      (act_memory w.pages w.pages i actor op old new refl are there same refl access) (marks_here same answer) refl refl refl refl refl in
      record {
        made = made;
        pages = act_stays w.pages w.pages i actor op old new refl are there same refl;
        layout = λ j. record { pages = length-set w.pages i new j; ports = length w.ports };
        marks = follows (PlaceId.Page i) (marks_here same answer);
        places = λ j p. at_page there p j;
      }
    where
      marks_here : page_or_none w.pages i ≡ get_or w.pages i (page_or_none w.pages i)
          → reply ≡ (page_touch (page_or_none w.pages i) actor op).0
          → marks_of (set w.pages i (page_touch (page_or_none w.pages i) actor op).1)
          ≡ marks_after (PlaceId.Page i) (marks_of w.pages) op reply
      marks_here same answer =
          let old = page_or_none w.pages i in
          acted_marks w.pages w.pages i actor op old (page_touch old actor op).1 reply refl same refl answer

      at_page : i < length w.pages → (p : PlaceId)
          → vals_after place_touch (places_at w) (at (PlaceId.Page i)) p ≡ places_at (standing_after w (at (PlaceId.Page i))) p
      at_page there (PlaceId.Page j) =
          changed (λ (q : PageValue). holds.Page q) w.pages j i (page_touch (page_or_none w.pages i) actor op).1 (new_page 0) there
      at_page there (PlaceId.Port k) = refl
      at_page there PlaceId.Board = refl
      at_page there PlaceId.Out = refl

  on_board : PlaceId.Board ≡ route_among (layout_at w) op → reply ≡ (board.touch w.board actor op).0
      → Steps w (at PlaceId.Board)
  on_board is answer =
      let inner : is_out (route_among (layout_at w) op) ≡ false = ap is_out (sym is) in
      let none = given_in (layout_at w) op reply inner in
      record {
        made = made_by w (standing_after w (at PlaceId.Board)) actor op (given_of op reply) PlaceId.Board reply want
            (given_none (layout_at w) op reply inner) (routed PlaceId.Board is) answer refl refl refl refl refl refl refl;
        pages = are;
        layout = refl;
        marks = follows PlaceId.Board refl;
        places = λ j p. at_board p j;
      }
    where
      at_board : (p : PlaceId)
          → vals_after place_touch (places_at w) (at PlaceId.Board) p ≡ places_at (standing_after w (at PlaceId.Board)) p
      at_board (PlaceId.Page j) = refl
      at_board (PlaceId.Port k) = refl
      at_board PlaceId.Board = refl
      at_board PlaceId.Out = refl

  on_port : (k : ℕ) → PlaceId.Port k ≡ route_among (layout_at w) op → reply ≡ (port.touch (port_or_none w.ports k) actor op).0
      → Steps w (at (PlaceId.Port k))
  on_port k is answer =
      let inner : is_out (route_among (layout_at w) op) ≡ false = ap is_out (sym is) in
      let there : k < length w.ports = port_there (layout_at w) k op (sym is) in
      let some : slice_get w.ports k ≡ Some (port_or_none w.ports k) = got w.ports k no_port there in
      record {
        made = made_by w (standing_after w (at (PlaceId.Port k))) actor op (given_of op reply) (PlaceId.Port k) reply want
            (given_none (layout_at w) op reply inner) (routed (PlaceId.Port k) is)
            (answer ∙ ap (λ (o : Option PortState). port_reply o actor op) (sym some)) refl refl refl refl refl refl refl;
        pages = are;
        layout = λ j. record { pages = length w.pages; ports = port_many (slice_get w.ports k) w.ports k actor op j };
        marks = follows (PlaceId.Port k) refl;
        places = λ j p. at_port there some p j;
      }
    where
      at_port : k < length w.ports → slice_get w.ports k ≡ Some (port_or_none w.ports k) → (p : PlaceId)
          → vals_after place_touch (places_at w) (at (PlaceId.Port k)) p ≡ places_at (standing_after w (at (PlaceId.Port k))) p
      at_port there some (PlaceId.Page j) = refl
      at_port there some (PlaceId.Port j) =
          changed (λ (q : PortState). holds.Port q) w.ports j k (port.touch (port_or_none w.ports k) actor op).1 no_port there
          ∙ ap (λ (o : Option PortState). holds.Port (port_or_none (port_after o w.ports k actor op) j)) (sym some)
      at_port there some PlaceId.Board = refl
      at_port there some PlaceId.Out = refl

  nowhere : PlaceId.Out ≡ route_among (layout_at w) op → OutFits op reply → Steps w (at PlaceId.Out)
  nowhere is fit = record {
    made = made_by w (standing_after w (at PlaceId.Out)) actor op (given_of op reply) PlaceId.Out reply want
        (given_out op reply fit) (routed PlaceId.Out is) (reply_out op reply fit) refl refl refl refl refl refl refl;
    pages = are;
    layout = refl;
    marks = follows PlaceId.Out refl;
    places = refl;
  }

  steps_at : (place : PlaceId) → place ≡ route_among (layout_at w) op
      → MatchBool (is_out place) (OutFits op reply) (reply ≡ (place_touch (places_at w place) actor op).0) → Steps w (at place)
  steps_at (PlaceId.Page i) is answer = on_page i is answer
  steps_at (PlaceId.Port k) is answer = on_port k is answer
  steps_at PlaceId.Board is answer = on_board is answer
  steps_at PlaceId.Out is answer = nowhere is answer

get_set_away : {A : Type 0} (xs : List A) (j k : ℕ) (x : A) → (k ≡ j → ⊥) → slice_get (set xs k x) j ≡ slice_get xs j
get_set_away [] j k x ne = refl
get_set_away (y ∷ xs) zero zero x ne = absurd (ne refl)
get_set_away (y ∷ xs) (suc j) zero x ne = refl
get_set_away (y ∷ xs) zero (suc k) x ne = refl
get_set_away (y ∷ xs) (suc j) (suc k) x ne = get_set_away xs j k x (λ e. ne (ap suc e))

-- one device's item changed, seen by number
left_changed : (lefts : List DeviceLeft) (j k : ℕ) (left next : DeviceLeft) → slice_get lefts k ≡ Some left → (t : Bool) → (k == j) ≡ t
    → cond t (DeviceIs next) (device_or_none (slice_get lefts j)) ≡ device_or_none (slice_get (set lefts k next) j)
left_changed lefts j k left next is true same =
    let e : k ≡ j = eqb-true k j same in
    ap device_or_none (sym (get_set_same lefts k left next is)) ∙ ap (λ (n : ℕ). device_or_none (slice_get (set lefts k next) n)) e
left_changed lefts j k left next is false away =
    ap device_or_none (sym (get_set_away lefts j k next (eqb-false k j away)))

left_moved : (lefts : List DeviceLeft) (j k : ℕ) (reply : Reply) (o : Option DeviceLeft) → slice_get lefts k ≡ o → (o ≡ None → ⊥)
    → cond (k == j) (actor_next (device_or_none o) reply) (device_or_none (slice_get lefts j))
    ≡ device_or_none (slice_get (devices_given o lefts k reply) j)
left_moved lefts j k reply None is not = absurd (not refl)
left_moved lefts j k reply (Some left) is not = left_changed lefts j k left (device_next left reply) is (k == j) refl

-- where the actors stand after the entry
actors_moved : (w : Standing) (e : Entry) → (actor : ActorId) → IsThere (length w.harts) (length w.lefts) actor → (reply : Reply) → (a : ActorId)
    → put_actor (actors_at w) actor (actor_next (actors_at w actor) reply) a
    ≡ actors_at (record w {
      timer = timer_after actor w.timer reply;
      harts = harts_after actor w.harts reply;
      lefts = lefts_after actor w.lefts reply;
    }) a
actors_moved w e ActorId.Timer there reply ActorId.Timer = refl
actors_moved w e ActorId.Timer there reply (ActorId.Hart j) = refl
actors_moved w e ActorId.Timer there reply (ActorId.Device j) = refl
actors_moved w e (ActorId.Hart k) there reply ActorId.Timer = refl
actors_moved w e (ActorId.Hart k) there reply (ActorId.Device j) = refl
actors_moved w e (ActorId.Hart k) there reply (ActorId.Hart j) =
    changed (λ (h : Hart). HartIs h) w.harts j k (hart_next (hart_or_none w.harts k) reply) (fresh stopped_regs) there
    ∙ ap (λ (o : Option Hart). HartIs (hart_or_none (with_reply o w.harts k reply) j)) (sym (got w.harts k (fresh stopped_regs) there))
actors_moved w e (ActorId.Device k) there reply ActorId.Timer = refl
actors_moved w e (ActorId.Device k) there reply (ActorId.Hart j) = refl
actors_moved w e (ActorId.Device k) there reply (ActorId.Device j) =
    let here = some_there w.lefts k there in
    left_moved w.lefts j k reply (slice_get w.lefts k) refl (λ none. let both = sym here.1 ∙ none in cc)

harts_kept : (actor : ActorId) (harts : List Hart) (reply : Reply) → length (harts_after actor harts reply) ≡ length harts
harts_kept ActorId.Timer harts reply = refl
harts_kept (ActorId.Device k) harts reply = refl
harts_kept (ActorId.Hart k) harts reply = by_hart (slice_get harts k)
  where
    by_hart : (o : Option Hart) → length (with_reply o harts k reply) ≡ length harts
    by_hart None = refl
    by_hart (Some h) = length-set harts k (hart_next h reply)

lefts_kept : (actor : ActorId) (lefts : List DeviceLeft) (reply : Reply) → length (lefts_after actor lefts reply) ≡ length lefts
lefts_kept ActorId.Timer lefts reply = refl
lefts_kept (ActorId.Hart k) lefts reply = refl
lefts_kept (ActorId.Device k) lefts reply = by_left (slice_get lefts k)
  where
    by_left : (o : Option DeviceLeft) → length (devices_given o lefts k reply) ≡ length lefts
    by_left None = refl
    by_left (Some left) = length-set lefts k (device_next left reply)

-- one step, with what the next ones need
pub record StepsOn (w : Standing) (e : Entry) : Type 0 where
  pub step : (g : Guest) → IsStanding w g → FlatStep g (event_of e) e (guest_after g e)
  pub stays : (g : Guest) → IsStanding w g → IsStanding (standing_after w e) (guest_after g e)
  pub pages : ArePages 0 (standing_after w e).pages
  pub layout : layout_at (standing_after w e) ≡ layout_at w
  pub lefts : length (standing_after w e).lefts ≡ length w.lefts
  pub harts : length (standing_after w e).harts ≡ length w.harts
  pub marks : (written : ℕ → Bool) → AreMarks (marks_of w.pages) written
      → AreMarks (marks_of (standing_after w e).pages) (written_after written e)
  pub places : vals_after place_touch (places_at w) e ≡ places_at (standing_after w e)
  pub actors : put_actor (actors_at w) e.actor (actor_next (actors_at w e.actor) e.reply) ≡ actors_at (standing_after w e)

-- an entry with the machine's want, place and reply
pub steps_on : (w : Standing) (e : Entry) → ArePages 0 w.pages → IsThere (length w.harts) (length w.lefts) e.actor
    → e.op ≡ actor_wants (actors_at w e.actor) → e.place ≡ route_among (layout_at w) e.op
    → IsReplied place_touch OutFits (places_at w) e → StepsOn w e
steps_on w e are there want place answer =
    let wanted : want_at w e.actor ≡ Some e.op = wants_there w e.actor there ∙ ap Some (sym want) in
    let s : Steps w e = steps_at w are e.actor e.op e.reply e.stamp e.before wanted e.place place answer in
    record {
      step = λ g is. let flat = s.made.step g is in record { actor = refl; want = flat.want; place = flat.place; answer = flat.answer; after = refl };
      stays = λ g is. s.made.stays g is;
      pages = s.pages;
      layout = s.layout;
      lefts = lefts_kept e.actor w.lefts e.reply;
      harts = harts_kept e.actor w.harts e.reply;
      marks = s.marks;
      places = s.places;
      actors = λ i a. actors_moved w e e.actor there e.reply a i;
    }
