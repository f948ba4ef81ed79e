-- A world's events are the flat machine's.
use Rattle.std.proofs.Common.{◌≡◌, ℕ, zero, suc, ◌+◌, ◌<◌, true, false, Bool, nat_lt, refl, sym, ap, subst, ◌∙◌, List, [], ◌∷◌, length, replicate, slice_get, map, if◌then◌else◌, MatchOption, is_some, Option, Some, None, ◌⊎◌, arith}
use Rattle.std.proofs.lemmas.Bool.{lt-ltb, ltb-false, ltb-true}
use Rattle.vm_types.specs.declared.ids.ActorId.{ActorId}
use Rattle.vm_types.specs.Fits.{out_fits}
use Rattle.vm_types.specs.declared.ids.PlaceId.{PlaceId}
use Rattle.vm_types.specs.declared.op.Op.{Op}
use Rattle.vm_types.specs.declared.reply.Reply.{Reply}
use Rattle.vm_types.specs.declared.entry.Entry.{Entry}
use Rattle.guest_memory.specs.Route.{access_place}
use Rattle.guest_pages.specs.Made.{is_ready}
use Rattle.guest_pages.specs.Marks.{AreMarks, marks_after}
use Rattle.guest_pages.specs.Pages.{PageValue, flat_of, marks_of}
use Rattle.rv_supervisor.specs.declared.regs.Regs.{Regs}
use Rattle.hart_trace.specs.Asks.{is_host_op}
use Rattle.hart_trace.specs.States.{Hart, hart_wants, hart_next}
use Rattle.timer_trace.specs.declared.timer.Timer.{Timer}
use Rattle.timer_trace.specs.States.{new_timer}
use Rattle.timer_trace.proofs.Traces as timer_traces
use Rattle.flat_guest.specs.Guest.{Guest, Wants, WantsFrom, WantsOf, is_actor, none_written, unwritten}
use Rattle.board_table.specs.Board.{Board}
use Rattle.port_table.specs.declared.state.PortState.{PortState}
use Rattle.guest_devices.specs.declared.change.DeviceChange.{DeviceChange}
use Rattle.guest_devices.specs.declared.device.Device.{Device}
use Rattle.guest_devices.specs.Devices.{DeviceLeft, FlatDevice, device_next, device_wants, left_reset}
use Rattle.guest_devices.specs.Kept.{AreReset, device_want, devices_given, devices_left}
use Rattle.guest_devices.specs.Kinds.{FitsChange}
use Rattle.flat_guest.specs.declared.places.Layout.{Layout}
use Rattle.flat_guest.specs.Places.{is_register_access, place_by, place_of, port_accessed}
use Rattle.flat_guest.specs.Body.{Body, IsGuest, body_after, harts_after, lefts_after, lefts_told, reply_at, timer_after, want_of, wants, with_reply}
use Rattle.flat_guest.specs.Changes.{board_shown, ports_with, reset_guest, told}
use Rattle.flat_guest.specs.Given.{Given, as_given}
use Rattle.flat_guest.specs.Given.Given.{Nothing}
use Rattle.flat_guest.specs.Start.{timer_restarted}
use Rattle.flat_guest.specs.Steps.{board_after, is_given, memory_after, ports_after}
use Rattle.flat_guest.proofs.Acting as acting
use Rattle.flat_guest.proofs.Changing as changing
use Rattle.flat_guest.proofs.Changing.{body_reset, body_told}
use Rattle.flat_guest.proofs.Lists as lists
use Rattle.flat_guest.proofs.Determined.{wants_one}
use Rattle.flat_guest.proofs.Marked.{none_marked}
use Rattle.flat_guest.proofs.Stepping.{HasMade, HasStopped, entry_of, has_made_more, ran, step_is, stays}
use Rattle.vm_world.specs.declared.step_error.StepError.{StepError}
use Rattle.vm_world.specs.Refusing.{IsRefused, refusal_of}
use Rattle.vm_world.specs.Worlds.{IsSameButSpare, IsWorld, IsWorldReset, MakesEvent, Runs, WorldValue, body_of, pages_of, place_in, want_in}

-- an op that acts on a page is an access
port_page : (b : Bool) (port i : ℕ) → (let place : PlaceId = if b then PlaceId.Port port else PlaceId.Out in place) ≡ PlaceId.Page i → ⊥
port_page true port i is = cc
port_page false port i is = cc

on_page : (ports i : ℕ) (b : Bool) (o : Option ℕ) (place : PlaceId) → place_by ports b o place ≡ PlaceId.Page i
    → place ≡ PlaceId.Page i
on_page ports i true o place is = cc
on_page ports i false (Some k) place is = absurd (port_page (nat_lt k ports) k i is)
on_page ports i false None place is = is

pub place_access : (there : Layout) (i : ℕ) (op : Op) → place_of there op ≡ PlaceId.Page i
    → access_place there.memory_size op ≡ PlaceId.Page i
place_access there i (Op.Port port act) is = absurd (port_page (nat_lt port there.ports) port i is)
place_access there i (Op.Board act) is = cc
place_access there i (Op.Read at len) is =
    let op : Op = Op.Read at len in
    on_page there.ports i (is_register_access op) (port_accessed op) (access_place there.memory_size op) is
place_access there i (Op.Write at piece) is =
    let op : Op = Op.Write at piece in
    on_page there.ports i (is_register_access op) (port_accessed op) (access_place there.memory_size op) is
place_access there i (Op.Amo at value kind wide) is =
    let op : Op = Op.Amo at value kind wide in
    on_page there.ports i (is_register_access op) (port_accessed op) (access_place there.memory_size op) is
place_access there i (Op.Lr at wide) is =
    let op : Op = Op.Lr at wide in
    on_page there.ports i (is_register_access op) (port_accessed op) (access_place there.memory_size op) is
place_access there i (Op.Sc at value wide) is =
    let op : Op = Op.Sc at value wide in
    on_page there.ports i (is_register_access op) (port_accessed op) (access_place there.memory_size op) is
place_access there i (Op.Out act) is = is
place_access there i Op.Idle is = is

-- an actor's event
pub event_made : (old new : WorldValue) (actor : ActorId) (op : Op) (given : Given) (place : PlaceId) (reply : Reply)
    → want_in old actor ≡ Some op → is_given op given ≡ true → place ≡ place_in old op
    → reply ≡ reply_at place (flat_of old.pages) old.board old.ports actor op given
    → flat_of new.pages ≡ memory_after place (flat_of old.pages) actor op
    → marks_of new.pages ≡ marks_after place (marks_of old.pages) op reply → new.board ≡ board_after place old.board actor op
    → new.ports ≡ ports_after place old.ports actor op → new.timer ≡ timer_after actor old.timer reply
    → new.harts ≡ harts_after actor old.harts reply → devices_left new.devices ≡ lefts_after actor (devices_left old.devices) reply
    → MakesEvent old (record { actor = actor; given = given }) (entry_of place actor op reply) new
event_made old new actor op given place reply want fit at answer memory marks board ports timer harts devices =
    let after : body_of new ≡ body_after place actor op reply (body_of old) = λ i. record {
      memory = memory i;
      marks = marks i;
      board = board i;
      ports = ports i;
      timer = timer i;
      harts = harts i;
      devices = devices i;
    } in record {
      unstamped = (refl, refl);
      step = λ g is. step_is (body_of old) g actor op given place reply is want fit at answer;
      stays = λ g is. stays (body_of old) (body_of new) g actor op given place reply is want fit at answer after;
    }

-- an actor that wanted something still wants something
next_by : (o : Option Hart) (harts : List Hart) (k : ℕ) (op : Op) (reply : Reply) → slice_get harts k ≡ o
    → want_of o ≡ Some op → (next : Op) × (want_of (slice_get (with_reply o harts k reply) k) ≡ Some next)
next_by None harts k op reply is want = cc
next_by (Some hart) harts k op reply is want =
    (hart_wants (hart_next hart reply), ap want_of (lists.get_set_same harts k hart (hart_next hart reply) is))

left_by : (o : Option DeviceLeft) (lefts : List DeviceLeft) (k : ℕ) (op : Op) (reply : Reply) → slice_get lefts k ≡ o
    → device_want o ≡ Some op
    → (next : Op) × (device_want (slice_get (devices_given o lefts k reply) k) ≡ Some next)
left_by None lefts k op reply is want = cc
left_by (Some left) lefts k op reply is want =
    (device_wants (device_next left reply), ap device_want (lists.get_set_same lefts k left (device_next left reply) is))

pub still_there : (t : Timer) (harts : List Hart) (lefts : List DeviceLeft) (actor : ActorId) (op : Op) (reply : Reply)
    → wants t harts lefts actor ≡ Some op
    → (next : Op) × (wants (timer_after actor t reply) (harts_after actor harts reply) (lefts_after actor lefts reply) actor
    ≡ Some next)
still_there t harts lefts ActorId.Timer op reply want = (_, refl)
still_there t harts lefts (ActorId.Hart k) op reply want = next_by (slice_get harts k) harts k op reply refl want
still_there t harts lefts (ActorId.Device k) op reply want = left_by (slice_get lefts k) lefts k op reply refl want

pub there_now : (w : WorldValue) (t : Timer) (harts : List Hart) (lefts : List DeviceLeft) (actor : ActorId) (op : Op)
    (reply : Reply) → wants t harts lefts actor ≡ Some op → w.timer ≡ timer_after actor t reply
    → w.harts ≡ harts_after actor harts reply → devices_left w.devices ≡ lefts_after actor lefts reply
    → (next : Op) × (want_in w actor ≡ Some next)
there_now w t harts lefts actor op reply want timer_is harts_are devices_are =
    let next = still_there t harts lefts actor op reply want in
    (next.0, (λ i. wants (timer_is i) (harts_are i) (devices_are i) actor) ∙ next.1)

-- who wants nothing isn't there
none_there : (o : Option Hart) → want_of o ≡ None → o ≡ None
none_there None is = refl
none_there (Some hart) is = cc

no_left : (o : Option DeviceLeft) → device_want o ≡ None → o ≡ None
no_left None is = refl
no_left (Some left) is = cc

by_lt : (k n : ℕ) (b : Bool) → nat_lt k n ≡ b → (k < n → ⊥) → nat_lt k n ≡ false
by_lt k n true is not = absurd (not (ltb-true k n is))
by_lt k n false is not = is

never : (k n : ℕ) → (k < n → ⊥) → nat_lt k n ≡ false
never k n not = by_lt k n (nat_lt k n) refl not

later : (k n : ℕ) → nat_lt k n ≡ false → nat_lt (suc k) (suc n) ≡ false
later k n is = never (suc k) (suc n) (λ lt. omega (arith, lt, ltb-false k n is))

next_lt : (k n : ℕ) → k < n → suc k < suc n
next_lt k n lt = omega (arith, lt)

past : {A B : Type 0} (harts : List A) (starts : List B) (k : ℕ) → length harts ≡ length starts → slice_get harts k ≡ None
    → (nat_lt k (length starts) ≡ false) × (slice_get starts k ≡ None)
past [] [] k same is = (never k 0 (λ lt. omega (arith, lt)), refl)
past [] (s ∷ starts) k same is = absurd (omega (arith, same))
past (h ∷ harts) [] k same is = absurd (omega (arith, same))
past (h ∷ harts) (s ∷ starts) zero same is = cc
past (h ∷ harts) (s ∷ starts) (suc k) same is =
    let rest = past harts starts k (omega (arith, same)) is in
    (later k (length starts) rest.0, rest.1)

pub not_there : (w : WorldValue) (g : Guest) (actor : ActorId) → IsWorld w g → want_in w actor ≡ None
    → is_actor g actor ≡ false
not_there w g ActorId.Timer is none = cc
not_there w g (ActorId.Hart k) is none =
    (past w.harts g.starts k is.harts_are.count (none_there (slice_get w.harts k) none)).0
not_there w g (ActorId.Device k) is none =
    (past (devices_left w.devices) g.devices k is.devices_are.count (no_left (slice_get (devices_left w.devices) k) none)).0

pub no_want : (w : WorldValue) (g : Guest) (actor : ActorId) (op : Op) → IsWorld w g → want_in w actor ≡ None
    → Wants g actor op → ⊥
no_want w g ActorId.Timer op is none want = cc
no_want w g (ActorId.Hart k) op is none want =
    let missing = (past w.harts g.starts k is.harts_are.count (none_there (slice_get w.harts k) none)).1 in
    subst (λ (s : Option Regs). WantsFrom s (g.steps (ActorId.Hart k)) op) missing want
no_want w g (ActorId.Device k) op is none want =
    let missing = (past (devices_left w.devices) g.devices k is.devices_are.count (no_left (slice_get (devices_left w.devices) k) none)).1 in
    subst (λ (d : Option FlatDevice). WantsOf d op) missing want

pub wanted : (w : WorldValue) (g : Guest) (actor : ActorId) (op : Op) → IsWorld w g → want_in w actor ≡ Some op
    → Wants g actor op
wanted w g actor op is want = acting.want_in (body_of w) g is actor op want

pub wants_by : (w : WorldValue) (actor : ActorId) (o : Option Op) → o ≡ want_in w actor → (g : Guest) → IsWorld w g
    → MatchOption o (is_actor g actor ≡ false) (λ op. Wants g actor op)
wants_by w actor None is g world = not_there w g actor world (sym is)
wants_by w actor (Some op) is g world = wanted w g actor op world (sym is)

here_by : (o : Option Hart) (op : Op) → want_of o ≡ Some op → (hart : Hart) × (o ≡ Some hart)
here_by None op is = cc
here_by (Some hart) op is = (hart, refl)

left_here : (o : Option DeviceLeft) (op : Op) → device_want o ≡ Some op → (left : DeviceLeft) × (o ≡ Some left)
left_here None op is = cc
left_here (Some left) op is = (left, refl)

sooner : (k n : ℕ) → nat_lt k n ≡ true → nat_lt (suc k) (suc n) ≡ true
sooner k n is = lt-ltb (suc k) (suc n) (next_lt k n (ltb-true k n is))

within : {A B : Type 0} (harts : List A) (starts : List B) (k : ℕ) (hart : A) → length harts ≡ length starts
    → slice_get harts k ≡ Some hart → nat_lt k (length starts) ≡ true
within [] starts k hart same is = cc
within (h ∷ harts) [] k hart same is = absurd (omega (arith, same))
within (h ∷ harts) (s ∷ starts) zero hart same is = lt-ltb 0 (length (s ∷ starts)) (omega arith)
within (h ∷ harts) (s ∷ starts) (suc k) hart same is =
    sooner k (length starts) (within harts starts k hart (omega (arith, same)) is)

pub is_there : (w : WorldValue) (g : Guest) (actor : ActorId) (op : Op) → IsWorld w g → want_in w actor ≡ Some op
    → is_actor g actor ≡ true
is_there w g ActorId.Timer op is want = refl
is_there w g (ActorId.Hart k) op is want =
    let hart = here_by (slice_get w.harts k) op want in
    within w.harts g.starts k hart.0 is.harts_are.count hart.1
is_there w g (ActorId.Device k) op is want =
    let left = left_here (slice_get (devices_left w.devices) k) op want in
    within (devices_left w.devices) g.devices k left.0 is.devices_are.count left.1

-- an act that isn't refused has what it is to be given
by_fit : (fit : Bool) → (if fit then None else Some StepError.Unfit) ≡ None → fit ≡ true
by_fit true none = refl
by_fit false none = cc

pub not_refused_given : (op : Op) (given : Option Reply) → refusal_of op given ≡ None → is_given op (as_given given) ≡ true
not_refused_given (Op.Out act) None none = cc
not_refused_given (Op.Out act) (Some reply) none = by_fit (out_fits act reply) none
not_refused_given op None none = refl
not_refused_given op (Some reply) none = cc

pub not_refused : (w : WorldValue) (g : Guest) (actor : ActorId) (op mine : Op) (given : Option Reply) (why : StepError)
    → IsWorld w g → want_in w actor ≡ Some mine → Wants g actor op → refusal_of op given ≡ None
    → refusal_of mine given ≡ Some why → ⊥
not_refused w g actor op mine given why is want wants none some =
    let same : op ≡ mine = wants_one g actor op mine wants (wanted w g actor mine is want) in
    let both : Some why ≡ None = sym some ∙ ap (λ (o : Op). refusal_of o given) (sym same) ∙ none in
    cc

-- why an act is refused is never that its actor is absent, or that it lacks a spare page
unfit_other : (fit : Bool) (why : StepError) → (StepError.Unfit ≡ why → ⊥) → (if fit then None else Some StepError.Unfit) ≡ Some why → ⊥
unfit_other true why other some = cc
unfit_other false why other some = let same : StepError.Unfit ≡ why = cc in other same

pub never_absent : (op : Op) (given : Option Reply) → refusal_of op given ≡ Some StepError.NoActor → ⊥
never_absent (Op.Out act) None some = cc
never_absent (Op.Out act) (Some reply) some = unfit_other (out_fits act reply) StepError.NoActor (λ is. cc) some
never_absent op None some = cc
never_absent op (Some reply) some = cc

pub never_spare : (op : Op) (given : Option Reply) → refusal_of op given ≡ Some StepError.NoSpare → ⊥
never_spare (Op.Out act) None some = cc
never_spare (Op.Out act) (Some reply) some = unfit_other (out_fits act reply) StepError.NoSpare (λ is. cc) some
never_spare op None some = cc
never_spare op (Some reply) some = cc

-- so it is its want that is refused
pub refused_by : (w : WorldValue) (g : Guest) (actor : ActorId) (op : Op) (given : Option Reply) (why : StepError) → IsWorld w g
    → want_in w actor ≡ Some op → refusal_of op given ≡ Some why → IsRefused g actor given why
refused_by w g actor op given StepError.NoActor is want some = absurd (never_absent op given some)
refused_by w g actor op given StepError.NoSpare is want some = absurd (never_spare op given some)
refused_by w g actor op given why is want some = (op, wanted w g actor op is want, some)

-- the timer at its start
pub restarted : (w : WorldValue) (g : Guest) → IsWorld w g → IsWorld (record w { timer = new_timer }) (timer_restarted g)
restarted w g is = record {
  memory_is = is.memory_is;
  marks_are = is.marks_are;
  board_is = is.board_is;
  ports_are = is.ports_are;
  timer_is = timer_traces.leads_start;
  harts_are = record { count = is.harts_are.count; each = is.harts_are.each };
  devices_are = record { count = is.devices_are.count; each = is.devices_are.each; sound = is.devices_are.sound };
}

-- and with no mark set
pub unwritten_is : (w : WorldValue) (pages : List PageValue) (g : Guest) → IsWorld w g → flat_of pages ≡ flat_of w.pages
    → marks_of pages ≡ replicate (length w.pages) false → IsWorld (record w { pages = pages }) (unwritten g)
unwritten_is w pages g is memory marks = record {
  memory_is = memory ∙ is.memory_is;
  marks_are = subst (λ (l : List Bool). AreMarks l none_written) (sym marks) (none_marked (length w.pages));
  board_is = is.board_is;
  ports_are = is.ports_are;
  timer_is = is.timer_is;
  harts_are = record { count = is.harts_are.count; each = is.harts_are.each };
  devices_are = record { count = is.devices_are.count; each = is.devices_are.each; sound = is.devices_are.sound };
}

-- and with a device that was told of a change
pub told_is : (w : WorldValue) (b : Board) (ports : List PortState) (devices : List Device) (k : ℕ) (change : DeviceChange)
    (shown : Option (List ℕ)) (g : Guest) → FitsChange change → IsWorld w g → b ≡ board_shown shown w.board k
    → ports ≡ ports_with shown w.ports k
    → devices_left devices ≡ lefts_told (slice_get (devices_left w.devices) k) (devices_left w.devices) k change
    → IsWorld (record w { board = b; ports = ports; devices = devices }) (told k change shown g)
told_is w b ports devices k change shown g fits is board_is ports_are devices_are =
    let after : body_of (record w { board = b; ports = ports; devices = devices }) ≡ body_told k change shown (body_of w) =
    λ i. record (body_of w) { board = board_is i; ports = ports_are i; devices = devices_are i } in
    subst (λ (n : Body). IsGuest n (told k change shown g)) (sym after)
    (changing.told_is (body_of w) g k change shown fits is)

-- and behind a Reset
lefts_reset : (devices others : List Device) → AreReset devices others → devices_left others ≡ map left_reset (devices_left devices)
lefts_reset [] [] are = refl
lefts_reset [] (now ∷ others) are = absurd are
lefts_reset (it ∷ devices) [] are = absurd are
lefts_reset (it ∷ devices) (now ∷ others) are = λ i. are.0.1 i ∷ lefts_reset devices others are.1 i

-- the devices of a world that is like another else
reset_body : (w : WorldValue) (devices : List Device) → AreReset w.devices devices
    → body_of (record w { devices = devices }) ≡ body_reset (body_of w)
reset_body w devices are = λ i. record (body_of w) { devices = lefts_reset w.devices devices are i }

pub reset_is : (w now : WorldValue) (g : Guest) → IsWorldReset w now → IsWorld w g → IsWorld now (reset_guest g)
reset_is w now g reset is =
    let after : body_of now ≡ body_reset (body_of w) = ap body_of reset.1 ∙ reset_body w now.devices reset.0 in
    subst (λ (n : Body). IsGuest n (reset_guest g)) (sym after) (changing.reset_is (body_of w) g is)

-- an act on a host object takes no page
pub host_ready : (w : WorldValue) (op : Op) → is_host_op op ≡ true → is_ready (pages_of w) (place_in w op) ≡ true
host_ready w (Op.Out act) is = refl
host_ready w op is = cc

-- and with other pages spare
pub same_body : (old new : WorldValue) → IsSameButSpare old new → body_of new ≡ body_of old
same_body old new same = ap body_of same

pub same_world : (old new : WorldValue) (g : Guest) → IsSameButSpare old new → IsWorld old g → IsWorld new g
same_world old new g same is = subst (λ (n : Body). IsGuest n g) (sym (same_body old new same)) is

-- events of an actor, one after another
abbrev pub HasRun : ActorId → WorldValue → ℕ → WorldValue → Type 0
HasRun actor old made new = HasMade actor (body_of old) made (body_of new)

pub run_more : (actor : ActorId) (old mid new : WorldValue) (made : ℕ) → HasRun actor old made mid
    → mid.board.off ≡ false → ((e : Entry) × MakesEvent mid (record { actor = actor; given = Nothing }) e new)
    → HasRun actor old (made + 1) new
run_more actor old mid new made has on event =
    has_made_more actor (body_of old) (body_of mid) (body_of new) made event.0 has on event.1.unstamped event.1.step
    event.1.stays

-- all were made, or no further one is
abbrev pub HasEnded : ActorId → WorldValue → Type 0
HasEnded actor w = HasStopped actor (body_of w)

pub runs : (actor : ActorId) (old new : WorldValue) (count made : ℕ) → HasRun actor old made new
    → (made ≡ count) ⊎ ((made < count) × HasEnded actor new) → Runs old actor count made new
runs actor old new count made has all g is = ran actor (body_of old) (body_of new) made count has all g is

-- who wants something
pub something : (o : Option Op) → is_some o ≡ true → (op : Op) × (o ≡ Some op)
something None is = cc
something (Some op) is = (op, refl)
