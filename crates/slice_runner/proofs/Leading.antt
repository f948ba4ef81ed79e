-- Entries that are fresh lead from where all stands to where it stands behind them.
use Rattle.std.proofs.Common.{◌≡◌, ℕ, suc, false, refl, sym, ap, ◌∙◌, subst, arith}
use Rattle.std.proofs.Common.{List, [], ◌∷◌, length, get_or, slice_get}
use Rattle.std.specs.List.{AllByRecursion}
use Rattle.vm_types.specs.declared.entry.Entry.{Entry}
use Rattle.vm_types.specs.declared.ids.ActorId.{ActorId}
use Rattle.vm_types.specs.declared.ids.PlaceId.{PlaceId}
use Rattle.vm_types.specs.Ids.{is_out}
use Rattle.vm_types.specs.Serial.{IsFresh, OutFits, put_actor, states_end, vals_end}
use Rattle.board_table.specs.Board.{Board}
use Rattle.guest_devices.specs.Devices.{DeviceLeft}
use Rattle.guest_pages.specs.Flat.{ArePages}
use Rattle.guest_pages.specs.Pages.{PageValue, new_page}
use Rattle.hart_trace.specs.States.{Hart, fresh}
use Rattle.hart_trace.specs.Stopped.{stopped_regs}
use Rattle.timer_trace.specs.declared.timer.Timer.{Timer}
use Rattle.port_table.specs.declared.state.PortState.{PortState}
use Rattle.stamp_merge.specs.declared.layout.Layout.{Layout}
use Rattle.flat_guest.specs.Guest.{Guest}
use Rattle.flat_guest.specs.Steps.{guest_after, written_after}
use Rattle.slice_runner.specs.Slices.{IsThere, Leads, MarksFollow}
use Rattle.machine_places.specs.declared.place.MachinePlace.{MachinePlace}
use Rattle.machine_places.specs.declared.place.MachinePlace.TheVariants as holds
use Rattle.machine_places.specs.Acts.{touch as place_touch}
use Rattle.slice_runner.specs.Values.{ActorState, DeviceIs, HartIs, TimerIs, actor_next, actor_wants, device_or_none, no_port, route_among}
use Rattle.slice_runner.proofs.Stepping.{IsStanding, Standing, StepsOn, actors_at, layout_at, places_at, standing_after, steps_on}

-- from each guest that stood so they lead to one that stands so
abbrev pub LeadOn : Standing → List Entry → Standing → Type 0
LeadOn old events new = (g : Guest) → IsStanding old g → (h : Guest) × Leads g events h × IsStanding new h

-- the entries lead to where all has these values and states
pub record Reaches (w : Standing) (es : List Entry) : Type 0 where
  pub end : Standing
  pub serial : LeadOn w es end
  pub marks : MarksFollow w.pages es end.pages
  pub pages : ArePages 0 end.pages
  pub layout : layout_at end ≡ layout_at w
  pub harts : length end.harts ≡ length w.harts
  pub places : vals_end place_touch (places_at w) es ≡ places_at end
  pub actors : states_end actor_next (actors_at w) es ≡ actors_at end

reach_more : (w : Standing) (e : Entry) (es : List Entry) → StepsOn w e → Reaches (standing_after w e) es → Reaches w (e ∷ es)
reach_more w e es s r = record {
  end = r.end;
  serial = λ g is. let next = r.serial (guest_after g e) (s.stays g is) in (next.0, (guest_after g e, s.step g is, next.1), next.2);
  marks = λ written are. r.marks (written_after written e) (s.marks written are);
  pages = r.pages;
  layout = r.layout ∙ s.layout;
  harts = r.harts ∙ s.harts;
  places = ap (λ (f : PlaceId → MachinePlace). vals_end place_touch f es) s.places ∙ r.places;
  actors = ap (λ (f : ActorId → ActorState). states_end actor_next f es) s.actors ∙ r.actors;
}

pub reaches : (es : List Entry) (w : Standing) (layout : Layout) (m n : ℕ) → layout ≡ layout_at w → m ≡ length w.harts → n ≡ length w.lefts
    → ArePages 0 w.pages → AllByRecursion (λ (e : Entry). IsThere m n e.actor) es
    → IsFresh place_touch actor_wants actor_next (route_among layout) OutFits (places_at w) (actors_at w) es → Reaches w es
reaches [] w layout m n layout_is harts_are lefts_are are there fresh_is = record {
  end = w;
  serial = λ g is. (g, refl, is);
  marks = λ written are. are;
  pages = are;
  layout = refl;
  harts = refl;
  places = refl;
  actors = refl;
}
reaches (e ∷ es) w layout m n layout_is harts_are lefts_are are there fresh_is =
    let s : StepsOn w e =
    steps_on w e are
    (subst (λ (k : ℕ). IsThere k (length w.lefts) e.actor) harts_are (subst (λ (k : ℕ). IsThere m k e.actor) lefts_are there.0)) fresh_is.0
    (fresh_is.1 ∙ ap (λ (l : Layout). route_among l e.op) layout_is) fresh_is.2 in
    let rest : IsFresh place_touch actor_wants actor_next (route_among layout) OutFits (places_at (standing_after w e)) (actors_at (standing_after w e)) es =
    subst (λ (f : ActorId → ActorState). IsFresh place_touch actor_wants actor_next (route_among layout) OutFits (places_at (standing_after w e)) f es) s.actors
    (subst (λ (f : PlaceId → MachinePlace). IsFresh place_touch actor_wants actor_next (route_among layout) OutFits f (put_actor (actors_at w) e.actor (actor_next (actors_at w e.actor) e.reply)) es) s.places fresh_is.3) in
    reach_more w e es s
    (reaches es (standing_after w e) layout m n (layout_is ∙ sym s.layout) (harts_are ∙ sym s.harts) (lefts_are ∙ sym s.lefts) s.pages there.1 rest)

-- lists with the same items are one
same_lists : {A : Type 0} (xs ys : List A) (d : A) → length xs ≡ length ys → ((i : ℕ) → get_or xs i d ≡ get_or ys i d) → xs ≡ ys
same_lists [] [] d long same = refl
same_lists [] (y ∷ ys) d long same = absurd (omega (arith, long))
same_lists (x ∷ xs) [] d long same = absurd (omega (arith, long))
same_lists (x ∷ xs) (y ∷ ys) d long same =
    λ j. same 0 j ∷ same_lists xs ys d (omega (arith, long)) (λ i. same (suc i)) j

abbrev page_in : MachinePlace → PageValue → PageValue
page_in (holds.Page p) d = p
page_in (holds.Port p) d = d
page_in (holds.Board b) d = d

abbrev port_in : MachinePlace → PortState → PortState
port_in (holds.Page p) d = d
port_in (holds.Port p) d = p
port_in (holds.Board b) d = d

abbrev board_in : MachinePlace → Board → Board
board_in (holds.Page p) d = d
board_in (holds.Port p) d = d
board_in (holds.Board b) d = b

abbrev timer_in : ActorState → Timer → Timer
timer_in (TimerIs t) d = t
timer_in (HartIs h) d = d
timer_in (DeviceIs left) d = d

abbrev hart_in : ActorState → Hart → Hart
hart_in (TimerIs t) d = d
hart_in (HartIs h) d = h
hart_in (DeviceIs left) d = d

abbrev left_in : ActorState → DeviceLeft → DeviceLeft
left_in (TimerIs t) d = d
left_in (HartIs h) d = d
left_in (DeviceIs left) d = left

abbrev is_left : ActorState → Type 0
is_left (TimerIs t) = ⊥
is_left (HartIs h) = ⊥
is_left (DeviceIs left) = Unit {0}

-- devices that stand alike are the same ones
same_lefts : (xs ys : List DeviceLeft) → ((k : ℕ) → device_or_none (slice_get xs k) ≡ device_or_none (slice_get ys k)) → xs ≡ ys
same_lefts [] [] same = refl
same_lefts [] (y ∷ ys) same = absurd (subst is_left (sym (same 0)) tt)
same_lefts (x ∷ xs) [] same = absurd (subst is_left (same 0) tt)
same_lefts (x ∷ xs) (y ∷ ys) same =
    let first : x ≡ y = ap (λ (s : ActorState). left_in s x) (same 0) in
    let rest = same_lefts xs ys (λ k. same (suc k)) in
    λ i. first i ∷ rest i

-- where all stands is known by the places and the actors
pub same_standing : (w v : Standing) → layout_at w ≡ layout_at v → length w.harts ≡ length v.harts
    → ((p : PlaceId) → is_out p ≡ false → places_at w p ≡ places_at v p) → ((a : ActorId) → actors_at w a ≡ actors_at v a) → w ≡ v
same_standing w v layout harts places actors =
    let pages_are : w.pages ≡ v.pages =
    same_lists w.pages v.pages (new_page 0) (ap (λ (l : Layout). l.pages) layout) (λ i. ap (λ (x : MachinePlace). page_in x (new_page 0)) (places (PlaceId.Page i) refl)) in
    let ports_are : w.ports ≡ v.ports =
    same_lists w.ports v.ports no_port (ap (λ (l : Layout). l.ports) layout) (λ k. ap (λ (x : MachinePlace). port_in x no_port) (places (PlaceId.Port k) refl)) in
    let board_is : w.board ≡ v.board = ap (λ (x : MachinePlace). board_in x w.board) (places PlaceId.Board refl) in
    let timer_is : w.timer ≡ v.timer = ap (λ (x : ActorState). timer_in x w.timer) (actors ActorId.Timer) in
    let harts_are : w.harts ≡ v.harts =
    same_lists w.harts v.harts (fresh stopped_regs) harts (λ k. ap (λ (x : ActorState). hart_in x (fresh stopped_regs)) (actors (ActorId.Hart k))) in
    let lefts_are : w.lefts ≡ v.lefts = same_lefts w.lefts v.lefts (λ k. actors (ActorId.Device k)) in
    λ j. record { pages = pages_are j; board = board_is j; ports = ports_are j; timer = timer_is j; harts = harts_are j; lefts = lefts_are j }
