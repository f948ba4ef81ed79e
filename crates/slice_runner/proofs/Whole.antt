-- A slice, from what its actors did and what the seat with all parts was told.
use Rattle.std.proofs.Common.{◌≡◌, ℕ, zero, suc, ◌+◌, ◌<◌, ◌≤◌, Bool, false, refl, sym, ap, ◌∙◌, subst, arith}
use Rattle.std.specs.List.{AllByRecursion}
use Rattle.std.proofs.Common.{All, List, [], ◌∷◌, ◌++◌, length, map, slice_get, Some, length-append}
use Rattle.std.specs.List.Sorted.{IsPermutation}
use Rattle.std.proofs.lemmas.List.Elements.{All-from_recursion, recursion_from_All}
use Rattle.std.proofs.lemmas.List.Sorted.{All-permutation, IsPermutation-refl}
use Rattle.vm_types.specs.declared.entry.Entry.{Entry}
use Rattle.vm_types.specs.declared.ids.ActorId.{ActorId}
use Rattle.vm_types.specs.declared.ids.PlaceId.{PlaceId}
use Rattle.vm_types.specs.declared.op.Op.{Op}
use Rattle.vm_types.specs.declared.op.OutOp.{OutOp}
use Rattle.vm_types.specs.declared.reply.Reply.{Reply}
use Rattle.vm_types.specs.Ids.{of_actor, same_actor}
use Rattle.vm_types.specs.Serial.{OutFits}
use Rattle.board_table.specs.Board.{Board}
use Rattle.guest_devices.specs.declared.device.Device.{Device}
use Rattle.guest_devices.specs.Kept.{device_left, devices_left}
use Rattle.guest_pages.specs.Made.{made_of}
use Rattle.guest_pages.specs.Flat.{ArePages}
use Rattle.guest_pages.specs.Pages.{PageValue}
use Rattle.hart_trace.specs.States.{Hart}
use Rattle.pause_gate.specs.Tally.{Tally}
use Rattle.port_table.specs.declared.state.PortState.{PortState}
use Rattle.stamp_merge.specs.declared.layout.Layout.{Layout}
use Rattle.stamp_merge.specs.declared.journal.Journal.{Journal}
use Rattle.stamp_merge.specs.Journals.{all_of, journal_at}
use Rattle.stamp_merge.specs.Legal.{AreFollowed, IsRun}
use Rattle.stamp_merge.specs.Merged.{journals_of}
use Rattle.stamp_merge.specs.Order.{IsOrder}
use Rattle.stamp_merge.proofs.Legal.{legal_run, to_journal}
use Rattle.turn_table.specs.declared.held.Held.{Held}
use Rattle.turn_table.specs.declared.view.View.{View}
use Rattle.turn_table.specs.Steps.{Told}
use Rattle.turn_law.specs.Rounds.{AreNoted, AreValues, IsIndex, entry_of}
use Rattle.turn_law.proofs.Histories.{history, legal, stamped}
use Rattle.turn_work.specs.Work.{HasNoted}
use Rattle.machine_places.specs.declared.place.MachinePlace.{MachinePlace}
use Rattle.machine_places.specs.Acts.{IsMade, touch as place_touch}
use Rattle.machine_places.specs.Laid.{AreLaid, ArePlaces, index_among}
use Rattle.machine_places.proofs.Indexing.{are_apart}
use Rattle.vm_host.specs.Telling.{AreNext, ClockKnown}
use Rattle.vm_world.specs.Worlds.{WorldValue, want_in, world_with}
use Rattle.slice_runner.specs.declared.places.Places.{Places}
use Rattle.slice_runner.specs.declared.stop.Stop.{Stop}
use Rattle.slice_runner.specs.declared.stop.Stopped.{Stopped}
use Rattle.slice_runner.specs.declared.worker.DeviceWorker.{DeviceWorker}
use Rattle.slice_runner.specs.declared.worker.HartWorker.{HartWorker}
use Rattle.slice_runner.specs.declared.worker.TimerWorker.{TimerWorker}
use Rattle.slice_runner.specs.declared.worker.Track.{Track}
use Rattle.slice_runner.specs.Ends.{BesideEnds, DevicesWorked, HartsWorked}
use Rattle.slice_runner.specs.Blanks.{pool_of}
use Rattle.slice_runner.specs.Runs.{AreAnswered, Begins}
use Rattle.slice_runner.specs.Slices.{DevicesAnswered, IsSerial, IsSlice, IsThere, MarksFollow, answers_of}
use Rattle.slice_runner.specs.Staff.{AreBack, AreDevices, AreHired, AreNumbered, device_tracks, devices_of, hart_tracks, harts_of, passes_of, stop_of, stops_from, tracks_of}
use Rattle.slice_runner.specs.Stops.{HasCause, IsStopped, actor_of, most_of}
use Rattle.slice_runner.specs.Values.{ActorState, actor_among, actor_next, actor_wants, actors_of, layout_in, places_of, route_among}
use Rattle.slice_runner.proofs.Crew.{Crew, are_followed, are_stamped, are_there, is_there, journal_there, journals_are, track_journals}
use Rattle.slice_runner.proofs.Ending.{AreEnded, all_ended, begins_at, crew_by, device_id, ends_at, long_map, others_same}
use Rattle.slice_runner.proofs.Leading.{Reaches, reaches, same_standing}
use Rattle.slice_runner.proofs.Stepping.{IsStanding, Standing, standing_of, wants_there}
use Rattle.slice_runner.proofs.Valued.{are_values, as_many}

-- ---- each actor's stop, with its cause

module _ {Q : Type 0} (serves : Q → Type 0) (tally : Q → Tally) (places : Places) (n : ℕ) (start lasts : ActorId → ActorState) (harts : ℕ) where
  pub record TrackStop (blanks k : ℕ) (vs : List (Track Q)) (j : ℕ) (s : Stopped) (p q : Q) : Type 0 where
    pub track : Track Q
    pub is_there : slice_get vs j ≡ Some track
    pub actor_is : s.actor ≡ actor_of harts (k + j)
    pub cause :
        HasCause (most_of (k + j) n) blanks places.made.items places.layout s.stop track.work.journal.items
        (actor_wants (lasts (actor_of harts (k + j)))) (tally p) (tally q)

  abbrev cause_at : ℕ → ℕ → Track Q → Stop → Q → Q → Type 0
  cause_at k blanks v stop p q =
      HasCause (most_of k n) blanks places.made.items places.layout stop v.work.journal.items (actor_wants (lasts (actor_of harts k))) (tally p) (tally q)

  stop_by : (left : List Q) (blanks k : ℕ) (ws vs : List (Track Q)) → AreNumbered harts k ws
      → AllByRecursion (λ (t : Track Q). Begins n blanks t) ws → AreEnded serves tally places n start lasts harts k ws vs
      → (j : ℕ) (s : Stopped) (p q : Q) → slice_get (stops_from vs) j ≡ Some s
      → slice_get (passes_of ws ++ left) j ≡ Some p → slice_get (passes_of vs ++ left) j ≡ Some q → TrackStop blanks k vs j s p q
  stop_by left blanks k [] [] ids begin ended j s p q stop before after = cc
  stop_by left blanks k [] (v ∷ vs) ids begin ended j s p q stop before after = absurd ended
  stop_by left blanks k (w ∷ ws) [] ids begin ended j s p q stop before after = absurd ended
  stop_by left blanks k (w ∷ ws) (v ∷ vs) ids begin ended zero s p q stop before after =
      let s_is : stop_of v ≡ s = cc in
      let p_is : w.pass ≡ p = cc in
      let q_is : v.pass ≡ q = cc in
      let e : k ≡ k + 0 = omega arith in record {
        track = v;
        is_there = refl;
        actor_is = sym (ap (λ (x : Stopped). x.actor) s_is) ∙ ended.0.worked.same ∙ ids.0 ∙ ap (actor_of harts) e;
        cause = subst (λ (m : ℕ). cause_at m blanks v s.stop p q) e
            (subst (λ (x : Stopped). cause_at k blanks v x.stop p q) s_is
            (subst (λ (x : Q). cause_at k blanks v v.stop x q) p_is
            (subst (λ (x : Q). cause_at k blanks v v.stop w.pass x) q_is
            (subst (λ (x : ℕ). cause_at k x v v.stop w.pass v.pass) begin.0.pool ended.0.worked.cause))));
      }
  stop_by left blanks k (w ∷ ws) (v ∷ vs) ids begin ended (suc j) s p q stop before after =
      let rest : TrackStop blanks (suc k) vs j s p q = stop_by left blanks (suc k) ws vs ids.1 begin.1 ended.1 j s p q stop before after in
      let e : suc k + j ≡ k + suc j = omega arith in record {
        track = rest.track;
        is_there = rest.is_there;
        actor_is = rest.actor_is ∙ ap (actor_of harts) e;
        cause = subst (λ (m : ℕ). cause_at m blanks rest.track s.stop p q) e rest.cause;
      }

-- where the same pages were made among the same places
same_cause : (n : ℕ) {blanks : ℕ} {made other : List Bool} {layout size : Layout} {stop : Stop} {es : List Entry} {want : Op} {before now : Tally}
    → made ≡ other → layout ≡ size → HasCause n blanks made layout stop es want before now → HasCause n blanks other size stop es want before now
same_cause n {blanks} {made} {other} {layout} {size} {stop} {es} {want} {before} {now} made_is layout_is cause =
    subst (λ (m : List Bool). HasCause n blanks m size stop es want before now) made_is
    (subst (λ (l : Layout). HasCause n blanks made l stop es want before now) layout_is cause)

-- ---- items by their places

below : {A : Type 0} (xs : List A) (j : ℕ) (x : A) → slice_get xs j ≡ Some x → j < length xs
below [] j x is = cc
below (y ∷ xs) zero x is = omega arith
below (y ∷ xs) (suc j) x is = let h = below xs j x is in omega (arith, h)

behind : {A : Type 0} (xs ys : List A) (j : ℕ) → slice_get (xs ++ ys) (length xs + j) ≡ slice_get ys j
behind [] ys j = let e : 0 + j ≡ j = omega arith in ap (slice_get ys) e
behind (x ∷ xs) ys j =
    let e : length (x ∷ xs) + j ≡ suc (length xs + j) = omega arith in ap (slice_get (x ∷ (xs ++ ys))) e ∙ behind xs ys j

get_map : {A B : Type 0} (f : A → B) (xs : List A) (j : ℕ) (x : A) → slice_get xs j ≡ Some x → slice_get (map f xs) j ≡ Some (f x)
get_map f [] j x is = cc
get_map f (y ∷ xs) zero x is = let same : y ≡ x = cc in ap (λ z. Some (f z)) same
get_map f (y ∷ xs) (suc j) x is = get_map f xs j x is

there_more : (harts devices more : ℕ) (a : ActorId) → devices ≤ more → IsThere harts devices a → IsThere harts more a
there_more harts devices more ActorId.Timer few there = tt
there_more harts devices more (ActorId.Hart k) few there = there
there_more harts devices more (ActorId.Device k) few there = let lt : k < more = omega (arith, few, there) in lt

pub devices_long : {Q K : Type 0} (serves : Q → Type 0) (tally : Q → Tally) (Answers : ℕ → OutOp → Reply → K → K → Type 0) (places : Places) (n : ℕ)
    (known left : K) (ds es : List (DeviceWorker Q)) → DevicesWorked serves tally Answers places n known left ds es → length es ≡ length ds
devices_long serves tally Answers places n known left [] [] worked = refl
devices_long serves tally Answers places n known left [] (e ∷ es) worked = absurd worked
devices_long serves tally Answers places n known left (d ∷ ds) [] worked = absurd worked
devices_long serves tally Answers places n known left (d ∷ ds) (e ∷ es) worked =
    ap suc (devices_long serves tally Answers places n worked.0 left ds es worked.2)

-- what each device asked was answered in the events
answered_by : {Q K : Type 0} (serves : Q → Type 0) (tally : Q → Tally) (Answers : ℕ → OutOp → Reply → K → K → Type 0) (places : Places) (n : ℕ)
    (events : List Entry) (p : ℕ) (known left : K) (ds es : List (DeviceWorker Q)) → AreDevices p ds
    → ((j : ℕ) (e : DeviceWorker Q) → slice_get es j ≡ Some e → of_actor (ActorId.Device (p + j)) events ≡ e.track.work.journal.items)
    → DevicesWorked serves tally Answers places n known left ds es → DevicesAnswered Answers events p (length ds) known left
answered_by serves tally Answers places n events p known left [] [] ids mine worked = worked
answered_by serves tally Answers places n events p known left [] (e ∷ es) ids mine worked = absurd worked
answered_by serves tally Answers places n events p known left (d ∷ ds) [] ids mine worked = absurd worked
answered_by serves tally Answers places n events p known left (d ∷ ds) (e ∷ es) ids mine worked =
    let same : p + 0 ≡ p = omega arith in
    let moved : (j : ℕ) → suc p + j ≡ p + suc j = λ j. omega arith in
    let own : e.track.work.journal.items ≡ of_actor (ActorId.Device p) events =
    sym (mine 0 e refl) ∙ ap (λ (k : ℕ). of_actor (ActorId.Device k) events) same in (
      worked.0,
      subst (λ (l : List Entry). AreAnswered Answers p known l worked.0) own
          (subst (λ (k : ℕ). AreAnswered Answers k known e.track.work.journal.items worked.0) ids.0 worked.1.answers),
      answered_by serves tally Answers places n events (suc p) worked.0 left ds es ids.1
          (λ j x is. ap (λ (k : ℕ). of_actor (ActorId.Device k) events) (moved j) ∙ mine (suc j) x is) worked.2,
    )

module _ {Q K : Type 0} (serves : Q → Type 0) (tally : Q → Tally) (Answers : ℕ → OutOp → Reply → K → K → Type 0) (n : ℕ) (asked now : ClockKnown)
    (known left : K) (old : WorldValue) (places : Places)
    (t u : TimerWorker Q) (ws vs : List (HartWorker Q)) (ds es : List (DeviceWorker Q)) (resting : List Device) (over passes later : List Q)
    (pages : List PageValue) (ports : List PortState) (b : Board) (harts : List Hart) (devices : List Device) (journals : List Journal)
    (stops : List Stopped) (events : List Entry) (v : View MachinePlace) (list : List (Held MachinePlace))
    (are : ArePages 0 old.pages) (layout_is : places.layout ≡ layout_in old) (made_is : places.made.items ≡ made_of old.pages)
    (hired : AreHired n (pool_of n old.pages) (length old.harts) passes (tracks_of t ws ds) over)
    (timer_is : t.timer ≡ old.timer) (harts_are : harts_of ws ≡ old.harts) (devices_are : devices_of ds ++ resting ≡ old.devices) (numbers : AreDevices 0 ds)
    (beside : BesideEnds serves tally Answers places n asked now known left t u ds es) (worked : HartsWorked serves tally places n ws vs)
    (harts_now : harts ≡ harts_of vs) (devices_now : devices ≡ devices_of es ++ resting) (back : AreBack (tracks_of u vs es) over later journals stops)
    (laid : AreLaid old.pages old.ports old.board v.round.opens) (noted : HasNoted v.round (index_among places.layout) v (all_of (journals_of journals)))
    (told : Told place_touch (λ (p : MachinePlace). p) IsMade v list)
    (home : ArePlaces pages ports b list) (pages_count : length pages ≡ length old.pages) (ports_count : length ports ≡ length old.ports)
    (order : IsOrder (all_of (journals_of journals)) events) where
  abbrev size : Layout
  size = layout_in old

  abbrev count : ℕ
  count = length old.harts

  abbrev before : List (Track Q)
  before = tracks_of t ws ds

  abbrev after : List (Track Q)
  after = tracks_of u vs es

  abbrev js : List (ActorId × List Entry)
  js = track_journals after

  abbrev new : WorldValue
  new = world_with pages b ports u.timer harts devices

  many : length ws ≡ count
  many = sym (long_map (λ (w : HartWorker Q). w.hart) ws) ∙ ap length harts_are

  starts : begins_at serves tally Answers places n asked now known left t u ws vs ds es resting beside worked ≡ actors_of old
  starts = λ i. actor_among (timer_is i) (harts_are i) (devices_left (devices_are i))

  ends : ends_at serves tally Answers places n asked now known left t u ws vs ds es resting beside worked ≡ actors_of new
  ends = λ i. actor_among u.timer (sym harts_now i) (devices_left (sym devices_now i))

  ended : AreEnded serves tally places n (actors_of old) (actors_of new) count 0 before after
  ended =
      subst (λ (k : ℕ). AreEnded serves tally places n (actors_of old) (actors_of new) k 0 before after) many
      (subst (λ (f : ActorId → ActorState). AreEnded serves tally places n f (actors_of new) (length ws) 0 before after) starts
      (subst (λ (f : ActorId → ActorState). AreEnded serves tally places n (begins_at serves tally Answers places n asked now known left t u ws vs ds es resting beside worked) f (length ws) 0 before after) ends
      (all_ended serves tally Answers places n asked now known left t u ws vs ds es resting beside worked)))

  crew : Crew size (actors_of old) (actors_of new) count 0 after
  crew =
      subst (λ (l : Layout). Crew l (actors_of old) (actors_of new) count 0 after) layout_is
      (crew_by serves tally places n (actors_of old) (actors_of new) count 0 before after hired.numbered ended)

  devices_as_long : length es ≡ length ds
  devices_as_long = devices_long serves tally Answers places n known left ds es beside.devices

  after_long : length after ≡ suc (count + length ds)
  after_long =
      let e = length-append (hart_tracks vs) (device_tracks es) in
      let f = long_map (λ (w : HartWorker Q). w.track) vs in
      let g = long_map (λ (d : DeviceWorker Q). d.track) es in
      let h = worked.same in
      omega (arith, e, f, g, h, many, devices_as_long)

  journals_is : journals_of journals ≡ js
  journals_is = ap journals_of back.journals_are ∙ journals_are after

  ordered : IsOrder (all_of js) events
  ordered = subst (λ (l : List (ActorId × List Entry)). IsOrder (all_of l) events) journals_is order

  harts_long : length harts ≡ count
  harts_long = ap length harts_now ∙ long_map (λ (v : HartWorker Q). v.hart) vs ∙ worked.same ∙ many

  device_count : length (devices_of es) ≡ length (devices_of ds)
  device_count =
      long_map (λ (d : DeviceWorker Q). d.device) es ∙ devices_as_long ∙ sym (long_map (λ (d : DeviceWorker Q). d.device) ds)

  others : (a : ActorId) → ((j : ℕ) → 0 ≤ j → j < 0 + length after → same_actor (actor_of count j) a ≡ false) → actors_of old a ≡ actors_of new a
  others a none =
      ap (λ (f : ActorId → ActorState). f a) (sym starts)
      ∙ others_same t.timer u.timer (harts_of ws) (harts_of vs) (devices_of ds) (devices_of es) resting count (ap length harts_are)
      (long_map (λ (v : HartWorker Q). v.hart) vs ∙ worked.same ∙ many) device_count (length after)
      (after_long ∙ ap (λ (k : ℕ). suc (count + k)) (sym (long_map (λ (d : DeviceWorker Q). d.device) ds))) a none
      ∙ ap (λ (f : ActorId → ActorState). f a) ends

  followed : AreFollowed actor_wants actor_next (route_among size) OutFits (actors_of old) (actors_of new) js
  followed = are_followed size (actors_of old) (actors_of new) count after crew others

  -- the seat with all parts has noted just what the journals have
  noted_all : HasNoted v.round (index_among size) v (all_of js)
  noted_all =
      subst (λ (l : Layout). HasNoted v.round (index_among l) v (all_of js)) layout_is
      (subst (λ (l : List (ActorId × List Entry)). HasNoted v.round (index_among places.layout) v (all_of l)) journals_is noted)

  are_noted : AreNoted (index_among size) js v
  are_noted = record {
    indexed = noted_all.indexed;
    inside = noted_all.inside;
    same = subst (λ (l : List Entry). IsPermutation (map entry_of v.entries) l) noted_all.same (IsPermutation-refl (map entry_of v.entries));
  }

  is_index : IsIndex (index_among size) (length v.round.opens)
  is_index =
      subst (λ (k : ℕ). IsIndex (index_among size) k) (sym (as_many old.pages old.ports old.board v.round.opens laid.places_are)) (are_apart size)

  values : AreValues (λ (p : MachinePlace). p) (index_among size) v.round.opens list (places_of old) (places_of new)
  values =
      are_values old.pages pages old.ports ports old.board b pages_count ports_count v.round.opens list laid.places_are home

  run : IsRun place_touch actor_wants actor_next (route_among size) OutFits (places_of old) (places_of new) (actors_of old) (actors_of new) events
  run =
      legal_run place_touch actor_wants actor_next (route_among size) OutFits (places_of old) (places_of new) (actors_of old) (actors_of new) js
      (history place_touch (λ (p : MachinePlace). p) IsMade (index_among size) js v list is_index are_noted told) events
      (legal place_touch (λ (p : MachinePlace). p) IsMade (index_among size) js v list is_index are_noted told
      actor_wants actor_next (route_among size) (places_of old) (places_of new) (actors_of old) (actors_of new) followed values)
      ordered

  all_there : All (λ (e : Entry). IsThere count (length ds) e.actor) events
  all_there =
      All-permutation (λ (e : Entry). IsThere count (length ds) e.actor) (all_of js) events ordered.moved
      (All-from_recursion (λ (e : Entry). IsThere count (length ds) e.actor) (all_of js)
      (are_there size (actors_of old) (actors_of new) count after crew (length ds) (omega (arith, after_long))))

  few : length ds ≤ length (devices_left old.devices)
  few =
      let e = long_map device_left old.devices in
      let f = ap length devices_are in
      let g = length-append (devices_of ds) resting in
      let h = long_map (λ (d : DeviceWorker Q). d.device) ds in
      omega (arith, e, f, g, h)

  more_there : (xs : List Entry) → AllByRecursion (λ (e : Entry). IsThere count (length ds) e.actor) xs
      → AllByRecursion (λ (e : Entry). IsThere count (length (devices_left old.devices)) e.actor) xs
  more_there [] h = tt
  more_there (x ∷ xs) h = (there_more count (length ds) (length (devices_left old.devices)) x.actor few h.0, more_there xs h.1)

  reached : Reaches (standing_of old) events
  reached =
      reaches events (standing_of old) size count (length (devices_left old.devices)) refl refl refl are
      (more_there events (recursion_from_All (λ (e : Entry). IsThere count (length ds) e.actor) events all_there)) run.fresh

  came : layout_in new ≡ layout_in old
  came = λ i. record { pages = pages_count i; ports = ports_count i }

  arrived : reached.end ≡ standing_of new
  arrived =
      same_standing reached.end (standing_of new) (reached.layout ∙ sym came) (reached.harts ∙ sym harts_long)
      (λ p inner. sym (ap (λ (f : PlaceId → _). f p) reached.places) ∙ run.places p inner)
      (λ a. sym (ap (λ (f : ActorId → _). f a) reached.actors) ∙ run.actors a)

  mine : (a : ActorId) → of_actor a events ≡ journal_at a js
  mine a = to_journal js events followed.own followed.climb ordered a

  own_at : (i : ℕ) (x : Track Q) → slice_get after i ≡ Some x → of_actor (actor_of count i) events ≡ x.work.journal.items
  own_at i x is =
      let e : i ≡ 0 + i = omega arith in
      mine (actor_of count i) ∙ ap (λ (k : ℕ). journal_at (actor_of count k) js) e
      ∙ journal_there size (actors_of old) (actors_of new) count 0 after crew i x is

  timers : of_actor ActorId.Timer events ≡ u.track.work.journal.items
  timers = own_at 0 u.track refl

  -- the journal of a device
  device_there : (j : ℕ) (e : DeviceWorker Q) → slice_get es j ≡ Some e → slice_get after (suc (count + j)) ≡ Some e.track
  device_there j e is =
      let long : count ≡ length (hart_tracks vs) = sym many ∙ sym worked.same ∙ sym (long_map (λ (w : HartWorker Q). w.track) vs) in
      ap (λ (k : ℕ). slice_get (hart_tracks vs ++ device_tracks es) (k + j)) long ∙ behind (hart_tracks vs) (device_tracks es) j
      ∙ get_map (λ (d : DeviceWorker Q). d.track) es j e is

  devices_own : (j : ℕ) (e : DeviceWorker Q) → slice_get es j ≡ Some e → of_actor (ActorId.Device (0 + j)) events ≡ e.track.work.journal.items
  devices_own j e is =
      let first : 0 + j ≡ j = omega arith in
      ap (λ (k : ℕ). of_actor (ActorId.Device k) events) first
      ∙ ap (λ (a : ActorId). of_actor a events) (sym (device_id count j)) ∙ own_at (suc (count + j)) e.track (device_there j e is)

  new_there : (i : ℕ) → i < suc (count + length ds) → IsThere (length new.harts) (length (devices_left new.devices)) (actor_of count i)
  new_there i lt =
      let e = long_map device_left devices in
      let f = ap length devices_now in
      let g = length-append (devices_of es) resting in
      let h = long_map (λ (d : DeviceWorker Q). d.device) es in
      subst (λ (k : ℕ). IsThere k (length (devices_left new.devices)) (actor_of count i)) (sym harts_long)
      (there_more count (length ds) (length (devices_left new.devices)) (actor_of count i) (omega (arith, e, f, g, h, devices_as_long))
      (is_there count (length ds) i (omega (arith, lt))))

  stopped : (i : ℕ) (s : Stopped) (p q : Q) → slice_get (stops_from after) i ≡ Some s → slice_get (passes_of before ++ over) i ≡ Some p
      → slice_get (passes_of after ++ over) i ≡ Some q → IsStopped tally n old events new i s p q
  stopped i s p q stop first last =
      let h =
      stop_by serves tally places n (actors_of old) (actors_of new) count over (pool_of n old.pages) 0 before after hired.numbered
      (recursion_from_All (λ (w : Track Q). Begins n (pool_of n old.pages) w) before hired.begin) ended i s p q stop first last in
      let e : 0 + i ≡ i = omega arith in
      let actor : s.actor ≡ actor_of count i = h.actor_is ∙ ap (actor_of count) e in record {
        actor_is = actor;
        want = actor_wants (actors_of new (actor_of count i));
        wants = ap (want_in new) actor
            ∙ wants_there (standing_of new) (actor_of count i) (new_there i (subst (λ (k : ℕ). i < k) after_long (below after i h.track h.is_there)));
        cause = rw (ap (λ (a : ActorId). of_actor a events) actor ∙ own_at i h.track h.is_there)
            (same_cause (most_of i n) made_is layout_is
            (subst (λ (m : ℕ). HasCause (most_of m n) (pool_of n old.pages) places.made.items places.layout s.stop h.track.work.journal.items
            (actor_wants (actors_of new (actor_of count m))) (tally p) (tally q)) e h.cause));
      }

  serial : IsSerial old events new
  serial g is = let to = reached.serial g is in (to.0, to.1, subst (λ (s : Standing). IsStanding s to.0) arrived to.2)

  pub whole : IsSlice tally Answers n (length ds) asked now known left old events new stops passes later
  whole = record {
    serial = serial;
    there = all_there;
    stamps =
        stamped place_touch (λ (p : MachinePlace). p) IsMade (index_among size) js v list is_index are_noted told events
        (are_stamped size (actors_of old) (actors_of new) count after crew) ordered;
    marks = subst (λ (s : Standing). MarksFollow old.pages events s.pages) arrived reached.marks;
    stopped = record {
      count = ap length back.stops_are ∙ long_map (λ (x : Track Q). stop_of x) after ∙ after_long ∙ ap (λ (k : ℕ). suc (k + length ds)) (sym harts_long);
      each = λ i s p q stop first last. stopped i s p q (ap (λ l. slice_get l i) (sym back.stops_are) ∙ stop)
          (ap (λ l. slice_get l i) hired.passes_are ∙ first) (ap (λ l. slice_get l i) (sym back.passes_are) ∙ last);
    };
    clock = λ tells. (
      beside.timer.answers.still tells,
      subst (λ (l : List Entry). AreNext asked.left (answers_of l) now.left) (sym timers) (beside.timer.answers.are tells),
    );
    answered = answered_by serves tally Answers places n events 0 known left ds es numbers devices_own beside.devices;
    pages = subst (λ (s : Standing). ArePages 0 s.pages) arrived reached.pages;
    count = pages_count;
    ports = ports_count;
  }
