-- The actors of a slice as one list, each from where it stood to where it stands.
use Rattle.std.proofs.Common.{◌≡◌, ℕ, zero, suc, ◌+◌, ◌-◌, ◌<◌, ◌≤◌, nat_lt, Bool, true, false, cond, refl, sym, ap, ◌∙◌, subst, arith}
use Rattle.std.proofs.Common.{List, [], ◌∷◌, ◌++◌, length, map, get_or, slice_get, slice_index_or, Some}
use Rattle.std.proofs.lemmas.Bool.{lt-ltb, ltb-false, ltb-true}
use Rattle.vm_types.specs.declared.entry.Entry.{Entry}
use Rattle.vm_types.specs.declared.ids.ActorId.{ActorId}
use Rattle.vm_types.specs.declared.op.OutOp.{OutOp}
use Rattle.vm_types.specs.declared.reply.Reply.{Reply}
use Rattle.vm_types.specs.Ids.{same_actor}
use Rattle.vm_types.specs.Serial.{Follows}
use Rattle.guest_devices.specs.declared.device.Device.{Device}
use Rattle.guest_devices.specs.Devices.{DeviceLeft, device_next, device_wants}
use Rattle.guest_devices.specs.Kept.{device_left, devices_left}
use Rattle.hart_trace.specs.States.{Hart, fresh, hart_next, hart_wants}
use Rattle.hart_trace.specs.Stopped.{stopped_regs}
use Rattle.timer_trace.specs.declared.timer.Timer.{Timer}
use Rattle.timer_trace.specs.States.{timer_next, timer_wants}
use Rattle.pause_gate.specs.Tally.{Tally}
use Rattle.stamp_merge.proofs.Serial.{same_actor-refl}
use Rattle.vm_host.specs.Telling.{ClockKnown}
use Rattle.slice_runner.specs.declared.places.Places.{Places}
use Rattle.slice_runner.specs.declared.worker.DeviceWorker.{DeviceWorker}
use Rattle.slice_runner.specs.declared.worker.HartWorker.{HartWorker}
use Rattle.slice_runner.specs.declared.worker.TimerWorker.{TimerWorker}
use Rattle.slice_runner.specs.declared.worker.Track.{Track}
use Rattle.slice_runner.specs.Ends.{BesideEnds, DeviceEnds, DevicesWorked, HartEnds, HartsWorked, TimerEnds}
use Rattle.slice_runner.specs.Runs.{HasRun, HasWorked}
use Rattle.slice_runner.specs.Seats.{StaysSeated}
use Rattle.slice_runner.specs.Staff.{AreNumbered, device_tracks, devices_of, hart_tracks, harts_of, tracks_of}
use Rattle.slice_runner.specs.Stops.{actor_of, most_of}
use Rattle.slice_runner.specs.Values.{ActorState, DeviceIs, HartIs, TimerIs, actor_among, actor_next, actor_wants, device_or_none, hart_or_none}
use Rattle.slice_runner.proofs.Crew.{Crew}

-- ---- an actor of any kind ends a slice

pub record Ended {Q : Type 0} (serves : Q → Type 0) (tally : Q → Tally) (places : Places) (n : ℕ) (s t : ActorState) (before after : Track Q) :
    Type 0 where
  pub pass : serves after.pass
  pub seat : StaysSeated places before.work after.work
  pub worked : HasWorked actor_wants actor_next tally places.layout places.made.items n s t before after

timer_follows : (s t : Timer) (es : List Entry) → Follows timer_wants timer_next s es t → Follows actor_wants actor_next (TimerIs s) es (TimerIs t)
timer_follows s t [] h = ap TimerIs h
timer_follows s t (e ∷ es) h = (h.0, timer_follows (timer_next s e.reply) t es h.1)

hart_follows : (s t : Hart) (es : List Entry) → Follows hart_wants hart_next s es t → Follows actor_wants actor_next (HartIs s) es (HartIs t)
hart_follows s t [] h = ap HartIs h
hart_follows s t (e ∷ es) h = (h.0, hart_follows (hart_next s e.reply) t es h.1)

device_follows : (s t : DeviceLeft) (es : List Entry) → Follows device_wants device_next s es t
    → Follows actor_wants actor_next (DeviceIs s) es (DeviceIs t)
device_follows s t [] h = ap DeviceIs h
device_follows s t (e ∷ es) h = (h.0, device_follows (device_next s e.reply) t es h.1)

timer_ended : {Q : Type 0} (serves : Q → Type 0) (tally : Q → Tally) (places : Places) (n : ℕ) (asked now : ClockKnown)
    (before after : TimerWorker Q) → TimerEnds serves tally places n asked now before after
    → Ended serves tally places n (TimerIs before.timer) (TimerIs after.timer) before.track after.track
timer_ended serves tally places n asked now before after ends =
    let ran = ends.worked.ran in record {
      pass = ends.pass;
      seat = ends.seat;
      worked = record {
        same = ends.worked.same;
        ran = record {
          follows = timer_follows before.timer after.timer after.track.work.journal.items ran.follows;
          stamped = ran.stamped;
          last = ran.last;
          own = ran.own;
          placed = ran.placed;
          out = ran.out;
        };
        cause = ends.worked.cause;
      };
    }

hart_ended : {Q : Type 0} (serves : Q → Type 0) (tally : Q → Tally) (places : Places) (n : ℕ) (before after : HartWorker Q)
    → HartEnds serves tally places n before after
    → Ended serves tally places n (HartIs before.hart) (HartIs after.hart) before.track after.track
hart_ended serves tally places n before after ends =
    let ran = ends.worked.ran in record {
      pass = ends.pass;
      seat = ends.seat;
      worked = record {
        same = ends.worked.same;
        ran = record {
          follows = hart_follows before.hart after.hart after.track.work.journal.items ran.follows;
          stamped = ran.stamped;
          last = ran.last;
          own = ran.own;
          placed = ran.placed;
          out = ran.out;
        };
        cause = ends.worked.cause;
      };
    }

device_ended : {Q K : Type 0} (serves : Q → Type 0) (tally : Q → Tally) (Answers : ℕ → OutOp → Reply → K → K → Type 0) (places : Places) (n : ℕ)
    (known left : K) (before after : DeviceWorker Q) → DeviceEnds serves tally Answers places n known left before after
    → Ended serves tally places n (DeviceIs (device_left before.device)) (DeviceIs (device_left after.device)) before.track after.track
device_ended serves tally Answers places n known left before after ends =
    let ran = ends.worked.ran in record {
      pass = ends.pass;
      seat = ends.seat;
      worked = record {
        same = ends.worked.same;
        ran = record {
          follows = device_follows (device_left before.device) (device_left after.device) after.track.work.journal.items ran.follows;
          stamped = ran.stamped;
          last = ran.last;
          own = ran.own;
          placed = ran.placed;
          out = ran.out;
        };
        cause = ends.worked.cause;
      };
    }

-- ---- where the actor of each place stands

hart_state : (t : Timer) (hs : List Hart) (ls : List DeviceLeft) (harts p : ℕ) → p < harts
    → actor_among t hs ls (actor_of harts (suc p)) ≡ HartIs (hart_or_none hs p)
hart_state t hs ls harts p lt =
    ap (λ (b : Bool). actor_among t hs ls (cond b (ActorId.Hart p) (ActorId.Device (p - harts)))) (lt-ltb p harts lt)

not_below : (harts p : ℕ) (t : Bool) → nat_lt (harts + p) harts ≡ t → t ≡ false
not_below harts p true is = let lt = ltb-true (harts + p) harts is in absurd (omega (arith, lt))
not_below harts p false is = refl

pub device_id : (harts p : ℕ) → actor_of harts (suc (harts + p)) ≡ ActorId.Device p
device_id harts p =
    let none : nat_lt (harts + p) harts ≡ false = not_below harts p (nat_lt (harts + p) harts) refl in
    let e : harts + p - harts ≡ p = omega arith in
    ap (λ (b : Bool). cond b (ActorId.Hart (harts + p)) (ActorId.Device (harts + p - harts))) none ∙ ap (λ (k : ℕ). ActorId.Device k) e

-- ---- all actors, from the one at place k on

abbrev pub AreEnded : {Q : Type 0} → (Q → Type 0) → (Q → Tally) → Places → ℕ → (ActorId → ActorState) → (ActorId → ActorState) → ℕ → ℕ
    → List (Track Q) → List (Track Q) → Type 0
AreEnded serves tally places n start lasts harts k [] [] = Unit {0}
AreEnded serves tally places n start lasts harts k (w ∷ ws) (v ∷ vs) =
    Ended serves tally places (most_of k n) (start (actor_of harts k)) (lasts (actor_of harts k)) w v
    × AreEnded serves tally places n start lasts harts (suc k) ws vs
AreEnded serves tally places n start lasts harts k ws vs = ⊥

-- with other names for where they stand
ended_as : {Q : Type 0} (serves : Q → Type 0) (tally : Q → Tally) (places : Places) (n : ℕ) (s t x y : ActorState) (w v : Track Q)
    → x ≡ s → y ≡ t → Ended serves tally places n s t w v → Ended serves tally places n x y w v
ended_as serves tally places n s t x y w v from to ended =
    subst (λ (a : ActorState). Ended serves tally places n a y w v) (sym from)
    (subst (λ (a : ActorState). Ended serves tally places n s a w v) (sym to) ended)

module _ {Q : Type 0} (serves : Q → Type 0) (tally : Q → Tally) (places : Places) (n : ℕ) (t u : Timer) (hs gs : List Hart) (ls ms : List DeviceLeft) (harts : ℕ) where
  abbrev start : ActorId → ActorState
  start = actor_among t hs ls

  abbrev lasts : ActorId → ActorState
  lasts = actor_among u gs ms

  harts_ended : (p : ℕ) (ws vs : List (HartWorker Q)) (bs cs : List (Track Q)) → p + length ws ≡ harts → length vs ≡ length ws
      → ((i : ℕ) (d : HartWorker Q) → i < length ws → HartEnds serves tally places n (slice_index_or ws i d) (slice_index_or vs i d))
      → ((j : ℕ) → j < length ws → hart_or_none hs (p + j) ≡ hart_or_none (harts_of ws) j)
      → ((j : ℕ) → j < length ws → hart_or_none gs (p + j) ≡ hart_or_none (harts_of vs) j)
      → AreEnded serves tally places n start lasts harts (suc harts) bs cs
      → AreEnded serves tally places n start lasts harts (suc p) (hart_tracks ws ++ bs) (hart_tracks vs ++ cs)
  harts_ended p [] [] bs cs all long each from to rest =
      let e : suc harts ≡ suc p = omega (arith, all) in
      subst (λ (k : ℕ). AreEnded serves tally places n start lasts harts k bs cs) e rest
  harts_ended p [] (v ∷ vs) bs cs all long each from to rest = absurd (omega (arith, long))
  harts_ended p (w ∷ ws) [] bs cs all long each from to rest = absurd (omega (arith, long))
  harts_ended p (w ∷ ws) (v ∷ vs) bs cs all long each from to rest =
      let one : 0 < length (w ∷ ws) = omega arith in
      let first : HartEnds serves tally places n w v = each 0 w one in
      let lt : p < harts = omega (arith, all) in
      let e : p ≡ p + 0 = omega arith in
      let more : (i : ℕ) → i < length ws → suc i < length (w ∷ ws) = λ i below. omega (arith, below) in
      let moved : (i : ℕ) → suc p + i ≡ p + suc i = λ i. omega arith in (
        ended_as serves tally places n (HartIs w.hart) (HartIs v.hart) (start (actor_of harts (suc p))) (lasts (actor_of harts (suc p))) w.track v.track
            (hart_state t hs ls harts p lt ∙ ap (λ (k : ℕ). HartIs (hart_or_none hs k)) e ∙ ap HartIs (from 0 one))
            (hart_state u gs ms harts p lt ∙ ap (λ (k : ℕ). HartIs (hart_or_none gs k)) e ∙ ap HartIs (to 0 one))
            (hart_ended serves tally places n w v first),
        harts_ended (suc p) ws vs bs cs (omega (arith, all)) (omega (arith, long)) (λ i d below. each (suc i) d (more i below))
            (λ i below. ap (hart_or_none hs) (moved i) ∙ from (suc i) (more i below))
            (λ i below. ap (hart_or_none gs) (moved i) ∙ to (suc i) (more i below)) rest,
      )

  device_state : (x : Timer) (xs : List Hart) (ys : List DeviceLeft) (p : ℕ) (left : DeviceLeft) → slice_get ys p ≡ Some left
      → actor_among x xs ys (actor_of harts (suc (harts + p))) ≡ DeviceIs left
  device_state x xs ys p left is = ap (actor_among x xs ys) (device_id harts p) ∙ ap device_or_none is

  devices_ended : {K : Type 0} (Answers : ℕ → OutOp → Reply → K → K → Type 0) (known left : K) (p : ℕ) (ds es : List (DeviceWorker Q))
      → ((j : ℕ) (d : DeviceWorker Q) → slice_get ds j ≡ Some d → slice_get ls (p + j) ≡ Some (device_left d.device))
      → ((j : ℕ) (d : DeviceWorker Q) → slice_get es j ≡ Some d → slice_get ms (p + j) ≡ Some (device_left d.device))
      → DevicesWorked serves tally Answers places n known left ds es
      → AreEnded serves tally places n start lasts harts (suc (harts + p)) (device_tracks ds) (device_tracks es)
  devices_ended Answers known left p [] [] from to worked = tt
  devices_ended Answers known left p [] (e ∷ es) from to worked = absurd worked
  devices_ended Answers known left p (d ∷ ds) [] from to worked = absurd worked
  devices_ended Answers known left p (d ∷ ds) (e ∷ es) from to worked =
      let same : p ≡ p + 0 = omega arith in
      let moved : (i : ℕ) → suc p + i ≡ p + suc i = λ i. omega arith in
      let next : suc (harts + suc p) ≡ suc (suc (harts + p)) = omega arith in (
        ended_as serves tally places n (DeviceIs (device_left d.device)) (DeviceIs (device_left e.device)) (start (actor_of harts (suc (harts + p))))
            (lasts (actor_of harts (suc (harts + p)))) d.track e.track
            (device_state t hs ls p (device_left d.device) (ap (slice_get ls) same ∙ from 0 d refl))
            (device_state u gs ms p (device_left e.device) (ap (slice_get ms) same ∙ to 0 e refl))
            (device_ended serves tally Answers places n known worked.0 d e worked.1),
        subst (λ (k : ℕ). AreEnded serves tally places n start lasts harts k (device_tracks ds) (device_tracks es)) next
            (devices_ended Answers worked.0 left (suc p) ds es (λ j x is. ap (slice_get ls) (moved j) ∙ from (suc j) x is)
            (λ j x is. ap (slice_get ms) (moved j) ∙ to (suc j) x is) worked.2),
      )

-- what stands at a device's number
left_here : {Q : Type 0} (ds : List (DeviceWorker Q)) (resting : List Device) (j : ℕ) (d : DeviceWorker Q) → slice_get ds j ≡ Some d
    → slice_get (devices_left (devices_of ds ++ resting)) j ≡ Some (device_left d.device)
left_here [] resting j d is = cc
left_here (x ∷ ds) resting zero d is =
    let same : x ≡ d = cc in ap (λ (z : DeviceWorker _). Some (device_left z.device)) same
left_here (x ∷ ds) resting (suc j) d is = left_here ds resting j d is

left_at : {Q : Type 0} (ds : List (DeviceWorker Q)) (resting : List Device) (j : ℕ) (d : DeviceWorker Q) → slice_get ds j ≡ Some d
    → slice_get (devices_left (devices_of ds ++ resting)) (0 + j) ≡ Some (device_left d.device)
left_at ds resting j d is =
    let e : 0 + j ≡ j = omega arith in ap (slice_get (devices_left (devices_of ds ++ resting))) e ∙ left_here ds resting j d is

module _ {Q K : Type 0} (serves : Q → Type 0) (tally : Q → Tally) (Answers : ℕ → OutOp → Reply → K → K → Type 0) (places : Places) (n : ℕ)
    (asked now : ClockKnown) (known left : K) (t u : TimerWorker Q) (ws vs : List (HartWorker Q)) (ds es : List (DeviceWorker Q))
    (resting : List Device) (beside : BesideEnds serves tally Answers places n asked now known left t u ds es)
    (worked : HartsWorked serves tally places n ws vs) where
  abbrev pub begins_at : ActorId → ActorState
  begins_at = actor_among t.timer (harts_of ws) (devices_left (devices_of ds ++ resting))

  abbrev pub ends_at : ActorId → ActorState
  ends_at = actor_among u.timer (harts_of vs) (devices_left (devices_of es ++ resting))

  pub all_ended : AreEnded serves tally places n begins_at ends_at (length ws) 0 (tracks_of t ws ds) (tracks_of u vs es)
  all_ended =
      let first : (j : ℕ) → 0 + j ≡ j = λ j. omega arith in
      let none : suc (length ws + 0) ≡ suc (length ws) = omega arith in
      let all : 0 + length ws ≡ length ws = omega arith in (
        timer_ended serves tally places (most_of 0 n) asked now t u beside.timer,
        harts_ended serves tally places n t.timer u.timer (harts_of ws) (harts_of vs) (devices_left (devices_of ds ++ resting)) (devices_left (devices_of es ++ resting)) (length ws)
            0 ws vs (device_tracks ds) (device_tracks es) all worked.same worked.each (λ j lt. ap (hart_or_none (harts_of ws)) (first j)) (λ j lt. ap (hart_or_none (harts_of vs)) (first j))
            (subst (λ (k : ℕ). AreEnded serves tally places n begins_at ends_at (length ws) k (device_tracks ds) (device_tracks es)) none
            (devices_ended serves tally places n t.timer u.timer (harts_of ws) (harts_of vs) (devices_left (devices_of ds ++ resting)) (devices_left (devices_of es ++ resting)) (length ws)
            Answers known left 0 ds es (left_at ds resting) (left_at es resting) beside.devices)),
      )

-- ---- an actor that is none of them stays as it is

past_end : {A : Type 0} (xs : List A) (k : ℕ) (d : A) → length xs ≤ k → get_or xs k d ≡ d
past_end [] k d far = refl
past_end (x ∷ xs) zero d far = absurd (omega (arith, far))
past_end (x ∷ xs) (suc k) d far = past_end xs k d (omega (arith, far))

get_past : {A B : Type 0} (f : A → B) (xs ys rest : List A) (k : ℕ) → length ys ≡ length xs → length xs ≤ k
    → slice_get (map f (xs ++ rest)) k ≡ slice_get (map f (ys ++ rest)) k
get_past f [] [] rest k long far = refl
get_past f [] (y ∷ ys) rest k long far = absurd (omega (arith, long))
get_past f (x ∷ xs) [] rest k long far = absurd (omega (arith, long))
get_past f (x ∷ xs) (y ∷ ys) rest zero long far = absurd (omega (arith, far))
get_past f (x ∷ xs) (y ∷ ys) rest (suc k) long far = get_past f xs ys rest k (omega (arith, long)) (omega (arith, far))

pub long_map : {A B : Type 0} (f : A → B) (xs : List A) → length (map f xs) ≡ length xs
long_map f [] = refl
long_map f (x ∷ xs) = let e = long_map f xs in omega (arith, e)

module _ (t u : Timer) (hs gs : List Hart) (xs ys rest : List Device) (harts : ℕ) (first : length hs ≡ harts) (last : length gs ≡ harts) (long : length ys ≡ length xs) where
  abbrev from_states : ActorId → ActorState
  from_states = actor_among t hs (devices_left (xs ++ rest))

  abbrev to_states : ActorId → ActorState
  to_states = actor_among u gs (devices_left (ys ++ rest))

  hart_same : (k : ℕ) (b : Bool) → nat_lt k harts ≡ b → (k < harts → ⊥) → hart_or_none hs k ≡ hart_or_none gs k
  hart_same k true is not = absurd (not (ltb-true k harts is))
  hart_same k false is not =
      let far = ltb-false k harts is in
      past_end hs k (fresh stopped_regs) (omega (arith, far, first)) ∙ sym (past_end gs k (fresh stopped_regs) (omega (arith, far, last)))

  device_same : (k : ℕ) (b : Bool) → nat_lt k (length xs) ≡ b → (k < length xs → ⊥)
      → slice_get (devices_left (xs ++ rest)) k ≡ slice_get (devices_left (ys ++ rest)) k
  device_same k true is not = absurd (not (ltb-true k (length xs) is))
  device_same k false is not = get_past device_left xs ys rest k long (ltb-false k (length xs) is)

  hart_id : (k : ℕ) → k < harts → actor_of harts (suc k) ≡ ActorId.Hart k
  hart_id k lt = ap (λ (b : Bool). cond b (ActorId.Hart k) (ActorId.Device (k - harts))) (lt-ltb k harts lt)

  clash : (a b : ActorId) → a ≡ b → same_actor a b ≡ false → ⊥
  clash a b is not =
      let both = sym (ap (λ (x : ActorId). same_actor x b) is ∙ same_actor-refl b) ∙ not in cc

  pub others_same : (count : ℕ) → count ≡ suc (harts + length xs) → (a : ActorId)
      → ((j : ℕ) → 0 ≤ j → j < 0 + count → same_actor (actor_of harts j) a ≡ false) → from_states a ≡ to_states a
  others_same count all ActorId.Timer none =
      absurd (clash ActorId.Timer ActorId.Timer refl (none 0 (omega arith) (omega (arith, all))))
  others_same count all (ActorId.Hart k) none =
      ap HartIs (hart_same k (nat_lt k harts) refl
      (λ lt. clash (actor_of harts (suc k)) (ActorId.Hart k) (hart_id k lt) (none (suc k) (omega arith) (omega (arith, all, lt)))))
  others_same count all (ActorId.Device k) none =
      ap device_or_none (device_same k (nat_lt k (length xs)) refl
      (λ lt. clash (actor_of harts (suc (harts + k))) (ActorId.Device k) (device_id harts k) (none (suc (harts + k)) (omega arith) (omega (arith, all, lt)))))

-- ---- they are a crew

pub crew_by : {Q : Type 0} (serves : Q → Type 0) (tally : Q → Tally) (places : Places) (n : ℕ) (start lasts : ActorId → ActorState) (harts k : ℕ)
    (ws vs : List (Track Q)) → AreNumbered harts k ws → AreEnded serves tally places n start lasts harts k ws vs
    → Crew places.layout start lasts harts k vs
crew_by serves tally places n start lasts harts k [] [] ids ended = tt
crew_by serves tally places n start lasts harts k [] (v ∷ vs) ids ended = absurd ended
crew_by serves tally places n start lasts harts k (w ∷ ws) [] ids ended = absurd ended
crew_by serves tally places n start lasts harts k (w ∷ ws) (v ∷ vs) ids ended = (
  ended.0.worked.same ∙ ids.0,
  subst (λ (a : ActorId). HasRun actor_wants actor_next places.layout a (start (actor_of harts k)) v.work.journal.items (lasts (actor_of harts k)) v.work.clock)
      ids.0 ended.0.worked.ran,
  crew_by serves tally places n start lasts harts (suc k) ws vs ids.1 ended.1,
)
