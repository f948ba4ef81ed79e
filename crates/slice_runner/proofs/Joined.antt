-- Actors that go to work are ready, and what they leave has room.
use Rattle.std.proofs.Common.{◌≡◌, ℕ, zero, suc, ◌+◌, ◌*◌, ◌≤◌, refl, sym, ap, ◌∙◌, subst, arith, All, le_trans}
use Rattle.std.proofs.Common.{List, [], ◌∷◌, ◌++◌, length, map, length-append}
use Rattle.std.proofs.Math.Nat.{min-le_left}
use Rattle.std.specs.List.{AllByRecursion}
use Rattle.std.proofs.lemmas.List.Elements.{All-from_recursion, recursion_from_All}
use Rattle.vm_types.specs.declared.entry.Entry.{Entry}
use Rattle.vm_types.specs.declared.ids.ActorId.{ActorId}
use Rattle.vm_types.specs.declared.op.OutOp.{OutOp}
use Rattle.vm_types.specs.declared.reply.Reply.{Reply}
use Rattle.vm_host.specs.Telling.{ClockKnown}
use Rattle.pause_gate.specs.Tally.{Tally}
use Rattle.stamp_merge.specs.declared.journal.Journal.{Journal}
use Rattle.stamp_merge.specs.Journals.{all_of}
use Rattle.stamp_merge.specs.Merged.{journals_of}
use Rattle.turn_table.specs.declared.view.Round.{Round}
use Rattle.machine_places.specs.declared.place.MachinePlace.{MachinePlace}
use Rattle.slice_runner.specs.declared.places.Places.{Places}
use Rattle.slice_runner.specs.declared.stop.Stopped.{Stopped}
use Rattle.slice_runner.specs.declared.worker.DeviceWorker.{DeviceWorker}
use Rattle.slice_runner.specs.declared.worker.HartWorker.{HartWorker}
use Rattle.slice_runner.specs.declared.worker.TimerWorker.{TimerWorker}
use Rattle.slice_runner.specs.declared.worker.Track.{Track}
use Rattle.slice_runner.specs.Ends.{BesideEnds, HartsWorked, IsReady}
use Rattle.slice_runner.specs.Runs.{Begins}
use Rattle.slice_runner.specs.Seats.{IsSeatedIn}
use Rattle.slice_runner.specs.Staff.{AreBack, AreHired, AreSeated, device_tracks, hart_tracks, passes_of, tracks_of}
use Rattle.slice_runner.specs.Stops.{most_of}
use Rattle.slice_runner.specs.Values.{ActorState}
use Rattle.slice_runner.proofs.Crew.{journals_are, track_journals}
use Rattle.slice_runner.proofs.Ending.{AreEnded, all_ended, begins_at, ends_at, long_map}
use Rattle.slice_runner.proofs.Seats.{seated_still}
use Rattle.slice_runner.proofs.Staff.{begins_own}

parts_of : {A : Type 0} (P : A → Type 0) (xs ys : List A) → AllByRecursion P (xs ++ ys) → AllByRecursion P xs × AllByRecursion P ys
parts_of P [] ys h = (tt, h)
parts_of P (x ∷ xs) ys h = let rest = parts_of P xs ys h.1 in ((h.0, rest.0), rest.1)

join_of : {A : Type 0} (P : A → Type 0) (xs ys : List A) → AllByRecursion P xs → AllByRecursion P ys → AllByRecursion P (xs ++ ys)
join_of P [] ys h k = k
join_of P (x ∷ xs) ys h k = (h.0, join_of P xs ys h.1 k)

-- what holds of each item's image
of_map : {A B : Type 0} (f : A → B) (P : B → Type 0) (xs : List A) → AllByRecursion P (map f xs) → AllByRecursion (λ (x : A). P (f x)) xs
of_map f P [] h = tt
of_map f P (x ∷ xs) h = (h.0, of_map f P xs h.1)

module _ {Q : Type 0} (serves : Q → Type 0) (places : Places) (round : Round MachinePlace) (n blanks : ℕ) where
  ready_by : (ts : List (Track Q)) → AllByRecursion (λ (t : Track Q). Begins n blanks t) ts
      → AllByRecursion (λ (t : Track Q). IsSeatedIn places round t.work) ts
      → AllByRecursion serves (passes_of ts) → AllByRecursion (λ (t : Track Q). IsReady serves places n t) ts
  ready_by [] begin seated served = tt
  ready_by (t ∷ ts) begin seated served =
      (record { pass = served.0; seat = seated.0.seat; begins = begins_own n blanks t begin.0 }, ready_by ts begin.1 seated.1 served.1)

module _ {Q : Type 0} (serves : Q → Type 0) (places : Places) (round : Round MachinePlace) (n blanks harts : ℕ) (passes : List Q)
    (timer : TimerWorker Q) (ws : List (HartWorker Q)) (ds : List (DeviceWorker Q)) (left : List Q)
    (hired : AreHired n blanks harts passes (tracks_of timer ws ds) left)
    (seated : AreSeated places round (tracks_of timer ws ds)) (served : All serves passes) where
  both : AllByRecursion serves (passes_of (tracks_of timer ws ds)) × AllByRecursion serves left
  both =
      parts_of serves (passes_of (tracks_of timer ws ds)) left
      (subst (AllByRecursion serves) (sym hired.passes_are) (recursion_from_All serves passes served))

  ready : AllByRecursion (λ (t : Track Q). IsReady serves places n t) (tracks_of timer ws ds)
  ready =
      ready_by serves places round n blanks (tracks_of timer ws ds)
      (recursion_from_All (λ (t : Track Q). Begins n blanks t) (tracks_of timer ws ds) hired.begin)
      (recursion_from_All (λ (t : Track Q). IsSeatedIn places round t.work) (tracks_of timer ws ds) seated) both.0

  pub timer_ready : IsReady serves places n timer.track
  timer_ready = ready.0

  pub harts_ready : All (λ (w : HartWorker Q). IsReady serves places n w.track) ws
  harts_ready =
      All-from_recursion (λ (w : HartWorker Q). IsReady serves places n w.track) ws
      (of_map (λ (w : HartWorker Q). w.track) (λ (t : Track Q). IsReady serves places n t) ws
      (parts_of (λ (t : Track Q). IsReady serves places n t) (hart_tracks ws) (device_tracks ds) ready.1).0)

  pub devices_ready : All (λ (d : DeviceWorker Q). IsReady serves places n d.track) ds
  devices_ready =
      All-from_recursion (λ (d : DeviceWorker Q). IsReady serves places n d.track) ds
      (of_map (λ (d : DeviceWorker Q). d.track) (λ (t : Track Q). IsReady serves places n t) ds
      (parts_of (λ (t : Track Q). IsReady serves places n t) (hart_tracks ws) (device_tracks ds) ready.1).1)

  pub left_served : AllByRecursion serves left
  left_served = both.1

  pub as_many : length (tracks_of timer ws ds) + length left ≡ length passes
  as_many =
      let e = ap length hired.passes_are in
      let f = length-append (passes_of (tracks_of timer ws ds)) left in
      let g = long_map (λ (t : Track Q). t.pass) (tracks_of timer ws ds) in
      omega (arith, e, f, g)

module _ {Q : Type 0} (serves : Q → Type 0) (tally : Q → Tally) (places : Places) (n : ℕ) (start lasts : ActorId → ActorState) (harts : ℕ) where
  served_by : (k : ℕ) (ws vs : List (Track Q)) → AreEnded serves tally places n start lasts harts k ws vs → AllByRecursion serves (passes_of vs)
  served_by k [] [] ended = tt
  served_by k [] (v ∷ vs) ended = absurd ended
  served_by k (w ∷ ws) [] ended = absurd ended
  served_by k (w ∷ ws) (v ∷ vs) ended = (ended.0.pass, served_by (suc k) ws vs ended.1)

  seated_by : (round : Round MachinePlace) (k : ℕ) (ws vs : List (Track Q)) → AreEnded serves tally places n start lasts harts k ws vs
      → AllByRecursion (λ (t : Track Q). IsSeatedIn places round t.work) ws → AllByRecursion (λ (t : Track Q). IsSeatedIn places round t.work) vs
  seated_by round k [] [] ended seated = tt
  seated_by round k [] (v ∷ vs) ended seated = absurd ended
  seated_by round k (w ∷ ws) [] ended seated = absurd ended
  seated_by round k (w ∷ ws) (v ∷ vs) ended seated =
      (seated_still places round w.work v.work seated.0.round_is ended.0.seat, seated_by round (suc k) ws vs ended.1 seated.1)

  long_by : (k : ℕ) (ws vs : List (Track Q)) → AreEnded serves tally places n start lasts harts k ws vs → length vs ≡ length ws
  long_by k [] [] ended = refl
  long_by k [] (v ∷ vs) ended = absurd ended
  long_by k (w ∷ ws) [] ended = absurd ended
  long_by k (w ∷ ws) (v ∷ vs) ended = ap suc (long_by (suc k) ws vs ended.1)

  one_more : (k : ℕ) → suc k * n ≡ n + k * n
  one_more k = omega arith

  most_below : (k : ℕ) → most_of k n ≤ n
  most_below zero = min-le_left n 2
  most_below (suc k) = omega arith

  bound_by : (k : ℕ) (ws vs : List (Track Q)) → AreEnded serves tally places n start lasts harts k ws vs
      → length (all_of (track_journals vs)) ≤ length vs * n
  bound_by k [] [] ended = omega arith
  bound_by k [] (v ∷ vs) ended = absurd ended
  bound_by k (w ∷ ws) [] ended = absurd ended
  bound_by k (w ∷ ws) (v ∷ vs) ended =
      let most = le_trans ended.0.worked.cause.most (most_below k) in
      let rest = bound_by (suc k) ws vs ended.1 in
      let whole = length-append v.work.journal.items (all_of (track_journals vs)) in
      let product = one_more (length vs) in
      omega (arith, most, rest, whole, product)

  module _ (ws vs : List (Track Q)) (ended : AreEnded serves tally places n start lasts harts 0 ws vs) where
    pub as_long : length vs ≡ length ws
    as_long = long_by 0 ws vs ended

    -- each actor is in its seat still
    pub still_seated : (round : Round MachinePlace) → AreSeated places round ws → AreSeated places round vs
    still_seated round seated =
        All-from_recursion (λ (t : Track Q). IsSeatedIn places round t.work) vs
        (seated_by round 0 ws vs ended (recursion_from_All (λ (t : Track Q). IsSeatedIn places round t.work) ws seated))

    module _ (left later : List Q) (journals : List Journal) (stops : List Stopped) (back : AreBack vs left later journals stops) where
      pub back_served : AllByRecursion serves left → All serves later
      back_served served =
          All-from_recursion serves later
          (subst (AllByRecursion serves) (sym back.passes_are) (join_of serves (passes_of vs) left (served_by 0 ws vs ended) served))

      pub back_many : length later ≡ length ws + length left
      back_many =
          let e = ap length back.passes_are in
          let f = length-append (passes_of vs) left in
          let g = long_map (λ (t : Track Q). t.pass) vs in
          let h = as_long in
          omega (arith, e, f, g, h)

      pub journals_bound : length (all_of (journals_of journals)) ≤ length vs * n
      journals_bound =
          let is = ap (λ (l : List Journal). length (all_of (journals_of l))) back.journals_are
          ∙ ap (λ (l : List (ActorId × List Entry)). length (all_of l)) (journals_are vs) in
          let rest = bound_by 0 ws vs ended in
          omega (arith, is, rest)

-- ---- of all actors of a slice

module _ {Q K : Type 0} (serves : Q → Type 0) (tally : Q → Tally) (Answers : ℕ → OutOp → Reply → K → K → Type 0) (places : Places) (n : ℕ)
    (asked now : ClockKnown) (known left : K) (t u : TimerWorker Q) (ws vs : List (HartWorker Q)) (ds es : List (DeviceWorker Q))
    (beside : BesideEnds serves tally Answers places n asked now known left t u ds es) (worked : HartsWorked serves tally places n ws vs) where
  abbrev from : ActorId → ActorState
  from = begins_at serves tally Answers places n asked now known left t u ws vs ds es [] beside worked

  abbrev to : ActorId → ActorState
  to = ends_at serves tally Answers places n asked now known left t u ws vs ds es [] beside worked

  ended : AreEnded serves tally places n from to (length ws) 0 (tracks_of t ws ds) (tracks_of u vs es)
  ended = all_ended serves tally Answers places n asked now known left t u ws vs ds es [] beside worked

  pub after_long : length (tracks_of u vs es) ≡ length (tracks_of t ws ds)
  after_long = as_long serves tally places n from to (length ws) (tracks_of t ws ds) (tracks_of u vs es) ended

  pub after_seated : (round : Round MachinePlace) → AreSeated places round (tracks_of t ws ds) → AreSeated places round (tracks_of u vs es)
  after_seated round seated = still_seated serves tally places n from to (length ws) (tracks_of t ws ds) (tracks_of u vs es) ended round seated

  module _ (over later : List Q) (journals : List Journal) (stops : List Stopped) (back : AreBack (tracks_of u vs es) over later journals stops) where
    pub all_served : AllByRecursion serves over → All serves later
    all_served served =
        back_served serves tally places n from to (length ws) (tracks_of t ws ds) (tracks_of u vs es) ended over later journals stops back served

    pub all_many : length later ≡ length (tracks_of t ws ds) + length over
    all_many = back_many serves tally places n from to (length ws) (tracks_of t ws ds) (tracks_of u vs es) ended over later journals stops back

    pub all_bound : length (all_of (journals_of journals)) ≤ length (tracks_of u vs es) * n
    all_bound = journals_bound serves tally places n from to (length ws) (tracks_of t ws ds) (tracks_of u vs es) ended over later journals stops back

-- how many there are
pub tracks_long : {Q : Type 0} (t : TimerWorker Q) (ws : List (HartWorker Q)) (ds : List (DeviceWorker Q))
    → length (tracks_of t ws ds) ≡ length ws + (length ds + 1)
tracks_long t ws ds =
    let e = length-append (hart_tracks ws) (device_tracks ds) in
    let f = long_map (λ (w : HartWorker _). w.track) ws in
    let g = long_map (λ (d : DeviceWorker _). d.track) ds in
    omega (arith, e, f, g)
