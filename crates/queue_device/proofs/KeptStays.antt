-- What is left of a device in a state that it may be in is confined, and tells the device's data.
use Rattle.std.proofs.Common.{◌≡◌, ℕ, ◌^◌, ◌<◌, refl, sym, ap, subst, ◌∙◌, Bool, true, false, if◌then◌else◌, inr, Some, None, IfSome, ◌==◌, Option}
use Rattle.std.proofs.lemmas.Bool.{and_from, and_parts}
use Rattle.vm_types.specs.declared.op.Op.{Op}
use Rattle.vm_types.specs.declared.op.OutOp.{OutOp}
use Rattle.device_trace.specs.Acts.{IsAskedBy}
use Rattle.device_trace.specs.Doing.{Doing, Gives, Wants, asked}
use Rattle.device_trace.specs.Keeps as trees
use Rattle.device_trace.specs.Script.{Script, Ends, data_of, perform}
use Rattle.device_trace.specs.Traces.{Changing}
use Rattle.vq_split.specs.Inside.{IsInside, WalkInside}
use Rattle.vq_split.specs.Kept.{IsWalking, is_walking}
use Rattle.vq_split.specs.Walking.{IsSound, Walking, look_left, walk_left, walk_wants}
use Rattle.vq_split.proofs.Inside.{Looks}
use Rattle.vq_split.proofs.Kept.{is_eq, looks_left, walking_keeps}
use Rattle.dev_core.specs.declared.breaking.BreakStage.{BreakStage}
use Rattle.dev_core.specs.declared.breaking.BreakStage.TheVariants as breaking
use Rattle.dev_core.specs.declared.returning.ReturnStage.{ReturnStage}
use Rattle.dev_core.specs.declared.returning.ReturnStage.TheVariants as returning
use Rattle.dev_core.specs.declared.returning.UsedChain.{UsedChain}
use Rattle.dev_core.specs.Inside.{Any}
use Rattle.dev_core.specs.Returning.{break_left, may_return, return_left}
use Rattle.dev_core.proofs.Asking.{break_left_asks, look_left_asks, return_left_asks, walk_left_asks}
use Rattle.dev_core.proofs.Inside.{broken_keeps, event_keeps, index_keeps, length_keeps, returned_keeps}
use Rattle.queue_device.specs.declared.lanes.Rounds.{Rounds}
use Rattle.queue_device.specs.declared.lanes.Which.{Which}
use Rattle.queue_device.specs.declared.lanes.Which.TheVariants.{First}
use Rattle.queue_device.specs.declared.phase.Phase.{Phase}
use Rattle.queue_device.specs.declared.phase.Phase.TheVariants as phase
use Rattle.queue_device.specs.declared.phase.Work.{Work}
use Rattle.queue_device.specs.Chains.{Taken}
use Rattle.queue_device.specs.Confined.{AreItsRounds, Confines, IsConfined, IsDeviceAct, IsTaken, HasRounds, LeavesRounds, are_lanes, are_rounds}
use Rattle.queue_device.specs.Kept.{are_kept, are_own_lanes, is_at_lane, is_in_hand, is_next, is_of_round, is_place, is_state, is_told, is_walked, work_of}
use Rattle.queue_device.specs.Lanes.{busy, lane_of}
use Rattle.queue_device.specs.Left.{Hand, left_at, queued, used_chain, walk_on}
use Rattle.queue_device.specs.Resuming.{Resumes}
use Rattle.queue_device.specs.Rounds.{answered, at_rounds, broken_off, given_back, index_read, served, took, walked}
use Rattle.queue_device.specs.Service.{Queued, Service}
use Rattle.queue_device.proofs.Acting.{stays_during}
use Rattle.queue_device.proofs.Confined.{at_port, busy_by, from_stays, given, kept, line, on, overs, performs, reads, same, served_stays, took_stays, walked_stays, writes}
use Rattle.queue_device.proofs.GoesOn.{break_asks, return_asks}
use Rattle.queue_device.proofs.Places.{held_of, walking_is}
use Rattle.queue_device.proofs.Steps.{FirstAsks, walk_first}
use Rattle.queue_device.proofs.Walks.{test_asks}

break_keeps : (pages : ℕ) (s : BreakStage) (port : ℕ) → trees.Keeps (IsInside pages) (Any {A = Unit {0}}) (break_left s port)
break_keeps pages breaking.Port port = broken_keeps pages port
break_keeps pages breaking.Line port = (tt, λ reply fit. tt)

return_keeps : (s : ReturnStage) (c : UsedChain) → IsSound c.queue → may_return s c.queue ≡ true
    → trees.Keeps (IsInside c.queue.pages) (Any {A = Unit {0}}) (return_left s c)
return_keeps returning.Pair c sound may = returned_keeps c.port c.queue c.used c.head c.len sound
return_keeps returning.Half c sound may = length_keeps c.port c.queue c.used c.len sound
return_keeps returning.Index c sound may = index_keeps c.port c.queue c.used sound
return_keeps returning.Event c sound may = event_keeps c.port c.queue c.used sound may
return_keeps returning.Interrupt c sound may = (tt, λ a b. (tt, λ e f. tt))
return_keeps returning.Line c sound may = (tt, λ a b. tt)

module _ {E G C : Type 0} (s : Service E) (changing : Changing E C) (hand : G → Hand E) (is_work : Work → ℕ → G → Bool)
    (IsFine : E → Type 0) (sized times : Bool) (calls : OutOp → Bool) (port pages : ℕ)
    (kind : Confines s changing times calls) (owes : Resumes s hand is_work IsFine sized changing times calls) where
  abbrev D : Type 0
  D = Queued E

  abbrev P : Op → Type 0
  P = IsDeviceAct false calls port pages

  abbrev R : D → Type 0
  R = HasRounds s port pages

  abbrev S : D → D → Type 0
  S = LeavesRounds {E = E}

  abbrev Confined : Script D → Type 0
  Confined = IsConfined s calls port pages

  -- a walk that looks at the ring still, or one past that
  walk_stays : (o : Option (Doing ℕ)) (k : Which) (v : Walking) (r : Rounds) (e : E) → AreItsRounds s port pages r
      → (pages < 2 ^ 32 → IsWalking v × (v.queue.pages ≡ pages)) → look_left v.stage v.queue v.next ≡ o
      → Confined (walk_on s k v o (queued r e))
  walk_stays (Some t) k v r e are is looks =
      from_stays s changing times calls port pages kind k v.next v.queue t (queued r e) are (λ few. ((is few).0.sound, (is few).1))
      (λ few. subst (λ (n : ℕ). trees.Keeps (IsInside n) (Any {A = ℕ}) t) (is few).1
      (subst (λ (x : Option (Doing ℕ)). IfSome x (Looks v.queue)) looks
      (looks_left v.stage v.queue v.next v.parts (is few).0.sound (is few).0.stage)))
      (subst (λ (x : Option (Doing ℕ)). IfSome x (trees.Keeps (IsAskedBy false calls port) (Any {A = ℕ}))) looks
      (look_left_asks (IsAskedBy false calls port) (reads s changing times calls port pages kind)
      (writes s changing times calls port pages kind) v.stage v.queue v.next))
  walk_stays None k v r e are is looks =
      performs s changing times calls port pages kind (WalkInside pages) (walk_left v) (queued r e) (walked s k v.queue)
      (λ few. subst (λ (n : ℕ). trees.Keeps (IsInside n) (WalkInside n) (walk_left v)) (is few).1
      (walking_keeps v (is few).0))
      (walk_left_asks (IsAskedBy false calls port) (reads s changing times calls port pages kind)
      (writes s changing times calls port pages kind) v)
      (λ d came left inside. walked_stays s changing times calls port pages kind k v.queue d came
      (kept s changing times calls port pages kind (queued r e) d are left) (λ few. ((is few).0.sound, (is few).1)) inside)

  place_stays : (p : Phase) (r : Rounds) (e : E) (g : G) → AreItsRounds s port pages r → is_place times p r ≡ true
      → is_work (work_of p) pages g ≡ true → Confined (left_at s p (hand g) (queued r e))
  place_stays phase.Between r e g are place works = are
  place_stays phase.Question r e g are place works =
      let own = owes.answering_stays port pages g works in (
        own.0,
        λ d reply left fit.
            let has = kept s changing times calls port pages kind (queued r e) d are left in
            stays_during P R Any ((hand g).answering d.own reply) d.rounds (answered s)
            (kept s changing times calls port pages kind) (λ f. has) (own.1 d.own reply fit)
            (λ f received is any. on s changing times calls port pages kind First
            (if received then at_rounds busy f else f)
            (busy_by s changing times calls port pages kind received f is)),
      )
  place_stays (phase.Walk k v) r e g are place works =
      let at = and_parts (is_at_lane r.due) (is_walked (lane_of k r) v) place in
      walk_stays (look_left v.stage v.queue v.next) k v r e are
      (λ few. walking_is s times port pages few k v r (are.1 few) at.1) refl
  place_stays (phase.Take c) r e g are place works =
      let at = and_parts (is_at_lane r.due) (is_in_hand times c r) place in
      let h = λ (few : pages < 2 ^ 32). held_of s times port pages few c r (are.1 few) at.1 in
      let own = owes.taking_stays port pages c.which g works in (
        own.0,
        λ d reply left fit.
            let has = kept s changing times calls port pages kind (queued r e) d are left in
            stays_during P R (λ (t : Option Taken). pages < 2 ^ 32 → IsTaken s pages c.which t) ((hand g).taking d.own reply) d.rounds
            (took s c.which c.queue c.head)
            (kept s changing times calls port pages kind) (λ f. has) (own.1 d.own reply fit)
            (λ f t is held. took_stays s changing times calls port pages kind c.which c.queue c.head f t is
            (λ few. ((h few).0, (h few).1)) held),
      )
  place_stays (phase.Serve c) r e g are place works =
      let at = and_parts (is_at_lane r.due) (is_in_hand times c r) place in
      let h = λ (few : pages < 2 ^ 32). held_of s times port pages few c r (are.1 few) at.1 in
      let own = owes.serving_stays port pages c.which g works in (
        own.0,
        λ d reply left fit.
            let has = kept s changing times calls port pages kind (queued r e) d are left in
            stays_during P R Any ((hand g).serving d.own reply) d.rounds (served s c.which c.queue c.head)
            (kept s changing times calls port pages kind) (λ f. has) (own.1 d.own reply fit)
            (λ f len is any. served_stays s changing times calls port pages kind c.which c.queue c.head f len is
            (λ few. ((h few).0, (h few).1))),
      )
  place_stays (phase.Return c len stage) r e g are place works =
      let p2 = and_parts _ (may_return stage c.queue) place in
      let p0 = and_parts (is_at_lane r.due) (is_in_hand times c r) (and_parts _ (is_told stage len c.head) p2.0).0 in
      let h = λ (few : pages < 2 ^ 32). held_of s times port pages few c r (are.1 few) p0.1 in
      let used : UsedChain = used_chain c len r in
      performs s changing times calls port pages kind (Any {A = Unit {0}}) (return_left stage used) (queued r e)
      (λ f done. Ends (given_back s c.which f))
      (λ few. subst (λ (n : ℕ). trees.Keeps (IsInside n) (Any {A = Unit {0}}) (return_left stage used)) (h few).1
      (return_keeps stage used (h few).0 p2.1))
      (return_left_asks (IsAskedBy false calls port) (line s changing times calls port pages kind)
      (reads s changing times calls port pages kind) (writes s changing times calls port pages kind) stage used
      (inr (at_port s changing times calls port pages kind (queued r e) are, tt)))
      (λ d done left any. given s changing times calls port pages kind c.which d
      (kept s changing times calls port pages kind (queued r e) d are left))
  place_stays (phase.Break k stage) r e g are place works =
      performs s changing times calls port pages kind (Any {A = Unit {0}}) (break_left stage r.port) (queued r e)
      (λ f done. Ends (broken_off s k f)) (λ few. break_keeps pages stage r.port)
      (break_left_asks (IsAskedBy false calls port) (line s changing times calls port pages kind) stage r.port
      (inr (at_port s changing times calls port pages kind (queued r e) are, tt)))
      (λ d done left any. overs s changing times calls port pages kind d.rounds
      (kept s changing times calls port pages kind (queued r e) d are left))

-- ---- by the test

pub record TestParts {E G : Type 0} (s : Service E) (times : Bool) (is_work : Work → ℕ → G → Bool) (p : Phase) (r : Rounds)
    (g : G) : Type 0 where
  pub are : are_rounds s r.port r.pages r ≡ true
  pub place : is_place times p r ≡ true
  pub works : is_work (work_of p) r.pages g ≡ true

lanes_are : {E : Type 0} (s : Service E) (r : Rounds) → are_lanes s r.pages r ≡ true → are_rounds s r.port r.pages r ≡ true
lanes_are s r is = and_from _ _ (and_from _ _ (is_eq r.port r.port refl) (is_eq r.pages r.pages refl)) is

pub test_parts : {E G : Type 0} (s : Service E) (times : Bool) (is_work : Work → ℕ → G → Bool) (p : Phase) (r : Rounds)
    (g : G) → is_state s times is_work p r g ≡ true → TestParts s times is_work p r g
test_parts s times is_work p r g is =
    let p1 = and_parts _ (is_work (work_of p) r.pages g) is in
    let p0 = and_parts (are_kept s times r) (is_place times p r) p1.0 in
    let k1 = and_parts _ (is_next s.may_ask r.due r) p0.0 in
    let k0 = and_parts (are_lanes s r.pages r) (are_own_lanes s times r) k1.0 in
    record { are = lanes_are s r k0.0; place = p0.1; works = p1.1 }

pub state_stays : {E G C : Type 0} (s : Service E) (changing : Changing E C) (hand : G → Hand E)
    (is_work : Work → ℕ → G → Bool) (IsFine : E → Type 0) (sized times : Bool) (calls : OutOp → Bool) (p : Phase) (r : Rounds)
    (e : E) (g : G) → Confines s changing times calls
    → Resumes s hand is_work IsFine sized changing times calls → is_state s times is_work p r g ≡ true
    → IsConfined s calls r.port r.pages (left_at s p (hand g) (queued r e))
state_stays s changing hand is_work IsFine sized times calls p r e g kind owes is =
    let v = test_parts s times is_work p r g is in
    place_stays s changing hand is_work IsFine sized times calls r.port r.pages kind owes p r e g (refl, λ few. v.are)
    v.place v.works

-- ---- the data at the root of what is left

perform_data : {D A : Type 0} (t : Doing A) (d : D) (more : D → A → Script D) (op : Op) → asked t ≡ Some op
    → data_of (perform t d more) ≡ d
perform_data (Gives a) d more op is = absurd (cc)
perform_data (Wants o on) d more op is = refl

on_data : {E : Type 0} (s : Service E) (k : Which) (v : Walking) (op : Op) (o : Option (Doing ℕ)) (d : Queued E)
    → FirstAsks op (walk_left v) o → data_of (walk_on s k v o d) ≡ d
on_data s k v op (Some look) d is = perform_data look d (index_read s k v.next v.queue) op is
on_data s k v op None d is = perform_data (walk_left v) d (walked s k v.queue) op is

pub root_of : {E G : Type 0} (s : Service E) (times : Bool) (hand : G → Hand E) (p : Phase) (r : Rounds) (e : E) (g : G)
    → is_place times p r ≡ true → data_of (left_at s p (hand g) (queued r e)) ≡ queued r e
root_of s times hand phase.Between r e g place = refl
root_of s times hand phase.Question r e g place = refl
root_of s times hand (phase.Walk k v) r e g place =
    let at = and_parts (is_at_lane r.due) (is_walked (lane_of k r) v) place in
    let p1 = and_parts _ (v.next == (lane_of k r).next) at.1 in
    let p0 = and_parts (is_walking v) (is_of_round (lane_of k r).queue v.queue) p1.0 in
    on_data s k v (walk_wants v) (look_left v.stage v.queue v.next) (queued r e) (walk_first v (walk_wants v) (test_asks v p0.0))
root_of s times hand (phase.Take c) r e g place = refl
root_of s times hand (phase.Serve c) r e g place = refl
root_of s times hand (phase.Return c len stage) r e g place =
    let asks = return_asks stage (used_chain c len r) in
    perform_data (return_left stage (used_chain c len r)) (queued r e) (λ f done. Ends (given_back s c.which f)) asks.0 asks.1
root_of s times hand (phase.Break k stage) r e g place =
    let asks = break_asks stage r.port in
    perform_data (break_left stage r.port) (queued r e) (λ f done. Ends (broken_off s k f)) asks.0 asks.1

pub state_one : {E G : Type 0} (s : Service E) (times : Bool) (hand : G → Hand E) (is_work : Work → ℕ → G → Bool)
    (p q : Phase) (r t : Rounds) (e f : E) (g h : G)
    → is_state s times is_work p r g ≡ true → is_state s times is_work q t h ≡ true
    → left_at s p (hand g) (queued r e) ≡ left_at s q (hand h) (queued t f) → queued r e ≡ queued t f
state_one s times hand is_work p q r t e f g h is at same =
    let v = test_parts s times is_work p r g is in
    let w = test_parts s times is_work q t h at in
    sym (root_of s times hand p r e g v.place) ∙ ap data_of same
    ∙ root_of s times hand q t f h w.place
