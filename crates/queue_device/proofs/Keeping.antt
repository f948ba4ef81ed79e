-- What a look, a chain and a round's end leave of rounds: the rounds of a device of this port and of so many pages.
use Rattle.std.proofs.Common.{◌≡◌, ℕ, ◌^◌, ◌==◌, ◌<◌, refl, sym, subst, Bool, true, false, if◌then◌else◌, Option, Some, None}
use Rattle.std.proofs.lemmas.Bool.{and_from, and_parts, eqb-true}
use Rattle.vm_types.specs.declared.port_look.Accepted.{Accepted}
use Rattle.vm_types.specs.declared.port_look.PortLook.{PortLook}
use Rattle.vm_types.specs.declared.port_look.QueueShown.{QueueShown}
use Rattle.vq_split.specs.Kept.{are_inside, is_sound}
use Rattle.vq_split.proofs.Kept.{are_of, inside_of, is_eq, sound_of_test, test_of_sound}
use Rattle.dev_core.specs.Looks.{is_workable, queue_shown}
use Rattle.queue_device.specs.declared.lanes.Lane.{Lane}
use Rattle.queue_device.specs.declared.lanes.Rounds.{Rounds}
use Rattle.queue_device.specs.declared.lanes.Which.{Which}
use Rattle.queue_device.specs.declared.lanes.Which.TheVariants.{First, Second, Third}
use Rattle.queue_device.specs.Chains.{Chain}
use Rattle.queue_device.specs.Confined.{IsChain, are_lanes, are_rounds, is_chain, is_lane, is_queue, is_waiting}
use Rattle.queue_device.specs.Lanes.{in_lane, is_up_to, lane_closed, lane_looked, lane_of, lane_reset, lane_seen, new_rounds}
use Rattle.queue_device.specs.Lanes.{next_rounds, round_begun, round_over, with_lane}
use Rattle.queue_device.specs.Service.{Service}

module _ {E : Type 0} (s : Service E) where
  -- ---- chains

  pub chain_of : (pages : ℕ) → pages < 2 ^ 32 → (k : Which) (c : Chain) → is_chain s pages k c ≡ true → IsChain s pages k c
  chain_of pages few k c is =
      let h4 = and_parts _ (s.is_taken k c.parts c.got) is in
      let h3 = and_parts _ (are_inside pages c.got.parts) h4.0 in
      let h2 = and_parts _ (are_inside pages c.parts) h3.0 in
      let h1 = and_parts (c.queue.pages == pages) (is_sound c.queue) h2.0 in
      let same : c.queue.pages ≡ pages = eqb-true _ _ h1.0 in
      record {
        pages_are = same;
        sound = sound_of_test c.queue (subst (λ (n : ℕ). n < 2 ^ 32) (sym same) few) h1.1;
        parts = inside_of pages c.parts h2.1;
        got = inside_of pages c.got.parts h3.1;
        taken = h4.1;
      }

  pub test_of_chain : (pages : ℕ) (k : Which) (c : Chain) → IsChain s pages k c → is_chain s pages k c ≡ true
  test_of_chain pages k c is =
      and_from _ _
      (and_from _ _
      (and_from _ _ (and_from _ _ (is_eq _ _ is.pages_are) (test_of_sound c.queue is.sound)) (are_of pages c.parts is.parts))
      (are_of pages c.got.parts is.got))
      is.taken

  -- ---- lanes

  module _ (pages : ℕ) where
    closed_lane : (k : Which) (l : Lane) → is_lane s pages k l ≡ true → is_lane s pages k (lane_closed l) ≡ true
    closed_lane k l is = (and_parts (is_queue s pages l.queue) (is_waiting s pages k l.waiting) is).1

    reset_lane : (k : Which) (was_reset : Bool) (l : Lane) → is_lane s pages k l ≡ true
        → is_lane s pages k (lane_reset was_reset l) ≡ true
    reset_lane k true l is = refl
    reset_lane k false l is = is

    shown_queue : (test : Bool) (accepted : Accepted) (shown : QueueShown)
        → is_queue s pages (if test then Some (queue_shown pages accepted shown) else None) ≡ true
    shown_queue true accepted shown = is_eq pages pages refl
    shown_queue false accepted shown = refl

    looked_lane : (k : Which) (accepted : Accepted) (status : ℕ) (shown : QueueShown) (l : Lane) → is_lane s pages k l ≡ true
        → is_lane s pages k (lane_looked pages accepted status shown l) ≡ true
    looked_lane k accepted status shown l is =
        and_from _ _ (shown_queue (is_workable status shown) accepted shown)
        (and_parts (is_queue s pages l.queue) (is_waiting s pages k l.waiting) is).1

    seen_lane : (k : Which) (has : Bool) (look : PortLook) (shown : QueueShown) (l : Lane) → is_lane s pages k l ≡ true
        → is_lane s pages k (lane_seen has pages look shown l) ≡ true
    seen_lane k true look shown l is =
        looked_lane k look.accepted look.status shown (lane_reset look.was_reset l) (reset_lane k look.was_reset l is)
    seen_lane k false look shown l is = is

  -- ---- rounds

  pub record AreRounds (port pages : ℕ) (r : Rounds) : Type 0 where
    pub port_is : r.port ≡ port
    pub pages_are : r.pages ≡ pages
    pub first : is_lane s pages First r.first ≡ true
    pub second : is_lane s pages Second r.second ≡ true
    pub third : is_lane s pages Third r.third ≡ true

  module _ (port pages : ℕ) where
    pub rounds_of : (r : Rounds) → are_rounds s port pages r ≡ true → AreRounds port pages r
    rounds_of r are =
        let h2 = and_parts _ (are_lanes s pages r) are in
        let h1 = and_parts (r.port == port) (r.pages == pages) h2.0 in
        let l2 = and_parts _ (is_lane s pages Third r.third) h2.1 in
        let l1 = and_parts (is_lane s pages First r.first) (is_lane s pages Second r.second) l2.0 in
        record { port_is = eqb-true _ _ h1.0; pages_are = eqb-true _ _ h1.1; first = l1.0; second = l1.1; third = l2.1 }

    pub test_of : (r : Rounds) → AreRounds port pages r → are_rounds s port pages r ≡ true
    test_of r is =
        and_from _ _ (and_from _ _ (is_eq _ _ is.port_is) (is_eq _ _ is.pages_are))
        (and_from _ _ (and_from _ _ is.first is.second) is.third)

    pub new_are : are_rounds s port pages (new_rounds port pages) ≡ true
    new_are =
        test_of (new_rounds port pages)
        (record { port_is = refl; pages_are = refl; first = refl; second = refl; third = refl })

    pub lane_is : (k : Which) (r : Rounds) → are_rounds s port pages r ≡ true → is_lane s pages k (lane_of k r) ≡ true
    lane_is First r are = (rounds_of r are).first
    lane_is Second r are = (rounds_of r are).second
    lane_is Third r are = (rounds_of r are).third

    pub lane_with : (k : Which) (l : Lane) (r : Rounds) → are_rounds s port pages r ≡ true → is_lane s pages k l ≡ true
        → are_rounds s port pages (with_lane k l r) ≡ true
    lane_with First l r are is =
        let it = rounds_of r are in
        test_of (with_lane First l r) (record { port_is = it.port_is; pages_are = it.pages_are; first = is; second = it.second; third = it.third })
    lane_with Second l r are is =
        let it = rounds_of r are in
        test_of (with_lane Second l r) (record { port_is = it.port_is; pages_are = it.pages_are; first = it.first; second = is; third = it.third })
    lane_with Third l r are is =
        let it = rounds_of r are in
        test_of (with_lane Third l r) (record { port_is = it.port_is; pages_are = it.pages_are; first = it.first; second = it.second; third = is })

    -- a lane that keeps its queue and its chain
    pub lane_in : (k : Which) (change : Lane → Lane) (r : Rounds) → are_rounds s port pages r ≡ true
        → (is_lane s pages k (lane_of k r) ≡ true → is_lane s pages k (change (lane_of k r)) ≡ true)
        → are_rounds s port pages (in_lane k change r) ≡ true
    lane_in k change r are on = lane_with k (change (lane_of k r)) r are (on (lane_is k r are))

    -- one whose chain waits no longer, or another one waits
    pub lane_held : (k : Which) (o : Option Chain) (l : Lane) → is_waiting s pages k o ≡ true
        → is_lane s pages k l ≡ true → is_lane s pages k (record l { waiting = o }) ≡ true
    lane_held k o l waits is = and_from _ _ (and_parts (is_queue s pages l.queue) (is_waiting s pages k l.waiting) is).0 waits

    pub over_are : (r : Rounds) → are_rounds s port pages r ≡ true → are_rounds s port pages (round_over r) ≡ true
    over_are r are =
        let it = rounds_of r are in
        test_of (round_over r)
        (record {
          port_is = it.port_is;
          pages_are = it.pages_are;
          first = closed_lane pages First r.first it.first;
          second = closed_lane pages Second r.second it.second;
          third = closed_lane pages Third r.third it.third;
        })

    pub next_are : (o : Option Which) (r : Rounds) → are_rounds s port pages r ≡ true
        → are_rounds s port pages (next_rounds o r) ≡ true
    next_are (Some k) r are = are
    next_are None r are = over_are r are

    looked_of : (last : Which) (look : PortLook) (r : Rounds) → are_rounds s port pages r ≡ true
        → AreRounds port pages (round_begun last look r)
    looked_of last look r are =
        let it = rounds_of r are in
        let here : r.pages ≡ pages = it.pages_are in
        record {
          port_is = it.port_is;
          pages_are = it.pages_are;
          first =
              subst (λ (m : ℕ). is_lane s pages First (lane_seen (is_up_to last First) m look look.first r.first) ≡ true)
              (sym here) (seen_lane pages First (is_up_to last First) look look.first r.first it.first);
          second =
              subst (λ (m : ℕ). is_lane s pages Second (lane_seen (is_up_to last Second) m look look.second r.second) ≡ true)
              (sym here) (seen_lane pages Second (is_up_to last Second) look look.second r.second it.second);
          third =
              subst (λ (m : ℕ). is_lane s pages Third (lane_seen (is_up_to last Third) m look look.third r.third) ≡ true)
              (sym here) (seen_lane pages Third (is_up_to last Third) look look.third r.third it.third);
        }

    pub begun_are : (last : Which) (look : PortLook) (r : Rounds) → are_rounds s port pages r ≡ true
        → are_rounds s port pages (round_begun last look r) ≡ true
    begun_are last look r are = test_of (round_begun last look r) (looked_of last look r are)
