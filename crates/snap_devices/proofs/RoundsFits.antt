-- The rounds of a device with queues in the fields of a file, and where it is: they fit, where each number has its width.
use Rattle.std.proofs.Common.{◌≡◌, ◌≤◌, ◌<◌, ◌^◌, ℕ, Bool, true, refl, arith}
use Rattle.std.proofs.lemmas.Bool.{and_parts}
use Rattle.file_format.proofs.Fitting.{fits8, fits16, fits32, fits_flag}
use Rattle.vq_split.specs.Walking.{Walking}
use Rattle.dev_core.specs.Returning.{may_return}
use Rattle.queue_device.specs.declared.lanes.Due.{Due}
use Rattle.queue_device.specs.declared.lanes.Due.TheVariants as due
use Rattle.queue_device.specs.declared.lanes.Which.{Which}
use Rattle.queue_device.specs.declared.lanes.Which.TheVariants.{First, Second, Third}
use Rattle.queue_device.specs.declared.phase.InHand.{InHand}
use Rattle.queue_device.specs.declared.phase.Phase.{Phase}
use Rattle.queue_device.specs.declared.phase.Phase.TheVariants as phase
use Rattle.queue_device.specs.declared.phase.Work.{Work}
use Rattle.queue_device.specs.Kept.{is_at_lane, is_in_hand, is_place, is_state, is_told, is_walked}
use Rattle.queue_device.specs.Lanes.{lane_of}
use Rattle.queue_device.specs.Resuming.{AreShort}
use Rattle.queue_device.specs.Sizes.{IsHead, IsNarrowPhase, IsNarrowStage}
use Rattle.queue_device.proofs.KeptRounds.{short_of}
use Rattle.queue_device.proofs.KeptStays.{TestParts, test_parts}
use Rattle.snap_devices.specs.Places.{hand, hand_by, hand_fields, hand_marks, place, walked, walked_by, walked_marks}
use Rattle.snap_devices.specs.Rounds.{lane, next_due, rounds, which}
use Rattle.snap_devices.proofs.PieceFits.{begun_fits, break_fits, hand_fits, lane_queue_fits, numbered_fits, return_fits, waiting_fits}
use Rattle.queue_device.specs.declared.lanes.Rounds.{Rounds}
use Rattle.queue_device.specs.Service.{Service}

-- ---- its queues

which_fits : (k : Which) → which.Fits k
unfolding which
which_fits First = (fits8 0 (omega arith), refl)
which_fits Second = (fits8 1 (omega arith), refl)
which_fits Third = (fits8 2 (omega arith), refl)

next_fits : (d : Due) → next_due.Fits d
unfolding next_due
next_fits due.Look = (fits8 0 (omega arith), refl)
next_fits due.Question = (fits8 1 (omega arith), refl)
next_fits (due.Lane k) = (fits8 2 (omega arith), (refl, which_fits k))
next_fits due.Wait = (fits8 3 (omega arith), refl)

-- ---- any device with queues, whose chains may wait or may not, of a guest of at most 2^20 pages, at a port whose number is a byte

module _ {E G : Type 0} (s : Service E) (times : Bool) (works : Work → ℕ → G → Bool) (p : Phase) (r : Rounds) (g : G)
    (is : is_state s times works p r g ≡ true) (few : r.pages ≤ 2 ^ 20) (port : r.port < 2 ^ 8) (short : AreShort true r) where
  pub facts : TestParts s times works p r g
  facts = test_parts s times works p r g is

  lane_fits : (k : Which) → lane.Fits (lane_of k r)
  unfolding lane
  lane_fits k =
      let it = (short_of true k r short).1 refl in (
        (fits16 (lane_of k r).next it.next, (fits16 (lane_of k r).used it.used, fits_flag (lane_of k r).is_kicked)),
        (
          lane_queue_fits s times r facts.are few short k,
          waiting_fits s times r facts.are few short k,
        ),
      )

  pub rounds_fit : rounds.Fits r
  unfolding rounds
  rounds_fit = (
    (fits32 r.pages (omega (arith, few)), (fits8 r.port port, (next_fits r.due, fits_flag r.is_busy))),
    (lane_fits First, (lane_fits Second, lane_fits Third)),
  )

  in_hand : (c : InHand) → is_in_hand times c r ≡ true → IsHead c.head → hand.Fits c
  unfolding hand hand_by hand_fields
  in_hand c is head =
      let sound = (and_parts _ _ (and_parts _ _ is).0).0 in
      numbered_fits hand_by (λ c. c.which) (λ c. c.queue.accepted) hand_marks c
      ((refl, (hand_fits s times r facts.are few short c is, fits16 c.head head)), sound)

  at_walk : (k : Which) (w : Walking) → is_walked (lane_of k r) w ≡ true → IsNarrowStage w.stage → walked.Fits (k, w)
  unfolding walked walked_by
  at_walk k w is narrow =
      numbered_fits walked_by (λ v. v.0) (λ v. v.1.queue.accepted) walked_marks (k, w)
      (refl, begun_fits s times r facts.are few short k w is narrow)

  pub place_fits : (at : Phase) → is_place times at r ≡ true → IsNarrowPhase at → place.Fits at
  unfolding place
  place_fits phase.Between there narrow = (fits8 0 (omega arith), refl)
  place_fits phase.Question there narrow = (fits8 1 (omega arith), refl)
  place_fits (phase.Walk k w) there narrow =
      let on = and_parts (is_at_lane r.due) (is_walked (lane_of k r) w) there in
      (fits8 2 (omega arith), (refl, at_walk k w on.1 narrow))
  place_fits (phase.Take c) there narrow =
      let on = and_parts (is_at_lane r.due) (is_in_hand times c r) there in
      (fits8 3 (omega arith), (refl, in_hand c on.1 narrow))
  place_fits (phase.Serve c) there narrow =
      let on = and_parts (is_at_lane r.due) (is_in_hand times c r) there in
      (fits8 4 (omega arith), (refl, in_hand c on.1 narrow))
  place_fits (phase.Return c len stage) there narrow =
      let may = and_parts _ (may_return stage c.queue) there in
      let told = and_parts _ (is_told stage len c.head) may.0 in
      let on = and_parts (is_at_lane r.due) (is_in_hand times c r) told.0 in
      (fits8 5 (omega arith), (refl, (fits32 len narrow.1, (return_fits stage, in_hand c on.1 narrow.0))))
  place_fits (phase.Break k stage) there narrow = (fits8 6 (omega arith), (refl, (which_fits k, break_fits stage)))
