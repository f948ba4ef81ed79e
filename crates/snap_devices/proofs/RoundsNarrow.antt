-- What is read of the rounds of a device with queues, and of where it is, has its widths.
use Rattle.std.proofs.Common.{true}
use Rattle.file_format.proofs.Fitting.{of16, of32}
use Rattle.vm_types.specs.declared.port_look.Accepted.{Accepted}
use Rattle.vq_split.specs.Walking.{Walking}
use Rattle.queue_device.specs.declared.lanes.Lane.{Lane}
use Rattle.queue_device.specs.declared.lanes.Rounds.{Rounds}
use Rattle.queue_device.specs.declared.lanes.Which.{Which}
use Rattle.queue_device.specs.declared.phase.InHand.{InHand}
use Rattle.queue_device.specs.declared.phase.Phase.{Phase}
use Rattle.queue_device.specs.declared.phase.Phase.TheVariants as phase
use Rattle.queue_device.specs.Resuming.{AreShort, IsShortLane}
use Rattle.queue_device.specs.Sizes.{IsHead, IsNarrowPhase, IsNarrowStage}
use Rattle.snap_devices.specs.Places.{hand, hand_by, hand_fields, hand_marks, place, walked, walked_by, walked_marks}
use Rattle.snap_devices.specs.Rounds.{lane, rounds}
use Rattle.snap_devices.proofs.Narrow.{AreHeld, HoldsFront, HoldsPhase, of_some, of_waiting, of_walk}
use Rattle.snap_devices.proofs.PieceFits.{of_numbered}

-- ---- its queues

lane_narrow : (l : Lane) → lane.Fits l → AreHeld l.waiting → IsShortLane true l
unfolding lane
lane_narrow l own bytes = (
  of_waiting l.waiting own.1.1 bytes,
  λ yes. record { queue = of_some l.queue own.1.0; next = of16 l.next own.0.0; used = of16 l.used own.0.1.0 },
)

-- the bytes that chains hold that wait
abbrev pub AreAllHeld : Rounds → Type 0
AreAllHeld r = AreHeld r.first.waiting × AreHeld r.second.waiting × AreHeld r.third.waiting

pub rounds_narrow : (r : Rounds) → rounds.Fits r → AreAllHeld r → AreShort true r
unfolding rounds
rounds_narrow r own bytes =
    (lane_narrow r.first own.1.0 bytes.0, lane_narrow r.second own.1.1.0 bytes.1, lane_narrow r.third own.1.1.1 bytes.2)

-- ---- where it is

head_by : (k : Which) (a : Accepted) (c : InHand) → (hand_by k a).Fits c → IsHead c.head
unfolding hand_by hand_fields
head_by k a c own = of16 c.head own.0.1.1

head_of : (c : InHand) → hand.Fits c → IsHead c.head
unfolding hand
head_of c own =
    head_by c.which c.queue.accepted c (of_numbered hand_by (λ c. c.which) (λ c. c.queue.accepted) hand_marks c own)

walk_by : (k : Which) (a : Accepted) (w : Walking) → (walked_by k a).Fits (k, w) → HoldsFront w.stage → IsNarrowStage w.stage
unfolding walked_by
walk_by k a w own bytes = of_walk a w own.1 bytes

walk_at : (k : Which) (w : Walking) → walked.Fits (k, w) → HoldsFront w.stage → IsNarrowStage w.stage
unfolding walked
walk_at k w own bytes =
    walk_by k w.queue.accepted w (of_numbered walked_by (λ v. v.0) (λ v. v.1.queue.accepted) walked_marks (k, w) own) bytes

pub place_narrow : (p : Phase) → place.Fits p → HoldsPhase p → IsNarrowPhase p
unfolding place
place_narrow phase.Between own bytes = tt
place_narrow phase.Question own bytes = tt
place_narrow (phase.Walk k w) own bytes = walk_at k w own.1.1 bytes
place_narrow (phase.Take c) own bytes = head_of c own.1.1
place_narrow (phase.Serve c) own bytes = head_of c own.1.1
place_narrow (phase.Return c len stage) own bytes = (head_of c own.1.1.1.1, of32 len own.1.1.0)
place_narrow (phase.Break k stage) own bytes = tt
