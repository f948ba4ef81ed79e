-- A device in the fields of a file: what is kept of it fits, where each number of it has its width.
use Rattle.std.proofs.Common.{◌≡◌, ◌≤◌, ◌<◌, ◌^◌, ℕ, Bool, true, false, if◌then◌else◌, refl, sym, subst, arith, List, Option, Some, None}
use Rattle.std.specs.Prelude.{IfSome}
use Rattle.std.proofs.lemmas.Bool.{and_parts, eqb-true}
use Rattle.le_fields.specs.Fields.{IsByte}
use Rattle.file_format.specs.Ends.{ended}
use Rattle.vm_types.specs.declared.port_look.Accepted.{Accepted}
use Rattle.file_format.specs.Kinds.{byte}
use Rattle.file_format.proofs.Fitting.{every, fits8, fits16, fits32, fits64, fits_flag, fits_times}
use Rattle.vq_split.specs.declared.queue.Part.{Part}
use Rattle.vq_split.specs.declared.queue.Queue.{Queue}
use Rattle.vq_split.specs.Walking.{Walking, walk_of}
use Rattle.vq_split.proofs.Inside.{of_ram}
use Rattle.dev_core.specs.declared.collect.Collect.{Collect}
use Rattle.dev_core.specs.Looks.{no_queue}
use Rattle.dev_core.specs.Returning.{may_return}
use Rattle.queue_device.specs.declared.device.QueueRounds.{QueueRounds}
use Rattle.queue_device.specs.declared.lanes.Which.TheVariants.{First}
use Rattle.queue_device.specs.declared.phase.InHand.{InHand}
use Rattle.queue_device.specs.declared.phase.Phase.{Phase}
use Rattle.queue_device.specs.declared.phase.Phase.TheVariants as phase
use Rattle.queue_device.specs.declared.phase.Work.TheVariants as work
use Rattle.queue_device.specs.Confined.{is_queue}
use Rattle.queue_device.specs.Kept.{is_at_lane, is_in_hand, is_place, is_same_queue, is_told, is_walked, work_of}
use Rattle.queue_device.specs.Lanes.{lane_of}
use Rattle.queue_device.specs.Resuming.{AreShort}
use Rattle.queue_device.specs.Sizes.{IsNarrowPhase, IsNarrowQueue}
use Rattle.queue_device.proofs.KeptStays.{TestParts, test_parts}
use Rattle.block_device.specs.declared.kind.BlockKind.{BlockKind}
use Rattle.block_device.specs.declared.stage.ServiceStage.{ServiceStage}
use Rattle.block_device.specs.declared.stage.ServiceStage.TheVariants as stage
use Rattle.block_device.specs.declared.work.BlockStage.{BlockStage}
use Rattle.block_device.specs.declared.work.BlockStage.TheVariants as at
use Rattle.block_device.specs.Kept.{has_place, is_work}
use Rattle.block_device.specs.States.{is_state}
use Rattle.block_device.specs.Working.{IsAt, IsSizedData, IsSmallAt, IsSmallStage, IsSmallWork, Working}
use Rattle.queue_device.proofs.Pieces.{total_most}
use Rattle.guest_devices.specs.declared.device.Device.{Device}
use Rattle.guest_devices.specs.declared.device.Device.TheVariants as kept
use Rattle.guest_devices.specs.Kept.{device_pages, device_port, is_kept, is_saved, is_sized, kept_of, is_state_kept}
use Rattle.guest_devices.specs.Narrow.{IsNarrowKept}
use Rattle.snap_devices.specs.declared.file.FileDue.{FileDue}
use Rattle.snap_devices.specs.declared.file.FileDue.TheVariants.{Look, Walk, Idle}
use Rattle.snap_devices.specs.Blocks.{at_due, due as due_format, due_at, due_at-is, due_by, due_code, due_mark, due_marks, block, block_data, block_fields}
use Rattle.snap_devices.specs.Devices.{device}
use Rattle.snap_devices.specs.Forms.{data_filed, due_filed, hand_filed, more_filed, other_queue, phase_filed, queue_filed, served_filed, walk_filed}
use Rattle.snap_devices.specs.Limits.{limits, more}
use Rattle.snap_devices.specs.Marks.{marked, marked_by}
use Rattle.snap_devices.specs.Queues.{maybe_queue, maybe_walk, queue, queue_marks, registers, registers_of, walk, walk_marks}
use Rattle.snap_devices.specs.Serving.{service, units}
use Rattle.snap_devices.proofs.BalloonFits.{balloon_fits}
use Rattle.snap_devices.proofs.Forms.{stands}
use Rattle.snap_devices.proofs.PieceFits.{accepted_few, begun_fits, break_fits, collect_fits, hand_fits, maybe_fits, parts_fit, registers_fit, return_fits, shown_of, waiting_fits}
use Rattle.snap_devices.proofs.LimitsFits.{bucket_by}
use Rattle.snap_devices.proofs.EntropyFits.{entropy_fits}
use Rattle.snap_devices.proofs.NetFits.{net_fits}
use Rattle.snap_devices.proofs.VsockFits.{vsock_fits}
use Rattle.block_device.specs.Block.{block as service_of}
use Rattle.block_device.specs.Serving.{IsStage as IsServing}
use Rattle.block_device.proofs.Kept.{work_of as work_parts}
use Rattle.snap_devices.specs.Phases.{phase as phase_format}

-- ---- the phase

units_fit : (sector unit more : ℕ) → sector < 2 ^ 64 → unit < 2 ^ 64 → more < 2 ^ 64 → units.Fits (sector, (unit, more))
unfolding units
units_fit sector unit more a b c = (fits64 sector a, (fits64 unit b, fits64 more c))

service_fits : (s : ServiceStage) (from : Collect) (to : List Part) → IsServing s from to → IsSmallStage s → service.Fits s
unfolding service
service_fits (stage.Read sector unit more) from to is small =
    let units = is.0.units in
    let inside = is.0.inside in
    (fits8 0 (omega arith), (refl, units_fit sector unit more (omega (arith, inside)) (omega (arith, units)) (omega (arith, units))))
service_fits (stage.Put sector unit more) from to is small =
    let units = is.0.units in
    let inside = is.0.inside in
    (fits8 1 (omega arith), (refl, units_fit sector unit more (omega (arith, inside)) (omega (arith, units)) (omega (arith, units))))
service_fits stage.PutId from to is small = (fits8 2 (omega arith), refl)
service_fits (stage.Gather sector part more) from to is small =
    let units = is.0.units in
    let inside = is.0.inside in
    (fits8 3 (omega arith), (refl, units_fit sector part more (omega (arith, inside)) (omega (arith, units)) (omega (arith, units))))
service_fits (stage.Disk sector part more) from to is small =
    let units = is.0.units in
    let inside = is.0.inside in
    (fits8 4 (omega arith), (refl, units_fit sector part more (omega (arith, inside)) (omega (arith, units)) (omega (arith, units))))
service_fits stage.Flush from to is small = (fits8 5 (omega arith), refl)
service_fits (stage.Status status used) from to is small =
    (fits8 6 (omega arith), (refl, (fits8 status small.0, fits32 used small.1)))

at_fits : (pages head : ℕ) (s : BlockStage) (from : Collect) (to : List Part) → pages ≤ 2 ^ 20 → IsAt s from to
    → has_place pages s ≡ true → IsSmallAt s → head < 2 ^ 16 → phase_format.Fits (served_filed head s)
unfolding phase_format
at_fits pages head at.Rest from to few is placed small narrow = (fits8 0 (omega arith), refl)
at_fits pages head at.Header from to few is placed small narrow = (fits8 0 (omega arith), refl)
at_fits pages head (at.Serve place s) from to few is placed small narrow =
    let high = (of_ram pages place 1 placed).1 in
    (fits8 3 (omega arith), (refl, (fits64 place (omega (arith, high, few)), (service_fits s from to is small, fits16 head narrow))))

phase_fits : (pages : ℕ) (p : Phase) (w : Working) → pages ≤ 2 ^ 20 → is_work (work_of p) pages w ≡ true → IsNarrowPhase p
    → IsSmallWork w → phase_format.Fits (phase_filed p w.stage w.from)
unfolding phase_format
phase_fits pages phase.Between w few works narrow small = (fits8 0 (omega arith), refl)
phase_fits pages phase.Question w few works narrow small = (fits8 0 (omega arith), refl)
phase_fits pages (phase.Walk k v) w few works narrow small = (fits8 0 (omega arith), refl)
phase_fits pages (phase.Take c) w few works narrow small =
    let own = work_parts (work.Take c.which) pages w works in
    let most = own.from.1 in
    let held_most = small.held.0 in
    let left = total_most pages w.from.from (omega (arith, few)) own.from.0 in
    (fits8 2 (omega arith), (refl, (fits64 _ (omega (arith, most, held_most, left)), fits16 c.head narrow)))
phase_fits pages (phase.Serve c) w few works narrow small =
    let own = work_parts (work.Serve c.which) pages w works in
    at_fits pages c.head w.stage w.from w.to few own.is own.place small.stage narrow
phase_fits pages (phase.Return c len stage) w few works narrow small =
    (fits8 4 (omega arith), (refl, (fits32 len narrow.1, (fits16 c.head narrow.0, return_fits stage))))
phase_fits pages (phase.Break k stage) w few works narrow small = (fits8 1 (omega arith), (refl, break_fits stage))

-- ---- its data

due_few : (o : FileDue) → due_code o < 3
due_few Look = omega arith
due_few Walk = omega arith
due_few Idle = omega arith

due_fits : (o : FileDue) (a : Accepted) → due_format.Fits (o, a)
unfolding due_format marked
due_fits o a =
    let few = accepted_few a in
    let low = due_few o in (
      fits8 (due_mark o a) (omega (arith, few, low)),
      subst
          (λ (x : Option (FileDue × Accepted)). (marked_by due_code due_at due_at-is due_by (λ y. y.0) (λ y. y.1) due_marks x).Fits (o, a))
          (sym (at_due o a)) refl,
    )

shown_fits : (pages : ℕ) (o : Option Queue) → pages ≤ 2 ^ 20 → is_queue service_of pages o ≡ true → IfSome o IsNarrowQueue
    → registers.Fits (registers_of (queue_filed pages o))
shown_fits pages None few of_pages narrow =
    registers_fit (no_queue pages)
    (record { descriptors = omega arith; available = omega arith; used = omega arith; size = omega arith }) few
shown_fits pages (Some q) few of_pages narrow =
    let same = eqb-true q.pages pages of_pages in
    registers_fit q narrow (omega (arith, same, few))

none_queue : maybe_queue.Fits None
unfolding maybe_queue
none_queue = maybe_fits queue (λ q. q.accepted) (no_queue 0) queue_marks None tt

some_queue : (q : Queue) → (queue q.accepted).Fits q → maybe_queue.Fits (Some q)
unfolding maybe_queue
some_queue q fits = maybe_fits queue (λ q. q.accepted) (no_queue 0) queue_marks (Some q) fits

none_walk : maybe_walk.Fits None
unfolding maybe_walk
none_walk = maybe_fits walk (λ w. w.queue.accepted) (walk_of (no_queue 0) 0) walk_marks None tt

some_walk : (w : Walking) → (walk w.queue.accepted).Fits w → maybe_walk.Fits (Some w)
unfolding maybe_walk
some_walk w fits = maybe_fits walk (λ w. w.queue.accepted) (walk_of (no_queue 0) 0) walk_marks (Some w) fits

other_by : (test : Bool) (q : Queue) → (queue q.accepted).Fits q → maybe_queue.Fits (if test then None else Some q)
other_by true q fits = none_queue
other_by false q fits = some_queue q fits

-- a block device of a guest of at most 2^20 pages, at a port whose number is a byte
module _ (b : QueueRounds BlockKind) (is : is_state b ≡ true) (few : b.rounds.pages ≤ 2 ^ 20) (port : b.rounds.port < 2 ^ 8)
    (short : AreShort true b.rounds) (narrow : IsNarrowPhase b.phase) (small : IsSmallWork b.kind.work)
    (own : IsSizedData true b.kind.facts) where
  facts : TestParts service_of true is_work b.phase b.rounds b.kind.work
  facts = test_parts service_of true is_work b.phase b.rounds b.kind.work is

  data_fits : block_data.Fits (data_filed b)
  unfolding block_data
  data_fits =
      let lane = short.0.1 refl in
      let id = own.1 refl in (
        (
          fits64 b.kind.facts.sectors own.0,
          (
            shown_fits b.rounds.pages b.rounds.first.queue few (shown_of service_of true b.rounds facts.are few short First) lane.queue,
            (
              fits_times byte 20 b.kind.facts.drive_id id.0 (every IsByte byte.Fits b.kind.facts.drive_id fits8 id.1),
              (fits16 b.rounds.first.next lane.next, fits16 b.rounds.first.used lane.used),
            ),
          ),
        ),
        (
          fits8 b.rounds.port port,
          (
            fits_flag b.kind.facts.is_read_only,
            (fits_flag b.rounds.first.is_kicked, (fits_flag b.rounds.is_busy, due_fits (due_filed b.rounds.due) (queue_filed b.rounds.pages b.rounds.first.queue).accepted)),
          ),
        ),
      )

  walk_by : (p : Phase) → is_place true p b.rounds ≡ true → IsNarrowPhase p → maybe_walk.Fits (walk_filed p)
  walk_by phase.Between place narrow = none_walk
  walk_by phase.Question place narrow = none_walk
  walk_by (phase.Take c) place narrow = none_walk
  walk_by (phase.Serve c) place narrow = none_walk
  walk_by (phase.Return c len stage) place narrow = none_walk
  walk_by (phase.Break k stage) place narrow = none_walk
  walk_by (phase.Walk k w) place narrow =
      let at = and_parts (is_at_lane b.rounds.due) (is_walked (lane_of k b.rounds) w) place in
      some_walk w (begun_fits service_of true b.rounds facts.are few short k w at.1 narrow)

  other_fits : (c : InHand) (q : Queue) → is_in_hand true c b.rounds ≡ true → maybe_queue.Fits (other_queue q c.queue)
  other_fits c q is =
      other_by (is_same_queue q c.queue) c.queue (hand_fits service_of true b.rounds facts.are few short c is)

  hand_by : (p : Phase) (q : Queue) → is_place true p b.rounds ≡ true → maybe_queue.Fits (hand_filed p q)
  hand_by phase.Between q place = none_queue
  hand_by phase.Question q place = none_queue
  hand_by (phase.Walk k w) q place = none_queue
  hand_by (phase.Take c) q place = other_fits c q (and_parts (is_at_lane b.rounds.due) (is_in_hand true c b.rounds) place).1
  hand_by (phase.Serve c) q place = other_fits c q (and_parts (is_at_lane b.rounds.due) (is_in_hand true c b.rounds) place).1
  hand_by (phase.Return c len stage) q place =
      let may = and_parts _ (may_return stage c.queue) place in
      let told = and_parts _ (is_told stage len c.head) may.0 in
      other_fits c q (and_parts (is_at_lane b.rounds.due) (is_in_hand true c b.rounds) told.0).1
  hand_by (phase.Break k stage) q place = none_queue

  -- its limits, a chain that waits, and the queue of the chain in hand
  more_fits : more.Fits (more_filed b)
  unfolding more limits
  more_fits =
      let buckets = (own.1 refl).2 in (
        (bucket_by b.kind.facts.limits.bandwidth buckets.0, bucket_by b.kind.facts.limits.ops buckets.1),
        (waiting_fits service_of true b.rounds facts.are few short First, hand_by b.phase _ facts.place),
      )

  pub block_fits : block.Fits b
  unfolding block block_fields ended
  block_fits =
      let works = work_parts (work_of b.phase) b.rounds.pages b.kind.work facts.works in
      let back = stands b is in (
        back.0,
        (
          (
            (
              data_fits,
              (
                phase_fits b.rounds.pages b.phase b.kind.work few facts.works narrow small,
                (
                  walk_by b.phase facts.place narrow,
                  (
                    collect_fits b.rounds.pages b.kind.work.from few works.from small.held,
                    parts_fit b.rounds.pages b.kind.work.to few works.to,
                  ),
                ),
              ),
            ),
            λ has. more_fits,
          ),
          back.1,
        ),
      )

-- a device that the code may keep and a file may have, of such a guest
pub device_fits : (d : Device) → is_kept d ≡ true → is_saved d ≡ true → IsNarrowKept d → device_pages d ≤ 2 ^ 20
    → device_port d < 2 ^ 8 → device.Fits d
unfolding device
device_fits (kept.Block b) is saved narrow few port =
    let both = and_parts (is_state_kept (kept_of (kept.Block b))) (is_sized (kept_of (kept.Block b))) is in
    (fits8 1 (omega arith), (refl, block_fits b both.0 few port narrow.0 narrow.1 narrow.2 narrow.3))
device_fits (kept.Net n) is saved narrow few port =
    let both = and_parts (is_state_kept (kept_of (kept.Net n))) (is_sized (kept_of (kept.Net n))) is in
    (fits8 0 (omega arith), (refl, net_fits n both.0 few port narrow.0 narrow.1 narrow.2 narrow.3))
device_fits (kept.Vsock v) is saved narrow few port =
    let both = and_parts (is_state_kept (kept_of (kept.Vsock v))) (is_sized (kept_of (kept.Vsock v))) is in
    (fits8 3 (omega arith), (refl, vsock_fits v both.0 saved few port narrow.0 narrow.1 narrow.2 narrow.3))
device_fits (kept.Balloon b) is saved narrow few port =
    let both = and_parts (is_state_kept (kept_of (kept.Balloon b))) (is_sized (kept_of (kept.Balloon b))) is in
    (fits8 2 (omega arith), (refl, balloon_fits b both.0 few port narrow.0 narrow.1 narrow.2 narrow.3))
device_fits (kept.Entropy e) is saved narrow few port =
    let both = and_parts (is_state_kept (kept_of (kept.Entropy e))) (is_sized (kept_of (kept.Entropy e))) is in
    (fits8 4 (omega arith), (refl, entropy_fits e both.0 few port narrow.0 narrow.1 narrow.2 narrow.3))
