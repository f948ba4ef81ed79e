-- No request of a device passed later than guest time: from its start on, with each reply and change, and from kept data on.
use Rattle.std.proofs.Common.{◌≡◌, ℕ, ◌-◌, ◌≤◌, max, length, ◌&&◌, refl, sym, subst, ap, ◌∙◌, arith, Bool, true, false, if◌then◌else◌, Option, Some, None, is_some, option_map}
use Rattle.std.specs.Prelude.{unwrap_or}
use Rattle.std.proofs.lemmas.Bool.{and_from, and_parts, le-leb, leb-true}
use Rattle.vm_types.specs.declared.entry.Step.{Step}
use Rattle.vm_types.specs.declared.op.Op.{Op}
use Rattle.vm_types.specs.declared.op.BoardOp.TheVariants.{Time}
use Rattle.vm_types.specs.declared.reply.Reply.{Reply}
use Rattle.vm_types.specs.Fits.{Fits}
use Rattle.device_trace.specs.Keeps.{Moves}
use Rattle.device_trace.specs.Script.{Script, Ends, Asks, data_of}
use Rattle.device_trace.specs.States.{changed_at, stepped, wants}
use Rattle.device_trace.specs.Traces.{Changing, root_op}
use Rattle.vq_split.specs.declared.queue.Queue.{Queue}
use Rattle.token_bucket.specs.Kept.{Kept}
use Rattle.rate_gate.specs.Gate.{Buckets, bucket_took, gate_took, gate_takes, with_buckets}
use Rattle.queue_device.specs.declared.device.QueueRounds.{QueueRounds}
use Rattle.queue_device.specs.declared.lanes.Due.{Due}
use Rattle.queue_device.specs.declared.lanes.Due.TheVariants as due
use Rattle.queue_device.specs.declared.lanes.Which.{Which}
use Rattle.queue_device.specs.declared.lanes.Which.TheVariants.{First, Second, Third}
use Rattle.queue_device.specs.Acting.{Acting, Acts, Comes}
use Rattle.queue_device.specs.Chains.{Chain}
use Rattle.queue_device.specs.Left.{Hand, queued}
use Rattle.queue_device.specs.Owning.{ActingMoves, HandLeaves, Leaves}
use Rattle.queue_device.specs.Rounds.{begins_at, due_from, lane, lane_begins, next_begins, queue_rules, serving, time_asked, time_of}
use Rattle.queue_device.specs.Service.{Queued, Service}
use Rattle.queue_device.specs.Timing.{is_timed_left, passed_by, timed_chain, timed_due, timed_lane, timed_next}
use Rattle.queue_device.proofs.KeptStays.{root_of, test_parts}
use Rattle.queue_device.proofs.Owning.{left_moves, step_moves}
use Rattle.block_device.specs.declared.data.BlockData.{BlockData}
use Rattle.block_device.specs.declared.kind.BlockChange.TheVariants.{Limits, Sectors}
use Rattle.block_device.specs.declared.kind.BlockKind.{BlockKind}
use Rattle.block_device.specs.Block.{headed, need_of}
use Rattle.block_device.proofs.Limits as block_limits
use Rattle.net_device.specs.declared.kind.NetChange.TheVariants.{Receives, Transmits}
use Rattle.net_device.specs.Frames.{header_size, sent_length}
use Rattle.net_device.specs.Net as nets
use Rattle.net_device.specs.Work as net_work
use Rattle.net_device.proofs.Limits as net_limits
use Rattle.entropy_device.specs.Entropy as entropies
use Rattle.entropy_device.specs.Words.{filled_length}
use Rattle.entropy_device.specs.Work as entropy_work
use Rattle.entropy_device.proofs.Limits as entropy_limits
use Rattle.guest_devices.specs.declared.change.DeviceChange.{DeviceChange}
use Rattle.guest_devices.specs.declared.change.DeviceChange.TheVariants as changes
use Rattle.guest_devices.specs.declared.device.Device.{Device}
use Rattle.guest_devices.specs.declared.device.Device.TheVariants as devices
use Rattle.guest_devices.specs.declared.new_device.NewDevice.{NewDevice}
use Rattle.guest_devices.specs.Devices.{DataOf, DeviceLeads, DeviceLeft, DeviceWants, FlatDevice, device_at, device_changed, device_did}
use Rattle.guest_devices.specs.Devices.{device_next, device_reset, device_rules, device_told, device_wants, left_of, left_reset, left_times, left_told, new_device, new_left}
use Rattle.guest_devices.specs.Kept.{device_left, is_device_state, kept_of}
use Rattle.guest_devices.specs.Kinds.{Balloon, Block, ChangeOf, Entropy, Kind, Net, OwnOf, StageOf, Vsock, change_for, changing_of, hand_of, is_work_of}
use Rattle.guest_devices.specs.Kinds.{own_at_start, reset_for, service_of, times_of}
use Rattle.guest_devices.specs.Moments.{IsTimelyDevice, IsTimelyLeft, KeepsTime, are_before, is_before, is_fresh, is_fresh_change, is_fresh_new}
use Rattle.guest_devices.specs.Moments.{is_timely, is_timely_of}
use Rattle.guest_devices.proofs.Follows.{at_start, did_leads, one_left, reset_leads, told_leads, wants_only}

-- ---- at a later time

before_later : (time later : ℕ) (b : Option Kept) → time ≤ later → is_before time b ≡ true → is_before later b ≡ true
before_later time later None le is = refl
before_later time later (Some k) le is = le-leb k.moment later (omega (arith, leb-true k.moment time is, le))

limits_later : (time later : ℕ) (b : Buckets) → time ≤ later → are_before time b ≡ true → are_before later b ≡ true
limits_later time later b le is =
    let both = and_parts (is_before time b.bandwidth) (is_before time b.ops) is in
    and_from (is_before later b.bandwidth) (is_before later b.ops) (before_later time later b.bandwidth le both.0)
    (before_later time later b.ops le both.1)

pub own_later : (k : Kind) (time later : ℕ) (e : OwnOf k) → time ≤ later → is_timely_of k time e ≡ true → is_timely_of k later e ≡ true
own_later Block time later e le is = limits_later time later e.limits le is
own_later Net time later e le is =
    let both = and_parts (are_before time e.rx) (are_before time e.tx) is in
    and_from (are_before later e.rx) (are_before later e.tx) (limits_later time later e.rx le both.0) (limits_later time later e.tx le both.1)
own_later Vsock time later e le is = refl
own_later Balloon time later e le is = refl
own_later Entropy time later e le is = limits_later time later e.limits le is

pub device_later : (time later : ℕ) (d : FlatDevice) → time ≤ later → IsTimelyDevice time d → IsTimelyDevice later d
device_later time later d le (left, leads, was) =
    (left, leads, record { now = own_later left.kind time later (data_of left.left).own le was.now; stays = was.stays })

-- ---- a request that passes

took_before : (time now : ℕ) (b : Option Kept) (tokens : ℕ) → now ≤ time → is_before time b ≡ true
    → is_before time (bucket_took b tokens now) ≡ true
took_before time now None tokens le is = refl
took_before time now (Some k) tokens le is = le-leb (max now k.moment) time (omega (arith, leb-true k.moment time is, le))

gate_before : (time now : ℕ) (b : Buckets) (bytes : ℕ) → now ≤ time → are_before time b ≡ true
    → are_before time (gate_took b bytes now) ≡ true
gate_before time now b bytes le is =
    let both = and_parts (is_before time b.bandwidth) (is_before time b.ops) is in
    and_from (is_before time (bucket_took b.bandwidth bytes now)) (is_before time (bucket_took b.ops 1 now))
    (took_before time now b.bandwidth bytes le both.0) (took_before time now b.ops 1 le both.1)

block_pass : (test : Bool) (time now need : ℕ) (e : BlockData) → now ≤ time → are_before time e.limits ≡ true
    → are_before time (unwrap_or (option_map (λ (limits : Buckets). record e { limits = limits })
    (if test then Some (gate_took e.limits need now) else None)) e).limits ≡ true
block_pass true time now need e le is = gate_before time now e.limits need le is
block_pass false time now need e le is = is

rx_pass : (test : Bool) (time now need : ℕ) (e : nets.Net) → now ≤ time → is_timely_of Net time e ≡ true
    → is_timely_of Net time (unwrap_or (option_map (λ (limits : Buckets). record e { rx = limits })
    (if test then Some (gate_took e.rx need now) else None)) e) ≡ true
rx_pass true time now need e le is =
    let both = and_parts (are_before time e.rx) (are_before time e.tx) is in
    and_from (are_before time (gate_took e.rx need now)) (are_before time e.tx) (gate_before time now e.rx need le both.0) both.1
rx_pass false time now need e le is = is

tx_pass : (test : Bool) (time now need : ℕ) (e : nets.Net) → now ≤ time → is_timely_of Net time e ≡ true
    → is_timely_of Net time (unwrap_or (option_map (λ (limits : Buckets). record e { tx = limits })
    (if test then Some (gate_took e.tx need now) else None)) e) ≡ true
tx_pass true time now need e le is =
    let both = and_parts (are_before time e.rx) (are_before time e.tx) is in
    and_from (are_before time e.rx) (are_before time (gate_took e.tx need now)) both.0 (gate_before time now e.tx need le both.1)
tx_pass false time now need e le is = is

abbrev limited : Buckets → entropies.Entropy
limited limits = record { limits = limits }

entropy_pass : (test : Bool) (time now need : ℕ) (e : entropies.Entropy) → now ≤ time → are_before time e.limits ≡ true
    → are_before time (unwrap_or (option_map limited (if test then Some (gate_took e.limits need now) else None)) e).limits ≡ true
entropy_pass true time now need e le is = gate_before time now e.limits need le is
entropy_pass false time now need e le is = is

pass_of : (k : Kind) (w : Which) (c : Chain) (now time : ℕ) (e : OwnOf k) → now ≤ time → is_timely_of k time e ≡ true
    → is_timely_of k time (unwrap_or ((service_of k).passes w c now e) e) ≡ true
pass_of Block w c now time e le is =
    let need = need_of (headed c.parts c.got) in
    block_pass (gate_takes e.limits need now) time now need e le is
pass_of Net First c now time e le is =
    let need = length e.text - header_size in
    rx_pass (gate_takes e.rx need now) time now need e le is
pass_of Net Second c now time e le is = tx_pass (gate_takes e.tx (sent_length c.parts) now) time now (sent_length c.parts) e le is
pass_of Net Third c now time e le is = is
pass_of Vsock w c now time e le is = refl
pass_of Balloon w c now time e le is = refl
pass_of Entropy w c now time e le is =
    let need = filled_length c.parts in
    entropy_pass (gate_takes e.limits need now) time now need e le is

passed_of : (k : Kind) (o : Option (Which × Chain)) (now time : ℕ) (e : OwnOf k) → (is_some o ≡ true → now ≤ time)
    → is_timely_of k time e ≡ true → is_timely_of k time (passed_by (service_of k) o now e) ≡ true
passed_of k (Some (w, c)) now time e le is = pass_of k w c now time e (le refl) is
passed_of k None now time e le is = is

-- ---- what a kind does leaves its limits

module _ {E : Type 0} (S T : E → E → Type 0) (weaker : (e f : E) → S e f → T e f) where
  acting_weaker : {A : Type 0} (e : E) (t : Acting E A) → ActingMoves S e t → ActingMoves T e t
  acting_weaker e (Comes f a) moves = weaker e f moves
  acting_weaker e (Acts f op on) moves =
      (weaker e f moves.0, λ g reply fit. acting_weaker g (on g reply) (moves.1 g reply fit))

  leaves_weaker : (s : Service E) → ((e f g : E) → T e f → T f g → T e g) → Leaves s S → Leaves s T
  leaves_weaker s again leaves = record {
    same = λ e. weaker e e (leaves.same e);
    again = again;
    answer = λ e reply. acting_weaker e (s.answer e reply) (leaves.answer e reply);
    begun = λ k e. weaker e (s.begun k e) (leaves.begun k e);
    take = λ k parts e. acting_weaker e (s.take k parts e) (leaves.take k parts e);
    serve = λ k c e. acting_weaker e (s.serve k c e) (leaves.serve k c e);
    over = λ k e. weaker e (s.over k e) (leaves.over k e);
    reset = λ e. weaker e (s.reset e) (leaves.reset e);
  }

  hand_weaker : (h : Hand E) → HandLeaves S h → HandLeaves T h
  hand_weaker h leaves = record {
    answering = λ e reply. acting_weaker e (h.answering e reply) (leaves.answering e reply);
    taking = λ e reply. acting_weaker e (h.taking e reply) (leaves.taking e reply);
    serving = λ e reply. acting_weaker e (h.serving e reply) (leaves.serving e reply);
  }

module _ {E : Type 0} (T : E → E → Type 0) (any : (e f : E) → T e f) where
  acting_any : {A : Type 0} (e : E) (t : Acting E A) → ActingMoves T e t
  acting_any e (Comes f a) = any e f
  acting_any e (Acts f op on) = (any e f, λ g reply fit. acting_any g (on g reply))

  leaves_any : (s : Service E) → Leaves s T
  leaves_any s = record {
    same = λ e. any e e;
    again = λ e f g first second. any e g;
    answer = λ e reply. acting_any e (s.answer e reply);
    begun = λ k e. any e (s.begun k e);
    take = λ k parts e. acting_any e (s.take k parts e);
    serve = λ k c e. acting_any e (s.serve k c e);
    over = λ k e. any e (s.over k e);
    reset = λ e. any e (s.reset e);
  }

  hand_any : (h : Hand E) → HandLeaves T h
  hand_any h = record {
    answering = λ e reply. acting_any e (h.answering e reply);
    taking = λ e reply. acting_any e (h.taking e reply);
    serving = λ e reply. acting_any e (h.serving e reply);
  }

  moves_any : (d : Queued E) (t : Script (Queued E)) → Moves (λ (e f : Queued E). T e.own f.own) d t
  moves_any d (Ends e) = any d.own e.own
  moves_any d (Asks e op on) = (any d.own e.own, λ f reply fit. moves_any f (on f reply))

block_weaker : (e f : BlockData) → block_limits.Same e f → KeepsTime Block e f
block_weaker e f same = λ time is. subst (λ (b : Buckets). are_before time b ≡ true) (sym same) is

net_weaker : (e f : nets.Net) → net_limits.Same e f → KeepsTime Net e f
net_weaker e f same =
    λ time is. subst (λ (b : Buckets). (are_before time b && are_before time f.tx) ≡ true) (sym same.0)
    (subst (λ (b : Buckets). (are_before time e.rx && are_before time b) ≡ true) (sym same.1) is)

entropy_weaker : (e f : entropies.Entropy) → entropy_limits.Same e f → KeepsTime Entropy e f
entropy_weaker e f same = λ time is. subst (λ (b : Buckets). are_before time b ≡ true) (sym same) is

keeps_again : (k : Kind) (e f g : OwnOf k) → KeepsTime k e f → KeepsTime k f g → KeepsTime k e g
keeps_again k e f g first second = λ time is. second time (first time is)

vsock_any : (e f : OwnOf Vsock) → KeepsTime Vsock e f
vsock_any e f = λ time is. refl

balloon_any : (e f : OwnOf Balloon) → KeepsTime Balloon e f
balloon_any e f = λ time is. refl

leaves_of : (k : Kind) → Leaves (service_of k) (KeepsTime k)
leaves_of Block =
    leaves_weaker block_limits.Same (KeepsTime Block) block_weaker (service_of Block) (keeps_again Block) block_limits.leaves
leaves_of Net = leaves_weaker net_limits.Same (KeepsTime Net) net_weaker (service_of Net) (keeps_again Net) net_limits.leaves
leaves_of Vsock = leaves_any (KeepsTime Vsock) vsock_any (service_of Vsock)
leaves_of Balloon = leaves_any (KeepsTime Balloon) balloon_any (service_of Balloon)
leaves_of Entropy =
    leaves_weaker entropy_limits.Same (KeepsTime Entropy) entropy_weaker (service_of Entropy) (keeps_again Entropy) entropy_limits.leaves

hands_of : (k : Kind) (g : StageOf k) → HandLeaves (KeepsTime k) (hand_of k g)
hands_of Block g = hand_weaker block_limits.Same (KeepsTime Block) block_weaker (hand_of Block g) (block_limits.hand_leaves g)
hands_of Net g = hand_weaker net_limits.Same (KeepsTime Net) net_weaker (hand_of Net g) (net_limits.hand_leaves g)
hands_of Vsock g = hand_any (KeepsTime Vsock) vsock_any (hand_of Vsock g)
hands_of Balloon g = hand_any (KeepsTime Balloon) balloon_any (hand_of Balloon g)
hands_of Entropy g = hand_weaker entropy_limits.Same (KeepsTime Entropy) entropy_weaker (hand_of Entropy g) (entropy_limits.hand_leaves g)

-- ---- who is timed wants guest time

module _ {E C : Type 0} (s : Service E) (changing : Changing E C) where
  time_by : (timed : Bool) (k : Which) (c : Chain) (d e : Queued E) → is_some {T = Which × Chain} (if timed then Some (k, c) else None) ≡ true
      → root_op (if timed then time_asked s k c d else serving s k c e) ≡ Op.Board Time
  time_by true k c d e is = refl
  time_by false k c d e is = absurd (cc)

  lane_time : (k : Which) (q : Option Queue) (w : Option Chain) (d : Queued E) → is_some (timed_lane s k q w d.own) ≡ true
      → root_op (lane_begins s k q w d) ≡ Op.Board Time
  lane_time k (Some q) (Some c) d is = time_by (s.is_timed k c d.own) k c d _ is
  lane_time k (Some q) None d is = absurd (cc)
  lane_time k None w d is = absurd (cc)

  next_time : (o : Option Which) (d : Queued E) → is_some (timed_next s o d) ≡ true → root_op (next_begins s o d) ≡ Op.Board Time
  next_time (Some k) d is = lane_time k (lane s k d).queue (lane s k d).waiting d is
  next_time None d is = absurd (cc)

  due_time : (o : Due) (d : Queued E) → is_some (timed_due s o d) ≡ true → root_op (begins_at s o d) ≡ Op.Board Time
  due_time (due.Lane k) d is = next_time (due_from s k d) d is
  due_time due.Look d is = absurd (cc)
  due_time due.Question d is = absurd (cc)
  due_time due.Wait d is = absurd (cc)

  wants_time : (t : Script (Queued E)) → is_timed_left s t ≡ true → wants (queue_rules s changing) t ≡ Op.Board Time
  wants_time (Ends d) is = due_time d.rounds.due d is
  wants_time (Asks d op on) is = absurd (cc)

pub times_time : (d : DeviceLeft) → left_times d ≡ true → device_wants d ≡ Op.Board Time
times_time d is = wants_time (service_of d.kind) (changing_of d.kind) d.left is

-- ---- from data to data

step_timely : (time later : ℕ) (d : DeviceLeft) (reply : Reply) → time ≤ later → IsTimelyLeft time d → Fits (device_wants d) reply
    → (left_times d ≡ true → time_of reply ≤ later) → IsTimelyLeft later (device_next d reply)
step_timely time later d reply le was fit asked =
    let k = d.kind in
    let s = service_of k in
    let on = step_moves s (KeepsTime k) (leaves_of k) (changing_of k) d.left reply was.stays fit in
    let passed =
    passed_of k (timed_chain s d.left) (time_of reply) later (data_of d.left).own asked
    (own_later k time later (data_of d.left).own le was.now) in
    subst (λ (x : Script (DataOf k)). IsTimelyLeft later (left_of k x))
    (ap (λ (b : Bool). if b then stepped (device_rules k) d.left reply else d.left) (sym fit))
    (record { now = on.0 later passed; stays = on.1 })

pub did_timely : (time later : ℕ) (d : FlatDevice) (s : Step) → time ≤ later → (was : IsTimelyDevice time d) → DeviceWants d s.op
    → Fits s.op s.reply → (left_times was.0 ≡ true → time_of s.reply ≤ later) → IsTimelyDevice later (device_did d s)
did_timely time later d s le was want fit asked =
    let is = wants_only d was.0 s.op was.1 want in
    let here : Fits (device_wants was.0) s.reply = subst (λ (op : Op). Fits op s.reply) is fit in
    (device_next was.0 s.reply, did_leads d was.0 s was.1 is fit, step_timely time later was.0 s.reply le was.2 here asked)

-- ---- changes

-- data are timely behind it, at any time
abbrev LeavesTimely : (k : Kind) → Option (ChangeOf k) → Type 0
LeavesTimely k None = Unit {0}
LeavesTimely k (Some c) =
    (time : ℕ) (e : OwnOf k) → is_timely_of k time e ≡ true
    → (is_timely_of k time ((changing_of k).between c e) ≡ true) × (is_timely_of k time ((changing_of k).inside c e) ≡ true)

other_before : (time : ℕ) (o : Option (Option Kept)) (b : Option Kept) → is_fresh o ≡ true → is_before time b ≡ true
    → is_before time (unwrap_or o b) ≡ true
other_before time None b fresh is = is
other_before time (Some x) b fresh is = before_later 0 time x (omega arith) fresh

with_before : (time : ℕ) (b : Buckets) (bandwidth ops : Option (Option Kept)) → (is_fresh bandwidth && is_fresh ops) ≡ true
    → are_before time b ≡ true → are_before time (with_buckets b bandwidth ops) ≡ true
with_before time b bandwidth ops fresh is =
    let new = and_parts (is_fresh bandwidth) (is_fresh ops) fresh in
    let both = and_parts (is_before time b.bandwidth) (is_before time b.ops) is in
    and_from (is_before time (unwrap_or bandwidth b.bandwidth)) (is_before time (unwrap_or ops b.ops))
    (other_before time bandwidth b.bandwidth new.0 both.0) (other_before time ops b.ops new.1 both.1)

block_timely : (change : DeviceChange) → is_fresh_change change ≡ true → LeavesTimely Block (change_for change Block)
block_timely (changes.Block (Sectors sectors)) fresh = λ time e is. (is, is)
block_timely (changes.Block (Limits bandwidth ops)) fresh =
    λ time e is. let with = with_before time e.limits bandwidth ops fresh is in (with, with)
block_timely (changes.Net c) fresh = tt
block_timely (changes.Balloon c) fresh = tt

rx_timely : (time : ℕ) (e : nets.Net) (bandwidth ops : Option (Option Kept)) → (is_fresh bandwidth && is_fresh ops) ≡ true
    → is_timely_of Net time e ≡ true → is_timely_of Net time (nets.limited (Receives bandwidth ops) e) ≡ true
rx_timely time e bandwidth ops fresh is =
    let both = and_parts (are_before time e.rx) (are_before time e.tx) is in
    and_from (are_before time (with_buckets e.rx bandwidth ops)) (are_before time e.tx)
    (with_before time e.rx bandwidth ops fresh both.0) both.1

tx_timely : (time : ℕ) (e : nets.Net) (bandwidth ops : Option (Option Kept)) → (is_fresh bandwidth && is_fresh ops) ≡ true
    → is_timely_of Net time e ≡ true → is_timely_of Net time (nets.limited (Transmits bandwidth ops) e) ≡ true
tx_timely time e bandwidth ops fresh is =
    let both = and_parts (are_before time e.rx) (are_before time e.tx) is in
    and_from (are_before time e.rx) (are_before time (with_buckets e.tx bandwidth ops)) both.0
    (with_before time e.tx bandwidth ops fresh both.1)

net_timely : (change : DeviceChange) → is_fresh_change change ≡ true → LeavesTimely Net (change_for change Net)
net_timely (changes.Net (Receives bandwidth ops)) fresh =
    λ time e is. let with = rx_timely time e bandwidth ops fresh is in (with, with)
net_timely (changes.Net (Transmits bandwidth ops)) fresh =
    λ time e is. let with = tx_timely time e bandwidth ops fresh is in (with, with)
net_timely (changes.Block c) fresh = tt
net_timely (changes.Balloon c) fresh = tt

vsock_timely : (change : DeviceChange) → LeavesTimely Vsock (change_for change Vsock)
vsock_timely (changes.Block c) = tt
vsock_timely (changes.Net c) = tt
vsock_timely (changes.Balloon c) = tt

balloon_timely : (change : DeviceChange) → LeavesTimely Balloon (change_for change Balloon)
balloon_timely (changes.Block c) = tt
balloon_timely (changes.Net c) = tt
balloon_timely (changes.Balloon c) = λ time e is. (refl, refl)

entropy_timely : (change : DeviceChange) → LeavesTimely Entropy (change_for change Entropy)
entropy_timely (changes.Block c) = tt
entropy_timely (changes.Net c) = tt
entropy_timely (changes.Balloon c) = tt

change_timely : (k : Kind) (change : DeviceChange) → is_fresh_change change ≡ true → LeavesTimely k (change_for change k)
change_timely Block change fresh = block_timely change fresh
change_timely Net change fresh = net_timely change fresh
change_timely Vsock change fresh = vsock_timely change
change_timely Balloon change fresh = balloon_timely change
change_timely Entropy change fresh = entropy_timely change

reset_timely_of : (k : Kind) → LeavesTimely k (reset_for k)
reset_timely_of Block = tt
reset_timely_of Net = tt
reset_timely_of Vsock = λ time e is. (refl, refl)
reset_timely_of Balloon = tt
reset_timely_of Entropy = tt

changed_timely : (k : Kind) (c : ChangeOf k) (time : ℕ) (t : Script (DataOf k)) → LeavesTimely k (Some c) → IsTimelyLeft time (left_of k t)
    → IsTimelyLeft time (left_of k (changed_at (device_rules k) c t))
changed_timely Block c time (Ends d) fine was = record { now = (fine time d.own was.now).0; stays = λ t is. is }
changed_timely Block c time (Asks d op on) fine was =
    record { now = (fine time d.own was.now).1; stays = (λ t is. is, was.stays.1) }
changed_timely Net c time (Ends d) fine was = record { now = (fine time d.own was.now).0; stays = λ t is. is }
changed_timely Net c time (Asks d op on) fine was =
    record { now = (fine time d.own was.now).1; stays = (λ t is. is, was.stays.1) }
changed_timely Vsock c time t fine was = record { now = refl; stays = moves_any (KeepsTime Vsock) vsock_any _ _ }
changed_timely Balloon c time t fine was = record { now = refl; stays = moves_any (KeepsTime Balloon) balloon_any _ _ }
changed_timely Entropy c time (Ends d) fine was = record { now = (fine time d.own was.now).0; stays = λ t is. is }
changed_timely Entropy c time (Asks d op on) fine was =
    record { now = (fine time d.own was.now).1; stays = (λ t is. is, was.stays.1) }

told_by : (left : DeviceLeft) (c : Option (ChangeOf left.kind)) (time : ℕ) → LeavesTimely left.kind c → IsTimelyLeft time left
    → IsTimelyLeft time (left_told left c)
told_by left None time fine was = was
told_by left (Some c) time fine was = changed_timely left.kind c time left.left fine was

pub told_timely : (time : ℕ) (d : FlatDevice) (c : DeviceChange) → is_fresh_change c ≡ true → IsTimelyDevice time d
    → IsTimelyDevice time (device_told d c)
told_timely time d c fresh (left, leads, was) =
    (device_changed c left, told_leads d left c leads, told_by left (change_for c left.kind) time (change_timely left.kind c fresh) was)

pub reset_timely : (time : ℕ) (d : FlatDevice) → IsTimelyDevice time d → IsTimelyDevice time (device_reset d)
reset_timely time d (left, leads, was) =
    (left_reset left, reset_leads d left leads, told_by left (reset_for left.kind) time (reset_timely_of left.kind) was)

-- ---- at the start, and from kept data on

pub new_timely : (time port pages : ℕ) (what : NewDevice) → is_fresh_new what ≡ true → IsTimelyDevice time (new_device port pages what)
new_timely time port pages what fresh =
    let left = new_left port pages what in (
      left,
      at_start left,
      record { now = own_later left.kind 0 time (own_at_start what) (omega arith) fresh; stays = λ t is. is },
    )

left_timely : (time : ℕ) (it : Device) → is_timely time it ≡ true → IsTimelyLeft time (device_left it)
left_timely time it is =
    let d = kept_of it in
    let k = d.kind in
    let on =
    left_moves (service_of k) (KeepsTime k) (leaves_of k) d.phase (hand_of k d.stage) (queued d.rounds d.own) (hands_of k d.stage) in
    record { now = on.0 time is; stays = on.1 }

pub kept_timely : (time : ℕ) (it : Device) → is_timely time it ≡ true → IsTimelyDevice time (device_at (device_left it))
kept_timely time it is = (device_left it, at_start (device_left it), left_timely time it is)

-- and what is kept of such a device is timely
pub copied_timely : (time : ℕ) (d : FlatDevice) (it : Device) → is_device_state it ≡ true → DeviceLeads d (device_left it)
    → IsTimelyDevice time d → is_timely time it ≡ true
copied_timely time d it is leads (left, own, was) =
    let k = (kept_of it).kind in
    let place =
    (test_parts (service_of k) (times_of k) (is_work_of k) (kept_of it).phase (kept_of it).rounds (kept_of it).stage is).place in
    let root =
    root_of (service_of k) (times_of k) (hand_of k) (kept_of it).phase (kept_of it).rounds (kept_of it).own (kept_of it).stage place in
    let here : IsTimelyLeft time (device_left it) =
    subst (λ (x : DeviceLeft). IsTimelyLeft time x) (one_left d left (device_left it) own leads) was in
    subst (λ (q : DataOf k). is_timely_of k time q.own ≡ true) root here.now

-- ---- the test, of what the code keeps

pub block_test : (time : ℕ) (now it : QueueRounds BlockKind) → now ≡ it
    → are_before time now.kind.facts.limits ≡ is_timely time (devices.Block it)
block_test time now it same = ap (λ (b : QueueRounds BlockKind). are_before time b.kind.facts.limits) same

pub rx_test : (time : ℕ) (now it : QueueRounds net_work.Kept) (rx : Buckets) → now ≡ it → rx ≡ now.kind.own.rx
    → are_before time rx ≡ are_before time it.kind.own.rx
rx_test time now it rx same is =
    ap (λ (b : Buckets). are_before time b) (is ∙ ap (λ (n : QueueRounds net_work.Kept). n.kind.own.rx) same)

pub tx_test : (time : ℕ) (now it : QueueRounds net_work.Kept) (tx : Buckets) → now ≡ it → tx ≡ now.kind.own.tx
    → are_before time tx ≡ are_before time it.kind.own.tx
tx_test time now it tx same is =
    ap (λ (b : Buckets). are_before time b) (is ∙ ap (λ (n : QueueRounds net_work.Kept). n.kind.own.tx) same)

pub entropy_test : (time : ℕ) (now it : QueueRounds entropy_work.Kept) (limits : Buckets) → now ≡ it → limits ≡ now.kind.own.limits
    → are_before time limits ≡ is_timely time (devices.Entropy it)
entropy_test time now it limits same is =
    ap (λ (b : Buckets). are_before time b) (is ∙ ap (λ (n : QueueRounds entropy_work.Kept). n.kind.own.limits) same)

pub both_on : (a b : Bool) → a ≡ true → b ≡ (a && b)
both_on true b is = refl
both_on false b is = cc

pub first_off : (a b : Bool) → a ≡ false → false ≡ (a && b)
first_off false b is = refl
first_off true b is = cc
