-- Where each reply is small, narrow data lead to narrow data, and a device writes bytes.
use Rattle.std.proofs.Common.{◌≡◌, ℕ, ◌≤◌, ◌^◌, refl, sym, subst, ap, ◌∙◌, Bool, true, false, Option, Some, None, if◌then◌else◌}
use Rattle.vm_types.specs.declared.op.Op.{Op}
use Rattle.vm_types.specs.declared.entry.Step.{Step}
use Rattle.vm_types.specs.declared.reply.Reply.{Reply}
use Rattle.device_trace.specs.Script.{Script}
use Rattle.device_trace.specs.States.{stepped}
use Rattle.queue_device.specs.declared.lanes.Rounds.{Rounds}
use Rattle.queue_device.specs.Left.{Hand, left_at, queued}
use Rattle.queue_device.specs.Resuming.{AreShort, IsShortChain}
use Rattle.queue_device.specs.Sizes.{IsReplyTo, IsSmallWrite}
use Rattle.queue_device.proofs.GoesOn.{change_on, new_on, reply_on}
use Rattle.queue_device.proofs.Never.{never}
use Rattle.queue_device.proofs.SmallActs.{wants_small}
use Rattle.queue_device.specs.Chains.{Chain}
use Rattle.block_device.specs.declared.kind.BlockChange.TheVariants.{Limits, Sectors}
use Rattle.token_bucket.specs.Kept.{Kept}
use Rattle.block_device.specs.declared.data.BlockData.{BlockData}
use Rattle.block_device.specs.Block.{changed}
use Rattle.rate_gate.specs.Small.{AreSmallOthers}
use Rattle.block_device.specs.Working.{IsSizedData}
use Rattle.block_device.proofs.Narrow.{acts_small}
use Rattle.block_device.proofs.Resuming.{resumes_sized}
use Rattle.rate_gate.proofs.SmallLimits.{others_small}
use Rattle.net_device.specs.declared.kind.NetChange.TheVariants.{Receives, Transmits}
use Rattle.net_device.proofs.Narrow as net
use Rattle.net_device.proofs.Resuming as net_resuming
use Rattle.vsock_device.proofs.Narrow as vsock
use Rattle.vsock_device.proofs.Resuming as vsock_resuming
use Rattle.balloon_device.specs.declared.kind.BalloonChange.TheVariants.{Interval}
use Rattle.balloon_device.proofs.Narrow as balloon
use Rattle.balloon_device.proofs.Resuming as balloon_resuming
use Rattle.entropy_device.proofs.Narrow as entropy
use Rattle.entropy_device.proofs.Resuming as entropy_resuming
use Rattle.guest_devices.specs.declared.change.DeviceChange.{DeviceChange}
use Rattle.guest_devices.specs.declared.change.DeviceChange.TheVariants as changes
use Rattle.guest_devices.specs.declared.device.Device.{Device}
use Rattle.guest_devices.specs.declared.device.Device.TheVariants as device
use Rattle.guest_devices.specs.declared.new_device.NewDevice.{NewDevice}
use Rattle.guest_devices.specs.Devices.{DataOf, DeviceLeads, DeviceLeft, DeviceWants, FlatDevice, device_at, device_changed, device_did}
use Rattle.guest_devices.specs.Devices.{device_next, device_reset, device_rules, device_told, device_wants, left_of, left_reset, left_told, new_device, new_left}
use Rattle.guest_devices.specs.Kept.{IsBounded, IsBoundedDevice, KeptDevice, device_left, device_pages, device_port, is_device_state, is_state_kept, left_by}
use Rattle.guest_devices.specs.Kinds.{Balloon, Block, ChangeOf, Entropy, FitsChange, IsSizedOf, IsSmallChange, Kind, Net, OwnOf, Vsock, calls_of, change_for, changing_of, is_sized_work_of}
use Rattle.guest_devices.specs.Kinds.{own_at_start, reset_for, service_of, sized_hand_of, sized_in, stage_in, times_of}
use Rattle.guest_devices.specs.Narrow.{HasNarrow, IsNarrow, IsNarrowDevice, IsNarrowKept, IsNarrowNew, LeavesSized, NarrowLaws}
use Rattle.guest_devices.proofs.Follows.{at_start, did_leads, reset_leads, told_leads, wants_only}
use Rattle.guest_devices.proofs.Owed.{laws}

-- ---- what is owed of each kind

limited : (bandwidth ops : Option (Option Kept)) (e : BlockData) → AreSmallOthers bandwidth → AreSmallOthers ops → IsSizedData true e
    → IsSizedData true (changed (Limits bandwidth ops) e)
limited bandwidth ops e first second was =
    (was.0, λ yes. ((was.1 yes).0, (was.1 yes).1, others_small e.limits bandwidth ops first second (was.1 yes).2))

block_changed : (change : DeviceChange) → FitsChange change → IsSmallChange change → LeavesSized Block (change_for change Block)
block_changed (changes.Block (Sectors sectors)) size small = λ e was. ((size, was.1), (size, was.1))
block_changed (changes.Block (Limits bandwidth ops)) fits small =
    λ e was. let with = limited bandwidth ops e small.0 small.1 was in (with, with)
block_changed (changes.Net c) fits small = tt
block_changed (changes.Balloon c) fits small = tt

block_laws : NarrowLaws Block
block_laws = record {
  resumes = resumes_sized true;
  changed = block_changed;
  reset = tt;
  asks = λ e. tt;
  writes = acts_small;
  fine = λ e is. is.0;
  small = λ g. g.small refl;
  hand = λ g. refl;
  state = λ p r g is. is;
}

net_changed : (change : DeviceChange) → FitsChange change → IsSmallChange change → LeavesSized Net (change_for change Net)
net_changed (changes.Net (Receives bandwidth ops)) fits small =
    λ e was. let with = net.receives_small bandwidth ops e small.0 small.1 was in (with, with)
net_changed (changes.Net (Transmits bandwidth ops)) fits small =
    λ e was. let with = net.transmits_small bandwidth ops e small.0 small.1 was in (with, with)
net_changed (changes.Block c) fits small = tt
net_changed (changes.Balloon c) fits small = tt

net_laws : NarrowLaws Net
net_laws = record {
  resumes = net_resuming.resumes_sized true;
  changed = net_changed;
  reset = tt;
  asks = λ e. tt;
  writes = λ pages w g is. net.acts_small g.work.stage g.work.bytes (g.small refl).1;
  fine = λ e is. tt;
  small = λ g. g.small refl;
  hand = λ g. refl;
  state = λ p r g is. is;
}

vsock_changed : (change : DeviceChange) → FitsChange change → IsSmallChange change → LeavesSized Vsock (change_for change Vsock)
vsock_changed (changes.Block c) fits small = tt
vsock_changed (changes.Net c) fits small = tt
vsock_changed (changes.Balloon c) fits small = tt

vsock_laws : NarrowLaws Vsock
vsock_laws = record {
  resumes = vsock_resuming.resumes_sized true;
  changed = vsock_changed;
  reset = λ e was. (vsock.reset_sized e was, vsock.reset_sized e was);
  asks = λ e. tt;
  writes = λ pages w g is. vsock.acts_small g.stage (g.small refl);
  fine = λ e is. tt;
  small = λ g. g.small refl;
  hand = λ g. refl;
  state = λ p r g is. is;
}

balloon_changed : (change : DeviceChange) → FitsChange change → IsSmallChange change → LeavesSized Balloon (change_for change Balloon)
balloon_changed (changes.Balloon (Interval seconds)) fits small =
    λ e was. (balloon.interval_small seconds e small was, balloon.interval_small seconds e small was)
balloon_changed (changes.Block c) fits small = tt
balloon_changed (changes.Net c) fits small = tt

balloon_laws : NarrowLaws Balloon
balloon_laws = record {
  resumes = balloon_resuming.resumes_sized true;
  changed = balloon_changed;
  reset = tt;
  asks = λ e. tt;
  writes = λ pages w g is. balloon.acts_small g.stage;
  fine = λ e is. tt;
  small = λ g. g.small refl;
  hand = λ g. refl;
  state = λ p r g is. is;
}

entropy_changed : (change : DeviceChange) → FitsChange change → IsSmallChange change → LeavesSized Entropy (change_for change Entropy)
entropy_changed (changes.Block c) fits small = tt
entropy_changed (changes.Net c) fits small = tt
entropy_changed (changes.Balloon c) fits small = tt

entropy_laws : NarrowLaws Entropy
entropy_laws = record {
  resumes = entropy_resuming.resumes_sized true;
  changed = entropy_changed;
  reset = tt;
  asks = λ e. tt;
  writes = λ pages w g is. entropy.acts_small g.stage (g.small refl);
  fine = λ e is. tt;
  small = λ g. g.small refl;
  hand = λ g. refl;
  state = λ p r g is. is;
}

narrow_laws : (k : Kind) → NarrowLaws k
narrow_laws Block = block_laws
narrow_laws Net = net_laws
narrow_laws Vsock = vsock_laws
narrow_laws Balloon = balloon_laws
narrow_laws Entropy = entropy_laws

-- ---- from data to data

module _ (port pages : ℕ) (few : pages ≤ 2 ^ 20) where
  step_narrow : (left : DeviceLeft) (reply : Reply) → HasNarrow port pages left → IsReplyTo true (device_wants left) reply
      → HasNarrow port pages (device_next left reply)
  step_narrow left reply has fit =
      let k = left.kind in
      let on : (x : Script (DataOf k)) → stepped (device_rules k) left.left reply ≡ x → HasNarrow port pages (left_of k x) =
      λ x is. subst (λ (z : Script (DataOf k)). HasNarrow port pages (left_of k z)) is
      (reply_on (service_of k) (changing_of k) (sized_hand_of k) (is_sized_work_of k) (IsSizedOf k) true (times_of k) (calls_of k)
      port pages few (laws k).confines (narrow_laws k).resumes left.left reply has fit) in
      on _ (ap (λ (b : Bool). if b then stepped (device_rules k) left.left reply else left.left) (sym fit.0))

  told_by : (left : DeviceLeft) (c : Option (ChangeOf left.kind)) → LeavesSized left.kind c → HasNarrow port pages left
      → HasNarrow port pages (left_told left c)
  told_by left None fine has = has
  told_by left (Some c) fine has =
      let k = left.kind in
      change_on (service_of k) (changing_of k) (sized_hand_of k) (is_sized_work_of k) (IsSizedOf k) true (times_of k) (calls_of k)
      port pages few (laws k).confines (narrow_laws k).resumes left.left c has fine

  writes_narrow : (left : DeviceLeft) → HasNarrow port pages left → IsSmallWrite (device_wants left)
  writes_narrow left has =
      let k = left.kind in
      wants_small (service_of k) (changing_of k) (sized_hand_of k) (is_sized_work_of k) (IsSizedOf k) true (times_of k) (calls_of k)
      port pages few (laws k).confines (narrow_laws k).resumes (narrow_laws k).asks ((narrow_laws k).writes pages) left.left has

  pub new_narrow : (what : NewDevice) → IsNarrowNew what → IsNarrowDevice port pages (new_device port pages what)
  new_narrow what own =
      let left = new_left port pages what in
      let k = left.kind in (
        left,
        at_start left,
        new_on (service_of k) (changing_of k) (sized_hand_of k) (is_sized_work_of k) (IsSizedOf k) true (times_of k) (calls_of k)
            port pages few (laws k).confines (narrow_laws k).resumes (own_at_start what) own,
      )

  pub did_narrow : (d : FlatDevice) (s : Step) → IsNarrowDevice port pages d → DeviceWants d s.op → IsReplyTo true s.op s.reply
      → IsNarrowDevice port pages (device_did d s)
  did_narrow d s narrow want fit =
      let is = wants_only d narrow.0 s.op narrow.1 want in
      let here : IsReplyTo true (device_wants narrow.0) s.reply = subst (λ (op : Op). IsReplyTo true op s.reply) is fit in
      (device_next narrow.0 s.reply, did_leads d narrow.0 s narrow.1 is fit.0, step_narrow narrow.0 s.reply narrow.2 here)

  pub told_narrow : (d : FlatDevice) (c : DeviceChange) → FitsChange c → IsSmallChange c → IsNarrowDevice port pages d
      → IsNarrowDevice port pages (device_told d c)
  told_narrow d c fits small narrow = (
    device_changed c narrow.0,
    told_leads d narrow.0 c narrow.1,
    told_by narrow.0 (change_for c narrow.0.kind) ((narrow_laws narrow.0.kind).changed c fits small) narrow.2,
  )

  pub reset_narrow : (d : FlatDevice) → IsNarrowDevice port pages d → IsNarrowDevice port pages (device_reset d)
  reset_narrow d narrow = (
    left_reset narrow.0,
    reset_leads d narrow.0 narrow.1,
    told_by narrow.0 (reset_for narrow.0.kind) (narrow_laws narrow.0.kind).reset narrow.2,
  )

  pub write_narrow : (d : FlatDevice) (op : Op) → IsNarrowDevice port pages d → DeviceWants d op → IsSmallWrite op
  write_narrow d op narrow want =
      subst IsSmallWrite (sym (wants_only d narrow.0 op narrow.1 want)) (writes_narrow narrow.0 narrow.2)

-- ---- what the code keeps

chain_plain : (o : Option Chain) → IsShortChain true o → IsShortChain false o
chain_plain None short = tt
chain_plain (Some c) short = (short.0, short.1, short.2, never)

rounds_plain : (r : Rounds) → AreShort true r → AreShort false r
rounds_plain r short = (
  (chain_plain r.first.waiting short.0.0, never),
  (chain_plain r.second.waiting short.1.0, never),
  (chain_plain r.third.waiting short.2.0, never),
)

-- some device keeps what its items lead to, each number of it of its width
pub copied_narrow : (port pages : ℕ) (d : FlatDevice) → pages ≤ 2 ^ 20 → IsNarrowDevice port pages d
    → (it : Device) × DeviceLeads d (device_left it) × (is_device_state it ≡ true) × IsBoundedDevice it
    × (device_port it ≡ port) × (device_pages it ≡ pages) × IsNarrowKept it
copied_narrow port pages d few (left, leads, has) =
    let own = narrow_laws left.kind in
    let stage = stage_in left.kind has.stage in
    let kept : KeptDevice =
    record { kind = left.kind; phase = has.phase; rounds = has.rounds; own = has.own; stage = stage } in
    let state : is_state_kept kept ≡ true = own.state has.phase has.rounds has.stage has.is in
    let bounded : IsBounded kept = record {
      pages = subst (λ (n : ℕ). n ≤ 2 ^ 20) (sym has.of_pages) few;
      fine = own.fine has.own has.fine;
      short = rounds_plain has.rounds has.short;
    } in
    let narrow : IsNarrow kept = (has.short, has.narrow refl, own.small has.stage, has.fine) in
    let held = (laws left.kind).held has.phase has.rounds has.own stage state in
    let same : left_by kept ≡ left =
    ap (λ (h : Hand (OwnOf left.kind)). left_of left.kind (left_at (service_of left.kind) has.phase h (queued has.rounds has.own)))
    (sym (own.hand has.stage)) ∙ ap (left_of left.kind) has.left in
    let tells : device_left held.0 ≡ left = ap left_by held.1 ∙ same in (
      held.0,
      subst (λ (x : DeviceLeft). DeviceLeads d x) (sym tells) leads,
      ap is_state_kept held.1 ∙ state,
      subst (λ (x : KeptDevice). IsBounded x) (sym held.1) bounded,
      ap (λ (x : KeptDevice). x.rounds.port) held.1 ∙ has.at_port,
      ap (λ (x : KeptDevice). x.rounds.pages) held.1 ∙ has.of_pages,
      subst (λ (x : KeptDevice). IsNarrow x) (sym held.1) narrow,
    )

-- and narrow data that are kept tell what is left of a device from here on
pub narrow_at : (it : Device) → is_device_state it ≡ true → IsBoundedDevice it → IsNarrowKept it
    → IsNarrowDevice (device_port it) (device_pages it) (device_at (device_left it))
narrow_at (device.Block b) is bounded narrow = (
  device_left (device.Block b),
  at_start (device_left (device.Block b)),
  record {
    phase = b.phase;
    rounds = b.rounds;
    own = b.kind.facts;
    stage = sized_in Block b.kind.work narrow.2;
    is = is;
    fine = narrow.3;
    short = narrow.0;
    narrow = λ yes. narrow.1;
    at_port = refl;
    of_pages = refl;
    left = refl;
  },
)
narrow_at (device.Net n) is bounded narrow = (
  device_left (device.Net n),
  at_start (device_left (device.Net n)),
  record {
    phase = n.phase;
    rounds = n.rounds;
    own = n.kind.own;
    stage = sized_in Net n.kind.doing narrow.2;
    is = is;
    fine = narrow.3;
    short = narrow.0;
    narrow = λ yes. narrow.1;
    at_port = refl;
    of_pages = refl;
    left = refl;
  },
)
narrow_at (device.Vsock v) is bounded narrow = (
  device_left (device.Vsock v),
  at_start (device_left (device.Vsock v)),
  record {
    phase = v.phase;
    rounds = v.rounds;
    own = v.kind.own;
    stage = sized_in Vsock v.kind.stage narrow.2;
    is = is;
    fine = narrow.3;
    short = narrow.0;
    narrow = λ yes. narrow.1;
    at_port = refl;
    of_pages = refl;
    left = refl;
  },
)
narrow_at (device.Balloon b) is bounded narrow = (
  device_left (device.Balloon b),
  at_start (device_left (device.Balloon b)),
  record {
    phase = b.phase;
    rounds = b.rounds;
    own = b.kind.own;
    stage = sized_in Balloon b.kind.stage narrow.2;
    is = is;
    fine = narrow.3;
    short = narrow.0;
    narrow = λ yes. narrow.1;
    at_port = refl;
    of_pages = refl;
    left = refl;
  },
)
narrow_at (device.Entropy e) is bounded narrow = (
  device_left (device.Entropy e),
  at_start (device_left (device.Entropy e)),
  record {
    phase = e.phase;
    rounds = e.rounds;
    own = e.kind.own;
    stage = sized_in Entropy e.kind.stage narrow.2;
    is = is;
    fine = narrow.3;
    short = narrow.0;
    narrow = λ yes. narrow.1;
    at_port = refl;
    of_pages = refl;
    left = refl;
  },
)
