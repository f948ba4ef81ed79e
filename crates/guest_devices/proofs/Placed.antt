-- Data of which as much is left to do are of one port, and of a guest of as many pages.
use Rattle.std.proofs.Common.{◌≡◌, ℕ, ◌<◌, ◌≤◌, ◌^◌, ◌&&◌, nat_le, nat_lt, true, false, refl, sym, ap, subst, arith, Option, Some, None, length}
use Rattle.std.proofs.lemmas.Bool.{and_parts, ltb-true, lt-ltb, leb-true, le-leb}
use Rattle.queue_device.specs.declared.lanes.Rounds.{Rounds}
use Rattle.queue_device.specs.declared.phase.Phase.{Phase}
use Rattle.queue_device.specs.Chains.{Chain}
use Rattle.queue_device.specs.Kept.{is_state}
use Rattle.queue_device.specs.Left.{left_at, queued}
use Rattle.queue_device.specs.Resuming.{AreShort, IsShortChain}
use Rattle.queue_device.proofs.KeptStays.{state_one}
use Rattle.queue_device.proofs.Never.{never}
use Rattle.guest_devices.specs.declared.device.Device.{Device}
use Rattle.guest_devices.specs.Devices.{DataOf, DeviceLeft}
use Rattle.guest_devices.specs.Kept.{IsBoundedDevice, KeptDevice, device_left, device_pages, device_port, is_device_state, is_kept}
use Rattle.guest_devices.specs.Kept.{are_short, is_short, is_sized, is_state_kept, kept_of, left_by}
use Rattle.guest_devices.specs.Kinds.{OwnOf, StageOf, hand_of, is_fine_of, is_work_of, service_of, times_of}
use Rattle.guest_devices.proofs.Owed.{laws}

-- ---- short chains, as a test and as a fact

short_chain : (c : Option Chain) → is_short c ≡ true → IsShortChain false c
short_chain None is = tt
short_chain (Some c) is =
    let p1 =
    and_parts (nat_le (length c.parts) 256 && nat_le (length c.got.parts) 256) (nat_le (length c.got.bytes) 128) is in
    let p0 = and_parts (nat_le (length c.parts) 256) (nat_le (length c.got.parts) 256) p1.0 in
    (leb-true _ _ p0.0, leb-true _ _ p0.1, leb-true _ _ p1.1, never)

short_test : (c : Option Chain) → IsShortChain false c → is_short c ≡ true
short_test None short = refl
short_test (Some c) short =
    let parts = le-leb (length c.parts) 256 short.0 in
    let more = le-leb (length c.got.parts) 256 short.1 in
    let bytes = le-leb (length c.got.bytes) 128 short.2 in
    rw (parts, more, bytes) refl

short_rounds : (r : Rounds) → are_short r ≡ true → AreShort false r
short_rounds r are =
    let p1 = and_parts (is_short r.first.waiting && is_short r.second.waiting) (is_short r.third.waiting) are in
    let p0 = and_parts (is_short r.first.waiting) (is_short r.second.waiting) p1.0 in
    ((short_chain r.first.waiting p0.0, never), (short_chain r.second.waiting p0.1, never), (short_chain r.third.waiting p1.1, never))

rounds_test : (r : Rounds) → AreShort false r → are_short r ≡ true
rounds_test r short =
    let first = short_test r.first.waiting short.0.0 in
    let second = short_test r.second.waiting short.1.0 in
    let third = short_test r.third.waiting short.2.0 in
    rw (first, second, third) refl

-- ---- what is kept, by its parts

pub kept_from : (d : Device) → is_device_state d ≡ true → is_sized (kept_of d) ≡ true → is_kept d ≡ true
kept_from d state sized = rw (state, sized) refl

record KeptParts (d : KeptDevice) : Type 0 where
  state : is_state_kept d ≡ true
  own : is_fine_of d.kind d.own ≡ true
  pages : d.rounds.pages < 2 ^ 32
  short : AreShort false d.rounds

kept_parts : (d : Device) → is_kept d ≡ true → KeptParts (kept_of d)
kept_parts d is =
    let k = kept_of d in
    let p2 = and_parts (is_state_kept k) (is_sized k) is in
    let p1 = and_parts (is_fine_of k.kind k.own && nat_lt k.rounds.pages (2 ^ 32)) (are_short k.rounds) p2.1 in
    let p0 = and_parts (is_fine_of k.kind k.own) (nat_lt k.rounds.pages (2 ^ 32)) p1.0 in
    record { state = p2.0; own = p0.0; pages = ltb-true _ _ p0.1; short = short_rounds k.rounds p1.1 }

-- whatever is kept where this is left has these
abbrev TellsPlace : ℕ → ℕ → DeviceLeft → Type 0
TellsPlace port pages d =
    (p : Phase) (r : Rounds) (e : OwnOf d.kind) (g : StageOf d.kind)
    → is_state (service_of d.kind) (times_of d.kind) (is_work_of d.kind) p r g ≡ true
    → left_at (service_of d.kind) p (hand_of d.kind g) (queued r e) ≡ d.left → (port ≡ r.port) × (pages ≡ r.pages)

tells_place : (d : KeptDevice) → is_state_kept d ≡ true → TellsPlace d.rounds.port d.rounds.pages (left_by d)
tells_place d is p r e g at same =
    let k = d.kind in
    let one : queued d.rounds d.own ≡ queued r e =
    state_one (service_of k) (times_of k) (hand_of k) (is_work_of k) d.phase p d.rounds r d.own e d.stage g is at (sym same) in
    (ap (λ (q : DataOf k). q.rounds.port) one, ap (λ (q : DataOf k). q.rounds.pages) one)

pub placed_alike : (a b : Device) → is_kept a ≡ true → is_kept b ≡ true → device_left a ≡ device_left b
    → (device_port a ≡ device_port b) × (device_pages a ≡ device_pages b)
placed_alike a b is at same =
    let x = kept_of a in
    let y = kept_of b in
    let tells : TellsPlace x.rounds.port x.rounds.pages (left_by y) =
    subst (λ (d : DeviceLeft). TellsPlace x.rounds.port x.rounds.pages d) same (tells_place x (kept_parts a is).state) in
    tells y.phase y.rounds y.own y.stage (kept_parts b at).state refl

-- and such data are bounded, in a guest of at most 2^20 pages
pub kept_state : (d : Device) → is_kept d ≡ true → is_device_state d ≡ true
kept_state d is = (kept_parts d is).state

pub kept_bounded : (d : Device) → device_pages d ≤ 2 ^ 20 → is_kept d ≡ true → IsBoundedDevice d
kept_bounded d few is =
    let parts = kept_parts d is in
    record { pages = few; fine = (laws (kept_of d).kind).tested (kept_of d).own parts.own; short = parts.short }

-- and bounded data of a state that a device may be in may be kept
pub bounded_kept : (d : Device) → is_device_state d ≡ true → IsBoundedDevice d → is_kept d ≡ true
bounded_kept d is bounded =
    let few : (kept_of d).rounds.pages < 2 ^ 32 = omega (arith, bounded.pages) in
    let own = (laws (kept_of d).kind).tests (kept_of d).own bounded.fine in
    let pages = lt-ltb (kept_of d).rounds.pages (2 ^ 32) few in
    let short = rounds_test (kept_of d).rounds bounded.short in
    rw (is, own, pages, short) refl
