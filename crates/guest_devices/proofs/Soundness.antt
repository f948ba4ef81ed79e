-- A sound device keeps to its own, and stays sound: of any kind, by what is owed of each.
use Rattle.std.proofs.Common.{◌≡◌, ℕ, ◌<◌, ◌≤◌, ◌^◌, refl, sym, subst, ap, ◌∙◌, Bool, true, false, if◌then◌else◌, inl, inr, Option, Some, None}
use Rattle.vm_types.specs.declared.op.Op.{Op}
use Rattle.vm_types.specs.declared.op.OutOp.{OutOp}
use Rattle.vm_types.specs.declared.entry.Step.{Step}
use Rattle.vm_types.specs.declared.reply.Reply.{Reply}
use Rattle.vm_types.specs.Fits.{Fits}
use Rattle.device_trace.specs.Acts.{AsksOnly, IsAskedBy}
use Rattle.device_trace.specs.Script.{Script}
use Rattle.device_trace.specs.States.{stepped}
use Rattle.vq_split.specs.Inside.{IsInside}
use Rattle.queue_device.proofs.Confined.{act_confined, change_confined, step_confined}
use Rattle.queue_device.proofs.GoesOn.{change_on, new_on, reply_on}
use Rattle.queue_device.proofs.Keeping.{new_are}
use Rattle.queue_device.proofs.KeptStays.{state_stays}
use Rattle.queue_device.proofs.Never.{never}
use Rattle.guest_devices.specs.declared.change.DeviceChange.{DeviceChange}
use Rattle.guest_devices.specs.declared.device.Device.{Device}
use Rattle.guest_devices.specs.declared.new_device.NewDevice.{NewDevice}
use Rattle.guest_devices.specs.Devices.{DataOf, DeviceLeads, DeviceLeft, DeviceWants, FitsNew, FlatDevice, device_at, device_calls}
use Rattle.guest_devices.specs.Devices.{device_changed, device_did, device_next, device_reset, device_rules, device_told}
use Rattle.guest_devices.specs.Devices.{device_wants, left_of, left_reset, left_times, left_told, new_device, new_left}
use Rattle.guest_devices.specs.Kept.{IsBounded, IsBoundedDevice, KeptDevice, device_left, device_pages, device_port, is_device_state}
use Rattle.guest_devices.specs.Kept.{is_state_kept, kept_of, left_by}
use Rattle.guest_devices.specs.Kinds.{ChangeOf, FitsChange, IsFineOf, calls_of, change_for, changing_of, hand_of, is_work_of}
use Rattle.guest_devices.specs.Kinds.{kind_at_start, own_at_start, reset_for, service_of, times_of}
use Rattle.guest_devices.specs.Sound.{HasKept, IsSoundDevice, KeepsToItsOwn, LeavesFine, StaysOwn}
use Rattle.guest_devices.proofs.Follows.{at_start, did_leads, left_wants, one_left, reset_leads, told_leads, wants_only}
use Rattle.guest_devices.proofs.Owed.{laws}

module _ (port pages : ℕ) where
  -- what is kept is kept by a device
  copy_of : (d : FlatDevice) (left : DeviceLeft) → pages ≤ 2 ^ 20 → DeviceLeads d left → HasKept port pages left
      → (it : Device) × DeviceLeads d (device_left it) × (is_device_state it ≡ true) × IsBoundedDevice it
      × (device_port it ≡ port) × (device_pages it ≡ pages)
  copy_of d left small l has =
      let kept : KeptDevice =
      record { kind = left.kind; phase = has.phase; rounds = has.rounds; own = has.own; stage = has.stage } in
      let bounded : IsBounded kept =
      record {
        pages = subst (λ (n : ℕ). n ≤ 2 ^ 20) (sym has.of_pages) small;
        fine = has.fine;
        short = has.short;
      } in
      let held = (laws left.kind).held has.phase has.rounds has.own has.stage has.is in
      let tells : device_left held.0 ≡ left = ap left_by held.1 ∙ ap (left_of left.kind) has.left in (
        held.0,
        subst (λ (x : DeviceLeft). DeviceLeads d x) (sym tells) l,
        ap is_state_kept held.1 ∙ has.is,
        subst (λ (x : KeptDevice). IsBounded x) (sym held.1) bounded,
        ap (λ (x : KeptDevice). x.rounds.port) held.1 ∙ has.at_port,
        ap (λ (x : KeptDevice). x.rounds.pages) held.1 ∙ has.of_pages,
      )

  -- ---- what is left keeps to its own

  step_keeps : (left : DeviceLeft) (reply : Reply) → KeepsToItsOwn port pages left → Fits (device_wants left) reply
      → KeepsToItsOwn port pages (device_next left reply)
  step_keeps left reply own fit =
      let k = left.kind in
      let t = left.left in
      let owed = laws k in
      let on : (x : Script (DataOf k)) → stepped (device_rules k) t reply ≡ x → KeepsToItsOwn port pages (left_of k x) =
      λ x is. record {
        stays =
            subst (λ (z : Script (DataOf k)). StaysOwn port pages (left_of k z)) is
            (step_confined (service_of k) (changing_of k) (times_of k) (calls_of k) port pages owed.confines t reply own.stays
            fit);
        kept = λ small.
            subst (λ (z : Script (DataOf k)). HasKept port pages (left_of k z)) is
            (reply_on (service_of k) (changing_of k) (hand_of k) (is_work_of k) (IsFineOf k) false (times_of k) (calls_of k) port pages
            small owed.confines owed.resumes t reply (own.kept small) (fit, never));
      } in
      on _ (ap (λ (b : Bool). if b then stepped (device_rules k) t reply else t) (sym fit))

  told_keeps : (left : DeviceLeft) (c : Option (ChangeOf left.kind)) → LeavesFine left.kind c → KeepsToItsOwn port pages left
      → KeepsToItsOwn port pages (left_told left c)
  told_keeps left None fine own = own
  told_keeps left (Some c) fine own =
      let k = left.kind in
      let owed = laws k in
      record {
        stays =
            change_confined (service_of k) (changing_of k) (times_of k) (calls_of k) port pages owed.confines left.left c
            own.stays;
        kept = λ small.
            change_on (service_of k) (changing_of k) (hand_of k) (is_work_of k) (IsFineOf k) false (times_of k) (calls_of k) port pages
            small owed.confines owed.resumes left.left c (own.kept small) fine;
      }

  asks_keeps : (left : DeviceLeft) → KeepsToItsOwn port pages left
      → IsAskedBy (left_times left) (calls_of left.kind) port (device_wants left)
  asks_keeps left own =
      let k = left.kind in
      (act_confined (service_of k) (changing_of k) (times_of k) (calls_of k) port pages (laws k).confines left.left own.stays).1

  own_keeps : (d : FlatDevice) (left : DeviceLeft) → DeviceLeads d left → KeepsToItsOwn port pages left
      → IsAskedBy (left_times left) (device_calls d) port (device_wants left)
  own_keeps d left l own =
      subst (λ (x : DeviceLeft). IsAskedBy (left_times left) (calls_of x.kind) port (device_wants left)) l.2
      (asks_keeps left own)

  inside_keeps : (left : DeviceLeft) → pages < 2 ^ 32 → KeepsToItsOwn port pages left → IsInside pages (device_wants left)
  inside_keeps left few own =
      let k = left.kind in
      (act_confined (service_of k) (changing_of k) (times_of k) (calls_of k) port pages (laws k).confines left.left own.stays).0
      few

-- to ask guest time is to ask no host object
asks_only : (times : Bool) (calls : OutOp → Bool) (port : ℕ) (op : Op) → IsAskedBy times calls port op → AsksOnly calls op
asks_only times calls port op (inl timed) = subst (λ (o : Op). AsksOnly calls o) (sym timed.1) tt
asks_only times calls port op (inr own) = own.1

pub new_sound : (port pages : ℕ) (what : NewDevice) → FitsNew what → IsSoundDevice port pages (new_device port pages what)
new_sound port pages what fits =
    let k = kind_at_start what in
    let owed = laws k in (
      new_left port pages what,
      at_start (new_left port pages what),
      record {
        stays = (refl, λ few. new_are (service_of k) port pages);
        kept = λ small.
            new_on (service_of k) (changing_of k) (hand_of k) (is_work_of k) (IsFineOf k) false (times_of k) (calls_of k) port pages
            small owed.confines owed.resumes (own_at_start what) fits;
      },
    )

kept_sound : (d : KeptDevice) → is_state_kept d ≡ true → IsBounded d
    → IsSoundDevice d.rounds.port d.rounds.pages (device_at (left_by d))
kept_sound d is bounded =
    let k = d.kind in
    let owed = laws k in (
      left_by d,
      at_start (left_by d),
      record {
        stays =
            state_stays (service_of k) (changing_of k) (hand_of k) (is_work_of k) (IsFineOf k) false (times_of k) (calls_of k) d.phase
            d.rounds d.own d.stage owed.confines owed.resumes is;
        kept = λ small. record {
          phase = d.phase;
          rounds = d.rounds;
          own = d.own;
          stage = d.stage;
          is = is;
          fine = bounded.fine;
          short = bounded.short;
          narrow = never;
          at_port = refl;
          of_pages = refl;
          left = refl;
        };
      },
    )

pub resumed_sound : (it : Device) → is_device_state it ≡ true → IsBoundedDevice it
    → IsSoundDevice (device_port it) (device_pages it) (device_at (device_left it))
resumed_sound it is bounded = kept_sound (kept_of it) is bounded

pub copied : (port pages : ℕ) (d : FlatDevice) → pages ≤ 2 ^ 20 → IsSoundDevice port pages d
    → (it : Device) × DeviceLeads d (device_left it) × (is_device_state it ≡ true) × IsBoundedDevice it
    × (device_port it ≡ port) × (device_pages it ≡ pages)
copied port pages d small sound = copy_of port pages d sound.0 small sound.1 (sound.2.kept small)

pub did_sound : (port pages : ℕ) (d : FlatDevice) (s : Step) → IsSoundDevice port pages d → DeviceWants d s.op
    → Fits s.op s.reply → IsSoundDevice port pages (device_did d s)
did_sound port pages d s sound want fit =
    let is = wants_only d sound.0 s.op sound.1 want in
    let here : Fits (device_wants sound.0) s.reply = subst (λ (op : Op). Fits op s.reply) is fit in (
      device_next sound.0 s.reply,
      did_leads d sound.0 s sound.1 is fit,
      step_keeps port pages sound.0 s.reply sound.2 here,
    )

pub told_sound : (port pages : ℕ) (d : FlatDevice) (c : DeviceChange) → FitsChange c
    → IsSoundDevice port pages d → IsSoundDevice port pages (device_told d c)
told_sound port pages d c fits sound = (
  device_changed c sound.0,
  told_leads d sound.0 c sound.1,
  told_keeps port pages sound.0 (change_for c sound.0.kind) ((laws sound.0.kind).changed c fits) sound.2,
)

pub reset_sound : (port pages : ℕ) (d : FlatDevice) → IsSoundDevice port pages d → IsSoundDevice port pages (device_reset d)
reset_sound port pages d sound = (
  left_reset sound.0,
  reset_leads d sound.0 sound.1,
  told_keeps port pages sound.0 (reset_for sound.0.kind) (laws sound.0.kind).reset sound.2,
)

pub at_sound : (port pages : ℕ) (d : FlatDevice) (left : DeviceLeft) → IsSoundDevice port pages d
    → DeviceLeads d left → IsSoundDevice port pages (device_at left)
at_sound port pages d left sound l = (
  left,
  at_start left,
  subst (λ (x : DeviceLeft). KeepsToItsOwn port pages x) (one_left d sound.0 left sound.1 l) sound.2,
)

pub some_want : (port pages : ℕ) (d : FlatDevice) → IsSoundDevice port pages d → (op : Op) × DeviceWants d op
some_want port pages d sound =
    (device_wants sound.0, left_wants d sound.0 (device_wants sound.0) sound.1 refl)

pub want_own : (port pages : ℕ) (d : FlatDevice) (op : Op) (sound : IsSoundDevice port pages d) → DeviceWants d op
    → IsAskedBy (left_times sound.0) (device_calls d) port op
want_own port pages d op sound want =
    subst (λ (o : Op). IsAskedBy (left_times sound.0) (device_calls d) port o) (sym (wants_only d sound.0 op sound.1 want))
    (own_keeps port pages d sound.0 sound.1 sound.2)

pub want_inside : (port pages : ℕ) (d : FlatDevice) (op : Op) → pages < 2 ^ 32 → IsSoundDevice port pages d
    → DeviceWants d op → IsInside pages op
want_inside port pages d op few sound want =
    subst (λ (o : Op). IsInside pages o) (sym (wants_only d sound.0 op sound.1 want))
    (inside_keeps port pages sound.0 few sound.2)

pub want_host : (port pages : ℕ) (d : FlatDevice) (op : Op) → IsSoundDevice port pages d → DeviceWants d op
    → AsksOnly (device_calls d) op
want_host port pages d op sound want =
    asks_only (left_times sound.0) (device_calls d) port op (want_own port pages d op sound want)
