-- No request of a device passed later than guest time, from the start on.
use Rattle.std.proofs.Common.{◌≡◌, ◌≤◌, ℕ, zero, suc, ◌==◌, Bool, true, false, refl, sym, subst, ap, ◌∙◌, List, [], ◌∷◌, Option, Some, None, slice_get, slice_set, arith}
use Rattle.std.specs.List.{All}
use Rattle.std.proofs.lemmas.Bool.{eqb-false, eqb-true}
use Rattle.std.proofs.lemmas.List.Elements.{All-head, All-tail}
use Rattle.vm_types.specs.declared.ids.ActorId.{ActorId}
use Rattle.vm_types.specs.declared.ids.PlaceId.{PlaceId}
use Rattle.vm_types.specs.declared.op.Op.{Op}
use Rattle.vm_types.specs.declared.op.BoardOp.TheVariants.{Time}
use Rattle.vm_types.specs.declared.entry.Step.{Step}
use Rattle.vm_types.specs.declared.entry.Entry.{Entry}
use Rattle.board_table.specs.Board.{Board}
use Rattle.board_table.proofs.Later.{board_later, raised_later}
use Rattle.queue_device.specs.Rounds.{time_of}
use Rattle.guest_devices.specs.declared.change.DeviceChange.{DeviceChange}
use Rattle.guest_devices.specs.declared.new_device.NewDevice.{NewDevice}
use Rattle.guest_devices.specs.Devices.{FlatDevice, device_did, device_reset, device_told, left_times}
use Rattle.guest_devices.specs.Moments.{IsFreshNew, IsTimelyDevice, is_fresh_change}
use Rattle.guest_devices.proofs.Follows.{wants_only}
use Rattle.guest_devices.proofs.Moments.{device_later, did_timely, new_timely, reset_timely, times_time, told_timely}
use Rattle.flat_guest.specs.Changes.{board_shown, devices_told, reset_guest, told}
use Rattle.flat_guest.specs.Given.{Event}
use Rattle.flat_guest.specs.Guest.{Guest, Wants, WantsOf, layout_of}
use Rattle.flat_guest.specs.Places.{place_of}
use Rattle.flat_guest.specs.Shaped.{AreTimely}
use Rattle.flat_guest.specs.Sound.{IsSound}
use Rattle.flat_guest.specs.Start.{devices_at_start}
use Rattle.flat_guest.specs.Steps.{Answers, FlatStep, board_after, device_after, devices_after, guest_after}
use Rattle.flat_guest.proofs.Lists.{get_set_other, get_set_same, mapped_from, some_is}
use Rattle.flat_guest.proofs.Soundness.{fit}

pub all_later : (time later : ℕ) (devices : List FlatDevice) → time ≤ later → AreTimely time devices → AreTimely later devices
all_later time later devices le each k d is = device_later time later d le (each k d is)

-- one of them becomes another
module _ (time : ℕ) (devices : List FlatDevice) (each : AreTimely time devices) (k : ℕ) (x y : FlatDevice)
    (x_is : slice_get devices k ≡ Some x) (timely : IsTimelyDevice time y) where
  put_by : (same : Bool) (j : ℕ) (d : FlatDevice) → (j == k) ≡ same → slice_get (slice_set devices k y) j ≡ Some d
      → IsTimelyDevice time d
  put_by true j d same d_is =
      let here : j ≡ k = eqb-true j k same in
      let is : y ≡ d = some_is y d
      (sym (get_set_same devices k x y x_is) ∙ sym (ap (λ (i : ℕ). slice_get (slice_set devices k y) i) here) ∙ d_is) in
      subst (λ (e : FlatDevice). IsTimelyDevice time e) is timely
  put_by false j d same d_is = each j d (sym (get_set_other devices j k y (eqb-false j k same)) ∙ d_is)

  put_timely : AreTimely time (slice_set devices k y)
  put_timely j d d_is = put_by (j == k) j d refl d_is

-- ---- an event

after_later : (place : PlaceId) (b : Board) (actor : ActorId) (op : Op) → b.now ≤ (board_after place b actor op).now
after_later PlaceId.Board b actor op = board_later b actor op
after_later (PlaceId.Page i) b actor op = omega arith
after_later (PlaceId.Port k) b actor op = omega arith
after_later PlaceId.Out b actor op = omega arith

module _ (g : Guest) (event : Event) (e : Entry) (h : Guest) (sound : IsSound g) (each : AreTimely g.board.now g.devices)
    (step : FlatStep g event e h) where
  abbrev later : ℕ
  later = (board_after e.place g.board e.actor e.op).now

  on : g.board.now ≤ later
  on = after_later e.place g.board e.actor e.op

  abbrev done : Step
  done = record { op = e.op; reply = e.reply }

  -- who asks guest time is told it
  time_is : e.op ≡ Op.Board Time → time_of e.reply ≡ g.board.now
  time_is is =
      let here : e.place ≡ PlaceId.Board = step.place ∙ ap (λ (op : Op). place_of (layout_of g) op) is in
      let answer : Answers PlaceId.Board g e.actor e.op event.given e.reply =
      subst (λ (p : PlaceId). Answers p g e.actor e.op event.given e.reply) here step.answer in
      let told : Answers PlaceId.Board g e.actor (Op.Board Time) event.given e.reply =
      subst (λ (op : Op). Answers PlaceId.Board g e.actor op event.given e.reply) is answer in
      ap time_of told.1

  asked : (k : ℕ) (x : FlatDevice) (was : IsTimelyDevice g.board.now x) → WantsOf (Some x) e.op → left_times was.0 ≡ true
      → time_of e.reply ≤ later
  asked k x was want times =
      let same = time_is (wants_only x was.0 e.op was.1 want ∙ times_time was.0 times) in
      omega (arith, on, same)

  device_by : (k : ℕ) (found : Option FlatDevice) → slice_get g.devices k ≡ found → WantsOf found e.op
      → AreTimely later (device_after found g.devices k done)
  device_by k None is want = absurd want
  device_by k (Some x) is want =
      put_timely later g.devices (all_later g.board.now later g.devices on each) k x (device_did x done) is
      (did_timely g.board.now later x done on (each k x is) want (fit g event e h sound step)
      (λ times. asked k x (each k x is) want times))

  devices_on : (actor : ActorId) → Wants g actor e.op → AreTimely later (devices_after actor g.devices done)
  devices_on ActorId.Timer want = all_later g.board.now later g.devices on each
  devices_on (ActorId.Hart k) want = all_later g.board.now later g.devices on each
  devices_on (ActorId.Device k) want = device_by k (slice_get g.devices k) refl want

  pub timely_after : AreTimely (guest_after g e).board.now (guest_after g e).devices
  timely_after = devices_on e.actor step.want

-- ---- what is no event

shown_later : (shown : Option (List ℕ)) (k : ℕ) (b : Board) → b.now ≤ (board_shown shown b k).now
shown_later None k b = omega arith
shown_later (Some bytes) k b = raised_later b (ActorId.Device k)

told_by : (time k : ℕ) (change : DeviceChange) (devices : List FlatDevice) (found : Option FlatDevice) → is_fresh_change change ≡ true
    → AreTimely time devices → slice_get devices k ≡ found → AreTimely time (devices_told found devices k change)
told_by time k change devices None fresh each is = each
told_by time k change devices (Some x) fresh each is =
    put_timely time devices each k x (device_told x change) is (told_timely time x change fresh (each k x is))

pub timely_told : (g : Guest) (k : ℕ) (change : DeviceChange) (shown : Option (List ℕ)) → is_fresh_change change ≡ true
    → AreTimely g.board.now g.devices → AreTimely (told k change shown g).board.now (told k change shown g).devices
timely_told g k change shown fresh each =
    all_later g.board.now (board_shown shown g.board k).now (devices_told (slice_get g.devices k) g.devices k change)
    (shown_later shown k g.board) (told_by g.board.now k change g.devices (slice_get g.devices k) fresh each refl)

pub timely_reset : (g : Guest) → AreTimely g.board.now g.devices → AreTimely (reset_guest g).board.now (reset_guest g).devices
timely_reset g each k d there =
    let from = mapped_from device_reset g.devices k d there in
    subst (λ (e : FlatDevice). IsTimelyDevice g.board.now e) from.2 (reset_timely g.board.now from.0 (each k from.0 from.1))

pub timely_start : (time pages n : ℕ) (all : List NewDevice) → All IsFreshNew all → AreTimely time (devices_at_start pages n all)
timely_start time pages n [] fresh k d is = absurd (cc)
timely_start time pages n (what ∷ others) fresh zero d is =
    subst (λ (e : FlatDevice). IsTimelyDevice time e) (some_is _ d is)
    (new_timely time n pages what (All-head IsFreshNew what others fresh))
timely_start time pages n (what ∷ others) fresh (suc k) d is =
    timely_start time pages (suc n) others (All-tail IsFreshNew what others fresh) k d is
