-- A change from the API, and a Reset, lead a body and its guest on alike.
use Rattle.std.proofs.Common.{◌≡◌, ℕ, ◌==◌, Bool, true, false, refl, sym, ap, subst, ◌∙◌, List, length, Option, Some, None, slice_get, slice_set, map}
use Rattle.std.proofs.lemmas.Bool.{eqb-true, eqb-false}
use Rattle.std.proofs.lemmas.List.{length-map, length-set}
use Rattle.board_table.specs.Board.{Board}
use Rattle.port_table.specs.declared.state.PortState.{PortState}
use Rattle.guest_devices.specs.declared.change.DeviceChange.{DeviceChange}
use Rattle.guest_devices.specs.Devices.{DeviceLeads, DeviceLeft, FlatDevice, device_changed, device_reset, device_told, left_reset}
use Rattle.guest_devices.specs.Kinds.{FitsChange}
use Rattle.guest_devices.proofs.Follows.{reset_leads, told_leads}
use Rattle.flat_guest.specs.Body.{Body, IsGuest, lefts_told}
use Rattle.flat_guest.specs.Changes as changes
use Rattle.flat_guest.specs.Changes.{board_shown, devices_told, ports_with, reset_guest}
use Rattle.flat_guest.specs.Guest.{Guest, whole_pages}
use Rattle.flat_guest.proofs.Devices.{sound_devices_reset, sound_devices_told}
use Rattle.flat_guest.proofs.Lists.{get_set_other, get_set_same, mapped_from, some_is, there_too}

module _ (lefts : List DeviceLeft) (devices : List FlatDevice) (many : length lefts ≡ length devices)
    (leads : (k : ℕ) (d : FlatDevice) (left : DeviceLeft) → slice_get devices k ≡ Some d → slice_get lefts k ≡ Some left
    → DeviceLeads d left)
    (k : ℕ) (change : DeviceChange) where
  module _ (left : DeviceLeft) (x : FlatDevice) (left_is : slice_get lefts k ≡ Some left) (x_is : slice_get devices k ≡ Some x) where
    leads_by : (same : Bool) (j : ℕ) (d : FlatDevice) (l : DeviceLeft) → (j == k) ≡ same
        → slice_get (slice_set devices k (device_told x change)) j ≡ Some d
        → slice_get (slice_set lefts k (device_changed change left)) j ≡ Some l → DeviceLeads d l
    leads_by true j d l same d_is l_is =
        let here : j ≡ k = eqb-true j k same in
        let first : device_told x change ≡ d = some_is (device_told x change) d
        (sym (get_set_same devices k x (device_told x change) x_is)
        ∙ sym (ap (λ (i : ℕ). slice_get (slice_set devices k (device_told x change)) i) here) ∙ d_is) in
        let second : device_changed change left ≡ l = some_is (device_changed change left) l
        (sym (get_set_same lefts k left (device_changed change left) left_is)
        ∙ sym (ap (λ (i : ℕ). slice_get (slice_set lefts k (device_changed change left)) i) here) ∙ l_is) in
        subst (λ (e : FlatDevice). DeviceLeads e l) first
        (subst (λ (m : DeviceLeft). DeviceLeads (device_told x change) m) second
        (told_leads x left change (leads k x left x_is left_is)))
    leads_by false j d l same d_is l_is =
        leads j d l (sym (get_set_other devices j k (device_told x change) (eqb-false j k same)) ∙ d_is)
        (sym (get_set_other lefts j k (device_changed change left) (eqb-false j k same)) ∙ l_is)

  -- where the change leads, there or not
  abbrev Told : Option DeviceLeft → Option FlatDevice → Type 0
  Told l o =
      (length (lefts_told l lefts k change) ≡ length (devices_told o devices k change))
      × ((j : ℕ) (d : FlatDevice) (m : DeviceLeft) → slice_get (devices_told o devices k change) j ≡ Some d
      → slice_get (lefts_told l lefts k change) j ≡ Some m → DeviceLeads d m)

  told_by : (l : Option DeviceLeft) (o : Option FlatDevice) → slice_get lefts k ≡ l → slice_get devices k ≡ o → Told l o
  told_by None None l_is o_is = (many, leads)
  told_by None (Some x) l_is o_is =
      let there = there_too devices lefts k x (sym many) o_is in
      let both : None ≡ Some there.0 = sym l_is ∙ there.1 in
      cc
  told_by (Some left) None l_is o_is =
      let there = there_too lefts devices k left many l_is in
      let both : None ≡ Some there.0 = sym o_is ∙ there.1 in
      cc
  told_by (Some left) (Some x) l_is o_is = (
    length-set lefts k (device_changed change left) ∙ many ∙ sym (length-set devices k (device_told x change)),
    λ j d m d_is m_is. leads_by left x l_is o_is (j == k) j d m refl d_is m_is,
  )

  told : Told (slice_get lefts k) (slice_get devices k)
  told = told_by (slice_get lefts k) (slice_get devices k) refl refl

-- the body behind the change
abbrev pub body_told : ℕ → DeviceChange → Option (List ℕ) → Body → Body
body_told k change shown b = record b {
  board = board_shown shown b.board k;
  ports = ports_with shown b.ports k;
  devices = lefts_told (slice_get b.devices k) b.devices k change;
}

pub told_is : (b : Body) (g : Guest) (k : ℕ) (change : DeviceChange) (shown : Option (List ℕ)) → FitsChange change → IsGuest b g
    → IsGuest (body_told k change shown b) (changes.told k change shown g)
told_is b g k change shown fits is =
    let both = told b.devices g.devices is.devices_are.count is.devices_are.each k change in
    record {
      memory_is = is.memory_is;
      marks_are = is.marks_are;
      board_is = ap (λ (n : Board). board_shown shown n k) is.board_is;
      ports_are = ap (λ (ports : List PortState). ports_with shown ports k) is.ports_are;
      timer_is = is.timer_is;
      harts_are = record { count = is.harts_are.count; each = is.harts_are.each };
      devices_are = record {
        count = both.0;
        each = both.1;
        sound = sound_devices_told (whole_pages g.memory) g.ports g.devices is.devices_are.sound k change shown fits;
      };
    }

-- ---- a Reset

abbrev pub body_reset : Body → Body
body_reset b = record b { devices = map left_reset b.devices }

reset_each : (lefts : List DeviceLeft) (devices : List FlatDevice)
    → ((k : ℕ) (d : FlatDevice) (left : DeviceLeft) → slice_get devices k ≡ Some d → slice_get lefts k ≡ Some left
    → DeviceLeads d left)
    → (k : ℕ) (d : FlatDevice) (left : DeviceLeft) → slice_get (map device_reset devices) k ≡ Some d
    → slice_get (map left_reset lefts) k ≡ Some left → DeviceLeads d left
reset_each lefts devices leads k d left d_is left_is =
    let x = mapped_from device_reset devices k d d_is in
    let l = mapped_from left_reset lefts k left left_is in
    subst (λ (e : FlatDevice). DeviceLeads e left) x.2
    (subst (λ (m : DeviceLeft). DeviceLeads (device_reset x.0) m) l.2 (reset_leads x.0 l.0 (leads k x.0 l.0 x.1 l.1)))

pub reset_is : (b : Body) (g : Guest) → IsGuest b g → IsGuest (body_reset b) (reset_guest g)
reset_is b g is = record {
  memory_is = is.memory_is;
  marks_are = is.marks_are;
  board_is = is.board_is;
  ports_are = is.ports_are;
  timer_is = is.timer_is;
  harts_are = record { count = is.harts_are.count; each = is.harts_are.each };
  devices_are = record {
    count = length-map b.devices left_reset ∙ is.devices_are.count ∙ sym (length-map g.devices device_reset);
    each = reset_each b.devices g.devices is.devices_are.each;
    sound = sound_devices_reset (whole_pages g.memory) g.ports g.devices is.devices_are.sound;
  };
}
