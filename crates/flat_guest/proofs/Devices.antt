-- Ports and devices stay as many, and devices sound: at the start, with each act and with each change.
use Rattle.std.proofs.Common.{◌≡◌, ℕ, zero, suc, ◌+◌, ◌==◌, Bool, true, false, refl, sym, ap, subst, ◌∙◌, List, [], ◌∷◌, arith}
use Rattle.std.proofs.Common.{length, map, Option, Some, None, slice_get, slice_set}
use Rattle.std.specs.List.{All}
use Rattle.std.proofs.lemmas.List.{length-map, length-set}
use Rattle.std.proofs.lemmas.List.Elements.{All-head, All-tail}
use Rattle.std.proofs.lemmas.Bool.{eqb-true, eqb-false}
use Rattle.vm_types.specs.declared.ids.ActorId.{ActorId}
use Rattle.vm_types.specs.declared.ids.PlaceId.{PlaceId}
use Rattle.vm_types.specs.declared.op.Op.{Op}
use Rattle.vm_types.specs.declared.reply.Reply.{Reply}
use Rattle.vm_types.specs.declared.entry.Step.{Step}
use Rattle.vm_types.specs.Fits.{fits}
use Rattle.port_table.specs.Acts as port
use Rattle.port_table.specs.declared.state.PortState.{PortState}
use Rattle.guest_devices.specs.declared.change.DeviceChange.{DeviceChange}
use Rattle.guest_devices.specs.declared.new_device.NewDevice.{NewDevice}
use Rattle.guest_devices.specs.Devices.{FitsNew, FlatDevice, device_did, device_reset, device_told, new_device}
use Rattle.guest_devices.specs.Kinds.{FitsChange}
use Rattle.guest_devices.specs.Ports.{port_at_start}
use Rattle.guest_devices.specs.Sound.{IsSoundDevice}
use Rattle.guest_devices.proofs.Soundness.{did_sound, new_sound, reset_sound, told_sound}
use Rattle.flat_guest.specs.Changes.{devices_told, ports_shown, ports_with}
use Rattle.flat_guest.specs.Guest.{Guest, Wants, WantsOf, whole_pages}
use Rattle.flat_guest.specs.Sound.{AreSoundDevices}
use Rattle.flat_guest.specs.Start.{devices_at_start}
use Rattle.flat_guest.specs.Steps.{device_after, devices_after, memory_after, port_after, ports_after}
use Rattle.flat_guest.proofs.SameKinds.{did_kinds, ports_same, reset_kinds, shown_kinds, started_kinds, told_kinds}
use Rattle.flat_guest.proofs.Lengths.{pages_kept}
use Rattle.flat_guest.proofs.Lists.{get_set_other, get_set_same, mapped_from, some_is}

pub port_many : (o : Option PortState) (ports : List PortState) (k : ℕ) (actor : ActorId) (op : Op)
    → length (port_after o ports k actor op) ≡ length ports
port_many None ports k actor op = refl
port_many (Some p) ports k actor op = length-set ports k (port.touch p actor op).1

pub ports_many : (place : PlaceId) (ports : List PortState) (actor : ActorId) (op : Op)
    → length (ports_after place ports actor op) ≡ length ports
ports_many (PlaceId.Port k) ports actor op = port_many (slice_get ports k) ports k actor op
ports_many (PlaceId.Page i) ports actor op = refl
ports_many PlaceId.Board ports actor op = refl
ports_many PlaceId.Out ports actor op = refl

device_many : (o : Option FlatDevice) (devices : List FlatDevice) (k : ℕ) (s : Step)
    → length (device_after o devices k s) ≡ length devices
device_many None devices k s = refl
device_many (Some d) devices k s = length-set devices k (device_did d s)

pub devices_many : (actor : ActorId) (devices : List FlatDevice) (s : Step)
    → length (devices_after actor devices s) ≡ length devices
devices_many (ActorId.Device k) devices s = device_many (slice_get devices k) devices k s
devices_many (ActorId.Hart k) devices s = refl
devices_many ActorId.Timer devices s = refl

pub told_many : (o : Option FlatDevice) (devices : List FlatDevice) (k : ℕ) (change : DeviceChange)
    → length (devices_told o devices k change) ≡ length devices
told_many None devices k change = refl
told_many (Some d) devices k change = length-set devices k (device_told d change)

bytes_many : (o : Option PortState) (ports : List PortState) (k : ℕ) (bytes : List ℕ)
    → length (ports_shown o ports k bytes) ≡ length ports
bytes_many None ports k bytes = refl
bytes_many (Some p) ports k bytes = length-set ports k (port.configured p bytes)

shown_many : (shown : Option (List ℕ)) (ports : List PortState) (k : ℕ) → length (ports_with shown ports k) ≡ length ports
shown_many None ports k = refl
shown_many (Some bytes) ports k = bytes_many (slice_get ports k) ports k bytes

-- each is sound, in a guest of so many pages
abbrev Each : ℕ → List FlatDevice → Type 0
Each pages devices = (j : ℕ) (d : FlatDevice) → slice_get devices j ≡ Some d → IsSoundDevice j pages d

-- one of them becomes another
module _ (pages : ℕ) (devices : List FlatDevice) (each : Each pages devices) (k : ℕ) (x y : FlatDevice)
    (x_is : slice_get devices k ≡ Some x) (sound : IsSoundDevice k pages y) where
  replaced_by : (same : Bool) (j : ℕ) (d : FlatDevice) → (j == k) ≡ same → slice_get (slice_set devices k y) j ≡ Some d
      → IsSoundDevice j pages d
  replaced_by true j d same d_is =
      let here : j ≡ k = eqb-true j k same in
      let is : y ≡ d = some_is y d
      (sym (get_set_same devices k x y x_is) ∙ sym (ap (λ (i : ℕ). slice_get (slice_set devices k y) i) here) ∙ d_is) in
      subst (λ (i : ℕ). IsSoundDevice i pages d) (sym here) (subst (λ (e : FlatDevice). IsSoundDevice k pages e) is sound)
  replaced_by false j d same d_is = each j d (sym (get_set_other devices j k y (eqb-false j k same)) ∙ d_is)

  replaced : Each pages (slice_set devices k y)
  replaced j d d_is = replaced_by (j == k) j d refl d_is

module _ (pages : ℕ) (devices : List FlatDevice) (each : Each pages devices) where
  -- by an act
  each_did : (s : Step) → fits s.op s.reply ≡ true → (k : ℕ) (o : Option FlatDevice) → slice_get devices k ≡ o
      → WantsOf o s.op → Each pages (device_after o devices k s)
  each_did s fit k None is want = absurd want
  each_did s fit k (Some x) is want =
      replaced pages devices each k x (device_did x s) is (did_sound k pages x s (each k x is) want fit)

  -- by a change
  each_told : (k : ℕ) (change : DeviceChange) (o : Option FlatDevice) → FitsChange change → slice_get devices k ≡ o
      → Each pages (devices_told o devices k change)
  each_told k change None fits is = each
  each_told k change (Some x) fits is =
      replaced pages devices each k x (device_told x change) is (told_sound k pages x change fits (each k x is))

each_after : (g : Guest) (pages : ℕ) → Each pages g.devices → (s : Step) → fits s.op s.reply ≡ true → (actor : ActorId)
    → Wants g actor s.op → Each pages (devices_after actor g.devices s)
each_after g pages each s fit ActorId.Timer want = each
each_after g pages each s fit (ActorId.Hart k) want = each
each_after g pages each s fit (ActorId.Device k) want = each_did pages g.devices each s fit k (slice_get g.devices k) refl want

pub sound_after : (g : Guest) → AreSoundDevices (whole_pages g.memory) g.ports g.devices → (place : PlaceId)
    (actor : ActorId) (op : Op) (reply : Reply) → Wants g actor op → fits op reply ≡ true
    → AreSoundDevices (whole_pages (memory_after place g.memory actor op)) (ports_after place g.ports actor op)
    (devices_after actor g.devices (record { op = op; reply = reply }))
sound_after g sound place actor op reply want fit =
    let s : Step = record { op = op; reply = reply } in
    subst (λ (pages : ℕ). AreSoundDevices pages (ports_after place g.ports actor op) (devices_after actor g.devices s))
    (sym (pages_kept place g.memory actor op))
    (record {
      as_many = ports_many place g.ports actor op ∙ sound.as_many ∙ sym (devices_many actor g.devices s);
      kinds = ports_same place g.ports actor op ∙ sound.kinds ∙ sym (did_kinds actor g.devices s);
      each = each_after g (whole_pages g.memory) sound.each s fit actor want;
    })

pub sound_devices_told : (pages : ℕ) (ports : List PortState) (devices : List FlatDevice) → AreSoundDevices pages ports devices
    → (k : ℕ) (change : DeviceChange) (shown : Option (List ℕ)) → FitsChange change
    → AreSoundDevices pages (ports_with shown ports k) (devices_told (slice_get devices k) devices k change)
sound_devices_told pages ports devices sound k change shown fits = record {
  as_many = shown_many shown ports k ∙ sound.as_many ∙ sym (told_many (slice_get devices k) devices k change);
  kinds = shown_kinds shown k ports ∙ sound.kinds ∙ sym (told_kinds devices k (slice_get devices k) change refl);
  each = each_told pages devices sound.each k change (slice_get devices k) fits refl;
}

-- by a Reset
pub reset_many : (devices : List FlatDevice) → length (map device_reset devices) ≡ length devices
reset_many devices = length-map devices device_reset

each_reset : (pages : ℕ) (devices : List FlatDevice) → Each pages devices → Each pages (map device_reset devices)
each_reset pages devices each k d is =
    let from = mapped_from device_reset devices k d is in
    subst (λ (e : FlatDevice). IsSoundDevice k pages e) from.2 (reset_sound k pages from.0 (each k from.0 from.1))

pub sound_devices_reset : (pages : ℕ) (ports : List PortState) (devices : List FlatDevice) → AreSoundDevices pages ports devices
    → AreSoundDevices pages ports (map device_reset devices)
sound_devices_reset pages ports devices sound = record {
  as_many = sound.as_many ∙ sym (reset_many devices);
  kinds = sound.kinds ∙ sym (reset_kinds devices);
  each = each_reset pages devices sound.each;
}

-- and at the start
started_many : (pages n : ℕ) (all : List NewDevice) → length (map port_at_start all) ≡ length (devices_at_start pages n all)
started_many pages n [] = refl
started_many pages n (what ∷ others) = ap suc (started_many pages (suc n) others)

started_each : (pages n : ℕ) (all : List NewDevice) (k : ℕ) (d : FlatDevice) → All FitsNew all
    → slice_get (devices_at_start pages n all) k ≡ Some d → IsSoundDevice (n + k) pages d
started_each pages n [] k d fit is = cc
started_each pages n (what ∷ others) zero d fit is =
    let same : new_device n pages what ≡ d = some_is _ d is in
    let first : n ≡ n + 0 = omega arith in
    subst (λ (i : ℕ). IsSoundDevice i pages d) first
    (subst (λ (e : FlatDevice). IsSoundDevice n pages e) same (new_sound n pages what (All-head FitsNew what others fit)))
started_each pages n (what ∷ others) (suc k) d fit is =
    let next : suc n + k ≡ n + suc k = omega arith in
    subst (λ (i : ℕ). IsSoundDevice i pages d) next
    (started_each pages (suc n) others k d (All-tail FitsNew what others fit) is)

pub sound_at_start : (pages : ℕ) (all : List NewDevice) → All FitsNew all
    → AreSoundDevices pages (map port_at_start all) (devices_at_start pages 0 all)
sound_at_start pages all fit = record {
  as_many = started_many pages 0 all;
  kinds = started_kinds pages 0 all;
  each = λ k d is.
      let here : 0 + k ≡ k = omega arith in
      subst (λ (i : ℕ). IsSoundDevice i pages d) here (started_each pages 0 all k d fit is);
}
