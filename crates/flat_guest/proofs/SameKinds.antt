-- Ports and devices keep their kinds.
use Rattle.std.proofs.Common.{◌≡◌, ℕ, zero, suc, refl, sym, ap, ◌∙◌, List, [], ◌∷◌, map, Option, Some, None, slice_get, slice_set}
use Rattle.vm_types.specs.declared.entry.Step.{Step}
use Rattle.vm_types.specs.declared.ids.ActorId.{ActorId}
use Rattle.vm_types.specs.declared.ids.PlaceId.{PlaceId}
use Rattle.vm_types.specs.declared.op.Op.{Op}
use Rattle.port_table.specs.Acts as port_acts
use Rattle.port_table.specs.declared.kind.DeviceKind.{DeviceKind}
use Rattle.port_table.specs.declared.state.PortState.{PortState}
use Rattle.port_table.proofs.KindStays.{touch_same}
use Rattle.guest_devices.specs.declared.change.DeviceChange.{DeviceChange}
use Rattle.guest_devices.specs.declared.new_device.NewDevice.{NewDevice}
use Rattle.guest_devices.specs.Devices.{FlatDevice, device_did, device_reset, device_told, told_of}
use Rattle.guest_devices.specs.Kinds.{ChangeOf, Kind, change_for, reset_for}
use Rattle.guest_devices.specs.Ports.{number_of, port_at_start}
use Rattle.guest_devices.proofs.Ports.{start_kind}
use Rattle.flat_guest.specs.Changes.{devices_told, ports_shown, ports_with}
use Rattle.flat_guest.specs.Sound.{device_kinds, port_kinds}
use Rattle.flat_guest.specs.Start.{devices_at_start}
use Rattle.flat_guest.specs.Steps.{device_after, devices_after, port_after, ports_after}

-- ---- ports

-- a port of its kind in the place of another
pub kinds_set : (ports : List PortState) (k : ℕ) (p q : PortState) → slice_get ports k ≡ Some p → q.kind ≡ p.kind
    → port_kinds (slice_set ports k q) ≡ port_kinds ports
kinds_set [] k p q there same = cc
kinds_set (first ∷ ports) zero p q there same =
    let is : first ≡ p = cc in
    ap (λ (kind : DeviceKind). kind ∷ port_kinds ports) (same ∙ sym (ap (λ (port : PortState). port.kind) is))
kinds_set (first ∷ ports) (suc k) p q there same =
    ap (λ (l : List DeviceKind). first.kind ∷ l) (kinds_set ports k p q there same)

port_same : (ports : List PortState) (k : ℕ) (o : Option PortState) (actor : ActorId) (op : Op) → slice_get ports k ≡ o
    → port_kinds (port_after o ports k actor op) ≡ port_kinds ports
port_same ports k None actor op there = refl
port_same ports k (Some p) actor op there = kinds_set ports k p (port_acts.touch p actor op).1 there (touch_same p actor op)

pub ports_same : (place : PlaceId) (ports : List PortState) (actor : ActorId) (op : Op)
    → port_kinds (ports_after place ports actor op) ≡ port_kinds ports
ports_same (PlaceId.Port k) ports actor op = port_same ports k (slice_get ports k) actor op refl
ports_same (PlaceId.Page i) ports actor op = refl
ports_same PlaceId.Board ports actor op = refl
ports_same PlaceId.Out ports actor op = refl

bytes_kinds : (k : ℕ) (bytes : List ℕ) (ports : List PortState) (o : Option PortState) → slice_get ports k ≡ o
    → port_kinds (ports_shown o ports k bytes) ≡ port_kinds ports
bytes_kinds k bytes ports None there = refl
bytes_kinds k bytes ports (Some p) there = kinds_set ports k p (port_acts.configured p bytes) there refl

pub shown_kinds : (shown : Option (List ℕ)) (k : ℕ) (ports : List PortState) → port_kinds (ports_with shown ports k) ≡ port_kinds ports
shown_kinds None k ports = refl
shown_kinds (Some bytes) k ports = bytes_kinds k bytes ports (slice_get ports k) refl

-- ---- devices

device_set : (devices : List FlatDevice) (k : ℕ) (d e : FlatDevice) → slice_get devices k ≡ Some d → e.kind ≡ d.kind
    → device_kinds (slice_set devices k e) ≡ device_kinds devices
device_set [] k d e there same = cc
device_set (first ∷ devices) zero d e there same =
    let is : first ≡ d = cc in
    ap (λ (kind : Kind). number_of kind ∷ device_kinds devices) (same ∙ sym (ap (λ (x : FlatDevice). x.kind) is))
device_set (first ∷ devices) (suc k) d e there same =
    ap (λ (l : List DeviceKind). number_of first.kind ∷ l) (device_set devices k d e there same)

did_kind : (devices : List FlatDevice) (k : ℕ) (o : Option FlatDevice) (s : Step) → slice_get devices k ≡ o
    → device_kinds (device_after o devices k s) ≡ device_kinds devices
did_kind devices k None s there = refl
did_kind devices k (Some d) s there = device_set devices k d (device_did d s) there refl

pub did_kinds : (actor : ActorId) (devices : List FlatDevice) (s : Step)
    → device_kinds (devices_after actor devices s) ≡ device_kinds devices
did_kinds (ActorId.Device k) devices s = did_kind devices k (slice_get devices k) s refl
did_kinds (ActorId.Hart k) devices s = refl
did_kinds ActorId.Timer devices s = refl

of_kind : (d : FlatDevice) (c : Option (ChangeOf d.kind)) → (told_of d c).kind ≡ d.kind
of_kind d None = refl
of_kind d (Some c) = refl

pub told_kinds : (devices : List FlatDevice) (k : ℕ) (o : Option FlatDevice) (change : DeviceChange) → slice_get devices k ≡ o
    → device_kinds (devices_told o devices k change) ≡ device_kinds devices
told_kinds devices k None change there = refl
told_kinds devices k (Some d) change there =
    device_set devices k d (device_told d change) there (of_kind d (change_for change d.kind))

pub reset_kinds : (devices : List FlatDevice) → device_kinds (map device_reset devices) ≡ device_kinds devices
reset_kinds [] = refl
reset_kinds (d ∷ devices) = λ i. number_of (of_kind d (reset_for d.kind) i) ∷ reset_kinds devices i

-- ---- at a start

pub started_kinds : (pages n : ℕ) (all : List NewDevice)
    → port_kinds (map port_at_start all) ≡ device_kinds (devices_at_start pages n all)
started_kinds pages n [] = refl
started_kinds pages n (what ∷ others) = λ i. start_kind what i ∷ started_kinds pages (suc n) others i
