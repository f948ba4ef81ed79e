-- A guest of which each number has its width: at the start, with what the API changes, behind a Reset, with a timer's new start, and
-- over events of one actor.
use Rattle.std.proofs.Common.{◌≡◌, ◌≤◌, ◌^◌, ℕ, zero, suc, ◌+◌, ◌*◌, refl, subst, List, [], ◌∷◌, length, Option, Some, None, slice_get, arith}
use Rattle.std.specs.List.{All}
use Rattle.std.proofs.lemmas.List.Elements.{All-head, All-tail}
use Rattle.vm_types.specs.declared.ids.ActorId.{ActorId}
use Rattle.vm_types.specs.declared.entry.Entry.{Entry}
use Rattle.guest_memory.specs.Boot.{Loads, boot_memory, bytes_of_mib}
use Rattle.guest_memory.specs.Kept as memory_kept
use Rattle.guest_memory.specs.Reserved.{hart_limit}
use Rattle.guest_devices.specs.declared.change.DeviceChange.{DeviceChange}
use Rattle.guest_devices.specs.declared.new_device.NewDevice.{NewDevice}
use Rattle.guest_devices.specs.Devices.{FlatDevice, device_reset, device_told, new_device}
use Rattle.guest_devices.specs.Kinds.{FitsChange, IsSmallChange}
use Rattle.guest_devices.specs.Narrow.{IsNarrowDevice, IsNarrowNew}
use Rattle.guest_devices.proofs.Narrow.{new_narrow, reset_narrow, told_narrow}
use Rattle.flat_guest.specs.Changes.{devices_told, reset_guest, told}
use Rattle.flat_guest.specs.Given.{Event}
use Rattle.flat_guest.specs.Given.Given.{Nothing}
use Rattle.flat_guest.specs.Guest.{Guest, unwritten, whole_pages}
use Rattle.flat_guest.specs.Narrow.{AreNarrowDevices, HasWidths}
use Rattle.flat_guest.specs.Savable.{IsSavable}
use Rattle.flat_guest.specs.Sound.{IsSound}
use Rattle.flat_guest.specs.Start.{devices_at_start, started, timer_restarted}
use Rattle.flat_guest.specs.Steps.{Makes}
use Rattle.flat_guest.proofs.Lists.{mapped_from, some_is}
use Rattle.flat_guest.proofs.Narrow.{put_narrow, widths_next}
use Rattle.flat_guest.proofs.Savable.{AreShown, savable_drained, savable_restart, savable_start, savable_told, savable_unwritten}
use Rattle.flat_guest.proofs.Soundness.{sound_next}

-- ---- the start

started_narrow : (pages n : ℕ) (all : List NewDevice) (k : ℕ) (d : FlatDevice) → pages ≤ 2 ^ 20 → All IsNarrowNew all
    → slice_get (devices_at_start pages n all) k ≡ Some d → IsNarrowDevice (n + k) pages d
started_narrow pages n [] k d few narrow is = cc
started_narrow pages n (what ∷ others) zero d few narrow is =
    let same : new_device n pages what ≡ d = some_is _ d is in
    let first : n ≡ n + 0 = omega arith in
    subst (λ (i : ℕ). IsNarrowDevice i pages d) first
    (subst (λ (e : FlatDevice). IsNarrowDevice n pages e) same
    (new_narrow n pages few what (All-head IsNarrowNew what others narrow)))
started_narrow pages n (what ∷ others) (suc k) d few narrow is =
    let next : suc n + k ≡ n + suc k = omega arith in
    subst (λ (i : ℕ). IsNarrowDevice i pages d) next
    (started_narrow pages (suc n) others k d few (All-tail IsNarrowNew what others narrow) is)

pub widths_start : (harts mib : ℕ) (loads : Loads) (all : List NewDevice) → harts ≤ hart_limit → mib ≤ 4096
    → memory_kept.AreLoads loads → length (boot_memory mib loads).bytes ≡ bytes_of_mib mib → All IsNarrowNew all
    → HasWidths (256 * mib) harts (started harts mib loads all)
widths_start harts mib loads all few small bytes whole narrow =
    let pages : ℕ = whole_pages (boot_memory mib loads) in
    let pages_are : whole_pages (boot_memory mib loads) ≡ 256 * mib = omega (arith, whole) in
    record {
      savable = savable_start harts mib loads all few small bytes whole;
      devices = λ k d is.
          let here : 0 + k ≡ k = omega arith in
          subst (λ (n : ℕ). IsNarrowDevice k n d) pages_are
          (subst (λ (i : ℕ). IsNarrowDevice i pages d) here
          (started_narrow pages 0 all k d (omega (arith, pages_are, small)) narrow is));
    }

-- ---- what is no event

told_by : (pages k : ℕ) (change : DeviceChange) (devices : List FlatDevice) (found : Option FlatDevice) → pages ≤ 2 ^ 20
    → AreNarrowDevices pages devices → FitsChange change → IsSmallChange change → slice_get devices k ≡ found
    → AreNarrowDevices pages (devices_told found devices k change)
told_by pages k change devices None few each fits small is = each
told_by pages k change devices (Some x) few each fits small is =
    put_narrow pages few devices each k x (device_told x change) is (told_narrow k pages few x change fits small (each k x is))

savable_reset : (pages harts : ℕ) (g : Guest) → IsSavable pages harts g → IsSavable pages harts (reset_guest g)
savable_reset pages harts g is = record {
  few = is.few;
  memory = is.memory;
  board = is.board;
  ports = is.ports;
  many = is.many;
  each = λ k start now there leads. is.each k start now there leads;
}

module _ (pages harts : ℕ) (few : pages ≤ 2 ^ 20) (g : Guest) (is : HasWidths pages harts g) where
  pub widths_told : (k : ℕ) (change : DeviceChange) (shown : Option (List ℕ)) → FitsChange change → IsSmallChange change → AreShown shown
      → HasWidths pages harts (told k change shown g)
  widths_told k change shown fits small bytes = record {
    savable = savable_told pages harts g k change shown bytes is.savable;
    devices = told_by pages k change g.devices (slice_get g.devices k) few is.devices fits small refl;
  }

  pub widths_reset : HasWidths pages harts (reset_guest g)
  widths_reset = record {
    savable = savable_reset pages harts g is.savable;
    devices = λ k d there.
        let from = mapped_from device_reset g.devices k d there in
        subst (λ (e : FlatDevice). IsNarrowDevice k pages e) from.2 (reset_narrow k pages few from.0 (is.devices k from.0 from.1));
  }

  pub widths_restart : HasWidths pages harts (timer_restarted g)
  widths_restart = record { savable = savable_restart pages harts g is.savable; devices = is.devices }

  pub widths_unwritten : HasWidths pages harts (unwritten g)
  widths_unwritten = record { savable = savable_unwritten pages harts g is.savable; devices = is.devices }

  pub widths_drained : HasWidths pages harts (record g { board = record g.board { console = [] } })
  widths_drained = record { savable = savable_drained pages harts g is.savable; devices = is.devices }

-- ---- events of one actor

pub widths_made : (pages harts : ℕ) (es : List Entry) (g h : Guest) (actor : ActorId) → pages ≤ 2 ^ 20 → IsSound g → HasWidths pages harts g
    → Makes g actor es h → HasWidths pages harts h
widths_made pages harts [] g h actor few sound is made = subst (λ (q : Guest). HasWidths pages harts q) made is
widths_made pages harts (e ∷ es) g h actor few sound is (unstamped, mid, step, more) =
    let event : Event = record { actor = actor; given = Nothing } in
    widths_made pages harts es mid h actor few (sound_next g event e mid sound step)
    (widths_next pages few harts g event e mid sound is step tt) more
