-- A ready guest of which each number has its width has a copy behind a Reset that fits a state file.
use Rattle.std.proofs.Common.{◌≡◌, ◌≤◌, ◌<◌, ◌^◌, ℕ, suc, ◌+◌, ◌*◌, ◌/◌, true, refl, sym, subst, List, [], ◌∷◌, length, map, Some, slice_get, arith}
use Rattle.std.proofs.lemmas.List.{length-map}
use Rattle.std.specs.Prelude.{IsTrue}
use Rattle.std.specs.List.{All}
use Rattle.std.proofs.lemmas.List.Elements.{All-cons, All-nil}
use Rattle.vm_types.specs.declared.identity.Identity.{Identity}
use Rattle.vm_types.specs.declared.ids.ActorId.TheVariants.{Hart as HartId}
use Rattle.vm_config.specs.declared.config.Config.{Config}
use Rattle.file_format.specs.Identities.{is_numbered}
use Rattle.file_format.specs.Versions.{current_version}
use Rattle.guest_memory.specs.Ram.{page_size}
use Rattle.hart_trace.specs.Traces.{IsPrefix}
use Rattle.guest_devices.specs.declared.device.Device.{Device}
use Rattle.guest_devices.specs.Devices.{DeviceLeads, FlatDevice, device_reset}
use Rattle.guest_devices.specs.Kept.{device_left, is_kept, is_saved}
use Rattle.guest_devices.specs.Narrow.{IsNarrowDevice}
use Rattle.guest_devices.proofs.Narrow.{copied_narrow}
use Rattle.guest_devices.specs.Sound.{IsSoundDevice}
use Rattle.guest_devices.proofs.Placed.{bounded_kept}
use Rattle.guest_devices.proofs.Saved.{flat_saved}
use Rattle.flat_guest.specs.Changes.{reset_guest}
use Rattle.flat_guest.specs.Guest.{Guest}
use Rattle.flat_guest.specs.Narrow.{HasWidths}
use Rattle.flat_guest.specs.Savable.{IsSavable}
use Rattle.flat_guest.specs.Sound.{IsSound}
use Rattle.snap_devices.specs.Devices.{device}
use Rattle.snap_devices.proofs.Fits.{device_fits}
use Rattle.snap_state.specs.declared.copy.StateCopy.{StateCopy}
use Rattle.snap_state.specs.Files.{contents, contents_of}
use Rattle.snap_state.proofs.Rules.{attached, rules_of}
use Rattle.flat_snapshot.specs.Copies.{AreKept, IsCopyOf, copy_of}
use Rattle.flat_snapshot.specs.Ready.{IsReady}
use Rattle.flat_snapshot.proofs.Copied.{some_copy, some_harts}
use Rattle.flat_snapshot.proofs.Fits.{contents_fit}
use Rattle.flat_snapshot.proofs.Ready.{many_kept, valid_copy}

fit_at : (port pages : ℕ) (d : FlatDevice) → pages ≤ 2 ^ 20 → port < 2 ^ 8 → IsSoundDevice port pages d
    → IsNarrowDevice port pages (device_reset d)
    → (it : Device) × DeviceLeads (device_reset d) (device_left it) × (is_kept it ≡ true) × device.Fits it
fit_at port pages d few low sound narrow =
    let it = copied_narrow port pages (device_reset d) (omega (arith, few)) narrow in
    let kept : is_kept it.0 ≡ true = bounded_kept it.0 it.2 it.3 in
    let saved : is_saved it.0 ≡ true = flat_saved port pages d it.0 (omega (arith, few)) sound it.1 kept in (
      it.0,
      it.1,
      kept,
      device_fits it.0 kept saved it.6 (subst (λ (n : ℕ). n ≤ 2 ^ 20) (sym it.5) few) (subst (λ (n : ℕ). n < 2 ^ 8) (sym it.4) low),
    )

some_fits : (pages port : ℕ) (devices : List FlatDevice) → pages ≤ 2 ^ 20 → port + length devices ≤ 2 ^ 8
    → ((i : ℕ) (d : FlatDevice) → slice_get devices i ≡ Some d → IsSoundDevice (port + i) pages d)
    → ((i : ℕ) (d : FlatDevice) → slice_get (map device_reset devices) i ≡ Some d → IsNarrowDevice (port + i) pages d)
    → (kept : List Device) × AreKept kept (map device_reset devices) × All device.Fits kept
some_fits pages port [] few low was each = ([], tt, All-nil device.Fits)
some_fits pages port (d ∷ devices) few low was each =
    let here : port + 0 ≡ port = omega arith in
    let it =
    fit_at port pages d few (omega (arith, low)) (subst (λ (n : ℕ). IsSoundDevice n pages d) here (was 0 d refl))
    (subst (λ (n : ℕ). IsNarrowDevice n pages (device_reset d)) here (each 0 (device_reset d) refl)) in
    let rest = some_fits pages (suc port) devices few (omega (arith, low))
    (λ i next there.
    let on : port + suc i ≡ suc port + i = omega arith in
    subst (λ (n : ℕ). IsSoundDevice n pages next) on (was (suc i) next there))
    (λ i next there.
    let on : port + suc i ≡ suc port + i = omega arith in
    subst (λ (n : ℕ). IsNarrowDevice n pages next) on (each (suc i) next there)) in
    (it.0 ∷ rest.0, (it.1, it.2, rest.1), All-cons device.Fits it.0 rest.0 it.3 rest.2)

-- a guest that was there, and what it is behind a Reset
module _ (config : Config) (own : Identity) (had : Guest) (was : IsSound had) (sound : IsSound (reset_guest had))
    (ready : IsReady config (reset_guest had)) (small : config.machine.mem_size_mib ≤ 4096)
    (widths : HasWidths (256 * config.machine.mem_size_mib) config.machine.vcpu_count (reset_guest had)) where
  abbrev g : Guest
  g = reset_guest had

  abbrev wanted : ℕ
  wanted = 256 * config.machine.mem_size_mib

  pages_are : length g.memory.bytes / page_size ≡ wanted
  pages_are = let whole = widths.savable.memory.many_bytes in omega (arith, whole)

  few_devices : length had.devices ≤ 2 ^ 7
  few_devices =
      let one = some_copy config g sound (omega (arith, pages_are, small)) in
      let valid = valid_copy config g one.0 sound ready small one.1 in
      let at = attached one.0 (rules_of one.0 valid) in
      let count = at.devices in
      let drives = at.few in
      let kept : length one.0.devices ≡ length (map device_reset had.devices) = many_kept one.0.devices g.devices one.1.2 in
      let many = length-map had.devices device_reset in
      omega (arith, count, drives, kept, many)

  -- some copy of it fits a state file, and is of this identity there
  pub fitting_copy : own.lineage < 2 ^ 64 → IsTrue (is_numbered own)
      → (copy : StateCopy) × IsCopyOf config g copy
      × (contents current_version).Fits (contents_of current_version (record { identity = own; copy = copy }))
  fitting_copy lineage numbered =
      let harts = some_harts g.starts 0 g.steps (λ i start is.
      let same : i ≡ 0 + i = omega arith in
      subst (λ (n : ℕ). IsPrefix start (g.steps (HartId n))) same (sound.harts_on i start is)) in
      let devices = few_devices in
      let kept = some_fits wanted 0 had.devices (omega (arith, small)) (omega (arith, devices))
      (λ i d there.
      let here : i ≡ 0 + i = omega arith in
      subst (λ (n : ℕ). IsSoundDevice n wanted d) here
      (subst (λ (n : ℕ). IsSoundDevice i n d) pages_are (was.devices_on.each i d there)))
      (λ i d there.
      let here : i ≡ 0 + i = omega arith in
      subst (λ (n : ℕ). IsNarrowDevice n wanted d) here (widths.devices i d there)) in
      let copy : StateCopy = copy_of config g harts.0 kept.0 in
      let of : IsCopyOf config g copy = (harts.0, harts.1, kept.1, refl) in
      let valid = valid_copy config g copy sound ready small of in
      let savable : IsSavable copy.pages config.machine.vcpu_count g =
      subst (λ (n : ℕ). IsSavable n config.machine.vcpu_count g) (sym pages_are) widths.savable in
      (copy, of, contents_fit config g copy own of valid savable kept.2 lineage numbered)
