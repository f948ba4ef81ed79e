-- The guest that goes on from a snapshot has its widths: by the fields of the file, and its bytes.
use Rattle.std.proofs.Common.{◌≡◌, ◌≤◌, ◌^◌, ℕ, zero, suc, ◌+◌, ◌*◌, true, subst, List, [], ◌∷◌, ◌∙◌, length, map, Some, slice_get, arith}
use Rattle.std.specs.List.{All}
use Rattle.std.proofs.lemmas.Bool.{and_parts}
use Rattle.std.proofs.lemmas.List.Elements.{All-head, All-tail}
use Rattle.le_fields.specs.Fields.{IsByte}
use Rattle.file_format.specs.Format.{IsBytes}
use Rattle.file_format.specs.declared.version.Version.{Version}
use Rattle.file_format.specs.Ends.{listed}
use Rattle.file_format.proofs.Fitting.{of_list}
use Rattle.guest_memory.specs.Ram.{page_size}
use Rattle.guest_devices.specs.declared.device.Device.{Device}
use Rattle.guest_devices.specs.Devices.{FlatDevice}
use Rattle.guest_devices.specs.Kept.{device_port}
use Rattle.guest_devices.specs.Narrow.{IsNarrowDevice}
use Rattle.guest_devices.proofs.Narrow.{narrow_at}
use Rattle.guest_devices.proofs.Placed.{kept_bounded, kept_state}
use Rattle.flat_guest.specs.Narrow.{AreNarrowDevices, HasWidths}
use Rattle.snap_devices.specs.Devices.{device}
use Rattle.snap_devices.proofs.DeviceNarrow.{HoldsBytes, device_narrow}
use Rattle.snap_state.specs.declared.copy.StateCopy.{StateCopy}
use Rattle.snap_state.specs.declared.file.Saved.{Saved}
use Rattle.snap_state.specs.Copies.{devices, state_copy}
use Rattle.snap_state.specs.Files.{IsSaved, contents, contents_of}
use Rattle.snap_state.specs.Valid.{are_devices, is_device}
use Rattle.snap_state.proofs.Held.{saved_held}
use Rattle.snap_state.proofs.Rules.{attached, device_of, few_pages, rules_of}
use Rattle.flat_snapshot.specs.Carried.{carried_guest, resumed}
use Rattle.flat_snapshot.proofs.CarriedSavable.{carried_savable}

one_fits : (d : Device) → (listed device).Fits d → device.Fits d
unfolding listed
one_fits d own = own.0

-- each device goes on narrow
narrow_on : (pages port : ℕ) (kept : List Device) → pages ≤ 2 ^ 20 → are_devices pages port kept ≡ true → All (listed device).Fits kept
    → All HoldsBytes kept → (k : ℕ) (d : FlatDevice) → slice_get (map resumed kept) k ≡ Some d → IsNarrowDevice (port + k) pages d
narrow_on pages port [] few all fit held k d is = cc
narrow_on pages port (it ∷ kept) few all fit held zero d is =
    let parts = and_parts (is_device pages port it) (are_devices pages (suc port) kept) all in
    let own = device_of pages port it parts.0 in
    let here : device_port it ≡ port + 0 = own.there ∙ omega arith in
    let same : resumed it ≡ d = cc in
    let narrow = device_narrow it (one_fits it (All-head (listed device).Fits it kept fit)) (All-head HoldsBytes it kept held) in
    let bounded = kept_bounded it (omega (arith, own.sized, few)) own.kept in
    subst (λ (x : FlatDevice). IsNarrowDevice (port + 0) pages x) same
    (subst (λ (n : ℕ). IsNarrowDevice n pages (resumed it)) here
    (subst (λ (n : ℕ). IsNarrowDevice (device_port it) n (resumed it)) own.sized (narrow_at it (kept_state it own.kept) bounded narrow)))
narrow_on pages port (it ∷ kept) few all fit held (suc k) d is =
    let parts = and_parts (is_device pages port it) (are_devices pages (suc port) kept) all in
    let next : suc port + k ≡ port + suc k = omega arith in
    subst (λ (n : ℕ). IsNarrowDevice n pages d) next
    (narrow_on pages (suc port) kept few parts.1 (All-tail (listed device).Fits it kept fit) (All-tail HoldsBytes it kept held) k d is)

module _ (version : Version) (s : Saved) (bytes : List ℕ) (saved : IsSaved version s)
    (file : IsBytes ((contents version).bytes (contents_of version s)))
    (whole : length bytes ≡ page_size * s.copy.pages) (all : All IsByte bytes) where
  abbrev copy : StateCopy
  copy = s.copy

  own : (state_copy version).Fits copy
  own = saved.fits.1.1

  devices_fit : All (listed device).Fits copy.devices
  unfolding state_copy devices
  devices_fit = of_list (listed device) copy.devices own.1.1.1.1.0.0

  devices_on : AreNarrowDevices copy.pages (map resumed copy.devices)
  devices_on k d is =
      let rules = rules_of copy saved.valid in
      let few : copy.pages ≤ 2 ^ 20 = omega (arith, few_pages copy rules) in
      let here : 0 + k ≡ k = omega arith in
      subst (λ (n : ℕ). IsNarrowDevice n copy.pages d) here
      (narrow_on copy.pages 0 copy.devices few (attached copy rules).each devices_fit
      (saved_held version s file) k d is)

  pub carried_widths : HasWidths copy.pages copy.configuration.machine.vcpu_count (carried_guest copy bytes)
  carried_widths = record { savable = carried_savable version copy bytes own saved.valid whole all; devices = devices_on }
