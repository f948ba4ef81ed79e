-- A copy of a guest whose numbers have their widths fits a state file.
use Rattle.std.proofs.Common.{◌≡◌, ◌≤◌, ◌<◌, ◌^◌, ℕ, suc, ◌+◌, ◌*◌, ◌==◌, not, nat_lt, if◌then◌else◌, true, refl, sym, ap, subst, List, [], ◌∷◌, length, map, Option, Some, None, slice_get, arith}
use Rattle.std.specs.Prelude.{IsTrue}
use Rattle.std.specs.List.{All}
use Rattle.std.proofs.lemmas.Bool.{and_parts, eqb-true, le-leb, leb-true, ltb-true}
use Rattle.std.proofs.lemmas.List.Elements.{All-cons, All-nil}
use Rattle.vm_types.specs.declared.identity.Identity.{Identity}
use Rattle.vm_types.specs.declared.ids.ActorId.{ActorId}
use Rattle.vm_types.specs.declared.ids.ActorId.TheVariants.{Hart as HartId}
use Rattle.vm_types.specs.declared.entry.Step.{Step}
use Rattle.api_calls.specs.declared.entropy.Entropy.{Entropy}
use Rattle.api_calls.specs.Form.{holds}
use Rattle.vm_config.specs.declared.config.Config.{Config}
use Rattle.file_format.specs.Identities.{identity, is_numbered}
use Rattle.file_format.specs.Versions.{current_version}
use Rattle.file_format.specs.Ends.{listed}
use Rattle.file_format.specs.Whole.{counted}
use Rattle.file_format.proofs.Fitting.{fits32, fits64, fits_bytes, fits_flag, fits_list}
use Rattle.guest_memory.specs.Ram.{page_size}
use Rattle.port_table.specs.declared.state.PortState.{PortState}
use Rattle.port_table.specs.Window.{most_ports}
use Rattle.vm_config.specs.Devices.{count_in}
use Rattle.rv_supervisor.specs.declared.regs.Regs.{Regs}
use Rattle.hart_trace.specs.Kept.{IsKept}
use Rattle.hart_trace.specs.States.{Hart, LeadsTo}
use Rattle.guest_devices.specs.declared.device.Device.{Device}
use Rattle.flat_guest.specs.Guest.{Guest}
use Rattle.flat_guest.specs.Savable.{IsSavable, IsSizedPort}
use Rattle.snap_devices.specs.Devices.{device}
use Rattle.snap_devices.specs.Ports.{port}
use Rattle.snap_devices.proofs.Lengths.{port_long}
use Rattle.snap_devices.proofs.Ports.{port_fits}
use Rattle.snap_harts.specs.Copy.{saved_hart}
use Rattle.snap_harts.specs.Harts.{hart}
use Rattle.snap_harts.proofs.Fits.{hart_fits}
use Rattle.snap_state.specs.declared.copy.StateCopy.{StateCopy}
use Rattle.snap_state.specs.Copies.{devices, reservation, section, sections_in, state_copy}
use Rattle.snap_state.specs.Files.{contents, contents_of}
use Rattle.snap_state.specs.Sections.{entropy_in}
use Rattle.snap_state.specs.Valid.{is_entropy, is_machine, is_valid}
use Rattle.snap_state.proofs.Fits.{board_fits, reservations_fit, sections_fit}
use Rattle.snap_state.proofs.Longest.{body_short}
use Rattle.snap_state.proofs.Rules.{Rules, attached, few_harts, few_pages, rules_of}
use Rattle.snap_state.proofs.Sectioned.{entropy_told, two_at_most}
use Rattle.snap_state.proofs.Sizes.{device_within}
use Rattle.snap_state.proofs.Texts.{configuration_fits}
use Rattle.flat_snapshot.specs.Copies.{AreHarts, IsCopyOf, configuration_of, copy_of, reservations_from}

-- ---- harts

harts_fit : (size : ℕ) (starts : List Regs) (k : ℕ) (steps : ActorId → List Step) (harts : List Hart) → size ≤ 2 ^ 32
    → AreHarts k starts steps harts
    → ((i : ℕ) (start : Regs) (h : Hart) → slice_get starts i ≡ Some start → LeadsTo start (steps (HartId (k + i))) h → IsKept size h)
    → All hart.Fits (map saved_hart harts)
harts_fit size [] k steps harts few is each =
    subst (λ (l : List Hart). All hart.Fits (map saved_hart l)) (sym is) (All-nil hart.Fits)
harts_fit size (start ∷ starts) k steps harts few (h, rest, is, leads, more) each =
    let here : k ≡ k + 0 = omega arith in
    let first = each 0 start h refl (subst (λ (n : ℕ). LeadsTo start (steps (HartId n)) h) here leads) in
    let others = harts_fit size starts (suc k) steps rest few more
    (λ i next q there to.
    let on : suc k + i ≡ k + suc i = omega arith in
    each (suc i) next q there (subst (λ (n : ℕ). LeadsTo next (steps (HartId n)) q) on to)) in
    subst (λ (l : List Hart). All hart.Fits (map saved_hart l)) (sym is)
    (All-cons hart.Fits (saved_hart h) (map saved_hart rest) (hart_fits size h few first) others)

-- ---- ports and devices, each as a list of its bytes

counted_port : (p : PortState) → IsSizedPort p → (counted port).Fits p
unfolding counted
counted_port p is =
    let fits = port_fits p.kind p is in
    let long = port_long p fits in
    (fits, fits_bytes (port.bytes p) (omega (arith, long)))

ports_fit : (ps : List PortState) → All IsSizedPort ps → All (counted port).Fits ps
ports_fit ps all = λ k d below. counted_port _ (all k d below)

listed_device : (d : Device) → device.Fits d → (listed device).Fits d
unfolding listed
listed_device d fits =
    let most = device_within.at (device.bytes d) d (device.again d fits) in
    (fits, fits_bytes (device.bytes d) (omega (arith, most)))

devices_fit : (ds : List Device) → All device.Fits ds → All (listed device).Fits ds
devices_fit ds all = λ k d below. listed_device _ (all k d below)

-- ---- reservations: at most one for each slot

few_reserved : (slot : ℕ) (slots : List (Option ℕ)) → length (reservations_from slot slots) ≤ length slots
few_reserved slot [] = omega arith
few_reserved slot (None ∷ slots) =
    let rest = few_reserved (suc slot) slots in
    omega (arith, rest)
few_reserved slot (Some offset ∷ slots) =
    let rest = few_reserved (suc slot) slots in
    omega (arith, rest)

-- ---- all of it

module _ (config : Config) (g : Guest) (copy : StateCopy) (own : Identity) (of : IsCopyOf config g copy) (valid : IsTrue (is_valid copy))
    (savable : IsSavable copy.pages config.machine.vcpu_count g) (kept : All device.Fits copy.devices) where
  abbrev made : StateCopy
  made = copy_of config g of.0 copy.devices

  rules : Rules made
  rules = rules_of made (subst (λ (c : StateCopy). IsTrue (is_valid c)) of.3 valid)

  pages_are : copy.pages ≡ made.pages
  pages_are = ap (λ (c : StateCopy). c.pages) of.3

  few : made.pages ≤ 2 ^ 20
  few = few_pages made rules

  slots : length made.reservations ≤ 2 ^ 25
  slots =
      let many = savable.memory.many_slots in
      omega (arith, few, pages_are, many, few_reserved 0 g.memory.reserved)

  few_links : length config.interfaces ≤ most_ports
  few_links =
      let room = leb-true (count_in config.drives config.interfaces config.vsock config.balloon (entropy_in made.sections)) most_ports rules.room in
      omega (arith, room)

  machine : is_machine config.machine ≡ true
  machine =
      let fits = and_parts _ (if config.machine.track_dirty_pages then config.machine.track_dirty_pages else not config.machine.track_dirty_pages)
      rules.machine in
      (and_parts (is_machine config.machine) (made.pages == 256 * config.machine.mem_size_mib) fits.0).0

  small : page_size * copy.pages ≤ 2 ^ 32
  small = omega (arith, few, pages_are)

  each : (i : ℕ) (start : Regs) (h : Hart) → slice_get g.starts i ≡ Some start → LeadsTo start (g.steps (HartId (0 + i))) h
      → IsKept (page_size * copy.pages) h
  each i start h there leads =
      let here : 0 + i ≡ i = omega arith in
      savable.each i start h there (subst (λ (n : ℕ). LeadsTo start (g.steps (HartId n)) h) here leads)

  entropy : holds is_entropy config.entropy ≡ true
  entropy =
      subst (λ (e : Option Entropy). holds is_entropy e ≡ true) (entropy_told g.ports config.entropy) rules.entropy

  made_fits : (state_copy current_version).Fits made
  unfolding state_copy devices sections_in
  made_fits =
      let at = attached made rules in
      let ports = at.ports in
      let count = at.devices in
      let drives = at.few in
      let harts = few_harts made rules in
      let many = eqb-true (length made.harts) config.machine.vcpu_count rules.many in
      let held = slots in (
        (
          configuration_fits (configuration_of config) rules.source rules.drives rules.interfaces few_links rules.vsock rules.mmds machine rules.balloon,
          (fits32 made.pages (omega (arith, few)), (fits_flag made.track_dirty_pages, fits64 g.board.now savable.board.now)),
        ),
        (
          board_fits config.machine.vcpu_count g.board harts savable.board,
          (
            fits_list hart made.harts (omega (arith, many, harts)) (harts_fit (page_size * copy.pages) g.starts 0 g.steps of.0 small of.1 each),
            (
              fits_list (counted port) g.ports (omega (arith, ports, drives)) (ports_fit g.ports savable.ports),
              (
                (
                  fits_list (listed device) copy.devices (omega (arith, count, drives)) (devices_fit copy.devices kept),
                  le-leb (length copy.devices) most_ports (omega (arith, count, drives)),
                ),
                (
                  fits_list reservation made.reservations (omega (arith, held))
                      (reservations_fit made.pages config.machine.vcpu_count made.reservations (omega (arith, few)) harts rules.reservations),
                  fits_list section made.sections (omega (arith, two_at_most g.ports config.entropy))
                      (sections_fit g.ports config.entropy (omega (arith, ports, drives)) entropy),
                ),
              ),
            ),
          ),
        ),
      )

  copy_fits : (state_copy current_version).Fits copy
  copy_fits = subst (state_copy current_version).Fits (sym of.3) made_fits

  own_fits : own.lineage < 2 ^ 64 → IsTrue (is_numbered own) → identity.Fits own
  unfolding identity
  own_fits lineage numbered =
      let below = ltb-true own.number 0x8000_0000_0000_0000 (and_parts (nat_lt 0 own.number) _ numbered).1 in
      (fits64 own.lineage lineage, fits64 own.number (omega (arith, below)))

  -- each number fits its field of the file, and so does the length of the body
  pub contents_fit : own.lineage < 2 ^ 64 → IsTrue (is_numbered own)
      → (contents current_version).Fits (contents_of current_version (record { identity = own; copy = copy }))
  contents_fit lineage numbered =
      (fits32 _ (body_short current_version copy copy_fits valid), (own_fits lineage numbered, copy_fits))
