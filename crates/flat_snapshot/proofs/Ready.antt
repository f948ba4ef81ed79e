-- Each copy of a guest that is ready passes the tests of a state file.
use Rattle.std.proofs.Common.{◌≡◌, ◌≤◌, ◌<◌, ◌^◌, ℕ, suc, ◌+◌, ◌*◌, ◌/◌, ◌%◌, ◌==◌, ◌&&◌, ◌||◌, not, nat_le, nat_lt, Bool, true, false, if◌then◌else◌, refl, sym, ap, subst, ◌∙◌, List, [], ◌∷◌, length, map, Option, Some, None, slice_get, arith}
use Rattle.std.specs.Prelude.{is_some, bit_and}
use Rattle.std.specs.List.{list_all}
use Rattle.std.proofs.lemmas.Bool.{eq-eqb, le-leb, lt-ltb, ltb-false, and_from}
use Rattle.std.proofs.lemmas.List.{length-map}
use Rattle.vm_types.specs.declared.ids.ActorId.{ActorId}
use Rattle.vm_types.specs.declared.ids.ActorId.TheVariants.{Hart as HartId}
use Rattle.vm_types.specs.declared.entry.Step.{Step}
use Rattle.api_calls.specs.declared.entropy.Entropy.{Entropy}
use Rattle.api_calls.specs.Form.{holds}
use Rattle.vm_config.specs.declared.config.Config.{Config}
use Rattle.board_table.specs.Board.{Board, ring_size}
use Rattle.board_table.specs.Kept.{IsLong}
use Rattle.guest_memory.specs.Kept.{AreSlots}
use Rattle.guest_memory.specs.Ram.{is_ram, page_size}
use Rattle.guest_memory.specs.Reserved.{hart_limit}
use Rattle.rv_supervisor.specs.declared.regs.Regs.{Regs}
use Rattle.rv_supervisor.specs.declared.regs.Turn.{Turn}
use Rattle.rv_supervisor.specs.declared.regs.Turn.TheVariants as turn
use Rattle.rv_supervisor.specs.Csrs.{bit, interrupts, status}
use Rattle.rv_doing.specs.Doing.{asked}
use Rattle.hart_trace.specs.Kept.{IsAsking, IsHeld, IsShaped}
use Rattle.hart_trace.specs.States.{Hart, LeadsTo}
use Rattle.hart_trace.specs.Traces.{executes}
use Rattle.guest_devices.specs.declared.device.Device.{Device}
use Rattle.guest_devices.specs.Devices.{DeviceLeads, DeviceLeft, FlatDevice}
use Rattle.guest_devices.specs.Ports.{number_of}
use Rattle.guest_devices.specs.Kept.{device_left, device_pages, device_port, is_kept}
use Rattle.guest_devices.specs.Moments.{is_timely}
use Rattle.guest_devices.specs.Sound.{IsSoundDevice}
use Rattle.guest_devices.proofs.Follows.{one_left}
use Rattle.guest_devices.proofs.Moments.{copied_timely}
use Rattle.guest_devices.proofs.Placed.{bounded_kept, kept_state, placed_alike}
use Rattle.guest_devices.proofs.Soundness.{copied}
use Rattle.flat_guest.specs.Changes.{reset_guest}
use Rattle.flat_guest.specs.Guest.{Guest}
use Rattle.flat_guest.specs.Shaped.{AreTimely}
use Rattle.flat_guest.specs.Sound.{IsSound, device_kinds}
use Rattle.flat_guest.proofs.Devices.{reset_many}
use Rattle.flat_guest.proofs.Shaped.{shaped_reset}
use Rattle.snap_harts.specs.declared.hart.SavedHart.{SavedHart}
use Rattle.snap_harts.specs.Copy.{is_due, place_of, regs_of, saved_hart}
use Rattle.snap_harts.proofs.Harts.{hart_back}
use Rattle.snap_state.specs.declared.copy.StateCopy.{StateCopy}
use Rattle.snap_state.specs.Copy.{saved_board}
use Rattle.snap_state.proofs.HasDevices.{has_kinds}
use Rattle.snap_state.specs.Valid.{are_devices, asks, has_bits, has_devices, has_machine, has_room, is_aligned, is_before, is_board, is_counted, is_device, is_entropy, is_granule, is_hart, is_machine, is_placed, is_reserved, is_rising, is_valid, kind_of, kinds_in, kinds_of, rises_from}
use Rattle.snap_state.specs.Sections.{entropy_in}
use Rattle.snap_state.proofs.Rules.{rules_hold}
use Rattle.snap_state.proofs.Sectioned.{entropy_told, sections_taken}
use Rattle.flat_snapshot.specs.Copies.{AreHarts, AreKept, IsCopyOf, configuration_of, copy_of, reservations_from}
use Rattle.flat_snapshot.specs.Ready.{IsReady}

-- ---- a hart

status_again : (sie spie : Bool) → (status (bit 1 (status sie spie)) (bit 5 (status sie spie)) == status sie spie) ≡ true
status_again false false = refl
status_again false true = refl
status_again true false = refl
status_again true true = refl

held_is : (pages : ℕ) (held : Option ℕ) → IsHeld (page_size * pages) held → is_granule pages held ≡ true
held_is pages None is = refl
held_is pages (Some at) is = and_from (at % 8 == 0) (is_ram (page_size * pages) at 8) (eq-eqb (at % 8) 0 is.0) is.1

fetch_placed : (t : Turn) → t ≡ turn.Fetch → not (is_due t) ≡ true
fetch_placed t fetches = ap (λ (u : Turn). not (is_due u)) fetches

placed : (begun : Option ℕ) (t : Turn) → ((word : ℕ) → begun ≡ Some word → t ≡ turn.Fetch)
    → is_placed (is_due t) (place_of begun t) ≡ true
placed None turn.Fetch by_fetch = refl
placed None turn.Look by_fetch = refl
placed None turn.WakeLook by_fetch = refl
placed None turn.Idle by_fetch = refl
placed None turn.WakeIdle by_fetch = refl
placed (Some word) t by_fetch = fetch_placed t (by_fetch word refl)

asking : (begun : Option ℕ) (t : Turn) (r s : Regs) → s ≡ r → IsAsking begun r → asks (place_of begun t) s ≡ true
asking None turn.Fetch r s same is = refl
asking None turn.Look r s same is = refl
asking None turn.WakeLook r s same is = refl
asking None turn.Idle r s same is = refl
asking None turn.WakeIdle r s same is = refl
asking (Some word) t r s same is = ap (λ (q : Regs). is_some (asked (executes word q))) same ∙ is.1

by_fetch : (begun : Option ℕ) (r : Regs) → IsAsking begun r → (word : ℕ) → begun ≡ Some word → r.turn ≡ turn.Fetch
by_fetch None r is word here = cc
by_fetch (Some other) r is word here = is.0

hart_valid : (pages : ℕ) (h : Hart) → IsShaped (page_size * pages) h → is_hart pages (saved_hart h) ≡ true
hart_valid pages h is =
    let s : SavedHart = saved_hart h in
    let fetches = by_fetch h.begun h.regs is.begun in
    let same : regs_of s ≡ h.regs = ap (λ (q : Hart). q.regs) (hart_back h fetches) in
    let counted : is_counted s ≡ true =
    and_from (nat_le 1 h.regs.count) (nat_le h.regs.count 32) (le-leb 1 h.regs.count is.regs.0) (le-leb h.regs.count 32 is.regs.1) in
    let aligned : is_aligned s ≡ true =
    and_from _ (h.regs.stvec % 4 == 0)
    (and_from (h.regs.pc % 4 == 0) (h.regs.sepc % 4 == 0) (eq-eqb (h.regs.pc % 4) 0 is.aligned.0) (eq-eqb (h.regs.sepc % 4) 0 is.aligned.2))
    (eq-eqb (h.regs.stvec % 4) 0 is.aligned.1) in
    let bits : has_bits s ≡ true =
    and_from (bit_and h.regs.sie interrupts == h.regs.sie) _ (eq-eqb (bit_and h.regs.sie interrupts) h.regs.sie is.regs.2)
    (status_again h.regs.status_sie h.regs.status_spie) in
    and_from _ (asks s.place (regs_of s))
    (and_from _ (is_placed s.is_look_due s.place)
    (and_from _ (is_granule pages s.held) (and_from _ (has_bits s) (and_from (is_counted s) (is_aligned s) counted aligned) bits)
    (held_is pages h.regs.held is.regs.3)) (placed h.begun h.regs.turn fetches))
    (asking h.begun h.regs.turn h.regs (regs_of s) same is.begun)

harts_valid : (pages : ℕ) (starts : List Regs) (k : ℕ) (steps : ActorId → List Step) (harts : List Hart) → AreHarts k starts steps harts
    → ((i : ℕ) (start : Regs) (h : Hart) → slice_get starts i ≡ Some start → LeadsTo start (steps (HartId (k + i))) h
    → IsShaped (page_size * pages) h)
    → list_all (is_hart pages) (map saved_hart harts) ≡ true
harts_valid pages [] k steps harts is each = ap (λ (l : List Hart). list_all (is_hart pages) (map saved_hart l)) is
harts_valid pages (start ∷ starts) k steps harts (h, rest, is, leads, more) each =
    let here : k ≡ k + 0 = omega arith in
    let first = each 0 start h refl (subst (λ (n : ℕ). LeadsTo start (steps (HartId n)) h) here leads) in
    let others = harts_valid pages starts (suc k) steps rest more
    (λ i next q there to.
    let on : suc k + i ≡ k + suc i = omega arith in
    each (suc i) next q there (subst (λ (n : ℕ). LeadsTo next (steps (HartId n)) q) on to)) in
    ap (λ (l : List Hart). list_all (is_hart pages) (map saved_hart l)) is
    ∙ and_from (is_hart pages (saved_hart h)) (list_all (is_hart pages) (map saved_hart rest)) (hart_valid pages h first) others

many_harts : (starts : List Regs) (k : ℕ) (steps : ActorId → List Step) (harts : List Hart) → AreHarts k starts steps harts
    → length harts ≡ length starts
many_harts [] k steps harts is = ap length is
many_harts (start ∷ starts) k steps harts (h, rest, is, leads, more) =
    ap length is ∙ ap suc (many_harts starts (suc k) steps rest more)

-- ---- reservations

slot_valid : (pages harts slot offset : ℕ) → slot < hart_limit * pages → slot % hart_limit < harts → offset < page_size → offset % 8 ≡ 0
    → is_reserved pages harts (record { page = slot / hart_limit; hart = slot % hart_limit; offset = offset }) ≡ true
slot_valid pages harts slot offset below there small whole =
    and_from _ (offset % 8 == 0)
    (and_from _ (nat_lt offset page_size)
    (and_from (nat_lt (slot / hart_limit) pages) (nat_lt (slot % hart_limit) harts) (lt-ltb (slot / hart_limit) pages (omega (arith, below)))
    (lt-ltb (slot % hart_limit) harts there)) (lt-ltb offset page_size small)) (eq-eqb (offset % 8) 0 whole)

reserved_valid : (pages harts slot : ℕ) (slots : List (Option ℕ)) → AreSlots harts slot slots → slot + length slots ≤ hart_limit * pages
    → list_all (is_reserved pages harts) (reservations_from slot slots) ≡ true
reserved_valid pages harts slot [] are inside = refl
reserved_valid pages harts slot (None ∷ slots) are inside =
    reserved_valid pages harts (suc slot) slots are.1 (omega (arith, inside))
reserved_valid pages harts slot (Some offset ∷ slots) are inside =
    and_from (is_reserved pages harts (record { page = slot / hart_limit; hart = slot % hart_limit; offset = offset }))
    (list_all (is_reserved pages harts) (reservations_from (suc slot) slots))
    (slot_valid pages harts slot offset (omega (arith, inside)) are.0.0 are.0.1 are.0.2)
    (reserved_valid pages harts (suc slot) slots are.1 (omega (arith, inside)))

before_by : (first second third : Bool) → (first ≡ false → (second ≡ true) × (third ≡ true)) → (first || (second && third)) ≡ true
before_by true second third other = refl
before_by false second third other = let both = other refl in and_from second third both.0 both.1

before_slot : (page hart slot offset other : ℕ) → hart_limit * page + hart < slot → hart < hart_limit
    → is_before (record { page = page; hart = hart; offset = offset })
    (record { page = slot / hart_limit; hart = slot % hart_limit; offset = other }) ≡ true
before_slot page hart slot offset other lower few =
    before_by (nat_lt page (slot / hart_limit)) (page == slot / hart_limit) (nat_lt hart (slot % hart_limit))
    (λ no.
    let past : slot / hart_limit ≤ page = ltb-false page (slot / hart_limit) no in
    let same : page ≡ slot / hart_limit = omega (arith, past, lower) in
    (eq-eqb page (slot / hart_limit) same, lt-ltb hart (slot % hart_limit) (omega (arith, same, lower))))

rises : (page hart slot offset : ℕ) (slots : List (Option ℕ)) → hart_limit * page + hart < slot → hart < hart_limit
    → rises_from (record { page = page; hart = hart; offset = offset }) (reservations_from slot slots) ≡ true
rises page hart slot offset [] lower few = refl
rises page hart slot offset (None ∷ slots) lower few = rises page hart (suc slot) offset slots (omega (arith, lower)) few
rises page hart slot offset (Some other ∷ slots) lower few =
    let next : hart_limit * (slot / hart_limit) + slot % hart_limit < suc slot = omega arith in
    and_from (is_before (record { page = page; hart = hart; offset = offset }) (record { page = slot / hart_limit; hart = slot % hart_limit; offset = other }))
    (rises_from (record { page = slot / hart_limit; hart = slot % hart_limit; offset = other }) (reservations_from (suc slot) slots))
    (before_slot page hart slot offset other lower few)
    (rises (slot / hart_limit) (slot % hart_limit) (suc slot) other slots next (omega arith))

rising : (slot : ℕ) (slots : List (Option ℕ)) → is_rising (reservations_from slot slots) ≡ true
rising slot [] = refl
rising slot (None ∷ slots) = rising (suc slot) slots
rising slot (Some offset ∷ slots) =
    let next : hart_limit * (slot / hart_limit) + slot % hart_limit < suc slot = omega arith in
    rises (slot / hart_limit) (slot % hart_limit) (suc slot) offset slots next (omega arith)

-- ---- devices and ports

device_valid : (pages port : ℕ) (it : Device) (d : FlatDevice) → pages ≤ 2 ^ 20 → IsSoundDevice port pages d
    → DeviceLeads d (device_left it) → is_kept it ≡ true → is_device pages port it ≡ true
device_valid pages port it d few sound leads kept =
    let own = copied port pages d few sound in
    let same = placed_alike it own.0 kept (bounded_kept own.0 own.2 own.3) (one_left d (device_left it) (device_left own.0) leads own.1) in
    and_from _ (is_kept it)
    (and_from (device_port it == port) (device_pages it == pages) (eq-eqb (device_port it) port (same.0 ∙ own.4))
    (eq-eqb (device_pages it) pages (same.1 ∙ own.5))) kept

devices_valid : (pages port : ℕ) (kept : List Device) (devices : List FlatDevice) → pages ≤ 2 ^ 20 → AreKept kept devices
    → ((i : ℕ) (d : FlatDevice) → slice_get devices i ≡ Some d → IsSoundDevice (port + i) pages d)
    → are_devices pages port kept ≡ true
devices_valid pages port [] [] few are each = refl
devices_valid pages port [] (d ∷ devices) few are each = refl
devices_valid pages port (it ∷ kept) [] few are each = absurd are
devices_valid pages port (it ∷ kept) (d ∷ devices) few are each =
    let here : port + 0 ≡ port = omega arith in
    and_from (is_device pages port it) (are_devices pages (suc port) kept)
    (device_valid pages port it d few (subst (λ (n : ℕ). IsSoundDevice n pages d) here (each 0 d refl)) are.0 are.1)
    (devices_valid pages (suc port) kept devices few are.2
    (λ i next there.
    let on : port + suc i ≡ suc port + i = omega arith in
    subst (λ (n : ℕ). IsSoundDevice n pages next) on (each (suc i) next there)))

-- no request of a device passed later than guest time
timely_valid : (time : ℕ) (kept : List Device) (devices : List FlatDevice) → AreKept kept devices → AreTimely time devices
    → list_all (is_timely time) kept ≡ true
timely_valid time [] [] are each = refl
timely_valid time [] (d ∷ devices) are each = refl
timely_valid time (it ∷ kept) [] are each = absurd are
timely_valid time (it ∷ kept) (d ∷ devices) are each =
    and_from (is_timely time it) (list_all (is_timely time) kept)
    (copied_timely time d it (kept_state it are.1) are.0 (each 0 d refl))
    (timely_valid time kept devices are.2 (λ i next there. each (suc i) next there))

-- what is kept of a device is of its kind
kept_kinds : (kept : List Device) (devices : List FlatDevice) → AreKept kept devices → map kind_of kept ≡ device_kinds devices
kept_kinds [] [] are = refl
kept_kinds [] (d ∷ devices) are = absurd are
kept_kinds (it ∷ kept) [] are = absurd are
kept_kinds (it ∷ kept) (d ∷ devices) are =
    let same : kind_of it ≡ number_of d.kind = ap (λ (x : DeviceLeft). number_of x.kind) are.0.2 in
    λ i. same i ∷ kept_kinds kept devices are.2 i

pub many_kept : (kept : List Device) (devices : List FlatDevice) → AreKept kept devices → length kept ≡ length devices
many_kept [] [] are = refl
many_kept [] (d ∷ devices) are = absurd are
many_kept (it ∷ kept) [] are = absurd are
many_kept (it ∷ kept) (d ∷ devices) are = ap suc (many_kept kept devices are.2)

-- ---- the board, and the machine

board_valid : (harts : ℕ) (b : Board) → IsLong harts b → is_board harts (saved_board b) ≡ true
board_valid harts b is =
    and_from _ (nat_le (length b.console) ring_size)
    (and_from _ (length b.states == harts)
    (and_from _ (length b.deadlines == harts)
    (and_from (length b.enables == harts) (length b.software == harts) (eq-eqb (length b.enables) harts is.many_enables)
    (eq-eqb (length b.software) harts is.many_software)) (eq-eqb (length b.deadlines) harts is.many_deadlines))
    (eq-eqb (length b.states) harts is.many_states)) (le-leb (length b.console) ring_size is.console)

tracks : (track : Bool) → (if track then track else not track) ≡ true
tracks true = refl
tracks false = refl

-- ---- each copy

module _ (config : Config) (g : Guest) (sound : IsSound g) (is : IsReady config g) (small : config.machine.mem_size_mib ≤ 4096)
    (harts : List Hart) (are : AreHarts 0 g.starts g.steps harts) (kept : List Device) (tell : AreKept kept g.devices) where
  abbrev copy : StateCopy
  copy = copy_of config g harts kept

  abbrev wanted : ℕ
  wanted = 256 * config.machine.mem_size_mib

  pages_are : length g.memory.bytes / page_size ≡ wanted
  pages_are = let whole = is.shaped.memory.many_bytes in omega (arith, whole)

  few_pages : copy.pages ≤ 2 ^ 20
  few_pages = omega (arith, pages_are, small)

  harts_are : list_all (is_hart copy.pages) (map saved_hart harts) ≡ true
  harts_are =
      subst (λ (n : ℕ). list_all (is_hart n) (map saved_hart harts) ≡ true) (sym pages_are)
      (harts_valid wanted g.starts 0 g.steps harts are
      (λ i start h there leads.
      let here : 0 + i ≡ i = omega arith in
      is.shaped.each i start h there (subst (λ (n : ℕ). LeadsTo start (g.steps (HartId n)) h) here leads)))

  reserved_are : list_all (is_reserved copy.pages config.machine.vcpu_count) (reservations_from 0 g.memory.reserved) ≡ true
  reserved_are =
      let many = is.shaped.memory.many_slots in
      reserved_valid copy.pages config.machine.vcpu_count 0 g.memory.reserved is.shaped.memory.slots (omega (arith, many, pages_are))

  told : entropy_in copy.sections ≡ config.entropy
  told = entropy_told g.ports config.entropy

  kinds_same : kinds_of (configuration_of config) config.entropy ≡ kinds_in copy
  kinds_same = ap (kinds_of (configuration_of config)) (sym told)

  devices_are : has_devices copy ≡ true
  devices_are =
      has_kinds copy (is.shaped.ports ∙ kinds_same)
      (kept_kinds kept g.devices tell ∙ sym sound.devices_on.kinds ∙ is.shaped.ports ∙ kinds_same)
      (devices_valid copy.pages 0 kept g.devices few_pages tell
      (λ i d there.
      let here : i ≡ 0 + i = omega arith in
      subst (λ (n : ℕ). IsSoundDevice n copy.pages d) here (sound.devices_on.each i d there)))

  machine_is : has_machine copy config.machine ≡ true
  machine_is =
      and_from _ (if config.machine.track_dirty_pages then config.machine.track_dirty_pages else not config.machine.track_dirty_pages)
      (and_from (is_machine config.machine) (copy.pages == wanted) is.configured.machine (eq-eqb copy.pages wanted pages_are))
      (tracks config.machine.track_dirty_pages)

  many_are : (length (map saved_hart harts) == config.machine.vcpu_count) ≡ true
  many_are =
      eq-eqb (length (map saved_hart harts)) config.machine.vcpu_count
      (length-map harts saved_hart ∙ many_harts g.starts 0 g.steps harts are ∙ is.shaped.many)

  copy_valid : is_valid copy ≡ true
  copy_valid = rules_hold copy (record {
    source = is.configured.source;
    drives = is.configured.drives;
    interfaces = is.configured.interfaces;
    vsock = is.configured.vsock;
    mmds = is.configured.mmds;
    machine = machine_is;
    balloon = is.configured.balloon;
    room =
        subst (λ (e : Option Entropy). has_room config.drives config.interfaces config.vsock config.balloon e ≡ true) (sym told)
        is.configured.room;
    board = board_valid config.machine.vcpu_count g.board is.shaped.board;
    many = many_are;
    harts = harts_are;
    devices = devices_are;
    reservations = reserved_are;
    rising = rising 0 g.memory.reserved;
    sections = sections_taken g.ports config.entropy;
    timely = timely_valid g.board.now kept g.devices tell is.shaped.timely;
    entropy = subst (λ (e : Option Entropy). holds is_entropy e ≡ true) (sym told) is.configured.entropy;
  })

pub valid_copy : (config : Config) (g : Guest) (copy : StateCopy) → IsSound g → IsReady config g → config.machine.mem_size_mib ≤ 4096
    → IsCopyOf config g copy → is_valid copy ≡ true
valid_copy config g copy sound is small (harts, are, kept, same) =
    subst (λ (c : StateCopy). is_valid c ≡ true) (sym same) (copy_valid config g sound is small harts are copy.devices kept)

-- it is ready behind a Reset too
pub ready_reset : (config : Config) (g : Guest) → IsReady config g → IsReady config (reset_guest g)
ready_reset config g is = record {
  configured = is.configured;
  shaped = shaped_reset _ _ _ g is.shaped;
  devices = reset_many g.devices ∙ is.devices;
}

-- and a copy has all pages of the guest's memory
pub whole_copy : (config : Config) (g : Guest) (copy : StateCopy) → IsReady config g → IsCopyOf config g copy
    → length g.memory.bytes ≡ page_size * copy.pages
whole_copy config g copy is (harts, are, kept, same) =
    let whole = is.shaped.memory.many_bytes in
    let here : length g.memory.bytes ≡ page_size * (length g.memory.bytes / page_size) = omega (arith, whole) in
    here ∙ ap (λ (c : StateCopy). page_size * c.pages) (sym same)
