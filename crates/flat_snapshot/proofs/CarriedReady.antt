-- The guest that goes on from a snapshot whose copy passes the tests is ready again.
use Rattle.std.proofs.Common.{◌≡◌, ◌≤◌, ◌<◌, ℕ, zero, suc, ◌+◌, ◌*◌, ◌%◌, ◌==◌, not, nat_le, nat_lt, Bool, true, if◌then◌else◌, refl, sym, ap, subst, ◌∙◌, List, [], ◌∷◌, length, map, Option, Some, None, slice_get, slice_set, arith}
use Rattle.std.specs.Prelude.{IsTrue, bit_and}
use Rattle.std.specs.List.{list_all}
use Rattle.std.proofs.lemmas.Bool.{and_parts, eqb-true, leb-true, ltb-true}
use Rattle.std.proofs.lemmas.List.{length-map, length-replicate, length-set}
use Rattle.vm_types.specs.declared.op.Op.{Op}
use Rattle.vm_types.specs.declared.reply.Reply.{Reply}
use Rattle.vm_types.specs.Fits.{fits}
use Rattle.le_fields.specs.Fields.{bytes_of}
use Rattle.board_table.specs.Board.{ring_size}
use Rattle.board_table.specs.Kept.{IsLong}
use Rattle.guest_memory.specs.Kept.{AreSlots, IsWhole}
use Rattle.guest_memory.specs.Ram.{is_ram, page_size}
use Rattle.guest_memory.specs.Reserved.{hart_limit, unreserved}
use Rattle.guest_memory.proofs.Keeping.{none_reserved, slots_set}
use Rattle.rv_supervisor.specs.declared.regs.Regs.{Regs}
use Rattle.rv_supervisor.specs.declared.regs.Turn.{Turn}
use Rattle.rv_supervisor.specs.declared.regs.Turn.TheVariants as turn
use Rattle.rv_supervisor.specs.declared.csr.HartCsr.TheVariants.{Sstatus}
use Rattle.rv_supervisor.specs.Csrs.{csr_value, interrupts}
use Rattle.hart_trace.specs.Kept.{IsHeld, IsRamReply, IsShaped}
use Rattle.hart_trace.specs.States.{Hart, LeadsTo, fresh, hart_next, hart_wants}
use Rattle.hart_trace.specs.Traces.{opening}
use Rattle.hart_trace.proofs.Leads.{leads_next}
use Rattle.hart_trace.proofs.OneHart.{one_hart}
use Rattle.hart_trace.proofs.Shapes.{hart_shaped}
use Rattle.hart_trace.proofs.Traces.{leads_start}
use Rattle.guest_devices.specs.declared.device.Device.{Device}
use Rattle.guest_devices.specs.Devices.{FlatDevice}
use Rattle.guest_devices.specs.Moments.{IsTimelyDevice, is_timely}
use Rattle.guest_devices.proofs.Moments.{kept_timely}
use Rattle.flat_guest.specs.Shaped as guest
use Rattle.flat_guest.proofs.Lists.{some_is}
use Rattle.snap_harts.specs.declared.hart.SavedHart.{SavedHart}
use Rattle.snap_harts.specs.declared.hart.HartPlace.{HartPlace}
use Rattle.snap_harts.specs.declared.hart.HartPlace.TheVariants.{Begin, BeginWaiting, Idle, IdleWaiting, Access}
use Rattle.snap_harts.specs.Copy.{regs_of, turn_of}
use Rattle.snap_state.specs.declared.copy.Reservation.{Reservation}
use Rattle.snap_state.specs.declared.copy.StateCopy.{StateCopy}
use Rattle.snap_state.specs.Copy.{board_of}
use Rattle.snap_state.specs.Sections.{entropy_in}
use Rattle.snap_state.specs.Valid.{asks, has_bits, is_aligned, is_board, is_counted, is_granule, is_hart, is_machine, is_placed, is_reserved, is_valid, kinds_in}
use Rattle.snap_state.proofs.HasDevices.{has_parts}
use Rattle.snap_state.proofs.Rules.{attached, few_harts, rules_of}
use Rattle.flat_snapshot.specs.Carried.{carried_config, carried_guest, hart_steps, resumed, slots_with, steps_at}
use Rattle.flat_snapshot.specs.Ready.{IsReady}
use Rattle.flat_snapshot.proofs.GoesOn.{access_fetches}

-- ---- harts

held_of : (pages : ℕ) (held : Option ℕ) → is_granule pages held ≡ true → IsHeld (page_size * pages) held
held_of pages None is = tt
held_of pages (Some at) is =
    let parts = and_parts (at % 8 == 0) (is_ram (page_size * pages) at 8) is in
    (eqb-true (at % 8) 0 parts.0, parts.1)

pub first_shaped : (pages : ℕ) (s : SavedHart) → is_hart pages s ≡ true → IsShaped (page_size * pages) (fresh (regs_of s))
first_shaped pages s is =
    let p5 = and_parts _ (asks s.place (regs_of s)) is in
    let p4 = and_parts _ (is_placed s.is_look_due s.place) p5.0 in
    let p3 = and_parts _ (is_granule pages s.held) p4.0 in
    let p2 = and_parts _ (has_bits s) p3.0 in
    let p1 = and_parts (is_counted s) (is_aligned s) p2.0 in
    let counts = and_parts (nat_le 1 s.count) (nat_le s.count 32) p1.0 in
    let vector = and_parts _ (s.stvec % 4 == 0) p1.1 in
    let places = and_parts (s.pc % 4 == 0) (s.sepc % 4 == 0) vector.0 in
    let bits = and_parts (bit_and s.sie interrupts == s.sie) (csr_value Sstatus (regs_of s) == s.sstatus) p2.1 in
    record {
      regs = (
        leb-true 1 s.count counts.0,
        leb-true s.count 32 counts.1,
        eqb-true (bit_and s.sie interrupts) s.sie bits.0,
        held_of pages s.held p3.1,
      );
      aligned = (eqb-true (s.pc % 4) 0 places.0, eqb-true (s.stvec % 4) 0 vector.1, eqb-true (s.sepc % 4) 0 places.1);
      begun = tt;
    }

-- from its fetch on the hart goes wherever the word leads
fetched_shaped : (pages : ℕ) (r : Regs) (word : ℕ) (now : Hart) → r.turn ≡ turn.Fetch → IsShaped (page_size * pages) (fresh r)
    → LeadsTo r (record { op = Op.Read r.pc 4; reply = Reply.Bytes (bytes_of 4 word) } ∷ []) now → IsShaped (page_size * pages) now
fetched_shaped pages r word now fetches is leads =
    let size : ℕ = page_size * pages in
    let reply : Reply = Reply.Bytes (bytes_of 4 word) in
    let asked : hart_wants (fresh r) ≡ Op.Read r.pc 4 = ap (λ (t : Turn). opening t r) fetches in
    let fit : fits (hart_wants (fresh r)) reply ≡ true = ap (λ (o : Op). fits o reply) asked ∙ refl in
    let next : LeadsTo r (record { op = Op.Read r.pc 4; reply = reply } ∷ []) (hart_next (fresh r) reply) =
    subst (λ (o : Op). LeadsTo r (record { op = o; reply = reply } ∷ []) (hart_next (fresh r) reply)) asked
    (leads_next r [] (fresh r) reply (leads_start r) fit) in
    let wholes : page_size * pages % 8 ≡ 0 = omega arith in
    subst (λ (q : Hart). IsShaped (page_size * pages) q)
    (one_hart r (record { op = Op.Read r.pc 4; reply = reply } ∷ []) (hart_next (fresh r) reply) now next leads)
    (hart_shaped (page_size * pages) (fresh r) reply wholes (no_word (hart_wants (fresh r))) is)
  where
    no_word : (o : Op) → IsRamReply (page_size * pages) o (Reply.Bytes (bytes_of 4 word))
    no_word (Op.Lr at wide) = tt
    no_word o = tt

place_shaped : (pages : ℕ) (s : SavedHart) (place : HartPlace) (now : Hart) → s.place ≡ place → IsShaped (page_size * pages) (fresh (regs_of s))
    → LeadsTo (regs_of s) (steps_at place s.pc) now → IsShaped (page_size * pages) now
place_shaped pages s (Access word) now here is leads =
    fetched_shaped pages (regs_of s) word now
    (subst (λ (p : HartPlace). turn_of s.is_look_due p ≡ turn.Fetch) (sym here) (access_fetches s.is_look_due word)) is leads
place_shaped pages s Begin now here is leads =
    subst (λ (q : Hart). IsShaped (page_size * pages) q) (one_hart (regs_of s) [] (fresh (regs_of s)) now (leads_start (regs_of s)) leads) is
place_shaped pages s BeginWaiting now here is leads =
    subst (λ (q : Hart). IsShaped (page_size * pages) q) (one_hart (regs_of s) [] (fresh (regs_of s)) now (leads_start (regs_of s)) leads) is
place_shaped pages s Idle now here is leads =
    subst (λ (q : Hart). IsShaped (page_size * pages) q) (one_hart (regs_of s) [] (fresh (regs_of s)) now (leads_start (regs_of s)) leads) is
place_shaped pages s IdleWaiting now here is leads =
    subst (λ (q : Hart). IsShaped (page_size * pages) q) (one_hart (regs_of s) [] (fresh (regs_of s)) now (leads_start (regs_of s)) leads) is

own_shaped : (pages : ℕ) (s : SavedHart) (start : Regs) (now : Hart) → ◌≡◌ {A = Option Regs} (Some (regs_of s)) (Some start)
    → is_hart pages s ≡ true → LeadsTo start (steps_at s.place s.pc) now → IsShaped (page_size * pages) now
own_shaped pages s start now here is leads =
    let same : regs_of s ≡ start = cc in
    place_shaped pages s s.place now refl (first_shaped pages s is)
    (subst (λ (r : Regs). LeadsTo r (steps_at s.place s.pc) now) (sym same) leads)

harts_shaped : (pages : ℕ) (harts : List SavedHart) (k : ℕ) (start : Regs) (now : Hart) → list_all (is_hart pages) harts ≡ true
    → slice_get (map regs_of harts) k ≡ Some start → LeadsTo start (hart_steps (slice_get harts k)) now → IsShaped (page_size * pages) now
harts_shaped pages [] k start now each there leads = cc
harts_shaped pages (s ∷ harts) zero start now each there leads =
    own_shaped pages s start now there (and_parts (is_hart pages s) (list_all (is_hart pages) harts) each).0 leads
harts_shaped pages (s ∷ harts) (suc k) start now each there leads =
    harts_shaped pages harts k start now (and_parts (is_hart pages s) (list_all (is_hart pages) harts) each).1 there leads

-- ---- reservations

slots_many : (reservations : List Reservation) (slots : List (Option ℕ)) → length (slots_with reservations slots) ≡ length slots
slots_many [] slots = refl
slots_many (r ∷ others) slots =
    slots_many others (slice_set slots (hart_limit * r.page + r.hart) (Some r.offset))
    ∙ length-set slots (hart_limit * r.page + r.hart) (Some r.offset)

slots_are : (pages harts : ℕ) (reservations : List Reservation) (slots : List (Option ℕ)) → harts ≤ hart_limit
    → list_all (is_reserved pages harts) reservations ≡ true → AreSlots harts 0 slots → AreSlots harts 0 (slots_with reservations slots)
slots_are pages harts [] slots few each are = are
slots_are pages harts (r ∷ others) slots few each are =
    let rest = and_parts (is_reserved pages harts r) (list_all (is_reserved pages harts) others) each in
    let p2 = and_parts _ (r.offset % 8 == 0) rest.0 in
    let p1 = and_parts _ (nat_lt r.offset page_size) p2.0 in
    let p0 = and_parts (nat_lt r.page pages) (nat_lt r.hart harts) p1.0 in
    let there : r.hart < harts = ltb-true r.hart harts p0.1 in
    let here : (0 + (hart_limit * r.page + r.hart)) % hart_limit ≡ r.hart = omega (arith, there, few) in
    slots_are pages harts others (slice_set slots (hart_limit * r.page + r.hart) (Some r.offset)) few rest.1
    (slots_set harts 0 (hart_limit * r.page + r.hart) slots (Some r.offset)
    (omega (arith, here, there), ltb-true r.offset page_size p1.1, eqb-true (r.offset % 8) 0 p2.1) are)

-- ---- the rest

timely_on : (time : ℕ) (kept : List Device) → list_all (is_timely time) kept ≡ true → guest.AreTimely time (map resumed kept)
timely_on time [] all k d is = absurd (cc)
timely_on time (it ∷ kept) all zero d is =
    let both = and_parts (is_timely time it) (list_all (is_timely time) kept) all in
    subst (λ (e : FlatDevice). IsTimelyDevice time e) (some_is (resumed it) d is) (kept_timely time it both.0)
timely_on time (it ∷ kept) all (suc k) d is =
    timely_on time kept (and_parts (is_timely time it) (list_all (is_timely time) kept) all).1 k d is

board_long : (harts : ℕ) (copy : StateCopy) → is_board harts copy.board ≡ true → IsLong harts (board_of copy)
board_long harts copy is =
    let b = copy.board in
    let p4 = and_parts _ (nat_le (length b.console) ring_size) is in
    let p3 = and_parts _ (length b.states == harts) p4.0 in
    let p2 = and_parts _ (length b.deadlines == harts) p3.0 in
    let p1 = and_parts (length b.enables == harts) (length b.software == harts) p2.0 in
    record {
      console = leb-true (length b.console) ring_size p4.1;
      many_enables = eqb-true (length b.enables) harts p1.0;
      many_software = eqb-true (length b.software) harts p1.1;
      many_deadlines = eqb-true (length b.deadlines) harts p2.1;
      many_states = eqb-true (length b.states) harts p3.1;
    }

module _ (copy : StateCopy) (bytes : List ℕ) (tracking : Bool) (valid : IsTrue (is_valid copy))
    (whole : length bytes ≡ page_size * copy.pages) where
  abbrev harts : ℕ
  harts = copy.configuration.machine.vcpu_count

  abbrev wanted : ℕ
  wanted = 256 * copy.configuration.machine.mem_size_mib

  machine_parts : (is_machine copy.configuration.machine ≡ true) × (copy.pages ≡ wanted)
  machine_parts =
      let m = copy.configuration.machine in
      let rules = rules_of copy valid in
      let fits = and_parts _ (if copy.track_dirty_pages then m.track_dirty_pages else not m.track_dirty_pages) rules.machine in
      let sized = and_parts (is_machine m) (copy.pages == 256 * m.mem_size_mib) fits.0 in
      (sized.0, eqb-true copy.pages (256 * m.mem_size_mib) sized.1)

  memory_whole : IsWhole copy.pages harts (carried_guest copy bytes).memory
  unfolding unreserved
  memory_whole =
      let rules = rules_of copy valid in record {
        many_bytes = whole;
        many_slots = slots_many copy.reservations (unreserved copy.pages) ∙ length-replicate {A = Option ℕ} (hart_limit * copy.pages) None;
        slots =
            slots_are copy.pages harts copy.reservations (unreserved copy.pages) (few_harts copy rules) rules.reservations
            (none_reserved harts 0 (hart_limit * copy.pages));
      }

  pub shaped : guest.IsShaped copy.pages harts (kinds_in copy) (carried_guest copy bytes)
  shaped =
      let rules = rules_of copy valid in record {
        few = few_harts copy rules;
        memory = memory_whole;
        board = board_long harts copy rules.board;
        ports = (has_parts copy rules.devices).ports;
        many = length-map copy.harts regs_of ∙ eqb-true (length copy.harts) harts rules.many;
        each = λ k start now there leads. harts_shaped copy.pages copy.harts k start now rules.harts there leads;
        timely = timely_on copy.guest_time copy.devices rules.timely;
      }

  pub carried_ready : IsReady (carried_config tracking copy.configuration (entropy_in copy.sections)) (carried_guest copy bytes)
  carried_ready =
      let rules = rules_of copy valid in
      let on = attached copy rules in record {
        configured = record {
          source = rules.source;
          drives = rules.drives;
          interfaces = rules.interfaces;
          vsock = rules.vsock;
          mmds = rules.mmds;
          machine = machine_parts.0;
          balloon = rules.balloon;
          entropy = rules.entropy;
          room = rules.room;
        };
        shaped = subst (λ (n : ℕ). guest.IsShaped n harts (kinds_in copy) (carried_guest copy bytes)) machine_parts.1 shaped;
        devices = length-map copy.devices resumed ∙ on.devices;
      }
