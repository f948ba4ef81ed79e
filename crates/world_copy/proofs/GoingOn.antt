-- A world goes on where the guest does.
use Rattle.std.proofs.Common.{◌≡◌, ℕ, zero, suc, ◌*◌, ◌/◌, ◌<◌, ◌^◌, Bool, true, false, List, [], ◌∷◌, ◌++◌, Some, is_some, length, map, replicate, slice_get, refl, sym, ap, subst, ◌∙◌, arith}
use Rattle.std.specs.Prelude.{IsTrue}
use Rattle.std.proofs.lemmas.List.{length-map}
use Rattle.le_fields.specs.Fields.{bytes_of}
use Rattle.le_fields.proofs.Values.{value_of_bytes}
use Rattle.rv_supervisor.specs.declared.regs.Regs.{Regs}
use Rattle.rv_supervisor.specs.declared.regs.Turn.TheVariants as turn
use Rattle.rv_doing.specs.Doing.{asked}
use Rattle.hart_trace.specs.Traces.{executes}
use Rattle.hart_trace.specs.States.{Hart, LeadsTo}
use Rattle.guest_memory.specs.Ram.{page_size}
use Rattle.guest_memory.specs.Reserved.{unreserved}
use Rattle.guest_pages.specs.Marks.{AreMarks}
use Rattle.guest_pages.specs.Pages.{PageValue, flat_of, marks_of}
use Rattle.board_table.specs.Board.{Board}
use Rattle.port_table.specs.declared.state.PortState.{PortState}
use Rattle.timer_trace.specs.States.{new_timer}
use Rattle.timer_trace.proofs.Traces as timer_traces
use Rattle.guest_devices.specs.declared.device.Device.{Device}
use Rattle.guest_devices.specs.Devices.{DeviceLeads, DeviceLeft, FlatDevice}
use Rattle.guest_devices.specs.Kept.{device_left}
use Rattle.guest_devices.proofs.Follows.{at_start}
use Rattle.flat_guest.specs.Guest.{none_written}
use Rattle.flat_guest.proofs.Marked.{none_marked}
use Rattle.snap_harts.specs.declared.hart.SavedHart.{SavedHart}
use Rattle.snap_harts.specs.declared.hart.HartPlace.{HartPlace}
use Rattle.snap_harts.specs.declared.hart.HartPlace.TheVariants.{Access}
use Rattle.snap_state.specs.declared.copy.StateCopy.{StateCopy}
use Rattle.snap_harts.specs.Copy.{regs_of, turn_of}
use Rattle.snap_state.specs.Copy.{board_at}
use Rattle.snap_state.specs.Valid.{is_valid}
use Rattle.flat_snapshot.specs.Carried.{carried_guest, hart_steps, resumed, slots_with, steps_at}
use Rattle.flat_snapshot.proofs.GoesOn.{devices_sound, access_fetches}
use Rattle.vm_world.specs.Worlds.{IsWorld, world_with}
use Rattle.world_copy.specs.GoingOn.{GoOn}
use Rattle.vm_world.proofs.Events.{something}

-- ---- one hart

-- one that has begun an instruction
pub leads_begun : (h : SavedHart) (word : ℕ) → h.place ≡ Access word → word < 2 ^ 32
    → is_some (asked (executes word (regs_of h))) ≡ true
    → LeadsTo (regs_of h) (steps_at h.place h.pc) (record { regs = regs_of h; begun = Some word })
leads_begun h word at small asks =
    let op = something (asked (executes word (regs_of h))) asks in
    let fetches : turn_of h.is_look_due h.place ≡ turn.Fetch = ap (turn_of h.is_look_due) at ∙ access_fetches h.is_look_due word in
    let steps : steps_at (Access word) h.pc ≡ steps_at h.place h.pc = ap (λ (p : HartPlace). steps_at p h.pc) (sym at) in (
      [],
      steps_at (Access word) h.pc,
      refl,
      (fetches, bytes_of 4 word, refl, refl, value_of_bytes 4 word small, op.0, op.1, tt),
      steps,
    )

-- ---- all of them

pub one_more : (saved : List SavedHart) (harts : List Hart) (s : SavedHart) (h : Hart) → GoOn saved harts
    → LeadsTo (regs_of s) (steps_at s.place s.pc) h → GoOn (saved ++ s ∷ []) (harts ++ h ∷ [])
one_more [] [] s h so_far leads = (leads, tt)
one_more [] (q ∷ harts) s h so_far leads = absurd so_far
one_more (t ∷ saved) [] s h so_far leads = absurd so_far
one_more (t ∷ saved) (q ∷ harts) s h so_far leads = (so_far.0, one_more saved harts s h so_far.1 leads)

as_many : (saved : List SavedHart) (harts : List Hart) → GoOn saved harts → length harts ≡ length (map regs_of saved)
as_many [] [] on = refl
as_many [] (h ∷ harts) on = absurd on
as_many (s ∷ saved) [] on = absurd on
as_many (s ∷ saved) (h ∷ harts) on = ap suc (as_many saved harts on.1)

each : (saved : List SavedHart) (harts : List Hart) → GoOn saved harts → (k : ℕ) (start : Regs) (hart : Hart)
    → slice_get (map regs_of saved) k ≡ Some start → slice_get harts k ≡ Some hart
    → LeadsTo start (hart_steps (slice_get saved k)) hart
each [] harts on k start hart begins is = cc
each (s ∷ saved) [] on k start hart begins is = absurd on
each (s ∷ saved) (h ∷ harts) on zero start hart begins is =
    let one : regs_of s ≡ start = cc in
    let same : h ≡ hart = cc in
    subst (λ (q : Hart). LeadsTo start (steps_at s.place s.pc) q) same
    (subst (λ (r : Regs). LeadsTo r (steps_at s.place s.pc) h) one on.0)
each (s ∷ saved) (h ∷ harts) on (suc k) start hart begins is = each saved harts on.1 k start hart begins is

-- ---- devices

devices_lead : (kept : List Device) (k : ℕ) (d : FlatDevice) (left : DeviceLeft) → slice_get (map resumed kept) k ≡ Some d
    → slice_get (map device_left kept) k ≡ Some left → DeviceLeads d left
devices_lead [] k d left is here = cc
devices_lead (it ∷ kept) zero d left is here =
    let first : resumed it ≡ d = cc in
    let second : device_left it ≡ left = cc in
    subst (λ (x : FlatDevice). DeviceLeads x left) first
    (subst (λ (x : DeviceLeft). DeviceLeads (resumed it) x) second (at_start (device_left it)))
devices_lead (it ∷ kept) (suc k) d left is here = devices_lead kept k d left is here

-- ---- the world

pub goes_on : (copy : StateCopy) (before pages : List PageValue) (board : Board) (ports : List PortState) (harts : List Hart)
    (devices : List Device) → IsTrue (is_valid copy) → length (flat_of before).bytes ≡ page_size * copy.pages
    → (flat_of pages).bytes ≡ (flat_of before).bytes
    → (flat_of pages).reserved ≡ slots_with copy.reservations (flat_of before).reserved
    → (flat_of before).reserved ≡ unreserved copy.pages → marks_of pages ≡ marks_of before
    → marks_of before ≡ replicate copy.pages false → board ≡ board_at copy.guest_time copy.board → ports ≡ copy.ports
    → GoOn copy.harts harts → devices ≡ copy.devices
    → IsWorld (world_with pages board ports new_timer harts devices) (carried_guest copy (flat_of before).bytes)
goes_on copy before pages board ports harts devices valid whole bytes reserved free marks unmarked board_is ports_are on devices_are =
    let count : copy.pages ≡ length (flat_of before).bytes / page_size = omega (arith, whole) in
    subst (λ (l : List Device). IsWorld (world_with pages board ports new_timer harts l) (carried_guest copy (flat_of before).bytes)) (sym devices_are)
    (record {
      memory_is = λ i. record {
        bytes = bytes i;
        reserved = (reserved ∙ ap (slots_with copy.reservations) free) i;
      };
      marks_are = subst (λ (l : List Bool). AreMarks l none_written) (sym (marks ∙ unmarked)) (none_marked copy.pages);
      board_is = board_is;
      ports_are = ports_are;
      timer_is = timer_traces.leads_start;
      harts_are = record { count = as_many copy.harts harts on; each = λ k start hart begins is. each copy.harts harts on k start hart begins is };
      devices_are = record {
        count = length-map copy.devices device_left ∙ sym (length-map copy.devices resumed);
        each = λ k d left is here. devices_lead copy.devices k d left is here;
        sound = devices_sound copy (length (flat_of before).bytes / page_size) valid count;
      };
    })
