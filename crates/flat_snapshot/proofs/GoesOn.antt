-- The guest that goes on from a snapshot is never stuck.
use Rattle.std.proofs.Common.{◌≡◌, ℕ, zero, suc, ◌+◌, ◌*◌, ◌/◌, ◌^◌, ◌≤◌, Bool, true, false, refl, sym, ap, subst, ◌∙◌, List, [], ◌∷◌, length, Option, Some, slice_get, map, arith}
use Rattle.std.specs.Prelude.{IsTrue}
use Rattle.std.proofs.lemmas.Bool.{and_parts}
use Rattle.std.proofs.lemmas.List.{length-map}
use Rattle.vm_types.specs.declared.op.Op.{Op}
use Rattle.vm_types.specs.declared.reply.Reply.{Reply}
use Rattle.le_fields.specs.Fields.{bytes_of}
use Rattle.rv_supervisor.specs.declared.regs.Regs.{Regs}
use Rattle.rv_supervisor.specs.declared.regs.Turn.TheVariants as turn
use Rattle.hart_trace.specs.Traces.{Continues, IsPrefix, opening}
use Rattle.hart_trace.specs.States.{fresh}
use Rattle.hart_trace.proofs.Traces.{any_reply, hart_continues, hart_prefix, leads_start}
use Rattle.guest_memory.specs.Ram.{page_size}
use Rattle.port_table.specs.declared.kind.DeviceKind.{DeviceKind}
use Rattle.guest_devices.specs.declared.device.Device.{Device}
use Rattle.guest_devices.specs.Devices.{FlatDevice}
use Rattle.guest_devices.specs.Kept.{device_port}
use Rattle.guest_devices.specs.Sound.{IsSoundDevice}
use Rattle.guest_devices.proofs.Placed.{kept_bounded, kept_state}
use Rattle.guest_devices.proofs.Soundness.{resumed_sound}
use Rattle.flat_guest.specs.Sound.{AreSoundDevices, IsSound, device_kinds}
use Rattle.timer_trace.specs.States.{new_timer}
use Rattle.timer_trace.proofs.Traces as timer_traces
use Rattle.snap_harts.specs.declared.hart.SavedHart.{SavedHart}
use Rattle.snap_harts.specs.declared.hart.HartPlace.{HartPlace}
use Rattle.snap_harts.specs.declared.hart.HartPlace.TheVariants.{Begin, BeginWaiting, Idle, IdleWaiting, Access}
use Rattle.snap_state.specs.declared.copy.StateCopy.{StateCopy}
use Rattle.snap_harts.specs.Copy.{regs_of, turn_of}
use Rattle.snap_state.specs.Valid.{are_devices, is_device, is_valid, kind_of}
use Rattle.snap_state.proofs.HasDevices.{has_parts}
use Rattle.snap_state.proofs.Rules.{attached, device_of, few_pages, rules_of}
use Rattle.flat_snapshot.specs.Carried.{carried_guest, hart_steps, resumed, steps_at}

none_yet : (start : Regs) → IsPrefix start []
none_yet start = hart_prefix start [] (fresh start) (leads_start start)

fetched : (start : Regs) (word : ℕ) → start.turn ≡ turn.Fetch
    → IsPrefix start (record { op = Op.Read start.pc 4; reply = Reply.Bytes (bytes_of 4 word) } ∷ [])
fetched start word fetches =
    let wants : Continues start [] (Op.Read start.pc 4) =
    subst (λ t. Continues start [] (opening t start)) fetches (hart_continues start [] (fresh start) (leads_start start)) in
    any_reply start [] (Op.Read start.pc 4) (Reply.Bytes (bytes_of 4 word)) wants refl

pub access_fetches : (due : Bool) (word : ℕ) → turn_of due (Access word) ≡ turn.Fetch
access_fetches true word = refl
access_fetches false word = refl

at_place : (h : SavedHart) (place : HartPlace) → h.place ≡ place → IsPrefix (regs_of h) (steps_at place h.pc)
at_place h Begin is = none_yet (regs_of h)
at_place h BeginWaiting is = none_yet (regs_of h)
at_place h Idle is = none_yet (regs_of h)
at_place h IdleWaiting is = none_yet (regs_of h)
at_place h (Access word) is =
    fetched (regs_of h) word
    (subst (λ (p : HartPlace). turn_of h.is_look_due p ≡ turn.Fetch) (sym is) (access_fetches h.is_look_due word))

own : (h : SavedHart) (start : Regs) → ◌≡◌ {A = Option Regs} (Some (regs_of h)) (Some start) → IsPrefix start (steps_at h.place h.pc)
own h start is =
    let same : regs_of h ≡ start = cc in
    subst (λ (r : Regs). IsPrefix r (steps_at h.place h.pc)) same (at_place h h.place refl)

harts_on : (harts : List SavedHart) (k : ℕ) (start : Regs) → slice_get (map regs_of harts) k ≡ Some start
    → IsPrefix start (hart_steps (slice_get harts k))
harts_on [] k start is = cc
harts_on (h ∷ harts) zero start is = own h start is
harts_on (h ∷ harts) (suc k) start is = harts_on harts k start is

-- each device is where it has still to do what it kept
devices_on : (pages port : ℕ) (kept : List Device) → pages ≤ 2 ^ 20 → are_devices pages port kept ≡ true → (k : ℕ) (d : FlatDevice)
    → slice_get (map resumed kept) k ≡ Some d → IsSoundDevice (port + k) pages d
devices_on pages port [] few all k d is = cc
devices_on pages port (it ∷ kept) few all zero d is =
    let parts = and_parts (is_device pages port it) (are_devices pages (suc port) kept) all in
    let own = device_of pages port it parts.0 in
    let here : device_port it ≡ port + 0 = own.there ∙ omega arith in
    let same : resumed it ≡ d = cc in
    subst (λ (x : FlatDevice). IsSoundDevice (port + 0) pages x) same
    (subst (λ (n : ℕ). IsSoundDevice n pages (resumed it)) here
    (subst (λ (n : ℕ). IsSoundDevice (device_port it) n (resumed it)) own.sized (resumed_sound it (kept_state it own.kept) (kept_bounded it (omega (arith, own.sized, few)) own.kept))))
devices_on pages port (it ∷ kept) few all (suc k) d is =
    let parts = and_parts (is_device pages port it) (are_devices pages (suc port) kept) all in
    let next : suc port + k ≡ port + suc k = omega arith in
    subst (λ (n : ℕ). IsSoundDevice n pages d) next (devices_on pages (suc port) kept few parts.1 k d is)

resumed_kinds : (kept : List Device) → device_kinds (map resumed kept) ≡ map kind_of kept
resumed_kinds [] = refl
resumed_kinds (it ∷ kept) = ap (λ (l : List DeviceKind). kind_of it ∷ l) (resumed_kinds kept)

pub devices_sound : (copy : StateCopy) (pages : ℕ) → IsTrue (is_valid copy) → copy.pages ≡ pages
    → AreSoundDevices pages copy.ports (map resumed copy.devices)
devices_sound copy pages valid count =
    let rules = rules_of copy valid in
    let on = attached copy rules in
    let has = has_parts copy rules.devices in
    let few : copy.pages ≤ 2 ^ 20 = omega (arith, few_pages copy rules) in
    record {
      as_many = on.ports ∙ sym on.devices ∙ sym (length-map copy.devices resumed);
      kinds = has.ports ∙ sym has.devices ∙ sym (resumed_kinds copy.devices);
      each = λ k d is.
          subst (λ (n : ℕ). IsSoundDevice k n d) count
          (subst (λ (n : ℕ). IsSoundDevice n copy.pages d) (omega arith) (devices_on copy.pages 0 copy.devices few on.each k d is));
    }

pub carried_sound : (copy : StateCopy) (bytes : List ℕ) → IsTrue (is_valid copy) → length bytes ≡ page_size * copy.pages
    → IsSound (carried_guest copy bytes)
carried_sound copy bytes valid whole = record {
  timer_on = timer_traces.timer_prefix [] new_timer timer_traces.leads_start;
  harts_on = λ k start is. harts_on copy.harts k start is;
  devices_on = devices_sound copy (length bytes / page_size) valid (omega (arith, whole));
}
