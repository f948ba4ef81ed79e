-- A create that a ready machine answers is one of a chain.
use Rattle.std.proofs.Common.{◌≡◌, ◌≢◌, ◌^◌, Bool, true, false, not, nat_le, ◌&&◌, if◌then◌else◌, refl, sym, subst, List, Option, Some, None, Result, Ok, arith}
use Rattle.std.specs.Prelude.{is_none}
use Rattle.refusals.specs.declared.refusal.Refusal.{Refusal}
use Rattle.refusals.specs.declared.refusal.Refusal.TheVariants as refusal
use Rattle.file_format.specs.Versions.{current_version}
use Rattle.http_stream.specs.declared.request.Next.{Next}
use Rattle.api_calls.specs.declared.call.ApiCall.{ApiCall}
use Rattle.api_calls.specs.declared.call.ApiCall.TheVariants as call
use Rattle.api_calls.specs.declared.call.SnapshotCreate.{SnapshotCreate}
use Rattle.api_calls.proofs.Asked.{asked_is}
use Rattle.api_rules.specs.Table.{is_diff, is_paused, own_refusal}
use Rattle.responses.specs.Responses.{Response}
use Rattle.snap_state.specs.declared.copy.StateCopy.{StateCopy}
use Rattle.guest_devices.specs.declared.device.Device.{Device}
use Rattle.flat_guest.specs.Changes.{reset_guest}
use Rattle.flat_guest.specs.Guest.{Guest, unwritten}
use Rattle.flat_guest.proofs.Soundness.{sound_reset}
use Rattle.flat_guest.specs.Same.{AreAlike}
use Rattle.flat_snapshot.specs.Carried.{carried_guest}
use Rattle.flat_snapshot.specs.Copies.{IsCopyOf}
use Rattle.flat_snapshot.proofs.CarriedAlike.{carried_alike}
use Rattle.flat_machine.specs.Machine.{Machine, phase_by, phase_of}
use Rattle.flat_machine.specs.Outcome.Outcome.{Answered}
use Rattle.flat_machine.specs.Ready.{Ready}
use Rattle.flat_machine.specs.Requests.{Creates, LeavesBy, RequestStep, allowed, next_identity}
use Rattle.flat_machine.proofs.Allowed.{IsAllowed, allowed_is}
use Rattle.flat_machine.proofs.Ready.{can_be_copied, guest_ready}
use Rattle.snapshot_chain.specs.Chains.{IsSaving}
use Rattle.snapshot_chain.proofs.Created.{copy_saved}

-- ---- the call that is answered

first_row : (first second third fourth : Bool) (why because last late : Refusal)
    → (if first then Some why else (if second then Some because else (if third then Some last else (if fourth then Some late else None)))) ≡ None
    → first ≡ false
first_row true second third fourth why because last late none = absurd cc
first_row false second third fourth why because last late none = refl

-- the guest stands still
stands : (g : Guest) (guest : Option Guest) (paused : Bool) → guest ≡ Some g → not (is_paused (phase_by guest paused)) ≡ false → paused ≡ true
stands g guest true there is = refl
stands g None false there is = absurd cc
stands g (Some own) false there is = absurd cc

paused_is : (m : Machine) (g : Guest) (it : SnapshotCreate) → m.guest ≡ Some g
    → own_refusal (phase_of m) m.config m.ids (call.CreateSnapshot it) ≡ None → m.paused ≡ true
paused_is m g it there own =
    stands g m.guest m.paused there
    (first_row (not (is_paused (phase_of m))) (is_diff it.snapshot_type && not m.config.machine.track_dirty_pages)
    (is_diff it.snapshot_type && is_none m.ids.base) (nat_le (2 ^ 63) m.ids.next) refusal.NotPaused refusal.NotTracked refusal.NoBase refusal.NoSlotLeft own)

module _ (m n : Machine) (g : Guest) (given : Next) (it : SnapshotCreate) (kept : List Device) (said : List Response) (ready : Ready m)
    (there : m.guest ≡ Some g) (allows : allowed m given ≡ Ok (call.CreateSnapshot it)) (step : RequestStep (Answered kept) given m said n) where
  known : IsAllowed m (call.CreateSnapshot it)
  known = allowed_is m given (call.CreateSnapshot it) allows

  differ : it.files.mem_file_path ≢ it.files.snapshot_path
  differ = (asked_is known.request (call.CreateSnapshot it) known.call_is).2

  creates : Creates m.guest m it kept n
  creates = subst (λ (r : Result ApiCall Refusal). LeavesBy m r kept n) allows step.1

  of_guest : Creates (Some g) m it kept n
  of_guest = subst (λ (o : Option Guest). Creates o m it kept n) there creates

  -- the guest that is saved
  abbrev reset : Guest
  reset = reset_guest g

  by_copy : (copy : StateCopy) → IsCopyOf m.config reset copy → copy.devices ≡ kept
      → IsSaving it.snapshot_type (record { asked = it; before = m; after = n; guest = reset; copy = copy })
  by_copy copy of tells = record {
    type_is = refl;
    had = g;
    there = there;
    guest_is = refl;
    names = differ;
    is_copy = of;
    whole = (can_be_copied m ready g copy there of).1;
    leaves = subst (λ (l : List Device). Creates m.guest m it l n) (sym tells) creates;
  }

  -- the guest that goes on from the snapshot is alike with the one that was saved, as it went on
  is_alike : (copy : StateCopy) → IsSaving it.snapshot_type (record { asked = it; before = m; after = n; guest = reset; copy = copy })
      → g.board.off ≡ false → AreAlike (unwritten reset) (carried_guest copy g.memory.bytes)
  is_alike copy is on =
      let own = guest_ready m g ready there in
      let bytes = own.ready.shaped.memory.many_bytes in
      let slots = own.ready.shaped.memory.many_slots in
      let whole = is.whole in
      carried_alike m.config reset copy current_version (next_identity m) (sound_reset g own.sound) is.is_copy
      (copy_saved it.snapshot_type _ is) is.whole on
      (own.rests (paused_is m g it there known.own)) (omega (arith, bytes, slots, whole))

  pub some_saving : (copy : StateCopy) × (copy.devices ≡ kept)
      × IsSaving it.snapshot_type (record { asked = it; before = m; after = n; guest = reset; copy = copy })
      × (g.board.off ≡ false → AreAlike (unwritten reset) (carried_guest copy g.memory.bytes))
  some_saving =
      let made = of_guest in
      let is = by_copy made.0 made.1 made.2 in
      (made.0, made.2, is, is_alike made.0 is)
