-- A live machine that is ready stays so, whatever becomes of its guest, its configuration and its numbers.
use Rattle.std.proofs.Common.{◌≡◌, ◌≤◌, ◌<◌, ◌^◌, ◌+◌, ◌==◌, ◌&&◌, nat_lt, ℕ, Bool, true, false, refl, sym, ap, subst, ◌∙◌, List, [], Option, Some, None, Result, Ok, Err, slice_get, arith}
use Rattle.std.specs.Prelude.{IfErr, IfOk, IfSome, IsTrue}
use Rattle.std.proofs.lemmas.Bool.{and_from, and_right, eqb-true, lt-ltb}
use Rattle.serde_json.specs.Data.{Data, null}
use Rattle.file_format.specs.Identities.{is_numbered}
use Rattle.vm_types.specs.declared.identity.Identity.{Identity}
use Rattle.vm_types.specs.declared.ids.ActorId.{ActorId}
use Rattle.vm_types.specs.Saved.{nothing_saved}
use Rattle.vm_outside.specs.declared.failed.Failed.{Failed}
use Rattle.api_calls.specs.declared.balloon.Balloon.{Balloon}
use Rattle.api_calls.specs.declared.interface.InterfacePatch.{InterfacePatch}
use Rattle.api_calls.specs.declared.limiter.Limiter.{Limiter}
use Rattle.api_calls.specs.declared.call.SnapshotType.{SnapshotType}
use Rattle.api_calls.specs.declared.call.SnapshotType.TheVariants as snapshot
use Rattle.api_calls.specs.declared.call.VmState.TheVariants.{Paused, Resumed}
use Rattle.script_text.specs.declared.output.Misfit.{Misfit}
use Rattle.script_text.specs.declared.output.Misfit.TheVariants as misfit
use Rattle.vm_config.specs.declared.config.Config.{Config}
use Rattle.api_calls.specs.declared.call.ApiCall.{ApiCall}
use Rattle.api_calls.specs.declared.call.ApiCall.TheVariants as call
use Rattle.vm_config.specs.Changes.{default_config, with_amount, with_interval}
use Rattle.api_rules.specs.Table.{changed}
use Rattle.vm_config.specs.Devices.{balloon_device, interface_device}
use Rattle.vm_config.specs.Drives.{device_of}
use Rattle.api_rules.specs.declared.ids.Ids.{Ids}
use Rattle.api_rules.specs.Ids.{based, spent}
use Rattle.guest_pages.specs.Pages.{cleared}
use Rattle.guest_pages.proofs.Marking.{flat_cleared, marks_cleared}
use Rattle.port_table.specs.declared.state.PortState.{PortState}
use Rattle.guest_devices.specs.declared.change.DeviceChange.{DeviceChange}
use Rattle.guest_devices.specs.Moments.{IsGivenChange}
use Rattle.flat_guest.specs.Changes.{reset_guest, told}
use Rattle.flat_guest.specs.Given.{Given}
use Rattle.flat_guest.specs.Guest.{Guest, unwritten}
use Rattle.flat_machine.specs.Machine.{Machine, first_ids, new_machine}
use Rattle.flat_machine.specs.Balloon.{interval_told, target_in}
use Rattle.flat_machine.specs.Limits.{limits_told, receives_told, transmits_told}
use Rattle.flat_machine.specs.Requests.{halted, parent_of, shows_by}
use Rattle.flat_machine.specs.Ready.{IsBaseBefore, IsReadyGuest, Ready, ReadyBy}
use Rattle.flat_machine.proofs.Ready.{base_later, event_ready, guest_ready, makes_ready, new_ready}
use Rattle.flat_machine.proofs.ReadyGuests.{drained_ready, halted_ready, reset_ready, resumed_ready, unwritten_ready}
use Rattle.flat_machine.proofs.Fresh.{limits_given, receives_given, transmits_given}
use Rattle.flat_machine.proofs.Reconfigured.{told_ready}
use Rattle.flat_machine.proofs.Taken.{configured_taken}
use Rattle.timer_trace.specs.States.{new_timer}
use Rattle.vm_world.specs.Worlds.{IsWorld, Runs, WorldValue}
use Rattle.vm_world.proofs.Events.{reset_is, restarted, unwritten_is}
use Rattle.world_copy.specs.Ready.{IsReadyWorld}
use Rattle.create_end.specs.Saved.{IsSavedWorld}
use Rattle.monitor_plans.specs.Headings.{HasParent}
use Rattle.monitor_plans.specs.Plans.{HasReadyGuest}
use Rattle.monitor_machine.specs.Answering.{TakesReply}
use Rattle.monitor_machine.specs.Live.{Live}
use Rattle.monitor_machine.specs.Plans.{halted_world, paused_by, world_by}
use Rattle.monitor_machine.specs.Ready.{IsReadyLive}
use Rattle.monitor_machine.specs.State.{IsGuestBy, IsLive}
use Rattle.monitor_machine.specs.Telling.{Relimits, RelimitsBoth, Retargets, Retimes, TellsChange, TellsDevice}
use Rattle.monitor_machine.proofs.Leaving.{left_is}
use Rattle.monitor_machine.proofs.Lines.{drained_is, some_guest}

-- ---- its guest

-- the same with a guest that is its own
pub same_stays : (live : Live) (guest : Option WorldValue) → live.guest ≡ guest → IsReadyLive live → IsReadyLive (record live { guest = guest })
same_stays live guest same it = subst (λ (o : Option WorldValue). IsReadyLive (record live { guest = o })) same it

-- the guest of the machine that it is
record Stands (live : Live) (w : WorldValue) : Type 0 where
  flat : Machine
  own : IsLive live flat
  ready : Ready flat
  guest : Guest
  there : flat.guest ≡ Some guest
  world : IsWorld w guest
  stands : IsReadyGuest flat.config flat.paused guest

standing : (live : Live) (w : WorldValue) → live.guest ≡ Some w → IsReadyLive live → Stands live w
standing live w there (m, own, ready) =
    let g = some_guest live.guest w m.guest own.guest_is there in
    record { flat = m; own = own; ready = ready; guest = g.0; there = g.1; world = g.2; stands = guest_ready m g.0 ready g.1 }

-- it can be copied
pub ready_world : (live : Live) (w : WorldValue) → live.guest ≡ Some w → IsReadyLive live → IsReadyWorld live.config w
ready_world live w there it =
    let on = standing live w there it in
    subst (λ (c : Config). IsReadyWorld c w) (sym on.own.config_is)
    (record { guest = on.guest; is = on.world; sound = on.stands.sound; ready = on.stands.ready })

-- another guest of the same machine
other_guest : (live : Live) (m : Machine) (v : WorldValue) (h : Guest) → IsLive live m → IsWorld v h
    → IsLive (record live { guest = Some v }) (record m { guest = Some h })
other_guest live m v h own is = record {
  id_is = own.id_is;
  ids_is = own.ids_is;
  config_is = own.config_is;
  metadata_is = own.metadata_is;
  guest_is = is;
  paused_is = own.paused_is;
}

changes_to : (live : Live) (w v : WorldValue) (on : Stands live w) (h : Guest) → IsReadyGuest on.flat.config on.flat.paused h → IsWorld v h
    → IsReadyLive (record live { guest = Some v })
changes_to live w v on h ready is = (
  record on.flat { guest = Some h },
  other_guest live on.flat v h on.own is,
  record { taken = on.ready.taken; guest = ready; next = on.ready.next; base = on.ready.base },
)

moves_to : (live : Live) (w v : WorldValue) (on : Stands live w) (h : Guest) → Ready (record on.flat { guest = Some h }) → IsWorld v h
    → IsReadyLive (record live { guest = Some v })
moves_to live w v on h ready is = (record on.flat { guest = Some h }, other_guest live on.flat v h on.own is, ready)

-- a machine that runs is one that runs
runs_so : (live : Live) (w : WorldValue) (on : Stands live w) → live.paused ≡ false
    → (on.flat.paused ≡ false) × IsReadyGuest on.flat.config false on.guest
runs_so live w on moving =
    let is = sym on.own.paused_is ∙ moving in
    (is, subst (λ (b : Bool). IsReadyGuest on.flat.config b on.guest) is on.stands)

-- events of an actor
pub run_stays : (live : Live) (w v : WorldValue) (actor : ActorId) (count made : ℕ) → live.paused ≡ false → live.guest ≡ Some w
    → Runs w actor count made v → IsReadyLive live → IsReadyLive (record live { guest = Some v })
run_stays live w v actor count made moving there runs it =
    let on = standing live w there it in
    let run = runs on.guest on.world in
    let so = runs_so live w on moving in
    moves_to live w v on run.1 (makes_ready on.flat on.guest run.1 actor run.0 on.ready so.1 so.0 run.2.made) run.4

-- a reply
pub reply_stays : (live : Live) (w v : WorldValue) (actor : ActorId) (given : Given) → live.paused ≡ false → live.guest ≡ Some w
    → TakesReply None w actor given v → IsReadyLive live → IsReadyLive (record live { guest = Some v })
reply_stays live w v actor given moving there takes it =
    let on = standing live w there it in
    let so = runs_so live w on moving in
    let is = takes on.guest on.world in
    moves_to live w v on is.end
    (event_ready on.flat on.guest is.end (record { actor = actor; given = given }) is.entry on.ready so.1 so.0 is.step) is.world

-- one that isn't taken
pub unfit_stays : (live : Live) (w v : WorldValue) (why : Misfit) (actor : ActorId) (given : Given) → live.guest ≡ Some w
    → TakesReply (Some why) w actor given v → IsReadyLive live → IsReadyLive (record live { guest = Some v })
unfit_stays live w v misfit.NoActor actor given there is it = same_stays live (Some v) (there ∙ ap Some (sym is.0)) it
unfit_stays live w v misfit.NotWaiting actor given there is it = same_stays live (Some v) (there ∙ ap Some (sym is.0)) it
unfit_stays live w v misfit.Unfit actor given there is it = same_stays live (Some v) (there ∙ ap Some (sym is.0)) it
unfit_stays live w v why actor given there is it = absurd is

-- the console is drained
pub drain_stays : (live : Live) (w : WorldValue) → live.guest ≡ Some w → IsReadyLive live
    → IsReadyLive (record live { guest = Some (record w { board = record w.board { console = [] } }) })
drain_stays live w there it =
    let on = standing live w there it in
    let g = on.guest in
    let h : Guest = record g { board = record g.board { console = [] } } in
    changes_to live w (record w { board = record w.board { console = [] } }) on h
    (drained_ready on.flat.config on.flat.paused (Some g) on.stands) (drained_is w g on.world)

-- a device is told of a change, if both are there, and its port shows what this makes of it
pub tells_stay : (live : Live) (device : Option ℕ) (change : DeviceChange) (shows : Option PortState → Option (List ℕ)) (after : Option WorldValue)
    → IsGivenChange change → TellsDevice device change shows live.guest after → IsReadyLive live → IsReadyLive (record live { guest = after })
tells_stay live device change shows after given tells it = by_guest device live.guest after refl tells
  where
    by_guest : (k : Option ℕ) (w v : Option WorldValue) → live.guest ≡ w → TellsDevice k change shows w v
        → IsReadyLive (record live { guest = v })
    by_guest None w v there is = same_stays live v (there ∙ sym is) it
    by_guest (Some k) None v there is = same_stays live v (there ∙ sym is) it
    by_guest (Some k) (Some w) None there is = absurd is
    by_guest (Some k) (Some w) (Some v) there is =
        let on = standing live w there it in
        let shown : Option (List ℕ) = shows (slice_get on.guest.ports k) in
        changes_to live w v on (told k change shown on.guest)
        (told_ready on.flat.config on.flat.paused on.guest k change shown given on.stands) (is on.guest on.world)

pub relimits_stay : (live : Live) (tells : Limiter → DeviceChange) → ((l : Limiter) → IsGivenChange (tells l)) → (limiter : Option Limiter)
    (device : Option ℕ) (after : Option WorldValue) → Relimits tells limiter device live.guest after → IsReadyLive live
    → IsReadyLive (record live { guest = after })
relimits_stay live tells fit None device after is it = same_stays live after (sym is) it
relimits_stay live tells fit (Some l) device after is it = tells_stay live device (tells l) (shows_by (tells l)) after (fit l) is it

both_stay : (live : Live) (patch : InterfacePatch) (device : Option ℕ) (after : Option WorldValue)
    → RelimitsBoth patch device live.guest after → IsReadyLive live → IsReadyLive (record live { guest = after })
both_stay live patch device after (mid, receives, transmits) it =
    relimits_stay (record live { guest = mid }) transmits_told transmits_given patch.tx_rate_limiter device after transmits
    (relimits_stay live receives_told receives_given patch.rx_rate_limiter device mid receives it)

retargets_stay : (live : Live) (balloon : Option Balloon) (device : Option ℕ) (after : Option WorldValue)
    → Retargets balloon device live.guest after → IsReadyLive live → IsReadyLive (record live { guest = after })
retargets_stay live None device after tells it = same_stays live after (sym tells) it
retargets_stay live (Some b) device after tells it = tells_stay live device (interval_told b) (target_in b) after (tt, refl) tells it

retimes_stay : (live : Live) (balloon : Option Balloon) (device : Option ℕ) (after : Option WorldValue)
    → Retimes balloon device live.guest after → IsReadyLive live → IsReadyLive (record live { guest = after })
retimes_stay live None device after tells it = same_stays live after (sym tells) it
retimes_stay live (Some b) device after tells it = tells_stay live device (interval_told b) (shows_by (interval_told b)) after (tt, refl) tells it

-- what a call that asks no file tells
pub told_stays : (live : Live) (it : ApiCall) (after : Option WorldValue) → TellsChange it live.config live.guest after → IsReadyLive live
    → IsReadyLive (record live { guest = after })
told_stays live (call.PatchDrive patch) after tells it =
    relimits_stay live limits_told limits_given patch.rate_limiter (device_of live.config.drives patch.drive_id) after tells it
told_stays live (call.PatchInterface patch) after tells it =
    both_stay live patch (interface_device live.config patch.iface_id) after tells it
told_stays live (call.PatchBalloon patch) after tells it =
    retargets_stay live (with_amount patch live.config.balloon) (balloon_device live.config) after tells it
told_stays live (call.PatchStatistics patch) after tells it =
    retimes_stay live (with_interval patch live.config.balloon) (balloon_device live.config) after tells it
told_stays live it after tells own = same_stays live after (sym tells) own

-- the guest is taken out
pub taken_out : (live : Live) → IsReadyLive live → IsReadyLive (record live { guest = None })
taken_out live (m, own, ready) = (
  record m { guest = None },
  record {
    id_is = own.id_is;
    ids_is = own.ids_is;
    config_is = own.config_is;
    metadata_is = own.metadata_is;
    guest_is = tt;
    paused_is = own.paused_is;
  },
  record { taken = ready.taken; guest = tt; next = ready.next; base = ready.base },
)

-- ---- it stands still, or goes on

stand_guest : (it : ApiCall) (paused : Bool) (config : Config) (guest : Option Guest) → ReadyBy config paused guest
    → (after : Option Guest) × ((w : Option WorldValue) → IsGuestBy w guest → IsGuestBy (world_by it paused w) after)
    × ReadyBy config (paused_by it paused) after
stand_guest (call.PatchVm Paused) paused config guest is =
    (halted paused guest, λ w here. left_is (call.PatchVm Paused) paused w guest here, halted_ready config paused guest is)
stand_guest (call.PatchVm Resumed) paused config guest is = (guest, λ w here. here, resumed_ready config paused guest is)
stand_guest it paused config guest is = (guest, λ w here. here, is)

pub stand_stays : (live : Live) (it : ApiCall) → IsReadyLive live
    → IsReadyLive (record live { guest = world_by it live.paused live.guest; paused = paused_by it live.paused })
stand_stays live it (m, own, ready) =
    let on = stand_guest it m.paused m.config m.guest ready.guest in
    let after : Machine = record m { guest = on.0; paused = paused_by it m.paused } in (
      after,
      record {
        id_is = own.id_is;
        ids_is = own.ids_is;
        config_is = own.config_is;
        metadata_is = own.metadata_is;
        guest_is = subst (λ (b : Bool). IsGuestBy (world_by it b live.guest) on.0) (sym own.paused_is) (on.1 live.guest own.guest_is);
        paused_is = ap (λ (b : Bool). paused_by it b) own.paused_is;
      },
      record { taken = ready.taken; guest = on.2; next = ready.next; base = ready.base },
    )

-- its timer begins anew
pub restart_stays : (live : Live) → IsReadyLive live → IsReadyLive (record live { guest = halted_world false live.guest })
restart_stays live it = by_guest live.guest refl
  where
    for_any : (config : Config) (paused : Bool) (g : Guest) → IsReadyGuest config true g → IsReadyGuest config paused g
    for_any config paused g is = record { sound = is.sound; ready = is.ready; rests = λ stands. is.rests refl }

    by_guest : (w : Option WorldValue) → live.guest ≡ w → IsReadyLive (record live { guest = halted_world false w })
    by_guest None there = subst (λ (o : Option WorldValue). IsReadyLive (record live { guest = o })) there it
    by_guest (Some w) there =
        let on = standing live w there it in
        let ready = halted_ready on.flat.config false (Some on.guest) (resumed_ready on.flat.config on.flat.paused (Some on.guest) on.stands) in
        changes_to live w (record w { timer = new_timer }) on _
        (for_any on.flat.config on.flat.paused _ ready) (restarted w on.guest on.world)

-- one that ran stands still from now on
pub pause_stays : (live : Live) → live.paused ≡ false → IsReadyLive live
    → IsReadyLive (record live { guest = halted_world false live.guest; paused = true })
pause_stays live runs it =
    subst (λ (b : Bool). IsReadyLive (record live { guest = halted_world b live.guest; paused = true })) runs (stand_stays live (call.PatchVm Paused) it)

-- and one that stood still goes on
pub resume_stays : (live : Live) → IsReadyLive live → IsReadyLive (record live { paused = false })
resume_stays live it = stand_stays live (call.PatchVm Resumed) it

-- and it is ready with the guest that is taken out
pub taken_ready : (live : Live) (o : Option WorldValue) → o ≡ live.guest → IsReadyLive live
    → IfSome o (λ w. IsReadyLive (record live { guest = Some w }))
taken_ready live None is it = tt
taken_ready live (Some w) is it = same_stays live (Some w) (sym is) it

-- ---- a start, and a load

pub start_stays : (live : Live) (w : WorldValue) → HasReadyGuest (changed live.config call.InstanceStart) false w → IsReadyLive live
    → IsReadyLive (record live { config = changed live.config call.InstanceStart; guest = Some w; paused = false })
start_stays live w (g, is, stands) (m, own, ready) = (
  record m { config = changed live.config call.InstanceStart; guest = Some g; paused = false },
  record {
    id_is = own.id_is;
    ids_is = own.ids_is;
    config_is = refl;
    metadata_is = own.metadata_is;
    guest_is = is;
    paused_is = refl;
  },
  record {
    taken = configured_taken (changed live.config call.InstanceStart) stands.ready.configured;
    guest = stands;
    next = ready.next;
    base = ready.base;
  },
)

pub load_stays : (live : Live) (config : Config) (w : WorldValue) (identity : Identity) (next : ℕ) (paused : Bool)
    → HasReadyGuest config true w → 1 ≤ identity.number → next ≡ identity.number + 1 → IsReadyLive live
    → IsReadyLive (record live { ids = based identity next live.ids; config = config; metadata = null; guest = Some w; paused = paused })
load_stays live config w identity next paused (g, is, stands) first behind (m, own, ready) = (
  record m { ids = based identity next m.ids; config = config; metadata = null; guest = Some g; paused = paused },
  record {
    id_is = own.id_is;
    ids_is = ap (based identity next) own.ids_is;
    config_is = refl;
    metadata_is = refl;
    guest_is = is;
    paused_is = refl;
  },
  record {
    taken = configured_taken config stands.ready.configured;
    guest = record { sound = stands.sound; ready = stands.ready; rests = λ still. stands.rests refl };
    next = omega (arith, behind);
    base = (first, omega (arith, behind));
  },
)

-- ---- a create

-- a world that was saved is a guest behind a Reset, of which no page is written
pub world_saved : (w : WorldValue) (now : Option WorldValue) (g : Guest) → IsWorld w g → IsSavedWorld (Some w) now
    → IsGuestBy now (Some (unwritten (reset_guest g)))
world_saved w now g is (v, reset, same) =
    subst (λ (o : Option WorldValue). IsGuestBy o (Some (unwritten (reset_guest g)))) (sym same)
    (unwritten_is v (cleared v.pages) (reset_guest g) (reset_is w v g reset is) (flat_cleared v.pages) (marks_cleared v.pages))

saved : (config : Config) (paused : Bool) (w now : Option WorldValue) (guest : Option Guest) → IsSavedWorld w now → IsGuestBy w guest
    → ReadyBy config paused guest → (after : Option Guest) × IsGuestBy now after × ReadyBy config paused after
saved config paused None now None left is ready = (None, subst (λ (o : Option WorldValue). IsGuestBy o None) (sym left) tt, tt)
saved config paused None now (Some g) left is ready = absurd is
saved config paused (Some w) now None left is ready = absurd is
saved config paused (Some w) now (Some g) left is ready = (
  Some (unwritten (reset_guest g)),
  world_saved w now g is left,
  unwritten_ready config paused (reset_guest g) (reset_ready config paused g ready),
)

pub create_stays : (live : Live) (identity : Identity) (next : ℕ) (now : Option WorldValue) → identity.number ≡ live.ids.next
    → next ≡ identity.number + 1 → IsSavedWorld live.guest now → IsReadyLive live
    → IsReadyLive (record live { ids = based identity next live.ids; guest = now })
create_stays live identity next now own_is behind left (m, own, ready) =
    let after = saved m.config m.paused live.guest now m.guest left own.guest_is ready.guest in
    let first : live.ids.next ≡ m.ids.next = ap (λ (i : Ids). i.next) own.ids_is in
    let some = ready.next in (
      record m { ids = based identity next m.ids; guest = after.0 },
      record {
        id_is = own.id_is;
        ids_is = ap (based identity next) own.ids_is;
        config_is = own.config_is;
        metadata_is = own.metadata_is;
        guest_is = after.1;
        paused_is = own.paused_is;
      },
      record {
        taken = ready.taken;
        guest = after.2;
        next = omega (arith, behind);
        base = (omega (arith, own_is, first, some), omega (arith, behind));
      },
    )

pub failure_stays : (live : Live) (identity : Identity) (next : ℕ) → identity.number ≡ live.ids.next → next ≡ identity.number + 1
    → IsReadyLive live → IsReadyLive (record live { ids = spent next live.ids })
failure_stays live identity next own_is behind (m, own, ready) =
    let first : live.ids.next ≡ m.ids.next = ap (λ (i : Ids). i.next) own.ids_is in (
      record m { ids = spent next m.ids },
      record {
        id_is = own.id_is;
        ids_is = ap (spent next) own.ids_is;
        config_is = own.config_is;
        metadata_is = own.metadata_is;
        guest_is = own.guest_is;
        paused_is = own.paused_is;
      },
      record {
        taken = ready.taken;
        guest = ready.guest;
        next = omega (arith, behind);
        base = base_later m.ids.next next m.ids.base (omega (arith, behind, own_is, first)) ready.base;
      },
    )

-- by how it ended
pub ended_stays : (live : Live) (written : Result (Unit {0}) Failed) (identity : Identity) (next : ℕ) (ids : Ids) (guest : Option WorldValue)
    → identity.number ≡ live.ids.next → next ≡ identity.number + 1
    → IfOk written (λ _. (ids ≡ based identity next live.ids) × IsSavedWorld live.guest guest)
    → IfErr written (λ _. (ids ≡ spent next live.ids) × (guest ≡ live.guest)) → IsReadyLive live
    → IsReadyLive (record live { ids = ids; guest = guest })
ended_stays live (Ok v) identity next ids guest own behind done failed it =
    subst (λ (l : Live). IsReadyLive l) (λ i. record live { ids = sym done.0 i; guest = guest })
    (create_stays live identity next guest own behind done.1 it)
ended_stays live (Err why) identity next ids guest own behind done failed it =
    subst (λ (l : Live). IsReadyLive l) (λ i. record live { ids = sym failed.0 i; guest = sym failed.1 i })
    (failure_stays live identity next own behind it)

-- ---- the first one, and another lineage

pub new_stands : (id : List ℕ) (ids : Ids) (config : Config) (stored : Data) → ids ≡ first_ids → config ≡ default_config → stored ≡ null
    → IsReadyLive (record { id = id; ids = ids; config = config; metadata = stored; guest = None; paused = false })
new_stands id ids config stored ids_is config_is stored_is = (
  new_machine id nothing_saved [],
  record { id_is = refl; ids_is = ids_is; config_is = config_is; metadata_is = stored_is; guest_is = tt; paused_is = refl },
  new_ready id nothing_saved [],
)

pub lineage_stays : (live : Live) (lineage : ℕ) → IsReadyLive live
    → IsReadyLive (record live { ids = record live.ids { lineage = lineage } })
lineage_stays live lineage (m, own, ready) = (
  record m { ids = record m.ids { lineage = lineage } },
  record {
    id_is = own.id_is;
    ids_is = λ i. record (own.ids_is i) { lineage = lineage };
    config_is = own.config_is;
    metadata_is = own.metadata_is;
    guest_is = own.guest_is;
    paused_is = own.paused_is;
  },
  record { taken = ready.taken; guest = ready.guest; next = ready.next; base = ready.base },
)

-- ---- what a create may ask of it

below : (b : Bool) (a n : ℕ) → a < n → (b && (a == n)) ≡ false
below b a n less = by_test (a == n) refl
  where
    by_test : (t : Bool) → (a == n) ≡ t → (b && (a == n)) ≡ false
    by_test true is = let same = eqb-true a n is in absurd (omega (arith, same, less))
    by_test false is = ap (λ (t : Bool). b && t) is ∙ and_right b false refl

is_number : (i : Identity) → 1 ≤ i.number → i.number < 2 ^ 63 → IsTrue (is_numbered i)
is_number i first small =
    and_from (nat_lt 0 i.number) (nat_lt i.number 0x8000_0000_0000_0000) (lt-ltb 0 i.number (omega (arith, first)))
    (lt-ltb i.number 0x8000_0000_0000_0000 (omega (arith, small)))

-- the next snapshot has a number
pub next_numbered : (live : Live) → live.ids.next < 2 ^ 63 → IsReadyLive live
    → IsTrue (is_numbered (record { lineage = live.ids.lineage; number = live.ids.next }))
next_numbered live small (m, own, ready) =
    let same : live.ids.next ≡ m.ids.next = ap (λ (i : Ids). i.next) own.ids_is in
    let first = ready.next in
    is_number (record { lineage = live.ids.lineage; number = live.ids.next }) (omega (arith, same, first)) small

-- and so has its base, which is another one
based_on : (base : Option Identity) (own : Identity) → own.number < 2 ^ 63 → IsBaseBefore own.number base → HasParent base own
based_on None own small is = tt
based_on (Some parent) own small (first, less) =
    (is_number parent first (omega (arith, less, small)), below (parent.lineage == own.lineage) parent.number own.number less)

pub has_parent : (live : Live) (type : SnapshotType) → live.ids.next < 2 ^ 63 → IsReadyLive live
    → HasParent (parent_of type live.ids.base) (record { lineage = live.ids.lineage; number = live.ids.next })
has_parent live snapshot.Full small it = tt
has_parent live snapshot.Diff small (m, own, ready) =
    let base = subst (λ (i : Ids). IsBaseBefore i.next i.base) (sym own.ids_is) ready.base in
    based_on live.ids.base (record { lineage = live.ids.lineage; number = live.ids.next }) small base
