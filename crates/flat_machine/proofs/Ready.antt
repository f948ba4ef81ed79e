-- A machine that is ready stays so, whatever it is asked and whatever its guest does, and its guest can be copied.
use Rattle.std.proofs.Common.{◌≡◌, ◌≤◌, ◌+◌, ◌*◌, ℕ, Bool, true, false, refl, sym, subst, ◌∙◌, List, [], ◌∷◌, length, Option, Some, None, Result, Ok, Err, arith}
use Rattle.std.proofs.lemmas.List.{length-map}
use Rattle.vm_types.specs.Saved.{Saved}
use Rattle.vm_types.specs.declared.identity.Identity.{Identity}
use Rattle.vm_types.specs.declared.ids.ActorId.{ActorId}
use Rattle.vm_types.specs.declared.ids.ActorId.TheVariants.{Hart as HartId}
use Rattle.vm_types.specs.declared.entry.Entry.{Entry}
use Rattle.vm_types.specs.declared.reply.Reply.{Reply}
use Rattle.vm_outside.specs.Calls.{FileCall}
use Rattle.refusals.specs.declared.refusal.Refusal.{Refusal}
use Rattle.serde_json.specs.Data.{Data}
use Rattle.metadata_store.specs.Store.{patched, put}
use Rattle.guest_memory.specs.Ram.{is_ram}
use Rattle.port_table.specs.declared.kind.DeviceKind.{DeviceKind}
use Rattle.flat_guest.specs.Given.{Event, Given}
use Rattle.hart_trace.specs.Asks.{is_host_op}
use Rattle.http_stream.specs.Stream.{Connection}
use Rattle.http_stream.specs.declared.request.Next.{Next}
use Rattle.http_stream.specs.Conversation.{Conversation, arrived}
use Rattle.http_stream.specs.Sent.{sent}
use Rattle.api_calls.specs.declared.balloon.BalloonPatch.{BalloonPatch}
use Rattle.api_calls.specs.declared.interface.InterfacePatch.{InterfacePatch}
use Rattle.api_calls.specs.declared.balloon.StatisticsPatch.{StatisticsPatch}
use Rattle.api_calls.specs.declared.call.BootSource.{BootSource}
use Rattle.api_calls.specs.declared.call.DrivePatch.{DrivePatch}
use Rattle.api_calls.specs.declared.call.SnapshotCreate.{SnapshotCreate}
use Rattle.api_calls.specs.declared.call.SnapshotLoad.{SnapshotLoad}
use Rattle.api_calls.specs.declared.call.VmState.TheVariants.{Paused, Resumed}
use Rattle.vm_config.specs.declared.config.Config.{Config}
use Rattle.api_calls.specs.declared.call.ApiCall.{ApiCall}
use Rattle.api_calls.specs.declared.call.ApiCall.TheVariants as call
use Rattle.vm_config.specs.Devices.{balloon_device, interface_device}
use Rattle.vm_config.specs.Drives.{device_of}
use Rattle.api_rules.specs.Table.{changed, has_started}
use Rattle.script_text.specs.declared.item.Item.{Item}
use Rattle.script_text.specs.declared.item.Item.TheVariants as item
use Rattle.responses.specs.Responses.{Response}
use Rattle.guest_devices.specs.declared.device.Device.{Device}
use Rattle.guest_devices.specs.declared.new_device.NewDevice.{NewDevice}
use Rattle.guest_devices.specs.Ports.{port_at_start}
use Rattle.flat_guest.specs.Changes.{reset_guest}
use Rattle.flat_guest.specs.Guest.{Guest, is_actor}
use Rattle.flat_guest.specs.Shaped.{IsShaped}
use Rattle.flat_guest.specs.Sound.{IsSound}
use Rattle.flat_guest.specs.Start.{started as started_guest}
use Rattle.flat_guest.specs.Steps.{FlatStep, Makes, is_given}
use Rattle.flat_guest.proofs.Shaped.{shaped_makes, shaped_next, shaped_start}
use Rattle.flat_guest.proofs.Soundness.{sound_next, sound_start}
use Rattle.snap_state.specs.Valid.{kinds_of}
use Rattle.flat_snapshot.specs.Copies.{configuration_of}
use Rattle.flat_snapshot.specs.Found.{Snapshot, found}
use Rattle.flat_snapshot.specs.Ready.{IsConfigured}
use Rattle.flat_snapshot.proofs.CarriedReady.{carried_ready}
use Rattle.flat_snapshot.proofs.Finds.{finds}
use Rattle.flat_snapshot.proofs.GoesOn.{carried_sound}
use Rattle.flat_snapshot.proofs.Ready.{valid_copy, whole_copy}
use Rattle.flat_machine.specs.Given.{reply_given}
use Rattle.flat_machine.specs.Outcome.{Left, Outcome}
use Rattle.flat_machine.specs.Outcome.Outcome.{Answered, Failed, NoMemory}
use Rattle.flat_machine.specs.Machine.{Machine, drained, new_machine, phase_of, running_by}
use Rattle.flat_machine.specs.Items.{ItemStep, MemoryLine, RegisterLine, RepliesLine, StepsLine, Talks}
use Rattle.flat_machine.specs.Ready.{CanBeCopied, IsBaseBefore, IsReadyGuest, IsTaken, Ready, ReadyBy}
use Rattle.flat_machine.specs.Limits.{limits_told, receives_told, transmits_told}
use Rattle.flat_machine.specs.Requests.{CreateFails, Creates, Fails, Leaves, LeavesBy, RequestStep, Restores, Stores, allowed, configured, disk_of, devices_from, halted, image_by, image_of, loads_from, parent_in, created, patched_balloon, patched_drive, patched_interface, patched_statistics, carried, relimited, resized, start_refusal, started_from}
use Rattle.flat_machine.specs.Run.{Act, Run}
use Rattle.flat_machine.proofs.Allowed.{IsAllowed, allowed_is, not_refused}
use Rattle.flat_machine.proofs.Between.{allowed_later, by_either, leaves_of, one_many, several_many, started}
use Rattle.flat_machine.proofs.Numbered.{found_numbered}
use Rattle.flat_machine.proofs.ReadyGuests.{drained_ready, halted_ready, made_sound, reset_ready, resumed_ready, unwritten_ready}
use Rattle.flat_machine.proofs.Fresh.{devices_fresh, limits_given, receives_given, transmits_given}
use Rattle.flat_machine.proofs.Reconfigured.{amount_patched, drive_patched, interface_patched, interval_patched, relimited_ready, resized_ready, retargeted_ready, retimed_ready, start_kinds, start_many}
use Rattle.flat_machine.proofs.Sizes.{booted_size, devices_fit, start_fits}
use Rattle.flat_machine.proofs.Taken.{allowed_fits, bounded, changed_taken, configured_taken, default_taken, taken_configured}

-- ---- one that is this one

pub ready_is : (m n : Machine) → n ≡ m → Ready m → Ready n
ready_is m n is ready = subst (λ (q : Machine). Ready q) (sym is) ready

pub guest_ready : (m : Machine) (g : Guest) → Ready m → m.guest ≡ Some g → IsReadyGuest m.config m.paused g
guest_ready m g ready there = subst (λ (o : Option Guest). ReadyBy m.config m.paused o) there ready.guest

pub base_later : (next more : ℕ) (base : Option Identity) → next ≤ more → IsBaseBefore next base → IsBaseBefore more base
base_later next more None later is = tt
base_later next more (Some base) later (first, below) = (first, omega (arith, below, later))

-- ---- what is configured, and told to its devices

patch_ready : (m : Machine) (patch : DrivePatch) → Ready m → IsTaken (changed m.config (call.PatchDrive patch))
    → Ready (configured (patched_drive m patch) (call.PatchDrive patch))
patch_ready m patch ready taken =
    let after : Config = changed m.config (call.PatchDrive patch) in
    let number : Option ℕ = device_of m.config.drives patch.drive_id in record {
      taken = taken;
      guest =
          relimited_ready after m.paused limits_told limits_given patch.rate_limiter number (resized patch.path_on_host number m.saved m.guest)
          (resized_ready after m.paused patch.path_on_host number m.saved m.guest (drive_patched m.config patch m.paused m.guest taken ready.guest));
      next = ready.next;
      base = ready.base;
    }

limits_ready : (m : Machine) (patch : InterfacePatch) → Ready m → IsTaken (changed m.config (call.PatchInterface patch))
    → Ready (configured (patched_interface m patch) (call.PatchInterface patch))
limits_ready m patch ready taken =
    let after : Config = changed m.config (call.PatchInterface patch) in
    let number : Option ℕ = interface_device m.config patch.iface_id in record {
      taken = taken;
      guest =
          relimited_ready after m.paused transmits_told transmits_given patch.tx_rate_limiter number
          (relimited receives_told patch.rx_rate_limiter number m.guest)
          (relimited_ready after m.paused receives_told receives_given patch.rx_rate_limiter number m.guest
          (interface_patched m.config patch m.paused m.guest taken ready.guest));
      next = ready.next;
      base = ready.base;
    }

amount_ready : (m : Machine) (patch : BalloonPatch) → Ready m → IsTaken (changed m.config (call.PatchBalloon patch))
    → Ready (configured (patched_balloon m patch) (call.PatchBalloon patch))
amount_ready m patch ready taken =
    let after : Config = changed m.config (call.PatchBalloon patch) in record {
      taken = taken;
      guest =
          retargeted_ready after m.paused after.balloon (balloon_device m.config) m.guest
          (amount_patched m.config patch m.paused m.guest taken ready.guest);
      next = ready.next;
      base = ready.base;
    }

interval_ready : (m : Machine) (patch : StatisticsPatch) → Ready m → IsTaken (changed m.config (call.PatchStatistics patch))
    → Ready (configured (patched_statistics m patch) (call.PatchStatistics patch))
interval_ready m patch ready taken =
    let after : Config = changed m.config (call.PatchStatistics patch) in record {
      taken = taken;
      guest =
          retimed_ready after m.paused after.balloon (balloon_device m.config) m.guest
          (interval_patched m.config patch m.paused m.guest taken ready.guest);
      next = ready.next;
      base = ready.base;
    }

-- ---- a start

-- before it there is no guest
early : (m : Machine) (config : Config) (guest : Option Guest) → m.guest ≡ guest → (has_started (phase_of m) ≡ true → ⊥)
    → ReadyBy config m.paused guest
early m config None there new = tt
early m config (Some g) there new = absurd (new (started g m there))

some_source : (source : Option BootSource) (saved : Saved) (image : List ℕ) → image_by source saved ≡ Some image
    → (own : BootSource) × (source ≡ Some own)
some_source None saved image there = absurd cc
some_source (Some own) saved image there = (own, refl)

module _ (m : Machine) (image : List ℕ) (ready : Ready m) (there : image_of m ≡ Some image) (none : start_refusal m.config m.saved ≡ None) where
  abbrev new_guest : Guest
  new_guest =
      started_guest m.config.machine.vcpu_count m.config.machine.mem_size_mib (loads_from m.config image (disk_of m))
      (devices_from m.config m.saved)

  new_sound : IsSound new_guest
  new_sound =
      sound_start m.config.machine.vcpu_count m.config.machine.mem_size_mib (loads_from m.config image (disk_of m))
      (devices_from m.config m.saved) (devices_fit m.config m.saved)

  source_there : IsConfigured m.config
  source_there =
      let own = some_source m.config.boot_source m.saved image there in
      taken_configured m.config own.0 own.1 ready.taken

  start_guest : IsReadyGuest (changed m.config call.InstanceStart) false new_guest
  start_guest =
      let within = bounded m.config ready.taken in
      let devices : List NewDevice = devices_from m.config m.saved in record {
        sound = new_sound;
        ready = record {
          configured = record {
            source = source_there.source;
            drives = source_there.drives;
            interfaces = source_there.interfaces;
            vsock = source_there.vsock;
            mmds = source_there.mmds;
            machine = source_there.machine;
            balloon = source_there.balloon;
            entropy = source_there.entropy;
            room = source_there.room;
          };
          shaped =
              subst
              (λ (kinds : List DeviceKind).
              IsShaped (256 * m.config.machine.mem_size_mib) m.config.machine.vcpu_count kinds new_guest)
              (start_kinds m.config m.saved)
              (shaped_start m.config.machine.vcpu_count m.config.machine.mem_size_mib (loads_from m.config image (disk_of m)) devices
              within.harts (booted_size m.config image (disk_of m) within (start_fits m image none there))
              (devices_fresh m.config m.saved));
          devices = sym new_sound.devices_on.as_many ∙ length-map devices port_at_start ∙ start_many m.config m.saved;
        };
        rests = λ stands. refl;
      }

start_ready : (image : Option (List ℕ)) (m : Machine) → Ready m → image_of m ≡ image → start_refusal m.config m.saved ≡ None
    → (has_started (phase_of m) ≡ true → ⊥) → Ready (configured (started_from image (disk_of m) m) call.InstanceStart)
start_ready None m ready there none new = record {
  taken = changed_taken m.config call.InstanceStart ready.taken tt;
  guest = early m (changed m.config call.InstanceStart) m.guest refl new;
  next = ready.next;
  base = ready.base;
}
start_ready (Some image) m ready there none new = record {
  taken = changed_taken m.config call.InstanceStart ready.taken tt;
  guest = start_guest m image ready there none;
  next = ready.next;
  base = ready.base;
}

-- ---- what a call leaves

create_ready : (guest : Option Guest) (m : Machine) (it : SnapshotCreate) (kept : List Device) (n : Machine) → Ready m
    → ReadyBy m.config m.paused guest → Creates guest m it kept n → Ready n
create_ready None m it kept n ready own x = ready_is m n x.1 ready
create_ready (Some g) m it kept n ready own (copy, of, tells, saved, is) =
    ready_is (created m (reset_guest g) it.files (parent_in m it) copy) n is
    (record {
      taken = ready.taken;
      guest = unwritten_ready m.config m.paused (reset_guest g) (reset_ready m.config m.paused g own);
      next = omega arith;
      base = (ready.next, omega arith);
    })

load_ready : (it : Result Snapshot Refusal) (m : Machine) (load : SnapshotLoad) (n : Machine) → found m.saved load.files ≡ it → Ready m
    → Restores it m load n → Ready n
load_ready (Ok it) m load n there ready is =
    let good = finds m.saved load.files it there in
    let own = carried_ready it.copy it.bytes load.track_dirty_pages good.0 good.1 in
    ready_is (carried m load it) n is
    (record {
      taken = configured_taken _ own.configured;
      guest = record { sound = carried_sound it.copy it.bytes good.0 good.1; ready = own; rests = λ stands. refl };
      next = omega arith;
      base = (found_numbered m.saved load.files it there, omega arith);
    })
load_ready (Err why) m load n there ready is = ready_is m n is ready

store_ready : (due : Result Data Refusal) (m n : Machine) → Ready m → Stores due m n → Ready n
store_ready (Ok kept) m n ready is =
    ready_is (record m { metadata = kept }) n is (record { taken = ready.taken; guest = ready.guest; next = ready.next; base = ready.base })
store_ready (Err why) m n ready is = ready_is m n is ready

-- what is configured before a start
configures : (m : Machine) (it : ApiCall) → Ready m → IsTaken (changed m.config it) → (has_started (phase_of m) ≡ true → ⊥)
    → Ready (configured m it)
configures m it ready taken new = record { taken = taken; guest = early m (changed m.config it) m.guest refl new; next = ready.next; base = ready.base }

pub leaves_ready : (it : ApiCall) (m n : Machine) → Ready m → IsAllowed m it → Leaves m it n → Ready n
leaves_ready (call.PatchDrive patch) m n ready known is =
    let it : ApiCall = call.PatchDrive patch in
    ready_is (configured (patched_drive m patch) it) n is
    (patch_ready m patch ready (changed_taken m.config it ready.taken (allowed_fits m it ready.taken known)))
leaves_ready (call.PatchInterface patch) m n ready known is =
    let it : ApiCall = call.PatchInterface patch in
    ready_is (configured (patched_interface m patch) it) n is
    (limits_ready m patch ready (changed_taken m.config it ready.taken (allowed_fits m it ready.taken known)))
leaves_ready (call.PatchBalloon patch) m n ready known is =
    let it : ApiCall = call.PatchBalloon patch in
    ready_is (configured (patched_balloon m patch) it) n is
    (amount_ready m patch ready (changed_taken m.config it ready.taken (allowed_fits m it ready.taken known)))
leaves_ready (call.PatchStatistics patch) m n ready known is =
    let it : ApiCall = call.PatchStatistics patch in
    ready_is (configured (patched_statistics m patch) it) n is
    (interval_ready m patch ready (changed_taken m.config it ready.taken (allowed_fits m it ready.taken known)))
leaves_ready call.InstanceStart m n ready known is =
    let none = (not_refused (start_refusal m.config m.saved) (Ok call.InstanceStart) call.InstanceStart known.contents).0 in
    ready_is (configured (started_from (image_of m) (disk_of m) m) call.InstanceStart) n is
    (start_ready (image_of m) m ready refl none (λ on. allowed_later m call.InstanceStart on known))
leaves_ready (call.PatchVm Paused) m n ready known is =
    ready_is (record m { guest = halted m.paused m.guest; paused = true }) n is
    (record { taken = ready.taken; guest = halted_ready m.config m.paused m.guest ready.guest; next = ready.next; base = ready.base })
leaves_ready (call.PatchVm Resumed) m n ready known is =
    ready_is (record m { paused = false }) n is
    (record { taken = ready.taken; guest = resumed_ready m.config m.paused m.guest ready.guest; next = ready.next; base = ready.base })
leaves_ready (call.CreateSnapshot it) m n ready known (kept, x) = create_ready m.guest m it kept n ready ready.guest x
leaves_ready (call.LoadSnapshot load) m n ready known x = load_ready (found m.saved load.files) m load n refl ready x
leaves_ready (call.PutMetadata body) m n ready known x = store_ready (put body) m n ready x
leaves_ready (call.PatchMetadata patch) m n ready known x = store_ready (patched m.metadata patch) m n ready x
leaves_ready (call.Get part) m n ready known is = ready_is m n is ready
leaves_ready it m n ready known is =
    ready_is (configured m it) n is
    (configures m it ready (changed_taken m.config it ready.taken (allowed_fits m it ready.taken known)) (λ on. allowed_later m it on known))

-- ---- and where a call on the files failed

create_fails_ready : (guest : Option Guest) (m : Machine) (it : SnapshotCreate) (left : Left) (n : Machine) → Ready m
    → CreateFails guest m it left n → Ready n
create_fails_ready None m it left n ready x = absurd x
create_fails_ready (Some g) m it left n ready short =
    ready_is _ n short.leaves (record {
      taken = ready.taken;
      guest = ready.guest;
      next = omega arith;
      base = base_later m.ids.next (m.ids.next + 1) m.ids.base (omega arith) ready.base;
    })

fails_ready : (it : ApiCall) (m : Machine) (left : Left) (n : Machine) → Ready m → Fails m it left n → Ready n
fails_ready (call.PatchDrive patch) m left n ready x = ready_is m n x.3 ready
fails_ready call.InstanceStart m left n ready x = ready_is m n x.1 ready
fails_ready (call.CreateSnapshot it) m left n ready x = create_fails_ready m.guest m it left n ready x
fails_ready (call.LoadSnapshot load) m left n ready x = ready_is m n x.1 ready
fails_ready it m left n ready x = absurd x

-- ---- what is due is answered

result_ready : (result : Result ApiCall Refusal) (given : Next) (m : Machine) (kept : List Device) (n : Machine) → Ready m
    → allowed m given ≡ result → LeavesBy m result kept n → Ready n
result_ready (Ok it) given m kept n ready is x = leaves_ready it m n ready (allowed_is m given it is) (leaves_of it m kept n x)
result_ready (Err why) given m kept n ready is x = ready_is m n x.1 ready

pub request_ready : (how : Outcome) (given : Next) (m : Machine) (said : List Response) (n : Machine) → Ready m
    → RequestStep how given m said n → Ready n
request_ready (Answered kept) given m said n ready x = result_ready (allowed m given) given m kept n ready refl x.1
request_ready (Failed left) given m said n ready (it, asks, fails, is) = fails_ready it m left n ready fails
request_ready NoMemory given m said n ready x = ready_is m n x.1 ready

-- ---- lines

conversation_ready : (outcomes : List Outcome) (c d : Connection) (m n : Machine) (said : List Response) → Ready m
    → Conversation RequestStep outcomes c m said d n → Ready n
conversation_ready [] c d m n said ready (quiet, stays_so, none, is) = ready_is m n is ready
conversation_ready (how ∷ outcomes) c d m n said ready (given, after, first, mid, rest, takes, step, more, text) =
    conversation_ready outcomes after d mid n rest (request_ready how given m first mid ready step) more

talks_ready : (bytes : List ℕ) (outcomes : List Outcome) (m n : Machine) (said : List Response) → Ready m → Talks bytes outcomes m said n → Ready n
talks_ready bytes outcomes m n said ready (after, mid, talk, is) =
    let left = conversation_ready outcomes (arrived m.connection bytes) after m mid said ready talk in
    ready_is (record mid { connection = after }) n is (record { taken = left.taken; guest = left.guest; next = left.next; base = left.base })

-- ---- events

-- the guest that runs is another one after events
runs_ready : (m : Machine) (g h : Guest) → Ready m → IsReadyGuest m.config false g → m.paused ≡ false → IsSound h
    → IsShaped (256 * m.config.machine.mem_size_mib) m.config.machine.vcpu_count (kinds_of (configuration_of m.config) m.config.entropy) h → length h.devices ≡ length g.devices
    → Ready (record m { guest = Some h })
runs_ready m g h ready own runs sound shaped many = record {
  taken = ready.taken;
  guest =
      subst (λ (b : Bool). IsReadyGuest m.config b h) (sym runs)
      (record {
        sound = sound;
        ready = record { configured = own.ready.configured; shaped = shaped; devices = many ∙ own.ready.devices };
        rests = λ stands. absurd cc;
      });
  next = ready.next;
  base = ready.base;
}

pub makes_ready : (m : Machine) (g h : Guest) (actor : ActorId) (es : List Entry) → Ready m → IsReadyGuest m.config false g
    → m.paused ≡ false → Makes g actor es h → Ready (record m { guest = Some h })
makes_ready m g h actor es ready own runs made =
    runs_ready m g h ready own runs (made_sound es g h actor made own.sound)
    (shaped_makes _ _ _ es g h actor own.sound own.ready.shaped made) (several_many g h actor es made)

pub event_ready : (m : Machine) (g h : Guest) (event : Event) (e : Entry) → Ready m → IsReadyGuest m.config false g → m.paused ≡ false
    → FlatStep g event e h → Ready (record m { guest = Some h })
event_ready m g h event e ready own runs step =
    runs_ready m g h ready own runs (sound_next g event e h own.sound step)
    (shaped_next _ _ _ g event e h own.sound own.ready.shaped step) (one_many g h event e step)

-- ---- lines that bring no request

steps_ready : (guest : Option Guest) (paused : Bool) (actor : ActorId) (count : ℕ) (m n : Machine) (text : List ℕ) → Ready m
    → ReadyBy m.config paused guest → m.paused ≡ paused → StepsLine (running_by guest paused) actor count m text n → Ready n
steps_ready guest true actor count m n text ready own is x = ready_is m n x.1 ready
steps_ready None false actor count m n text ready own is x = ready_is m n x.1 ready
steps_ready (Some g) false actor count m n text ready own is x =
    by_either (is_actor g actor)
    (λ moves. ready_is (record m { guest = Some moves.end }) n moves.leaves (makes_ready m g moves.end actor moves.entries ready own is moves.made.made))
    (λ none. ready_is m n none.1 ready) x

replies_ready : (guest : Option Guest) (paused : Bool) (actor : ActorId) (given : Given) (m n : Machine) (text : List ℕ) → Ready m
    → ReadyBy m.config paused guest → m.paused ≡ paused → RepliesLine (running_by guest paused) actor given m text n → Ready n
replies_ready guest true actor given m n text ready own is x = ready_is m n x.1 ready
replies_ready None false actor given m n text ready own is x = ready_is m n x.1 ready
replies_ready (Some g) false actor given m n text ready own is x =
    by_either (is_actor g actor)
    (λ wants. by_either (is_host_op wants.0)
    (λ host. by_either (is_given wants.0 given)
    (λ fit. ready_is (record m { guest = Some fit.end }) n fit.leaves
    (event_ready m g fit.end (record { actor = actor; given = given }) fit.entry ready own is fit.step))
    (λ unfit. ready_is m n unfit.1 ready) host)
    (λ none. ready_is m n none.1 ready) wants.2)
    (λ none. ready_is m n none.1 ready) x

register_ready : (guest : Option Guest) (hart number : ℕ) (m n : Machine) (text : List ℕ) → Ready m → RegisterLine guest hart number m text n
    → Ready n
register_ready None hart number m n text ready x = ready_is m n x.1 ready
register_ready (Some g) hart number m n text ready x =
    by_either (is_actor g (HartId hart)) (λ shows. ready_is m n shows.1 ready) (λ none. ready_is m n none.1 ready) x

memory_ready : (guest : Option Guest) (at len : ℕ) (m n : Machine) (text : List ℕ) → Ready m → MemoryLine guest at len m text n → Ready n
memory_ready None at len m n text ready x = ready_is m n x.1 ready
memory_ready (Some g) at len m n text ready x =
    by_either (is_ram (length g.memory.bytes) at len) (λ shows. ready_is m n shows.1 ready) (λ none. ready_is m n none.1 ready) x

-- what it is made of stays
same_ready : (m n q : Machine) → Ready m → n ≡ q → q.config ≡ m.config → q.paused ≡ m.paused → q.guest ≡ m.guest → q.ids.next ≡ m.ids.next
    → q.ids.base ≡ m.ids.base → Ready n
same_ready m n q ready is config paused guest next base =
    ready_is q n is (record {
      taken = subst IsTaken (sym config) ready.taken;
      guest =
          subst (λ (c : Config). ReadyBy c q.paused q.guest) (sym config)
          (subst (λ (b : Bool). ReadyBy m.config b q.guest) (sym paused)
          (subst (λ (o : Option Guest). ReadyBy m.config m.paused o) (sym guest) ready.guest));
      next = let first = ready.next in omega (arith, first, next);
      base =
          subst (λ (o : Option Identity). IsBaseBefore q.ids.next o) (sym base)
          (base_later m.ids.next q.ids.next m.ids.base (omega (arith, next)) ready.base);
    })

pub item_ready : (it : Item) (outcomes : List Outcome) (m n : Machine) (text : List ℕ) → Ready m → ItemStep it outcomes m text n → Ready n
item_ready (item.Bytes bytes) outcomes m n text ready x = talks_ready bytes outcomes m n x.0 ready x.1
item_ready (item.Api method path body) outcomes m n text ready x = talks_ready (sent method path body) outcomes m n x.0 ready x.1
item_ready item.Nothing outcomes m n text ready x = ready_is m n x.1.1 ready
item_ready (item.File name content) outcomes m n text ready x = same_ready m n _ ready x.1.1 refl refl refl refl refl
item_ready (item.Lineage lineage) outcomes m n text ready x = same_ready m n _ ready x.1.1 refl refl refl refl refl
item_ready item.Connect outcomes m n text ready x = same_ready m n _ ready x.1.1 refl refl refl refl refl
item_ready (item.Step actor count) outcomes m n text ready x =
    steps_ready m.guest m.paused actor count m n text ready ready.guest refl x.1
item_ready (item.Reply actor reply) outcomes m n text ready x =
    replies_ready m.guest m.paused actor (reply_given reply) m n text ready ready.guest refl x.1
item_ready item.Console outcomes m n text ready x =
    ready_is (drained m) n x.1.1
    (record { taken = ready.taken; guest = drained_ready m.config m.paused m.guest ready.guest; next = ready.next; base = ready.base })
item_ready (item.Register hart number) outcomes m n text ready x = register_ready m.guest hart number m n text ready x.1
item_ready (item.Memory at len) outcomes m n text ready x = memory_ready m.guest at len m n text ready x.1

-- ---- runs

pub run_ready : (acts : List Act) (m n : Machine) (text : List ℕ) → Ready m → Run acts m text n → Ready n
run_ready [] m n text ready x = ready_is m n (sym x.1) ready
run_ready (act ∷ acts) m n text ready (first, mid, rest, step, more, is) =
    run_ready acts mid n rest (item_ready act.item act.outcomes m mid first ready step) more

-- one hart, 128 MiB and nothing else
pub new_ready : (id : List ℕ) (saved : Saved) (calls : List FileCall) → Ready (new_machine id saved calls)
new_ready id saved calls = record {
  taken = default_taken;
  guest = tt;
  next = omega arith;
  base = tt;
}

pub every_run : (acts : List Act) (id : List ℕ) (saved : Saved) (calls : List FileCall) (text : List ℕ) (n : Machine)
    → Run acts (new_machine id saved calls) text n → Ready n
every_run acts id saved calls text n ran = run_ready acts (new_machine id saved calls) n text (new_ready id saved calls) ran

-- ---- its guest can be copied

pub can_be_copied : (m : Machine) → Ready m → CanBeCopied m
can_be_copied m ready g copy there of =
    let own = reset_ready m.config m.paused g (guest_ready m g ready there) in
    let within = bounded m.config ready.taken in
    (valid_copy m.config (reset_guest g) copy own.sound own.ready within.mib of, whole_copy m.config (reset_guest g) copy own.ready of)
