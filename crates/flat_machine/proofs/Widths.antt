-- A machine of which each number has its width stays so with each request that is answered and with each line that is small, and
-- there is a copy of its guest that a state file can have.
use Rattle.std.proofs.Common.{◌≡◌, ◌≤◌, ◌*◌, ◌++◌, ◌==◌, ◌^◌, ℕ, Bool, true, false, refl, sym, subst, List, [], ◌∷◌, length, Option, Some, None, Result, Ok, Err, arith}
use Rattle.std.specs.Prelude.{IfSome, IsTrue}
use Rattle.std.specs.FinMap.{get, insert}
use Rattle.std.specs.List.{All}
use Rattle.std.proofs.lemmas.Bool.{and_parts, eqb-true}
use Rattle.vm_types.specs.Saved.{Saved}
use Rattle.vm_types.specs.declared.ids.ActorId.{ActorId}
use Rattle.vm_types.specs.declared.ids.ActorId.TheVariants.{Hart as HartId}
use Rattle.vm_outside.specs.Calls.{FileCall}
use Rattle.refusals.specs.declared.refusal.Refusal.{Refusal}
use Rattle.serde_json.specs.Data.{Data}
use Rattle.metadata_store.specs.Store.{patched, put}
use Rattle.le_fields.specs.Fields.{IsByte}
use Rattle.file_format.specs.Format.{IsBytes}
use Rattle.guest_memory.specs.Kept.{AreLoads}
use Rattle.guest_memory.specs.Ram.{is_ram}
use Rattle.hart_trace.specs.Asks.{is_host_op}
use Rattle.http_stream.specs.Stream.{Connection}
use Rattle.http_stream.specs.declared.request.Next.{Next}
use Rattle.http_stream.specs.Conversation.{Conversation, arrived}
use Rattle.http_stream.specs.Sent.{sent}
use Rattle.responses.specs.Responses.{Response}
use Rattle.api_calls.specs.declared.call.BootSource.{BootSource}
use Rattle.api_calls.specs.declared.call.SnapshotCreate.{SnapshotCreate}
use Rattle.api_calls.specs.declared.call.SnapshotLoad.{SnapshotLoad}
use Rattle.api_calls.specs.declared.call.VmState.TheVariants.{Paused, Resumed}
use Rattle.api_calls.specs.declared.balloon.BalloonPatch.{BalloonPatch}
use Rattle.api_calls.specs.declared.balloon.StatisticsPatch.{StatisticsPatch}
use Rattle.api_calls.specs.declared.call.DrivePatch.{DrivePatch}
use Rattle.api_calls.specs.declared.interface.InterfacePatch.{InterfacePatch}
use Rattle.api_calls.specs.Form.{holds}
use Rattle.api_calls.specs.Limits.{is_limiter}
use Rattle.vm_config.specs.declared.config.Config.{Config}
use Rattle.api_calls.specs.declared.call.ApiCall.{ApiCall}
use Rattle.api_calls.specs.declared.call.ApiCall.TheVariants as call
use Rattle.vm_config.specs.Drives.{device_of}
use Rattle.vm_config.specs.Devices.{balloon_device, interface_device}
use Rattle.api_rules.specs.Table.{changed, has_started}
use Rattle.devtree.proofs.Bytes.{tree_small}
use Rattle.script_text.specs.declared.item.Item.{Item}
use Rattle.script_text.specs.declared.item.Item.TheVariants as item
use Rattle.guest_devices.specs.declared.device.Device.{Device}
use Rattle.flat_guest.specs.Changes.{reset_guest}
use Rattle.flat_guest.specs.Given.{Given}
use Rattle.flat_guest.specs.Guest.{Guest, is_actor}
use Rattle.flat_guest.specs.Narrow as narrow
use Rattle.flat_guest.specs.Steps.{is_given}
use Rattle.flat_guest.proofs.Narrow.{widths_next}
use Rattle.flat_guest.proofs.Widths.{widths_drained, widths_made, widths_reset, widths_restart, widths_start, widths_unwritten}
use Rattle.gate_file.specs.Runs.{save_calls}
use Rattle.gate_file.proofs.Inserts.{each_after}
use Rattle.snap_devices.proofs.Held.{all_of}
use Rattle.snap_state.specs.declared.copy.StateCopy.{StateCopy}
use Rattle.snap_state.specs.Valid.{is_machine, is_valid}
use Rattle.snap_state.proofs.Rules.{rules_of}
use Rattle.flat_snapshot.specs.Bytes.{AreBytes}
use Rattle.flat_snapshot.specs.Carried.{carried_guest}
use Rattle.flat_snapshot.specs.Found.{Snapshot, found}
use Rattle.flat_snapshot.proofs.CarriedWidths.{carried_widths}
use Rattle.flat_snapshot.proofs.Finds.{finds}
use Rattle.flat_snapshot.proofs.Fitting.{fitting_copy}
use Rattle.flat_snapshot.proofs.FoundSaved.{found_saved}
use Rattle.flat_machine.specs.Given.{reply_given}
use Rattle.flat_machine.specs.Outcome.{AreAnswered, Outcome}
use Rattle.flat_machine.specs.Outcome.Outcome.{Answered, Failed, NoMemory}
use Rattle.flat_machine.specs.Machine.{Machine, drained, drained_guest, new_machine, phase_of, running_by}
use Rattle.flat_machine.specs.Items.{ItemStep, MemoryLine, RegisterLine, RepliesLine, StepsLine, Talks}
use Rattle.flat_machine.specs.Ready.{HasFields, IsTaken, Ready, ReadyBy}
use Rattle.flat_machine.specs.Requests.{Creates, Leaves, LeavesBy, RequestStep, Restores, Stores, allowed, carried, configured, created, devices_from, disk_by, disk_of, halted, image_by, image_of, initrd_name, initrd_place, loads_from, next_identity, parent_in, patched_drive, patched_interface, start_refusal, started_from, patched_balloon, patched_statistics, resized}
use Rattle.flat_machine.specs.Widths.{HasWidths, IsSmallItem, WidthsBy}
use Rattle.flat_machine.proofs.Allowed.{IsAllowed, allowed_is, not_refused}
use Rattle.flat_machine.proofs.Between.{allowed_later, by_either, leaves_of, started}
use Rattle.flat_machine.proofs.Ready.{guest_ready, request_ready}
use Rattle.flat_machine.proofs.ReadyGuests.{reset_ready}
use Rattle.flat_machine.proofs.Sizes.{booted_size, start_fits}
use Rattle.flat_machine.proofs.Taken.{bounded, allowed_fits, changed_taken}
use Rattle.flat_machine.proofs.SmallDevices.{devices_narrow, interface_small, relimited_small, resized_small, retargeted_small, retimed_small}
use Rattle.flat_machine.proofs.TakenTexts.{taken_args}

-- ---- one that is this one

widths_is : (m n : Machine) → n ≡ m → HasWidths m → HasWidths n
widths_is m n is widths = subst (λ (q : Machine). HasWidths q) (sym is) widths

-- at most 2^20 pages
few_pages : (m : Machine) → Ready m → 256 * m.config.machine.mem_size_mib ≤ 2 ^ 20
few_pages m ready =
    let mib = (bounded m.config ready.taken).mib in
    omega (arith, mib)

-- before a start there is no guest
early : (m : Machine) (config : Config) (guest : Option Guest) → m.guest ≡ guest → (has_started (phase_of m) ≡ true → ⊥)
    → WidthsBy m.saved m.config guest → WidthsBy m.saved config guest
early m config None there new is = is
early m config (Some g) there new is = absurd (new (started g m there))

files_by : (m : Machine) (guest : Option Guest) → m.guest ≡ guest → (has_started (phase_of m) ≡ true → ⊥) → WidthsBy m.saved m.config guest
    → AreBytes m.saved
files_by m None there new is = is
files_by m (Some g) there new is = absurd (new (started g m there))

-- ---- a start: what is loaded are bytes

got_small : (o : Option (List ℕ)) → ((t : List ℕ) → o ≡ Some t → IsBytes t) → IfSome o (All IsByte)
got_small None are = tt
got_small (Some t) are = all_of t (are t refl)

image_small : (source : Option BootSource) (saved : Saved) (image : List ℕ) → AreBytes saved → image_by source saved ≡ Some image
    → All IsByte image
image_small None saved image are there = absurd cc
image_small (Some own) saved image are there = all_of image (are own.kernel_image_path image there)

disk_small : (name : Option (List ℕ)) (saved : Saved) → AreBytes saved → IfSome (disk_by name saved) (All IsByte)
disk_small None saved are = tt
disk_small (Some name) saved are = got_small (get saved name) (are name)

module _ (m : Machine) (image : List ℕ) (ready : Ready m) (widths : HasWidths m) (there : image_of m ≡ Some image)
    (none : start_refusal m.config m.saved ≡ None) (new : has_started (phase_of m) ≡ true → ⊥) where
  files : AreBytes m.saved
  files = files_by m m.guest refl new widths.guest

  loads_small : AreLoads (loads_from m.config image (disk_of m))
  loads_small = (
    image_small m.config.boot_source m.saved image files there,
    disk_small (initrd_name m.config.boot_source) m.saved files,
    tree_small m.config (initrd_place m.config.machine.mem_size_mib (disk_of m)) (taken_args m.config ready.taken),
  )

  start_guest : WidthsBy m.saved (changed m.config call.InstanceStart)
      (started_from (Some image) (disk_of m) m).guest
  start_guest =
      let within = bounded m.config ready.taken in
      widths_start m.config.machine.vcpu_count m.config.machine.mem_size_mib (loads_from m.config image (disk_of m))
      (devices_from m.config m.saved) within.harts within.mib loads_small
      (booted_size m.config image (disk_of m) within (start_fits m image none there))
      (devices_narrow m.config m.saved ready.taken)

start_widths : (image : Option (List ℕ)) (m : Machine) → Ready m → HasWidths m → image_of m ≡ image
    → start_refusal m.config m.saved ≡ None → (has_started (phase_of m) ≡ true → ⊥)
    → HasWidths (configured (started_from image (disk_of m) m) call.InstanceStart)
start_widths None m ready widths there none new =
    record { lineage = widths.lineage; guest = early m (changed m.config call.InstanceStart) m.guest refl new widths.guest }
start_widths (Some image) m ready widths there none new =
    record { lineage = widths.lineage; guest = start_guest m image ready widths there none new }

-- ---- a guest that is changed

halted_widths : (m : Machine) (paused : Bool) (guest : Option Guest) → Ready m → WidthsBy m.saved m.config guest
    → WidthsBy m.saved m.config (halted paused guest)
halted_widths m true guest ready is = is
halted_widths m false None ready is = is
halted_widths m false (Some g) ready is = widths_restart _ _ (few_pages m ready) g is

drained_widths : (m : Machine) (guest : Option Guest) → Ready m → WidthsBy m.saved m.config guest
    → WidthsBy m.saved m.config (drained_guest guest)
drained_widths m None ready is = is
drained_widths m (Some g) ready is = widths_drained _ _ (few_pages m ready) g is

-- the other configuration has the same machine
same_widths : (saved : Saved) (config other : Config) (guest : Option Guest) → other.machine ≡ config.machine → WidthsBy saved config guest
    → WidthsBy saved other guest
same_widths saved config other None same is = is
same_widths saved config other (Some g) same is = rw (same) is

patch_widths : (m : Machine) (patch : DrivePatch) → Ready m → HasWidths m → holds is_limiter patch.rate_limiter ≡ true
    → HasWidths (configured (patched_drive m patch) (call.PatchDrive patch))
patch_widths m patch ready widths fits =
    let after : Config = changed m.config (call.PatchDrive patch) in
    let number : Option ℕ = device_of m.config.drives patch.drive_id in
    let same = same_widths m.saved m.config after m.guest refl widths.guest in
    record {
      lineage = widths.lineage;
      guest =
          relimited_small m.saved after (few_pages m ready) patch.rate_limiter number (resized patch.path_on_host number m.saved m.guest) fits
          (resized_small m.saved after (few_pages m ready) patch.path_on_host number m.guest same);
    }

links_widths : (m : Machine) (patch : InterfacePatch) → Ready m → HasWidths m → holds is_limiter patch.rx_rate_limiter ≡ true
    → holds is_limiter patch.tx_rate_limiter ≡ true → HasWidths (configured (patched_interface m patch) (call.PatchInterface patch))
links_widths m patch ready widths receives transmits =
    let after : Config = changed m.config (call.PatchInterface patch) in
    record {
      lineage = widths.lineage;
      guest =
          interface_small m.saved after (few_pages m ready) patch (interface_device m.config patch.iface_id) m.guest receives transmits
          (same_widths m.saved m.config after m.guest refl widths.guest);
    }

amount_widths : (m : Machine) (patch : BalloonPatch) → Ready m → HasWidths m → IsTaken (changed m.config (call.PatchBalloon patch))
    → HasWidths (configured (patched_balloon m patch) (call.PatchBalloon patch))
amount_widths m patch ready widths taken =
    let after : Config = changed m.config (call.PatchBalloon patch) in
    record {
      lineage = widths.lineage;
      guest =
          retargeted_small m.saved after (few_pages m ready) after.balloon (balloon_device m.config) m.guest taken.balloon
          (same_widths m.saved m.config after m.guest refl widths.guest);
    }

interval_widths : (m : Machine) (patch : StatisticsPatch) → Ready m → HasWidths m
    → IsTaken (changed m.config (call.PatchStatistics patch))
    → HasWidths (configured (patched_statistics m patch) (call.PatchStatistics patch))
interval_widths m patch ready widths taken =
    let after : Config = changed m.config (call.PatchStatistics patch) in
    record {
      lineage = widths.lineage;
      guest =
          retimed_small m.saved after (few_pages m ready) after.balloon (balloon_device m.config) m.guest taken.balloon
          (same_widths m.saved m.config after m.guest refl widths.guest);
    }

-- ---- what a call leaves

create_widths : (guest : Option Guest) (m : Machine) (it : SnapshotCreate) (kept : List Device) (n : Machine) → Ready m → HasWidths m
    → WidthsBy m.saved m.config guest → Creates guest m it kept n → HasWidths n
create_widths None m it kept n ready widths own x = widths_is m n x.1 widths
create_widths (Some g) m it kept n ready widths own (copy, of, tells, saved, is) =
    widths_is (created m (reset_guest g) it.files (parent_in m it) copy) n is
    (record {
      lineage = widths.lineage;
      guest = widths_unwritten _ _ (few_pages m ready) (reset_guest g) (widths_reset _ _ (few_pages m ready) g own);
    })

-- the pages of a copy are those of its configuration
pages_of : (c : StateCopy) → IsTrue (is_valid c) → c.pages ≡ 256 * c.configuration.machine.mem_size_mib
pages_of c valid =
    let machine = (and_parts _ _ (rules_of c valid).machine).0 in
    eqb-true c.pages (256 * c.configuration.machine.mem_size_mib)
    (and_parts (is_machine c.configuration.machine) (c.pages == 256 * c.configuration.machine.mem_size_mib) machine).1

load_widths : (it : Result Snapshot Refusal) (m : Machine) (load : SnapshotLoad) (n : Machine) → found m.saved load.files ≡ it
    → HasWidths m → AreBytes m.saved → Restores it m load n → HasWidths n
load_widths (Ok it) m load n there widths held is =
    let good = finds m.saved load.files it there in
    let all = found_saved m.saved load.files it held there in
    let pages = pages_of it.copy good.0 in
    let own : narrow.HasWidths it.copy.pages it.copy.configuration.machine.vcpu_count (carried_guest it.copy it.bytes) =
    carried_widths all.state.version (record { identity = it.identity; copy = it.copy }) it.bytes all.state.saved all.state.bytes good.1
    all.bytes in
    widths_is (carried m load it) n is
    (record {
      lineage = widths.lineage;
      guest =
          subst (λ (k : ℕ). narrow.HasWidths k it.copy.configuration.machine.vcpu_count (carried_guest it.copy it.bytes)) pages own;
    })
load_widths (Err why) m load n there widths held is = widths_is m n is widths

store_widths : (due : Result Data Refusal) (m n : Machine) → HasWidths m → Stores due m n → HasWidths n
store_widths (Ok kept) m n widths is =
    widths_is (record m { metadata = kept }) n is (record { lineage = widths.lineage; guest = widths.guest })
store_widths (Err why) m n widths is = widths_is m n is widths

configures : (m : Machine) (it : ApiCall) → HasWidths m → (has_started (phase_of m) ≡ true → ⊥) → HasWidths (configured m it)
configures m it widths new =
    record { lineage = widths.lineage; guest = early m (changed m.config it) m.guest refl new widths.guest }

leaves_widths : (it : ApiCall) (m n : Machine) → Ready m → HasWidths m → IsAllowed m it → Leaves m it n → HasWidths n
leaves_widths (call.PatchDrive patch) m n ready widths known is =
    let fits = allowed_fits m (call.PatchDrive patch) ready.taken known in
    widths_is (configured (patched_drive m patch) (call.PatchDrive patch)) n is (patch_widths m patch ready widths fits.1)
leaves_widths (call.PatchInterface patch) m n ready widths known is =
    let fits = allowed_fits m (call.PatchInterface patch) ready.taken known in
    widths_is (configured (patched_interface m patch) (call.PatchInterface patch)) n is (links_widths m patch ready widths fits.0 fits.1)
leaves_widths (call.PatchBalloon patch) m n ready widths known is =
    let it : ApiCall = call.PatchBalloon patch in
    let taken = changed_taken m.config it ready.taken (allowed_fits m it ready.taken known) in
    widths_is (configured (patched_balloon m patch) it) n is (amount_widths m patch ready widths taken)
leaves_widths (call.PatchStatistics patch) m n ready widths known is =
    let it : ApiCall = call.PatchStatistics patch in
    let taken = changed_taken m.config it ready.taken (allowed_fits m it ready.taken known) in
    widths_is (configured (patched_statistics m patch) it) n is (interval_widths m patch ready widths taken)
leaves_widths call.InstanceStart m n ready widths known is =
    let none = (not_refused (start_refusal m.config m.saved) (Ok call.InstanceStart) call.InstanceStart known.contents).0 in
    widths_is (configured (started_from (image_of m) (disk_of m) m) call.InstanceStart) n is
    (start_widths (image_of m) m ready widths refl none (λ on. allowed_later m call.InstanceStart on known))
leaves_widths (call.PatchVm Paused) m n ready widths known is =
    widths_is (record m { guest = halted m.paused m.guest; paused = true }) n is
    (record { lineage = widths.lineage; guest = halted_widths m m.paused m.guest ready widths.guest })
leaves_widths (call.PatchVm Resumed) m n ready widths known is =
    widths_is (record m { paused = false }) n is (record { lineage = widths.lineage; guest = widths.guest })
leaves_widths (call.CreateSnapshot it) m n ready widths known (kept, x) =
    create_widths m.guest m it kept n ready widths widths.guest x
leaves_widths (call.LoadSnapshot load) m n ready widths known x =
    let held = files_by m m.guest refl (λ on. allowed_later m (call.LoadSnapshot load) on known) widths.guest in
    load_widths (found m.saved load.files) m load n refl widths held x
leaves_widths (call.PutMetadata body) m n ready widths known x = store_widths (put body) m n widths x
leaves_widths (call.PatchMetadata patch) m n ready widths known x = store_widths (patched m.metadata patch) m n widths x
leaves_widths (call.Get part) m n ready widths known is = widths_is m n is widths
leaves_widths it m n ready widths known is =
    widths_is (configured m it) n is (configures m it widths (λ on. allowed_later m it on known))

result_widths : (result : Result ApiCall Refusal) (given : Next) (m : Machine) (kept : List Device) (n : Machine) → Ready m → HasWidths m
    → allowed m given ≡ result → LeavesBy m result kept n → HasWidths n
result_widths (Ok it) given m kept n ready widths is x =
    leaves_widths it m n ready widths (allowed_is m given it is) (leaves_of it m kept n x)
result_widths (Err why) given m kept n ready widths is x = widths_is m n x.1 widths

pub keeps_widths : (kept : List Device) (given : Next) (m : Machine) (said : List Response) (n : Machine) → Ready m → HasWidths m
    → RequestStep (Answered kept) given m said n → HasWidths n
keeps_widths kept given m said n ready widths x = result_widths (allowed m given) given m kept n ready widths refl x.1

-- ---- lines

conversation_widths : (outcomes : List Outcome) (c d : Connection) (m n : Machine) (said : List Response) → Ready m → HasWidths m
    → AreAnswered outcomes → Conversation RequestStep outcomes c m said d n → HasWidths n
conversation_widths [] c d m n said ready widths good (quiet, stays_so, none, is) = widths_is m n is widths
conversation_widths (Answered kept ∷ outcomes) c d m n said ready widths good (given, after, first, mid, rest, takes, step, more, text) =
    conversation_widths outcomes after d mid n rest (request_ready (Answered kept) given m first mid ready step)
    (keeps_widths kept given m first mid ready widths step) good more
conversation_widths (Failed left ∷ outcomes) c d m n said ready widths good x = absurd good
conversation_widths (NoMemory ∷ outcomes) c d m n said ready widths good x = absurd good

talks_widths : (bytes : List ℕ) (outcomes : List Outcome) (m n : Machine) (said : List Response) → Ready m → HasWidths m
    → AreAnswered outcomes → Talks bytes outcomes m said n → HasWidths n
talks_widths bytes outcomes m n said ready widths good (after, mid, talk, is) =
    let left = conversation_widths outcomes (arrived m.connection bytes) after m mid said ready widths good talk in
    widths_is (record mid { connection = after }) n is (record { lineage = left.lineage; guest = left.guest })

steps_widths : (guest : Option Guest) (paused : Bool) (actor : ActorId) (count : ℕ) (m n : Machine) (text : List ℕ) → Ready m → HasWidths m
    → ReadyBy m.config paused guest → WidthsBy m.saved m.config guest → StepsLine (running_by guest paused) actor count m text n
    → HasWidths n
steps_widths guest true actor count m n text ready widths own is x = widths_is m n x.1 widths
steps_widths None false actor count m n text ready widths own is x = widths_is m n x.1 widths
steps_widths (Some g) false actor count m n text ready widths own is x =
    by_either (is_actor g actor)
    (λ moves. widths_is (record m { guest = Some moves.end }) n moves.leaves
    (record {
      lineage = widths.lineage;
      guest = widths_made _ _ moves.entries g moves.end actor (few_pages m ready) own.sound is moves.made.made;
    }))
    (λ none. widths_is m n none.1 widths) x

replies_widths : (guest : Option Guest) (paused : Bool) (actor : ActorId) (given : Given) (m n : Machine) (text : List ℕ) → Ready m
    → HasWidths m → ReadyBy m.config paused guest → WidthsBy m.saved m.config guest → narrow.IsSmallGiven given
    → RepliesLine (running_by guest paused) actor given m text n → HasWidths n
replies_widths guest true actor given m n text ready widths own is small x = widths_is m n x.1 widths
replies_widths None false actor given m n text ready widths own is small x = widths_is m n x.1 widths
replies_widths (Some g) false actor given m n text ready widths own is small x =
    by_either (is_actor g actor)
    (λ wants. by_either (is_host_op wants.0)
    (λ host. by_either (is_given wants.0 given)
    (λ fit. widths_is (record m { guest = Some fit.end }) n fit.leaves
    (record {
      lineage = widths.lineage;
      guest = widths_next _ (few_pages m ready) _ g (record { actor = actor; given = given }) fit.entry fit.end own.sound is fit.step small;
    }))
    (λ unfit. widths_is m n unfit.1 widths) host)
    (λ none. widths_is m n none.1 widths) wants.2)
    (λ none. widths_is m n none.1 widths) x

register_widths : (guest : Option Guest) (hart number : ℕ) (m n : Machine) (text : List ℕ) → HasWidths m
    → RegisterLine guest hart number m text n → HasWidths n
register_widths None hart number m n text widths x = widths_is m n x.1 widths
register_widths (Some g) hart number m n text widths x =
    by_either (is_actor g (HartId hart)) (λ shows. widths_is m n shows.1 widths) (λ none. widths_is m n none.1 widths) x

memory_widths : (guest : Option Guest) (at len : ℕ) (m n : Machine) (text : List ℕ) → HasWidths m → MemoryLine guest at len m text n
    → HasWidths n
memory_widths None at len m n text widths x = widths_is m n x.1 widths
memory_widths (Some g) at len m n text widths x =
    by_either (is_ram (length g.memory.bytes) at len) (λ shows. widths_is m n shows.1 widths) (λ none. widths_is m n none.1 widths) x

-- a file of bytes more
file_widths : (m : Machine) (name content : List ℕ) (guest : Option Guest) → IsBytes content → WidthsBy m.saved m.config guest
    → WidthsBy (insert m.saved name content) m.config guest
file_widths m name content (Some g) bytes is = is
file_widths m name content None bytes is =
    λ other text there. each_after IsBytes m.saved name content other text bytes (is other) there

pub item_widths : (it : Item) (outcomes : List Outcome) (m n : Machine) (text : List ℕ) → Ready m → HasWidths m → IsSmallItem it
    → AreAnswered outcomes → ItemStep it outcomes m text n → HasWidths n
item_widths (item.Bytes bytes) outcomes m n text ready widths small good x =
    talks_widths bytes outcomes m n x.0 ready widths good x.1
item_widths (item.Api method path body) outcomes m n text ready widths small good x =
    talks_widths (sent method path body) outcomes m n x.0 ready widths good x.1
item_widths item.Nothing outcomes m n text ready widths small good x = widths_is m n x.1.1 widths
item_widths (item.File name content) outcomes m n text ready widths small good x =
    widths_is (record m { saved = insert m.saved name content; calls = m.calls ++ save_calls name content }) n x.1.1
    (record { lineage = widths.lineage; guest = file_widths m name content m.guest small widths.guest })
item_widths (item.Lineage lineage) outcomes m n text ready widths small good x =
    widths_is (record m { ids = record m.ids { lineage = lineage } }) n x.1.1 (record { lineage = small; guest = widths.guest })
item_widths item.Connect outcomes m n text ready widths small good x =
    widths_is (record m { connection = _ }) n x.1.1 (record { lineage = widths.lineage; guest = widths.guest })
item_widths (item.Step actor count) outcomes m n text ready widths small good x =
    steps_widths m.guest m.paused actor count m n text ready widths ready.guest widths.guest x.1
item_widths (item.Reply actor reply) outcomes m n text ready widths small good x =
    replies_widths m.guest m.paused actor (reply_given reply) m n text ready widths ready.guest widths.guest small x.1
item_widths item.Console outcomes m n text ready widths small good x =
    widths_is (drained m) n x.1.1
    (record { lineage = widths.lineage; guest = drained_widths m m.guest ready widths.guest })
item_widths (item.Register hart number) outcomes m n text ready widths small good x =
    register_widths m.guest hart number m n text widths x.1
item_widths (item.Memory at len) outcomes m n text ready widths small good x = memory_widths m.guest at len m n text widths x.1

-- ---- there is a copy that fits

pub has_fields : (m : Machine) → Ready m → HasWidths m → HasFields m
has_fields m ready widths g there numbered =
    let had = guest_ready m g ready there in
    let own = reset_ready m.config m.paused g had in
    let within = bounded m.config ready.taken in
    let is = subst (λ (o : Option Guest). WidthsBy m.saved m.config o) there widths.guest in
    fitting_copy m.config (next_identity m) g had.sound own.sound own.ready within.mib
    (widths_reset _ _ (few_pages m ready) g is) widths.lineage numbered

-- a new machine, of files of bytes
pub new_widths : (id : List ℕ) (saved : Saved) (calls : List FileCall) → AreBytes saved → HasWidths (new_machine id saved calls)
new_widths id saved calls are = record { lineage = omega arith; guest = are }
