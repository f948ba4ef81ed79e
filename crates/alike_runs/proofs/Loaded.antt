-- The machine that saved its guest, and one that loads what it saved.
use Rattle.std.proofs.Common.{◌≡◌, ◌<◌, ◌^◌, true, refl, sym, ap, subst, ◌∙◌, [], Option, Some, None, inl}
use Rattle.std.specs.FinMap.{get}
use Rattle.http_stream.specs.Stream.{Connection}
use Rattle.api_calls.specs.declared.call.BootSource as call
use Rattle.api_calls.specs.declared.call.SnapshotCreate.{SnapshotCreate}
use Rattle.api_calls.specs.declared.call.SnapshotLoad.{SnapshotLoad}
use Rattle.flat_guest.specs.Changes.{reset_guest}
use Rattle.flat_guest.specs.Guest.{Guest, unwritten}
use Rattle.flat_guest.specs.Same.{AreAlike}
use Rattle.snap_state.specs.declared.copy.StateCopy.{StateCopy}
use Rattle.snap_state.specs.Valid.{is_source}
use Rattle.snap_state.specs.Sections.{entropy_in}
use Rattle.snap_state.proofs.Sectioned.{entropy_told}
use Rattle.flat_snapshot.specs.Carried.{carried_config, carried_guest}
use Rattle.flat_snapshot.specs.Copies.{IsCopyOf, configuration_of, source_of}
use Rattle.flat_snapshot.proofs.Copied.{same_copy}
use Rattle.flat_machine.specs.Machine.{Machine}
use Rattle.flat_machine.specs.Ready.{Ready}
use Rattle.flat_machine.specs.Requests.{Creates, carried, created, next_identity, parent_in}
use Rattle.flat_machine.proofs.Ready.{guest_ready}
use Rattle.alike_runs.specs.Alike.{Alike, as_loaded}
use Rattle.alike_runs.proofs.Files.{file_same}
use Rattle.alike_runs.proofs.Lineages.{lineage_small}

-- what was booted is kept, where there is something that can be
source_kept : (source : Option call.BootSource) → is_source (source_of source) ≡ true
    → source ≡ Some (record {
      kernel_image_path = (source_of source).kernel_image_path;
      initrd_path = (source_of source).initrd_path;
      boot_args = (source_of source).boot_args;
    })
source_kept None is = absurd cc
source_kept (Some source) is = refl

module _ (m k : Machine) (had : Guest) (it : SnapshotCreate) (load : SnapshotLoad) (copied : StateCopy) (c : Connection) (ready : Ready m) (is_set : m.config.configured ≡ true)
    (there : m.guest ≡ Some had) (of : IsCopyOf m.config (reset_guest had) copied)
    (goes_on : AreAlike (unwritten (reset_guest had)) (carried_guest copied had.memory.bytes))
    (own : m.ids.lineage < 2 ^ 64) (loads : k.ids.lineage < 2 ^ 64) where
  abbrev saver : Machine
  saver = created m (reset_guest had) it.files (parent_in m it) copied

  config_is : (as_loaded saver k load).config ≡ carried_config load.track_dirty_pages (configuration_of m.config) m.config.entropy
  config_is =
      let own = (guest_ready m had ready there).ready.configured in
      λ i. record {
        boot_source = source_kept m.config.boot_source own.source i;
        drives = m.config.drives;
        interfaces = m.config.interfaces;
        vsock = m.config.vsock;
        machine = record m.config.machine { track_dirty_pages = load.track_dirty_pages };
        balloon = m.config.balloon;
        entropy = m.config.entropy;
        mmds = m.config.mmds;
        configured = is_set i;
      }

  copied_config : carried_config load.track_dirty_pages copied.configuration (entropy_in copied.sections) ≡ carried_config load.track_dirty_pages (configuration_of m.config) m.config.entropy
  copied_config =
      ap (λ (s : StateCopy). carried_config load.track_dirty_pages s.configuration (entropy_in s.sections)) of.3
      ∙ ap (carried_config load.track_dirty_pages (configuration_of m.config)) (entropy_told (reset_guest had).ports m.config.entropy)

  abbrev target : Machine
  target = carried k load (record { identity = next_identity m; copy = copied; bytes = had.memory.bytes })

  pub loaded_here : Alike [] (record (as_loaded saver k load) { connection = c }) (record target { connection = c })
  loaded_here = record {
    twins_are = tt;
    id = refl;
    lineages = (λ small. loads, λ small. own);
    next = refl;
    base = inl refl;
    config = config_is ∙ sym copied_config;
    metadata = refl;
    connection = refl;
    saved = λ name. file_same [] (get k.saved name);
    calls = refl;
    g = unwritten (reset_guest had);
    h = carried_guest copied had.memory.bytes;
    first = refl;
    second = refl;
    guests = record { same = goes_on; written = λ i. refl };
    paused = refl;
  }

pub loaded_alike : (m n k : Machine) (g : Guest) (it : SnapshotCreate) (load : SnapshotLoad) (copy : StateCopy) (c : Connection) → Ready m → m.config.configured ≡ true
    → k.ids.lineage < 2 ^ 64 → m.guest ≡ Some g → IsCopyOf m.config (reset_guest g) copy → Creates m.guest m it copy.devices n
    → AreAlike (unwritten (reset_guest g)) (carried_guest copy g.memory.bytes)
    → Alike [] (record (as_loaded n k load) { connection = c })
    (record (carried k load (record { identity = next_identity m; copy = copy; bytes = g.memory.bytes })) { connection = c })
loaded_alike m n k g it load copy c ready configured small there of creates goes_on =
    let made = subst (λ (o : Option Guest). Creates o m it copy.devices n) there creates in
    let same : made.0 ≡ copy = same_copy m.config (reset_guest g) made.0 copy made.2 made.1 of in
    let is : n ≡ created m (reset_guest g) it.files (parent_in m it) copy =
    made.4 ∙ ap (λ (s : StateCopy). created m (reset_guest g) it.files (parent_in m it) s) same in
    subst (λ (q : Machine). Alike [] (record (as_loaded q k load) { connection = c })
    (record (carried k load (record { identity = next_identity m; copy = copy; bytes = g.memory.bytes })) { connection = c }))
    (sym is) (loaded_here m k g it load copy c ready configured there of goes_on (lineage_small (next_identity m) made.3.fits.1.0) small)
