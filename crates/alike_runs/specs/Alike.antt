-- Machines that are the same but for lineages. That no later list tells them apart is the law `any_later_run`.
use Rattle.std.specs.Prelude.{◌≡◌, ◌<◌, ℕ, ◌^◌, not, List, Some}
use Rattle.serde_json.specs.Data.{null}
use Rattle.api_calls.specs.declared.call.SnapshotLoad.{SnapshotLoad}
use Rattle.flat_guest.specs.Guest.{Guest}
use Rattle.flat_guest.specs.Same.{AreAlike}
use Rattle.flat_machine.specs.Machine.{Machine}
use Rattle.alike_runs.specs.Files.{AlikeCalls, AlikeFiles}
use Rattle.alike_runs.specs.Twins.{AlikeBase, AreTwins, Twins}

-- one body is both guests', and the same pages were written in both
pub record AlikeGuests (g h : Guest) : Type 0 where
  pub same : AreAlike g h
  pub written : (i : ℕ) → g.written i ≡ h.written i

-- Both have 64 bits, or neither has: so where one can write its identities to files, the other can.
abbrev pub AlikeLineages : ℕ → ℕ → Type 0
AlikeLineages a b = (a < 2 ^ 64 → b < 2 ^ 64) × (b < 2 ^ 64 → a < 2 ^ 64)

-- Both have started, and made these snapshots since they are alike. All else is the same: but for the lineages, of which a
-- machine has its own, and those of these snapshots.
pub record Alike (twins : List Twins) (m n : Machine) : Type 0 where
  pub twins_are : AreTwins m.ids.next twins
  pub id : m.id ≡ n.id
  pub lineages : AlikeLineages m.ids.lineage n.ids.lineage
  pub next : m.ids.next ≡ n.ids.next
  pub base : AlikeBase twins m.ids.base n.ids.base
  pub config : m.config ≡ n.config
  pub metadata : m.metadata ≡ n.metadata
  pub connection : m.connection ≡ n.connection
  pub saved : AlikeFiles twins m.saved n.saved
  pub calls : AlikeCalls m.calls n.calls
  pub g : Guest
  pub h : Guest
  pub first : m.guest ≡ Some g
  pub second : n.guest ≡ Some h
  pub guests : AlikeGuests g h
  pub paused : m.paused ≡ n.paused

-- The machine that saved its guest, as a load of what it saved would have it: it has the id and the files of the machine that
-- loads, and no metadata; and whether it tracks pages, and stands still, is as the load says.
abbrev pub as_loaded : Machine → Machine → SnapshotLoad → Machine
as_loaded saver loader load = record saver {
  id = loader.id;
  config = record saver.config {
    machine = record saver.config.machine { track_dirty_pages = load.track_dirty_pages };
  };
  metadata = null;
  saved = loader.saved;
  calls = loader.calls;
  paused = not load.resume_vm;
}
