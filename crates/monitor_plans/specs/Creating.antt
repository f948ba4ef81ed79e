-- What a create comes to.
use Rattle.std.specs.Prelude.{◌≡◌, ◌≢◌, ◌+◌, true, length, Option}
use Rattle.vm_types.specs.declared.identity.Identity.{Identity}
use Rattle.api_calls.specs.declared.call.SnapshotFiles.{SnapshotFiles}
use Rattle.vm_config.specs.declared.config.Config.{Config}
use Rattle.flat_guest.specs.Changes.{reset_guest}
use Rattle.flat_guest.specs.Guest.{Guest}
use Rattle.file_format.specs.Versions.{current_version}
use Rattle.snap_state.specs.declared.copy.StateCopy.{StateCopy}
use Rattle.snap_state.specs.Files.{IsSaved}
use Rattle.flat_snapshot.specs.Copies.{IsCopyOf}
use Rattle.flat_snapshot.specs.Files.{head_of, saved_pages, state_body}
use Rattle.snap_writer.specs.Selected.{can_select, selected}
use Rattle.monitor_plans.specs.Headings.{numbers_in}
use Rattle.vm_world.specs.Worlds.{IsWorld, WorldValue}
use Rattle.monitor_plans.specs.declared.creating.Creation.{Creation}
use Rattle.monitor_plans.specs.declared.plan.Plan.TheVariants as plan
use Rattle.monitor_plans.specs.declared.plan.Task.{Task}
use Rattle.monitor_plans.specs.declared.plan.Task.TheVariants as task

-- What it writes is of the copy of each guest that the world is, as it is behind a Reset, which a state file can have, and since the
-- parent if there is one. The world has the pages of its numbers.
pub record IsCreation (c : Creation) (config : Config) (parent : Option Identity) (identity : Identity) (w : WorldValue)
    (names : SnapshotFiles) : Type 0 where
  pub names_is : c.names ≡ names
  pub identity_is : c.identity ≡ identity
  pub next_is : c.next ≡ identity.number + 1
  pub differ : names.mem_file_path ≢ names.snapshot_path
  pub there : can_select (numbers_in c.numbers) (length w.pages) ≡ true
  pub copy : StateCopy
  pub copied : (g : Guest) → IsWorld w g → IsCopyOf config (reset_guest g) copy
  pub saved : IsSaved current_version (record { identity = identity; copy = copy })
  pub head_is : (g : Guest) → IsWorld w g → c.head ≡ head_of parent identity copy.pages g
  pub pages_are : (g : Guest) → IsWorld w g
      → selected (numbers_in c.numbers) g.memory.bytes ≡ saved_pages parent copy.pages g
  pub body_is : c.body ≡ state_body identity copy

abbrev pub CreateGives : Task → Config → Option Identity → Identity → WorldValue → SnapshotFiles → Type 0
CreateGives (task.Create c) config parent identity w names = IsCreation c config parent identity w names
CreateGives (task.Plan plan.NoMemory) config parent identity w names = Unit {0}
CreateGives it config parent identity w names = ⊥
