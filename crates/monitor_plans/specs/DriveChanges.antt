-- What a PUT and a PATCH of a drive come to.
use Rattle.std.specs.Prelude.{◌≡◌, ℕ, true, List, Some, None, is_some}
use Rattle.std.specs.FinMap.{get}
use Rattle.vm_types.specs.Saved.{Saved}
use Rattle.api_calls.specs.declared.call.Drive.{Drive}
use Rattle.api_calls.specs.declared.call.DrivePatch.{DrivePatch}
use Rattle.vm_config.specs.declared.config.Config.{Config}
use Rattle.api_calls.specs.declared.call.ApiCall.TheVariants as call
use Rattle.vm_config.specs.Drives.{device_of, put_drive}
use Rattle.flat_machine.specs.Requests.{file_refusal, sectors_of}
use Rattle.monitor_plans.specs.declared.drive_changes.Resize.{Resize}
use Rattle.monitor_plans.specs.declared.plan.Plan.{Plan}
use Rattle.monitor_plans.specs.declared.plan.Plan.TheVariants as plan

abbrev pub DrivesGive : Plan → Config → Drive → Type 0
DrivesGive (plan.Drives drives) config drive = drives ≡ put_drive config.drives drive
DrivesGive plan.NoMemory config drive = Unit {0}
DrivesGive it config drive = ⊥

-- another file of a drive is there, and has so many whole sectors
pub record IsResize (r : Resize) (config : Config) (patch : DrivePatch) (saved : Saved) : Type 0 where
  pub patch_is : r.patch ≡ patch
  pub path : List ℕ
  pub path_is : patch.path_on_host ≡ Some path
  pub there : is_some (get saved path) ≡ true
  pub device_is : r.device ≡ device_of config.drives patch.drive_id
  pub sectors_is : r.sectors ≡ sectors_of (get saved path)

-- without another file a PATCH is a call that asks none
abbrev pub PatchGives : Plan → Config → DrivePatch → Saved → Type 0
PatchGives (plan.Resizes r) config patch saved = IsResize r config patch saved
PatchGives (plan.Changes it) config patch saved = (it ≡ call.PatchDrive patch) × (patch.path_on_host ≡ None)
PatchGives (plan.Refused why) config patch saved = file_refusal patch.path_on_host saved ≡ Some why
PatchGives plan.FilesFailed config patch saved = is_some patch.path_on_host ≡ true
PatchGives plan.NoMemory config patch saved = Unit {0}
PatchGives it config patch saved = ⊥
