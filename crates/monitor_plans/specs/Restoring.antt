-- What a load comes to, by what the files hold.
use Rattle.std.specs.Prelude.{◌≡◌, ◌+◌, Bool, Ok, Err}
use Rattle.vm_types.specs.Saved.{Saved}
use Rattle.api_calls.specs.declared.call.SnapshotLoad.{SnapshotLoad}
use Rattle.flat_snapshot.specs.Carried.{carried_config, carried_guest}
use Rattle.snap_state.specs.Sections.{entropy_in}
use Rattle.flat_snapshot.specs.Found.{Snapshot, found}
use Rattle.vm_world.specs.Worlds.{IsWorld}
use Rattle.monitor_plans.specs.declared.plan.Plan.{Plan}
use Rattle.monitor_plans.specs.declared.plan.Plan.TheVariants as plan
use Rattle.monitor_plans.specs.declared.restoring.Restored.{Restored}

-- it goes on from this snapshot, and tracks dirty pages or doesn't
pub record GoesOn (r : Restored) (tracking : Bool) (it : Snapshot) : Type 0 where
  pub identity_is : r.identity ≡ it.identity
  pub next_is : r.next ≡ it.identity.number + 1
  pub config_is : r.config ≡ carried_config tracking it.copy.configuration (entropy_in it.copy.sections)
  pub guest_is : IsWorld r.guest (carried_guest it.copy it.bytes)

abbrev pub RestoreGives : Plan → SnapshotLoad → Saved → Type 0
RestoreGives (plan.Restores r) load saved =
    (it : Snapshot) × (found saved load.files ≡ Ok it) × GoesOn r load.track_dirty_pages it × (r.resumes ≡ load.resume_vm)
RestoreGives (plan.Refused why) load saved = found saved load.files ≡ Err why
RestoreGives plan.FilesFailed load saved = Unit {0}
RestoreGives plan.NoMemory load saved = Unit {0}
RestoreGives it load saved = ⊥
