-- A live machine, as contracts see it.
use Rattle.std.specs.Prelude.{ℕ, Bool, List, Option}
use Rattle.serde_json.specs.Data.{Data}
use Rattle.vm_config.specs.declared.config.Config.{Config}
use Rattle.api_rules.specs.declared.ids.Ids.{Ids}
use Rattle.vm_world.specs.Worlds.{WorldValue}

-- its id, its lineage with the snapshots that it knows, what was configured, the metadata, the guest once it has started,
-- and whether that stands still
pub record Live : Type 0 where
  pub id : List ℕ
  pub ids : Ids
  pub config : Config
  pub metadata : Data
  pub guest : Option WorldValue
  pub paused : Bool
