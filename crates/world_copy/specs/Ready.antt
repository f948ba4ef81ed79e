-- A world of which each copy passes each test of a state file.
use Rattle.vm_config.specs.declared.config.Config.{Config}
use Rattle.flat_guest.specs.Guest.{Guest}
use Rattle.flat_guest.specs.Sound.{IsSound}
use Rattle.flat_snapshot.specs.Ready.{IsReady}
use Rattle.vm_world.specs.Worlds.{IsWorld, WorldValue}

-- it is a guest that is never stuck, and that has what is configured
pub record IsReadyWorld (config : Config) (w : WorldValue) : Type 0 where
  pub guest : Guest
  pub is : IsWorld w guest
  pub sound : IsSound guest
  pub ready : IsReady config guest
