-- What a turn leaves of a ready machine.
use Rattle.std.specs.Prelude.{◌≡◌, ◌⊎◌, false, Some}
use Rattle.vm_world.specs.Worlds.{WorldValue}
use Rattle.monitor_machine.specs.Live.{Live}
use Rattle.monitor_machine.specs.Ready.{IsReadyLive}
use Rattle.monitor_running.specs.Items.{drained_world}

-- its console was drained, or it is the same
abbrev pub MayBeDrained : WorldValue → WorldValue → Type 0
MayBeDrained old new = (new ≡ old) ⊎ (new ≡ drained_world old)

-- a machine that runs and is ready with the one world is ready with the other
abbrev pub StaysReady : WorldValue → WorldValue → Type 0
StaysReady old new =
    (live : Live) → live.paused ≡ false → IsReadyLive (record live { guest = Some old })
    → IsReadyLive (record live { guest = Some new })
