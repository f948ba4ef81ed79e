-- What a turn of a world comes to, or a part of one.
use Rattle.std.specs.Prelude.{◌≢◌, List, Option, Some}
use Rattle.pause_gate.specs.Tally.{Tally}
use Rattle.vm_world.specs.Worlds.{WorldValue}
use Rattle.monitor_running.specs.declared.ran.Ran.{Ran}
use Rattle.monitor_running.specs.declared.ran.Ran.TheVariants as ran
use Rattle.monitor_running.specs.Passes.{ArePassed}
use Rattle.monitor_running.specs.Ran.{IsRunning, Went}
use Rattle.monitor_running.specs.Reached.{Known}
use Rattle.monitor_running.specs.Staying.{StaysReady}

-- A part in which the gate isn't asked: how it went, and a machine that was ready is ready. That the gate is closed is no end of it.
pub record IsTurnPart (end : Option Ran) (old : Known) (w : WorldValue) (now : Known) (v : WorldValue) : Type 0 where
  pub went : Went IsRunning end old w now v
  pub ready : StaysReady w v
  pub unclosed : end ≢ Some ran.Closed

-- A turn, or a part in which the gate may be asked: the same, and what the passes know of the gate.
pub record IsTurn {Q : Type 0} (serves : Q → Type 0) (tally : Q → Tally) (end : Option Ran) (old : Known) (w : WorldValue)
    (before : List Q) (now : Known) (v : WorldValue) (after : List Q) : Type 0 where
  pub part : IsTurnPart end old w now v
  pub passes : ArePassed serves tally end before after
