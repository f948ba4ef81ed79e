-- Which turns several harts make side by side, as a slice, and which one after another, in rotation, by what steers them.
use Rattle.std.specs.Prelude.{ℕ, zero, suc, ◌≡◌, ◌≢◌, ◌+◌, ◌/◌, ◌≤◌, ◌&&◌, nat_le, nat_lt, if◌then◌else◌, min, List, Option, Some, None, All, length}
use Rattle.pause_gate.specs.Tally.{Tally}
use Rattle.vm_types.specs.declared.entry.Entry.{Entry}
use Rattle.flat_guest.specs.Guest.{Guest}
use Rattle.vm_world.specs.Worlds.{IsWorld, WorldValue}
use Rattle.slice_runner.specs.declared.stop.Stopped.{Stopped}
use Rattle.slice_runner.specs.Slices.{IsSerial}
use Rattle.slice_runner.specs.Stops.{AreStopped}
use Rattle.monitor_machine.specs.declared.machine.LiveMachine.{LiveMachine}
use Rattle.monitor_machine.specs.Running.{running_world}
use Rattle.monitor_running.specs.declared.ran.Ran.{Ran}
use Rattle.monitor_running.specs.declared.ran.Ran.TheVariants as ran
use Rattle.monitor_running.specs.declared.steering.Steering.{Steering}
use Rattle.monitor_running.specs.Devices.{IsDevices}
use Rattle.monitor_running.specs.Passes.{ArePassed}
use Rattle.monitor_running.specs.Staying.{MayBeDrained}
use Rattle.monitor_running.specs.Waiting.{AllIdle, IsAlone}

-- each actor has a pass, and two harts at least have something to do
pub record AreSeveral (there : ℕ) (w : WorldValue) : Type 0 where
  pub few : length w.harts ≤ 32
  pub passes : length w.harts + 1 ≤ there
  pub some : AllIdle w → ⊥
  pub more : (k : ℕ) → IsAlone k w → ⊥

-- So many devices act in a slice for which there are so many passes: one that is alone, if each actor has a pass. Of two it isn't known
-- whether their calls are in the order of the slice's events.
abbrev pub acting_in : ℕ → WorldValue → ℕ
acting_in there w =
    if nat_le (length w.devices) 1 && nat_lt (length w.harts + length w.devices) there then length w.devices else 0

-- So many steps each actor makes in a slice at most, in which so many devices act: as many as are asked for, and all together 65,536.
abbrev pub slice_steps : ℕ → ℕ → WorldValue → ℕ
slice_steps steps devices w = min steps (65536 / (length w.harts + (devices + 1)))

abbrev pub steps_in : ℕ → ℕ → WorldValue → ℕ
steps_in steps there w = slice_steps steps (acting_in there w) w

-- A slice was made: each actor asked the gate with a pass of its own before each of its events. The console may be drained behind it.
pub record WasSliced {Q : Type 0} (tally : Q → Tally) (steps : ℕ) (old : WorldValue) (before : List Q) (new : WorldValue)
    (after : List Q) : Type 0 where
  pub events : List Entry
  pub stops : List Stopped
  pub mid : WorldValue
  pub serial : IsSerial old events mid
  pub stopped : AreStopped tally (steps_in steps (length before) old) (acting_in (length before) old) old events mid stops before after
  pub drained : MayBeDrained mid new

-- How a turn of harts was made, by what steered it before it, and what steers the next one. The pace has how many turns may be made in
-- rotation before the next slice.
pub data IsPaced {Q : Type 0} (tally : Q → Tally) (end : Option Ran) (was : Steering Q) (old : WorldValue) (now : Steering Q)
    (new : WorldValue) : Type 0 where
  -- where none may, a slice is: behind it so many may
  Slice : AreSeveral (length was.passes.items) old → was.pace.left ≡ 0 → now.pace.left ≤ 10000
      → WasSliced tally was.pace.steps old was.passes.items new now.passes.items → IsPaced tally end was old now new
  -- for which memory was wanting
  Lacking : end ≡ Some ran.OutOfMemory → now.pace.left ≡ was.pace.left → now.passes.items ≡ was.passes.items
      → IsPaced tally end was old now new
  -- else a rotation, which is one of them
  Rotation : AreSeveral (length was.passes.items) old → was.pace.left ≡ now.pace.left + 1 → IsPaced tally end was old now new
  -- no two harts have something to do
  Other : (AreSeveral (length was.passes.items) old → ⊥) → now.pace.left ≡ was.pace.left → IsPaced tally end was old now new

-- the passes are the same, and as many steps and rotations are left
pub record SteersAlike {Q : Type 0} (was now : Steering Q) : Type 0 where
  pub passes : now.passes.items ≡ was.passes.items
  pub steps : now.pace.steps ≡ was.pace.steps
  pub left : now.pace.left ≡ was.pace.left

-- the devices acted, unless they do beside the harts, and the console may be drained behind that
pub record HasActed (old new : WorldValue) : Type 0 where
  pub events : List Entry
  pub mid : WorldValue
  pub serial : IsSerial old events mid
  pub made : (g : Guest) → IsWorld old g → All IsDevices events
  pub drained : MayBeDrained mid new

-- a turn of a world: the devices act, and then the harts, unless that was the end
pub data IsWorldTurn {Q : Type 0} (tally : Q → Tally) (end : Option Ran) (was : Steering Q) (old : WorldValue) (now : Steering Q)
    (new : WorldValue) : Type 0 where
  Devices : end ≢ None → now.pace.left ≡ was.pace.left → now.passes.items ≡ was.passes.items → IsWorldTurn tally end was old now new
  Harts : (mid : WorldValue) (met : Steering Q) → HasActed old mid → SteersAlike was met → IsPaced tally end met mid now new
      → IsWorldTurn tally end was old now new

-- a turn of a machine: of its world, if its guest runs, and none where the guest is off
pub data IsMachineTurn {Q : Type 0} (tally : Q → Tally) (end : Option Ran) (was : Steering Q) (old : LiveMachine) (now : Steering Q)
    (new : LiveMachine) : Type 0 where
  Off : end ≡ Some ran.Off → now.pace.left ≡ was.pace.left → IsMachineTurn tally end was old now new
  Rest : running_world old.guest old.paused ≡ None → now.pace.left ≡ was.pace.left → IsMachineTurn tally end was old now new
  World : (w v : WorldValue) → running_world old.guest old.paused ≡ Some w → new ≡ record old { guest = Some v }
      → IsWorldTurn tally end was w now v → IsMachineTurn tally end was old now new

-- the gate was found open, with the first pass, and else nothing is another
pub record HasAsked {Q : Type 0} (serves : Q → Type 0) (tally : Q → Tally) (was now : Steering Q) : Type 0 where
  pub passes : ArePassed serves tally None was.passes.items now.passes.items
  pub pace : now.pace ≡ was.pace

-- So many turns were made one behind another, the gate was found open before each of them, and each went on. Behind a pace that is new
-- the first turn of several harts is a slice, and one of 10,001 is.
abbrev pub ArePaced : {Q : Type 0} → (Q → Type 0) → (Q → Tally) → ℕ → Steering Q → LiveMachine → Steering Q → LiveMachine → Type 0
ArePaced serves tally zero was old now new = (now ≡ was) × (new ≡ old)
ArePaced {Q} serves tally (suc n) was old now new =
    (before : Steering Q) × (asked : Steering Q) × (mid : LiveMachine)
    × ArePaced serves tally n was old before mid × HasAsked serves tally before asked × IsMachineTurn tally None asked mid now new

-- and then the gate was found closed, or one turn more was the end
pub data EndsPaced {Q : Type 0} (serves : Q → Type 0) (tally : Q → Tally) (end : Ran) (was : Steering Q) (old : LiveMachine)
    (now : Steering Q) (new : LiveMachine) : Type 0 where
  Shut : (n : ℕ) (before : Steering Q) → ArePaced serves tally n was old before new → now.pace ≡ before.pace
      → ArePassed serves tally (Some ran.Closed) before.passes.items now.passes.items → EndsPaced serves tally end was old now new
  Ended : (n : ℕ) (before asked : Steering Q) (mid : LiveMachine) → ArePaced serves tally n was old before mid
      → HasAsked serves tally before asked → IsMachineTurn tally (Some end) asked mid now new
      → EndsPaced serves tally end was old now new
