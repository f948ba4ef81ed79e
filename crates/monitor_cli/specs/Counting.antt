-- What the files' count of faults says of the acts.
use Rattle.std.specs.Prelude.{◌≡◌, ℕ, ◌+◌, List}
use Rattle.vm_types.specs.Causes.{RoseBy}
use Rattle.vm_types.specs.declared.exit.Exit.{Exit}
use Rattle.vm_types.specs.declared.exit.Object.TheVariants as object
use Rattle.flat_machine.specs.Outcome.{Outcome, failed_in}
use Rattle.flat_machine.specs.Run.{Act, AllAnswered, failures}
use Rattle.flat_machine.specs.Stops.{stop_failures}

-- where the machine answered every request, no call on the files failed: but for a file line's, and for one whose 500
-- found no memory
abbrev pub KeptBy : Exit → List Act → ℕ → ℕ → Type 0
KeptBy (Exit.Fault object.Files) acts before now = Unit {0}
KeptBy Exit.OutOfMemory acts before now = Unit {0}
KeptBy exit acts before now = AllAnswered acts → now ≡ before

-- each request that was answered 500 has a fault of its own, and so has a file line at which the files failed
pub record Counted (exit : Exit) (acts : List Act) (part : List Outcome) (before now : ℕ) : Type 0 where
  pub rose : RoseBy (failures acts + failed_in part + stop_failures exit) before now
  pub kept : KeptBy exit acts before now
