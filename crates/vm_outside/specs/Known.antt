-- What is known of a host object, and what each call leaves of that.
use Rattle.std.specs.Prelude.{◌≡◌, ◌≤◌, ℕ, Bool, true, List, Result, OnErr, OnOk}
use Rattle.vm_types.specs.Causes.{Rose}
use Rattle.vm_types.specs.Saved.{Saved}
use Rattle.vm_outside.specs.Calls.{FileCall}

-- whether an object tells its content, and how many of its calls have failed
pub record Health : Type 0 where
  pub tells : Bool
  pub faults : ℕ

-- it tells its content; what is said of the content holds only then
abbrev pub Tells : Health → Type 0
Tells health = health.tells ≡ true

-- the bytes that a source has left
pub record SourceKnown : Type 0 where
  pub health : Health
  pub left : List ℕ

-- the bytes that a sink took
pub record SinkKnown : Type 0 where
  pub health : Health
  pub taken : List ℕ

-- what each name holds in files, and the calls that were done on them, the oldest first
pub record FilesKnown : Type 0 where
  pub health : Health
  pub saved : Saved
  pub calls : List FileCall

-- an object that told its content still does, and its count of faults has not fallen
pub record Lasts (before now : Health) : Type 0 where
  pub still : Tells before → Tells now
  pub later : before.faults ≤ now.faults

-- one call of an object: its count rose where the call failed, and only then
pub record Called {T E : Type 0} (before now : Health) (result : Result T E) : Type 0 where
  pub lasts : Lasts before now
  pub failed : OnErr result (Rose before.faults now.faults)
  pub kept : OnOk result (now.faults ≡ before.faults)
