-- Which acts are a device's own.
use Rattle.std.specs.Prelude.{ℕ, ◌≡◌, ◌⊎◌, Bool, true, false}
use Rattle.vm_types.specs.declared.op.Op.{Op}
use Rattle.vm_types.specs.declared.op.BoardOp.{BoardOp}
use Rattle.vm_types.specs.declared.op.BoardOp.TheVariants.{RaiseLine, Time}
use Rattle.vm_types.specs.declared.op.OutOp.{OutOp}
use Rattle.vm_types.specs.declared.op.OutOp.TheVariants.{Clock, DiskRead, DiskWrite, DiskFlush}

-- of the board a device only raises its interrupt line
abbrev pub is_line_act : BoardOp → Bool
is_line_act RaiseLine = true
is_line_act act = false

-- the clock is the timer's; every other host object is some device's
abbrev pub is_device_call : OutOp → Bool
is_device_call Clock = false
is_device_call act = true

-- the calls of a disk
abbrev pub is_disk_call : OutOp → Bool
is_disk_call (DiskRead sector part) = true
is_disk_call (DiskWrite sector part piece) = true
is_disk_call DiskFlush = true
is_disk_call act = false

-- An act of the device at this port: a read or write of memory, an act on this port and on no other, the raising of its
-- line, a call of a host object, or a wait. The atomic accesses are the harts'.
abbrev pub IsOwnAct : ℕ → Op → Type 0
IsOwnAct port (Op.Read at len) = Unit {0}
IsOwnAct port (Op.Write at piece) = Unit {0}
IsOwnAct port (Op.Amo at value kind wide) = ⊥
IsOwnAct port (Op.Lr at wide) = ⊥
IsOwnAct port (Op.Sc at value wide) = ⊥
IsOwnAct port (Op.Port number act) = number ≡ port
IsOwnAct port (Op.Board act) = is_line_act act ≡ true
IsOwnAct port (Op.Out act) = is_device_call act ≡ true
IsOwnAct port Op.Idle = Unit {0}

-- of host objects it asks for these calls alone
abbrev pub AsksOnly : (OutOp → Bool) → Op → Type 0
AsksOnly calls (Op.Out act) = calls act ≡ true
AsksOnly calls op = Unit {0}

-- What a device at this port may ask: an act of its own, with these calls of host objects alone; and guest time, where it has
-- limits that need it.
abbrev pub IsAskedBy : Bool → (OutOp → Bool) → ℕ → Op → Type 0
IsAskedBy times calls port op = ((times ≡ true) × (op ≡ Op.Board Time)) ⊎ (IsOwnAct port op × AsksOnly calls op)
