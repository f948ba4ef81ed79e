-- What a hart may ask for, and where its accesses lie.
use Rattle.std.specs.Prelude.{ℕ, ◌≡◌, ◌≤◌, ◌+◌, ◌%◌, Bool, true, false, length}
use Rattle.vm_types.specs.declared.op.Op.{Op}
use Rattle.vm_types.specs.declared.op.BoardOp.{BoardOp}
use Rattle.vm_types.specs.declared.op.BoardOp.TheVariants.{Look, Time, SoftwarePending}
use Rattle.rv_rows.specs.declared.memory.Width.{Width}
use Rattle.rv_rows.specs.Loads.{width_bytes, atomic_bytes}
use Rattle.rv_supervisor.specs.declared.regs.Regs.{Regs}
use Rattle.sbi_calls.specs.Calls.{is_call_act}

-- an act on a host object
abbrev pub is_host_op : Op → Bool
is_host_op (Op.Out act) = true
is_host_op op = false

-- an act on a device's port
abbrev pub is_port_op : Op → Bool
is_port_op (Op.Port port act) = true
is_port_op op = false

-- the acts on the board that harts make: looks, accesses of time and sip, and calls of the supervisor binary interface
abbrev pub is_hart_board_op : BoardOp → Bool
is_hart_board_op Look = true
is_hart_board_op Time = true
is_hart_board_op (SoftwarePending clear set) = true
is_hart_board_op act = is_call_act act

-- what a hart may ask for: an access, one of those acts, or to wait
abbrev pub is_hart_op : Op → Bool
is_hart_op (Op.Board act) = is_hart_board_op act
is_hart_op (Op.Port port act) = false
is_hart_op (Op.Out act) = false
is_hart_op op = true

-- An access of 1, 2, 4 or 8 bytes at a multiple of their number. So all its bytes are in one granule of 8, and in one
-- page.
pub record IsNatural (at len : ℕ) : Type 0 where
  pub width : Width
  pub bytes : len ≡ width_bytes width
  pub aligned : at % len ≡ 0
  pub granule : at % 8 + len ≤ 8

abbrev pub IsNaturalOp : Op → Type 0
IsNaturalOp (Op.Read at len) = IsNatural at len
IsNaturalOp (Op.Write at piece) = IsNatural at (length piece)
IsNaturalOp (Op.Amo at value kind wide) = IsNatural at (atomic_bytes wide)
IsNaturalOp (Op.Lr at wide) = IsNatural at (atomic_bytes wide)
IsNaturalOp (Op.Sc at value wide) = IsNatural at (atomic_bytes wide)
IsNaturalOp op = Unit {0}

-- the instruction, and those that traps and returns go to, are at multiples of 4
abbrev pub IsAligned : Regs → Type 0
IsAligned r = (r.pc % 4 ≡ 0) × (r.stvec % 4 ≡ 0) × (r.sepc % 4 ≡ 0)
