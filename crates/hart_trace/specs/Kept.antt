-- The harts that a state file can have, and what a machine replies that leads from one to the next.
use Rattle.std.specs.Prelude.{ℕ, ◌≡◌, ◌<◌, ◌≤◌, ◌%◌, ◌^◌, true, length, Option, Some, None, is_some, bit_and}
use Rattle.std.specs.List.{All}
use Rattle.vm_types.specs.declared.op.Op.{Op}
use Rattle.vm_types.specs.declared.op.BoardOp.{BoardOp}
use Rattle.vm_types.specs.declared.op.BoardOp.TheVariants.{SetTimer, StartHart}
use Rattle.vm_types.specs.declared.reply.Reply.{Reply}
use Rattle.vm_types.specs.declared.reply.Shown.{Shown}
use Rattle.vm_types.specs.declared.reply.Shown.TheVariants.{Start}
use Rattle.le_fields.specs.Fields.{IsByte}
use Rattle.guest_memory.specs.Ram.{is_ram}
use Rattle.guest_memory.specs.Words.{width_of}
use Rattle.rv_supervisor.specs.declared.regs.Regs.{Regs}
use Rattle.rv_supervisor.specs.declared.regs.Turn.TheVariants as turn
use Rattle.rv_supervisor.specs.Csrs.{interrupts}
use Rattle.rv_doing.specs.Doing.{asked}
use Rattle.hart_trace.specs.Asks.{IsAligned}
use Rattle.hart_trace.specs.States.{Hart}
use Rattle.hart_trace.specs.Traces.{executes}

-- a number of 64 bits
abbrev pub IsWord : ℕ → Type 0
IsWord n = n < 2 ^ 64

-- ---- a hart, in a memory of this size

-- what it holds is a granule in RAM
abbrev pub IsHeld : ℕ → Option ℕ → Type 0
IsHeld size None = Unit {0}
IsHeld size (Some at) = (at % 8 ≡ 0) × (is_ram size at 8 ≡ true)

-- x1 to x31, and each register of its width; sie has the bits of interrupts alone, and the next look is within 32
-- instructions
pub record IsRegs (size : ℕ) (r : Regs) : Type 0 where
  pub many : length r.x ≡ 31
  pub x : All IsWord r.x
  pub pc : IsWord r.pc
  pub sie : bit_and r.sie interrupts ≡ r.sie
  pub stvec : IsWord r.stvec
  pub sscratch : IsWord r.sscratch
  pub sepc : IsWord r.sepc
  pub scause : IsWord r.scause
  pub stval : IsWord r.stval
  pub some : 1 ≤ r.count
  pub few : r.count ≤ 32
  pub held : IsHeld size r.held

-- the instruction that it has begun asks for an access, and is begun by its fetch
abbrev pub IsBegun : Option ℕ → Regs → Type 0
IsBegun None r = Unit {0}
IsBegun (Some word) r = (word < 2 ^ 32) × (r.turn ≡ turn.Fetch) × (is_some (asked (executes word r)) ≡ true)

pub record IsKept (size : ℕ) (h : Hart) : Type 0 where
  pub regs : IsRegs size h.regs
  pub aligned : IsAligned h.regs
  pub begun : IsBegun h.begun h.regs

-- ---- its acts, and what they are replied

-- what it writes are bytes, and what it gives the board are numbers of 64 bits
abbrev pub IsSmallAct : BoardOp → Type 0
IsSmallAct (SetTimer deadline) = IsWord deadline
IsSmallAct (StartHart hart pc word) = IsWord pc × IsWord word
IsSmallAct act = Unit {0}

abbrev pub IsSmallOp : Op → Type 0
IsSmallOp (Op.Write at piece) = All IsByte piece
IsSmallOp (Op.Board act) = IsSmallAct act
IsSmallOp op = Unit {0}

abbrev pub IsSmallShown : Shown → Type 0
IsSmallShown (Start pc number word) = IsWord pc × IsWord number × IsWord word
IsSmallShown shown = Unit {0}

-- what a machine with so much memory replies, besides that it fits: bytes and numbers of 64 bits, and to a load-reserved no
-- word but of RAM
abbrev pub IsReply : ℕ → Op → Reply → Type 0
IsReply size (Op.Lr at wide) (Reply.Word old) = is_ram size at (width_of wide) ≡ true
IsReply size (Op.Amo at value kind wide) (Reply.Word old) = Unit {0}
IsReply size op (Reply.Word value) = IsWord value
IsReply size op (Reply.Bytes piece) = All IsByte piece
IsReply size op (Reply.Returned error value) = IsWord error × IsWord value
IsReply size op (Reply.Shown shown) = IsSmallShown shown
IsReply size op reply = Unit {0}

-- ---- the same but for the widths of its numbers, which no test asks

-- the next look is within 32 instructions, sie has the bits of interrupts alone, and a granule in RAM is held
abbrev pub IsShape : ℕ → Regs → Type 0
IsShape size r = (1 ≤ r.count) × (r.count ≤ 32) × (bit_and r.sie interrupts ≡ r.sie) × IsHeld size r.held

abbrev pub IsAsking : Option ℕ → Regs → Type 0
IsAsking None r = Unit {0}
IsAsking (Some word) r = (r.turn ≡ turn.Fetch) × (is_some (asked (executes word r)) ≡ true)

pub record IsShaped (size : ℕ) (h : Hart) : Type 0 where
  pub regs : IsShape size h.regs
  pub aligned : IsAligned h.regs
  pub begun : IsAsking h.begun h.regs

-- to a load-reserved no word is replied but of RAM
abbrev pub IsRamReply : ℕ → Op → Reply → Type 0
IsRamReply size (Op.Lr at wide) (Reply.Word old) = is_ram size at (width_of wide) ≡ true
IsRamReply size op reply = Unit {0}
