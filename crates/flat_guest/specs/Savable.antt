-- A guest of whose memory, board, ports and harts a state file can have the copy.
use Rattle.std.specs.Prelude.{ℕ, ◌≡◌, ◌≤◌, ◌*◌, Some, length, slice_get}
use Rattle.std.specs.List.{All}
use Rattle.vm_types.specs.declared.ids.ActorId.{ActorId}
use Rattle.vm_types.specs.declared.ids.ActorId.TheVariants.{Hart as HartId, Device}
use Rattle.vm_types.specs.declared.op.Op.{Op}
use Rattle.guest_memory.specs.Kept as memory
use Rattle.guest_memory.specs.Ram.{page_size}
use Rattle.guest_memory.specs.Reserved.{hart_limit}
use Rattle.board_table.specs.Kept as board
use Rattle.port_table.specs.declared.state.PortState.{PortState}
use Rattle.port_table.specs.Sizes as port
use Rattle.rv_supervisor.specs.declared.regs.Regs.{Regs}
use Rattle.hart_trace.specs.Kept.{IsKept, IsSmallOp}
use Rattle.hart_trace.specs.States.{Hart, LeadsTo}
use Rattle.flat_guest.specs.Guest.{Guest}

-- each field of a port has its width, by the port's own kind
abbrev pub IsSizedPort : PortState → Type 0
IsSizedPort p = port.IsKept p.kind p

-- of so many pages and harts; each hart is such a one where its steps lead
pub record IsSavable (pages harts : ℕ) (g : Guest) : Type 0 where
  pub few : harts ≤ hart_limit
  pub memory : memory.IsKept pages harts g.memory
  pub board : board.IsKept harts g.board
  pub ports : All IsSizedPort g.ports
  pub many : length g.starts ≡ harts
  pub each : (k : ℕ) (start : Regs) (h : Hart) → slice_get g.starts k ≡ Some start
      → LeadsTo start (g.steps (HartId k)) h → IsKept (page_size * pages) h

-- a device that acts writes bytes, and gives the board numbers of 64 bits
abbrev pub IsSmallAct : ActorId → Op → Type 0
IsSmallAct (Device k) op = IsSmallOp op
IsSmallAct actor op = Unit {0}
