-- A hart's trace: whole groups of steps, each leading from the registers before it to those after it.
use Rattle.std.specs.Prelude.{ℕ, ◌≡◌, nat_lt, if◌then◌else◌, Bool, true, false, MatchBool, List, [], ◌∷◌, ◌++◌}
use Rattle.vm_types.specs.declared.op.Op.{Op}
use Rattle.vm_types.specs.declared.op.BoardOp.TheVariants as board
use Rattle.vm_types.specs.declared.reply.Reply.{Reply}
use Rattle.vm_types.specs.declared.entry.Step.{Step}
use Rattle.vm_types.specs.Fits.{Fits}
use Rattle.le_fields.specs.Fields.{little_endian}
use Rattle.guest_memory.specs.Ram.{ram_start}
use Rattle.rv_rows.specs.declared.exception.Exception.TheVariants.{InstructionFault}
use Rattle.rv_supervisor.specs.declared.regs.Regs.{Regs}
use Rattle.rv_supervisor.specs.declared.regs.Turn.{Turn}
use Rattle.rv_supervisor.specs.Ends.{after_trap}
use Rattle.rv_doing.specs.Doing.{Doing, Ends, Asks}
use Rattle.rv_doing.specs.Does.{does}
use Rattle.hart_trace.specs.Looks.{looked_at}

-- no other reply fits a look
abbrev pub looked : Reply → Regs → Regs
looked (Reply.Shown shown) r = looked_at shown r
looked reply r = r

-- a fetch that faults: stval is its address
abbrev pub fetch_fault : Regs → Regs
fetch_fault r = after_trap InstructionFault r.pc r

-- What a word that was fetched does. There are no instructions below RAM: at a port or the board the fetch faults,
-- whatever it read.
abbrev pub executes : ℕ → Regs → Doing
executes word r = if nat_lt r.pc ram_start then Ends (fetch_fault r) else does word r

-- what the reply to a fetch makes the hart do: the instruction word has its low byte first (unprivileged manual, "Base
-- Instruction-Length Encoding")
abbrev pub fetched : Reply → Regs → Doing
fetched (Reply.Bytes piece) r = executes (little_endian piece) r
fetched reply r = Ends (fetch_fault r)

-- the op that begins a group: a fetch, a look where one is due, or a wait
abbrev pub opening : Turn → Regs → Op
opening Turn.Fetch r = Op.Read r.pc 4
opening Turn.Look r = Op.Board board.Look
opening Turn.WakeLook r = Op.Board board.Look
opening Turn.Idle r = Op.Idle
opening Turn.WakeIdle r = Op.Idle

-- what its reply makes the hart do; a wait is followed by its look
abbrev pub going : Turn → Regs → Reply → Doing
going Turn.Fetch r reply = fetched reply r
going Turn.Look r reply = Ends (looked reply r)
going Turn.WakeLook r reply = Ends (looked reply r)
going Turn.Idle r reply = Ends (record r { turn = Turn.Look })
going Turn.WakeIdle r reply = Ends (record r { turn = Turn.WakeLook })

abbrev pub is_full : Reply → Bool
is_full Reply.Full = true
is_full reply = false

-- what follows an instruction's fetch: nothing, or one access, which is repeated while the reply is Full
abbrev pub Completes : Doing → List Step → Regs → Type 0
Completes (Ends end) steps after = (steps ≡ []) × (end ≡ after)
Completes (Asks op ends) [] after = ⊥
Completes (Asks op ends) (s ∷ steps) after =
    (s.op ≡ op) × Fits op s.reply
    × MatchBool (is_full s.reply) (Completes (Asks op ends) steps after) ((steps ≡ []) × (ends s.reply ≡ after))

-- a group: a look, a wait, or an instruction with its fetch and at most one access
abbrev pub Group : Regs → List Step → Regs → Type 0
Group r [] after = ⊥
Group r (s ∷ steps) after =
    (s.op ≡ opening r.turn r) × Fits s.op s.reply × Completes (going r.turn r s.reply) steps after

-- whole groups, each from the registers that the one before it left
abbrev pub Lead : Regs → List (List Step) → Regs → Type 0
Lead r [] end = r ≡ end
Lead r (group ∷ groups) end = (after : Regs) × Group r group after × Lead after groups end

abbrev pub joined : List (List Step) → List Step
joined [] = []
joined (group ∷ groups) = group ++ joined groups

-- a hart's trace
abbrev pub HartTrace : Regs → List Step → Regs → Type 0
HartTrace start steps end = (groups : List (List Step)) × Lead start groups end × (joined groups ≡ steps)

-- the steps go on to a trace
abbrev pub IsPrefix : Regs → List Step → Type 0
IsPrefix start steps = (more : List Step) × (end : Regs) × HartTrace start (steps ++ more) end

-- the op continues the steps to a trace, with some reply and some steps behind it
abbrev pub Continues : Regs → List Step → Op → Type 0
Continues start steps op =
    (reply : Reply) × (more : List Step) × (end : Regs)
    × HartTrace start (steps ++ record { op = op; reply = reply } ∷ more) end
