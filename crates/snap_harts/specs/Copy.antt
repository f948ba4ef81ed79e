-- What a copy keeps of a hart: how its registers and what it is at are those of the hart's definition.
use Rattle.std.specs.Prelude.{◌≡◌, ℕ, Bool, true, false, Option, Some, None}
use Rattle.rv_supervisor.specs.declared.regs.Regs.{Regs}
use Rattle.rv_supervisor.specs.declared.regs.Turn.{Turn}
use Rattle.rv_supervisor.specs.declared.regs.Turn.TheVariants as turn
use Rattle.rv_supervisor.specs.declared.csr.HartCsr.TheVariants.{Sstatus}
use Rattle.rv_supervisor.specs.Csrs.{bit, csr_value}
use Rattle.hart_trace.specs.States.{Hart}
use Rattle.snap_harts.specs.declared.hart.SavedHart.{SavedHart}
use Rattle.snap_harts.specs.declared.hart.HartPlace.{HartPlace}
use Rattle.snap_harts.specs.declared.hart.HartPlace.TheVariants.{Begin, BeginWaiting, Idle, IdleWaiting, Access}

-- What a hart begins next. A look is due at a begin alone.
abbrev pub turn_of : Bool → HartPlace → Turn
turn_of false Begin = turn.Fetch
turn_of true Begin = turn.Look
turn_of due BeginWaiting = turn.WakeLook
turn_of due Idle = turn.Idle
turn_of due IdleWaiting = turn.WakeIdle
turn_of due (Access word) = turn.Fetch

-- the instruction that it has begun
abbrev pub begun_at : HartPlace → Option ℕ
begun_at (Access word) = Some word
begun_at _ = None

abbrev pub regs_of : SavedHart → Regs
regs_of h = record {
  x = h.x;
  pc = h.pc;
  sie = h.sie;
  stvec = h.stvec;
  sscratch = h.sscratch;
  sepc = h.sepc;
  scause = h.scause;
  stval = h.stval;
  count = h.count;
  held = h.held;
  status_sie = bit 1 h.sstatus;
  status_spie = bit 5 h.sstatus;
  turn = turn_of h.is_look_due h.place;
}

abbrev pub hart_of : SavedHart → Hart
hart_of h = record { regs = regs_of h; begun = begun_at h.place }

-- ---- and back: the copy of a hart

abbrev pub is_due : Turn → Bool
is_due turn.Look = true
is_due turn.WakeLook = true
is_due _ = false

abbrev pub place_of : Option ℕ → Turn → HartPlace
place_of (Some word) t = Access word
place_of None turn.Fetch = Begin
place_of None turn.Look = Begin
place_of None turn.WakeLook = BeginWaiting
place_of None turn.Idle = Idle
place_of None turn.WakeIdle = IdleWaiting

abbrev pub saved_hart : Hart → SavedHart
saved_hart h = record {
  x = h.regs.x;
  pc = h.regs.pc;
  sstatus = csr_value Sstatus h.regs;
  sie = h.regs.sie;
  stvec = h.regs.stvec;
  sscratch = h.regs.sscratch;
  sepc = h.regs.sepc;
  scause = h.regs.scause;
  stval = h.regs.stval;
  count = h.regs.count;
  is_look_due = is_due h.regs.turn;
  held = h.regs.held;
  place = place_of h.begun h.regs.turn;
}

-- an instruction is begun by its fetch alone
abbrev pub IsBegunByFetch : Hart → Type 0
IsBegunByFetch h = (word : ℕ) → h.begun ≡ Some word → h.regs.turn ≡ turn.Fetch
