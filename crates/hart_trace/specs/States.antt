-- How a hart is kept inside an instruction, and where the steps of a trace lead it.
use Rattle.std.specs.Prelude.{ℕ, ◌≡◌, true, List, [], ◌∷◌, ◌++◌, Option, Some, None, length, if◌then◌else◌, Bool, false}
use Rattle.std.proofs.Common.{ap}
use Rattle.vm_types.specs.declared.op.Op.{Op}
use Rattle.vm_types.specs.declared.reply.Reply.{Reply}
use Rattle.vm_types.specs.declared.entry.Step.{Step}
use Rattle.vm_types.specs.Fits.{fits}
use Rattle.le_fields.specs.Fields.{little_endian}
use Rattle.rv_supervisor.specs.declared.regs.Regs.{Regs}
use Rattle.rv_supervisor.specs.declared.regs.Turn.{Turn}
use Rattle.hart_trace.specs.Traces.{fetch_fault}
use Rattle.rv_doing.specs.Doing.{asked, ended}
use Rattle.hart_trace.specs.Traces.{executes}
use Rattle.hart_trace.specs.Traces.{looked, opening, is_full, Lead, joined}

-- a hart: its registers before an instruction, and the instruction's word from its fetch to the reply that ends it
pub record Hart : Type 0 where
  pub regs : Regs
  pub begun : Option ℕ

-- a hart between two instructions
abbrev pub fresh : Regs → Hart
fresh r = record { regs = r; begun = None }

abbrev pub op_or_idle : Option Op → Op
op_or_idle (Some op) = op
op_or_idle None = Op.Idle

abbrev pub wants_by : Option ℕ → Regs → Op
wants_by None r = opening r.turn r
wants_by (Some word) r = op_or_idle (asked (executes word r))

abbrev pub hart_wants : Hart → Op
hart_wants h = wants_by h.begun h.regs

abbrev pub begins_by : Option Op → ℕ → Regs → Reply → Hart
begins_by (Some op) word r reply = record { regs = r; begun = Some word }
begins_by None word r reply = fresh (ended (executes word r) reply)

abbrev pub hart_fetched : Regs → Reply → Hart
hart_fetched r (Reply.Bytes piece) =
    begins_by (asked (executes (little_endian piece) r)) (little_endian piece) r (Reply.Bytes piece)
hart_fetched r reply = fresh (fetch_fault r)

abbrev pub turned_by : Turn → Regs → Reply → Hart
turned_by Turn.Fetch r reply = hart_fetched r reply
turned_by Turn.Look r reply = fresh (looked reply r)
turned_by Turn.WakeLook r reply = fresh (looked reply r)
turned_by Turn.Idle r reply = fresh (record r { turn = Turn.Look })
turned_by Turn.WakeIdle r reply = fresh (record r { turn = Turn.WakeLook })

abbrev pub stepped_by : Option ℕ → Regs → Reply → Hart
stepped_by None r reply = turned_by r.turn r reply
stepped_by (Some word) r reply =
    if is_full reply then record { regs = r; begun = Some word } else fresh (ended (executes word r) reply)

abbrev pub hart_stepped : Hart → Reply → Hart
hart_stepped h reply = stepped_by h.begun h.regs reply

-- a reply that doesn't fit leaves the hart
abbrev pub hart_next : Hart → Reply → Hart
hart_next h reply = if fits (hart_wants h) reply then hart_stepped h reply else h

pub hart_leaves : (h : Hart) (reply : Reply) → fits (hart_wants h) reply ≡ false → hart_next h reply ≡ h
hart_leaves h reply unfit = ap (λ (fit : Bool). if fit then hart_stepped h reply else h) unfit

-- replies Full to the op that is wanted
abbrev pub Waits : Op → List Step → Type 0
Waits op [] = Unit {0}
Waits op (s ∷ steps) = (s ≡ record { op = op; reply = Reply.Full }) × (fits op Reply.Full ≡ true) × Waits op steps

-- the steps of an instruction that is begun and not ended: the fetch of this word, which wants an access
abbrev pub Begins : Regs → ℕ → List Step → Type 0
Begins r word [] = ⊥
Begins r word (s ∷ steps) =
    (r.turn ≡ Turn.Fetch)
    × (piece : List ℕ) × (s ≡ record { op = Op.Read r.pc 4; reply = Reply.Bytes piece })
    × (length piece ≡ 4) × (little_endian piece ≡ word)
    × (op : Op) × (asked (executes word r) ≡ Some op) × Waits op steps

abbrev pub BegunBy : Option ℕ → Regs → List Step → Type 0
BegunBy None r steps = steps ≡ []
BegunBy (Some word) r steps = Begins r word steps

-- the steps lead from the registers at the start to this hart: whole groups, and then what is begun
abbrev pub LeadsTo : Regs → List Step → Hart → Type 0
LeadsTo start steps h =
    (groups : List (List Step)) × (part : List Step)
    × Lead start groups h.regs × BegunBy h.begun h.regs part × (joined groups ++ part ≡ steps)
