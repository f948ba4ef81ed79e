-- What a network device has to do still, by what its code keeps.
use Rattle.std.specs.Prelude.{◌≡◌, ℕ, ◌+◌, ◌-◌, ◌*◌, ◌^◌, ◌==◌, ◌<◌, ◌≤◌, nat_le, nat_lt, ◌&&◌, Bool, true, false, if◌then◌else◌, Option, Some, None, List, length, take, drop}
use Rattle.std.specs.List.{All}
use Rattle.vm_types.specs.declared.op.Op.{Op}
use Rattle.vm_types.specs.declared.op.Op.TheVariants.{Read, Write, Out}
use Rattle.vm_types.specs.declared.op.OutOp.TheVariants.{LinkPart, LinkSend, LinkEnd}
use Rattle.vm_types.specs.declared.reply.Reply.{Reply}
use Rattle.device_trace.specs.Doing.{led}
use Rattle.le_fields.specs.Fields.{IsByte}
use Rattle.vq_split.specs.Kept.{are_inside}
use Rattle.dev_core.specs.Pieces.{place, put_all, room, share}
use Rattle.rate_gate.specs.Small.{AreSmallLimits}
use Rattle.queue_device.specs.declared.lanes.Which.TheVariants.{First, Second}
use Rattle.queue_device.specs.declared.phase.Work.{Work}
use Rattle.queue_device.specs.declared.phase.Work.TheVariants as work
use Rattle.device_trace.specs.Script.{Script}
use Rattle.queue_device.specs.Acting.{Acting, Comes, performing}
use Rattle.queue_device.specs.Left.{Hand}
use Rattle.queue_device.specs.Resuming.{HasKept}
use Rattle.queue_device.specs.Service.{Queued}
use Rattle.net_device.specs.declared.kind.Stage.{Stage}
use Rattle.net_device.specs.declared.kind.Stage.TheVariants as stage
use Rattle.net_device.specs.Frames.{header_size, is_frame, is_headed, piece_length, piece_sent, pieces, sending_all, taking}
use Rattle.net_device.specs.Net.{Net, net, received}

-- where its work is, with the frame that is taken from the link or written to the driver, behind its header
pub record AtWork : Type 0 where
  pub stage : Stage
  pub bytes : List ℕ

-- its data, and its work
pub record Kept : Type 0 where
  pub own : Net
  pub doing : AtWork

abbrev pub own_of : Kept → Net
own_of k = k.own

abbrev pub at_work : Kept → AtWork
at_work k = k.doing

-- a stage has something to want
abbrev pub IsAt : Stage → List ℕ → Type 0
IsAt stage.Rest bytes = Unit {0}
IsAt (stage.Take size index) bytes =
    (size ≤ 1514) × (index < pieces size) × (length bytes ≡ header_size + 64 * index)
IsAt (stage.Receive at to) bytes = 0 < share (drop at bytes) to
IsAt (stage.Read skip from) bytes = 0 < room from
IsAt (stage.Send piece skip from) bytes = 0 < length piece
IsAt stage.End bytes = Unit {0}

-- the same as a test
abbrev pub is_at : Stage → List ℕ → Bool
is_at stage.Rest bytes = true
is_at (stage.Take size index) bytes =
    nat_le size 1514 && nat_lt index (pieces size) && (length bytes == header_size + 64 * index)
is_at (stage.Receive at to) bytes = nat_lt 0 (share (drop at bytes) to)
is_at (stage.Read skip from) bytes = nat_lt 0 (room from)
is_at (stage.Send piece skip from) bytes = nat_lt 0 (length piece)
is_at stage.End bytes = true

abbrev pub has_stage : Kept → Bool
has_stage k = is_at k.doing.stage k.doing.bytes

-- what keeps these, if there may be such a one
abbrev pub kept_from : Kept → Option Kept
kept_from k = if has_stage k then Some k else None

abbrev pub op_of : Stage → List ℕ → Op
op_of stage.Rest bytes = Op.Idle
op_of (stage.Take length index) bytes = Out (LinkPart index (piece_length length index))
op_of (stage.Receive at to) bytes = Write (place to) (take (share (drop at bytes) to) (drop at bytes))
op_of (stage.Read skip from) bytes = Read (place from) (room from)
op_of (stage.Send piece skip from) bytes = Out (LinkSend piece)
op_of stage.End bytes = Out LinkEnd

abbrev pub answering_of : Stage → List ℕ → Net → Reply → Acting Net Bool
answering_of (stage.Take length index) bytes e reply =
    performing (led (taking (pieces length - index) length index bytes) reply) e received
answering_of stage bytes e reply = Comes e false

-- the frame was written, or sent
abbrev pub written : ℕ → Net → Acting Net (Option ℕ)
written len e = Comes e (Some len)

abbrev pub sent : Net → Acting Net (Option ℕ)
sent e = Comes e (Some 0)

abbrev pub serving_of : Stage → List ℕ → Net → Reply → Acting Net (Option ℕ)
serving_of (stage.Receive at to) bytes e reply =
    performing (led (put_all (drop at bytes) to) reply) e (λ f left. written (length bytes) f)
serving_of (stage.Read skip from) bytes e reply =
    performing (led (sending_all skip from) reply) e (λ f done. sent f)
serving_of (stage.Send piece skip from) bytes e reply =
    performing (led (piece_sent piece (sending_all skip from)) reply) e (λ f done. sent f)
serving_of stage.End bytes e reply = sent e
serving_of stage bytes e reply = Comes e None

abbrev pub hand_of : AtWork → Hand Net
hand_of a = record {
  op = op_of a.stage a.bytes;
  answering = answering_of a.stage a.bytes;
  taking = λ e reply. Comes e None;
  serving = serving_of a.stage a.bytes;
}

-- ---- where it may be, by what its device is at

-- no frame is on its way between the link and the driver
abbrev pub is_clear : List ℕ → Bool
is_clear bytes = length bytes == 0

abbrev pub is_stage : Work → ℕ → Stage → List ℕ → Bool
is_stage work.Rest pages stage.Rest bytes = is_clear bytes
is_stage work.Answer pages (stage.Take size index) bytes =
    is_frame size && nat_lt index (pieces size) && (length bytes == header_size + 64 * index)
is_stage (work.Serve First) pages (stage.Receive at to) bytes =
    nat_lt 0 (share (drop at bytes) to) && are_inside pages to && nat_le (length to) 256
is_stage (work.Serve Second) pages (stage.Read skip from) bytes =
    nat_lt 0 (room from) && are_inside pages from && nat_le (length from) 256 && is_clear bytes
is_stage (work.Serve Second) pages (stage.Send piece skip from) bytes =
    nat_lt 0 (length piece) && are_inside pages from && nat_le (length from) 256 && is_clear bytes
is_stage (work.Serve Second) pages stage.End bytes = is_clear bytes
is_stage w pages s bytes = false

abbrev pub is_work : Work → ℕ → AtWork → Bool
is_work w pages a = is_stage w pages a.stage a.bytes

-- whatever data it has
abbrev pub AnyNet : Net → Type 0
AnyNet e = Unit {0}

-- ---- the widths of what it keeps

-- the header and a frame, in bytes
abbrev pub IsSmallText : List ℕ → Type 0
IsSmallText bytes = (length bytes ≤ 1526) × All IsByte bytes × (is_headed bytes ≡ true)

-- what is still passed over has 64 bits, and a piece that is sent is one of bytes
abbrev pub IsSmallStage : Stage → Type 0
IsSmallStage (stage.Read skip from) = skip < 2 ^ 64
IsSmallStage (stage.Send piece skip from) = (length piece ≤ 64) × All IsByte piece × (skip < 2 ^ 64)
IsSmallStage s = Unit {0}

abbrev pub IsSmallWork : AtWork → Type 0
IsSmallWork a = IsSmallStage a.stage × IsSmallText a.bytes

-- what it is at, which is small where each reply was, `sized`
pub record SizedWork (sized : Bool) : Type 0 where
  pub work : AtWork
  pub small : sized ≡ true → IsSmallWork work

abbrev pub sized_hand : (sized : Bool) → SizedWork sized → Hand Net
sized_hand sized g = hand_of g.work

abbrev pub is_sized_work : (sized : Bool) → Work → ℕ → SizedWork sized → Bool
is_sized_work sized w pages g = is_work w pages g.work

pub record IsSmallData (e : Net) : Type 0 where
  pub text : IsSmallText e.text
  pub rx : AreSmallLimits e.rx
  pub tx : AreSmallLimits e.tx

abbrev pub IsSizedData : Bool → Net → Type 0
IsSizedData sized e = sized ≡ true → IsSmallData e

-- what is kept where this is left
abbrev pub NetKept : ℕ → ℕ → Script (Queued Net) → Type 0
NetKept port pages t = HasKept net hand_of is_work AnyNet false true port pages t
