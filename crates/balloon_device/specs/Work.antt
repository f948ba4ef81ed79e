-- What a balloon has to do still, by what its code keeps.
use Rattle.std.specs.Prelude.{ℕ, ◌≡◌, ◌+◌, ◌*◌, ◌^◌, ◌<◌, ◌≤◌, ◌==◌, nat_le, nat_lt, Bool, true, false, ◌&&◌, if◌then◌else◌, Option, Some, None, IfSome, List, ◌++◌, length, replicate}
use Rattle.std.specs.List.{All}
use Rattle.vm_types.specs.declared.op.Op.{Op}
use Rattle.vm_types.specs.declared.op.Op.TheVariants.{Read, Write}
use Rattle.vm_types.specs.declared.reply.Reply.{Reply}
use Rattle.device_trace.specs.Doing.{Doing, Gives, and_then, led}
use Rattle.le_fields.specs.Fields.{IsByte}
use Rattle.vq_split.specs.declared.queue.Part.{Part}
use Rattle.vq_split.specs.Chain.{is_inside}
use Rattle.vq_split.specs.Kept.{are_inside}
use Rattle.dev_core.specs.declared.collect.Collect.{Collect}
use Rattle.dev_core.specs.Pieces.{place, room}
use Rattle.queue_device.specs.declared.kind.Begin.{Begin}
use Rattle.queue_device.specs.declared.kind.Begin.TheVariants as begin
use Rattle.queue_device.specs.declared.lanes.Which.{Which}
use Rattle.queue_device.specs.declared.lanes.Which.TheVariants.{First, Third}
use Rattle.queue_device.specs.declared.phase.Work.{Work}
use Rattle.queue_device.specs.declared.phase.Work.TheVariants as work
use Rattle.device_trace.specs.Script.{Script}
use Rattle.queue_device.specs.Acting.{Acting, Comes, performing}
use Rattle.queue_device.specs.Left.{Hand}
use Rattle.queue_device.specs.Resuming.{HasKept}
use Rattle.queue_device.specs.Service.{Queued}
use Rattle.balloon_device.specs.declared.kind.Stage.{Stage}
use Rattle.balloon_device.specs.declared.kind.Stage.TheVariants as stage
use Rattle.balloon_device.specs.declared.statistics.Statistics.{Statistics}
use Rattle.balloon_device.specs.Balloon.{Balloon, balloon, pages_done, tags_done}
use Rattle.balloon_device.specs.Pages.{all_zeroed, zeros}
use Rattle.balloon_device.specs.Pieces.{read_all}
use Rattle.balloon_device.specs.Statistics.{Telling, all_told, known_tags}

-- its data, and its work
pub record Kept : Type 0 where
  pub own : Balloon
  pub stage : Stage

-- the pages whose numbers are held are zeroed, and then the parts that are left are read
abbrev pub list_left : ℕ → Collect → Doing (List ℕ)
list_left pages list =
    and_then (all_zeroed pages list.held)
    (λ begun. read_all (λ begun piece. all_zeroed pages (begun ++ piece)) begun list.from)

-- so many writes of a page come before that
abbrev pub zeros_left : ℕ → Collect → ℕ → ℕ → Doing (List ℕ)
zeros_left pages list count at = and_then (zeros count at) (λ done. list_left pages list)

-- what is held is told too, and the parts that are left
abbrev pub tags_left : Collect → Statistics → Doing Statistics
tags_left from s =
    and_then
    (read_all (λ (t : Telling) piece. Gives (all_told (t.begun ++ piece) t.so_far)) (all_told from.held s) from.from)
    (λ t. Gives t.so_far)

-- a stage has something to want
abbrev pub IsStage : Stage → Type 0
IsStage stage.Rest = Unit {0}
IsStage (stage.List list pages) = (length list.held < 4) × (0 < room list.from)
IsStage (stage.Zeros list pages left at) = (0 < left) × (at + 64 * left ≤ 2 ^ 45)
IsStage (stage.Tags from s) = (length from.held < 10) × (0 < room from.from)

-- the same as a test
abbrev pub is_open : ℕ → Collect → Bool
is_open most from = nat_lt (length from.held) most && nat_lt 0 (room from.from)

abbrev pub is_stage : Stage → Bool
is_stage stage.Rest = true
is_stage (stage.List list pages) = is_open 4 list
is_stage (stage.Zeros list pages left at) = nat_lt 0 left && nat_le (at + 64 * left) (2 ^ 45)
is_stage (stage.Tags from s) = is_open 10 from

abbrev pub has_stage : Kept → Bool
has_stage k = is_stage k.stage

-- what keeps these, if there may be such a one
abbrev pub kept_from : Kept → Option Kept
kept_from k = if has_stage k then Some k else None

abbrev pub op_of : Stage → Op
op_of stage.Rest = Op.Idle
op_of (stage.List list pages) = Read (place list.from) (room list.from)
op_of (stage.Zeros list pages left at) = Write at (replicate 64 0)
op_of (stage.Tags from s) = Read (place from.from) (room from.from)

abbrev pub serving_of : Stage → Balloon → Reply → Acting Balloon (Option ℕ)
serving_of (stage.List list pages) e reply = performing (led (list_left pages list) reply) e pages_done
serving_of (stage.Zeros list pages left at) e reply = performing (led (zeros_left pages list left at) reply) e pages_done
serving_of (stage.Tags from s) e reply = performing (led (tags_left from s) reply) e tags_done
serving_of stage.Rest e reply = Comes e None

abbrev pub hand_of : Stage → Hand Balloon
hand_of s = record {
  op = op_of s;
  answering = λ e reply. Comes e false;
  taking = λ e reply. Comes e None;
  serving = serving_of s;
}

-- bytes are left to read, inside RAM, with fewer than so many that are held
abbrev pub is_reading : ℕ → ℕ → Collect → Bool
is_reading pages most from =
    nat_lt (length from.held) most && nat_lt 0 (room from.from) && are_inside pages from.from && nat_le (length from.from) 256

-- writes of one page are left, inside RAM, and so are the parts that are read after them
abbrev pub is_zeroing : ℕ → Collect → ℕ → ℕ → Bool
is_zeroing pages list left at =
    nat_lt 0 left && nat_le left 64 && is_inside pages at (64 * left) && nat_lt (length list.held) 64 && are_inside pages list.from
    && nat_le (length list.from) 256

-- the stages that a balloon may be in while it serves a chain, by the chain's queue
abbrev pub is_serving : Which → ℕ → Stage → Bool
is_serving First pages (stage.List list n) = (n == pages) && is_reading pages 4 list
is_serving First pages (stage.Zeros list n left at) = (n == pages) && is_zeroing pages list left at
is_serving Third pages (stage.Tags from s) = is_reading pages 10 from
is_serving k pages s = false

-- the stages that it may be in, by what its device is at
abbrev pub is_work : Work → ℕ → Stage → Bool
is_work work.Rest pages stage.Rest = true
is_work (work.Serve k) pages s = is_serving k pages s
is_work w pages s = false

-- whatever data it has
abbrev pub AnyBalloon : Balloon → Type 0
AnyBalloon e = Unit {0}

-- ---- the widths of what it keeps

-- each value that was told has 64 bits
abbrev pub IsSmallValue : Option ℕ → Type 0
IsSmallValue v = IfSome v (λ (value : ℕ). value < 2 ^ 64)

abbrev pub AreSmall : Statistics → Type 0
AreSmall s = (length s.values ≡ known_tags) × All IsSmallValue s.values

-- what is held are bytes
abbrev pub IsSmallStage : Stage → Type 0
IsSmallStage stage.Rest = Unit {0}
IsSmallStage (stage.List list pages) = All IsByte list.held
IsSmallStage (stage.Zeros list pages left at) = All IsByte list.held
IsSmallStage (stage.Tags from s) = All IsByte from.held × AreSmall s

-- what it is at, which is small where each reply was, `sized`
pub record SizedStage (sized : Bool) : Type 0 where
  pub stage : Stage
  pub small : sized ≡ true → IsSmallStage stage

abbrev pub sized_hand : (sized : Bool) → SizedStage sized → Hand Balloon
sized_hand sized g = hand_of g.stage

abbrev pub is_sized_work : (sized : Bool) → Work → ℕ → SizedStage sized → Bool
is_sized_work sized w pages g = is_work w pages g.stage

pub record IsSmallData (e : Balloon) : Type 0 where
  pub interval : e.interval < 2 ^ 16
  pub last : e.last < 2 ^ 64
  pub statistics : AreSmall e.statistics

abbrev pub IsSizedData : Bool → Balloon → Type 0
IsSizedData sized e = sized ≡ true → IsSmallData e

-- what is kept where this is left
abbrev pub BalloonKept : ℕ → ℕ → Script (Queued Balloon) → Type 0
BalloonKept port pages t = HasKept balloon hand_of is_work AnyBalloon false true port pages t

-- how the reading of parts begins
abbrev pub first_of : List Part → Begin
first_of parts = if room parts == 0 then begin.Comes (Some 0) else begin.Wants (Read (place parts) (room parts))
