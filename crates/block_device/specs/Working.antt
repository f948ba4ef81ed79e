-- What a block device has still to do in a chain, by what it keeps.
use Rattle.std.specs.Prelude.{◌≡◌, ◌<◌, ◌≤◌, ◌^◌, ℕ, Bool, true, false, Option, Some, None, List, [], length}
use Rattle.std.specs.List.{All}
use Rattle.vm_types.specs.declared.op.Op.{Op}
use Rattle.vm_types.specs.declared.op.Op.TheVariants.{Read}
use Rattle.vm_types.specs.declared.reply.Reply.{Reply}
use Rattle.device_trace.specs.Doing.{led}
use Rattle.le_fields.specs.Fields.{IsByte}
use Rattle.vq_split.specs.declared.queue.Part.{Part}
use Rattle.dev_core.specs.declared.collect.Collect.{Collect}
use Rattle.dev_core.specs.Collecting.{collect_left, nothing}
use Rattle.dev_core.specs.Pieces.{place, room}
use Rattle.rate_gate.specs.Small.{AreSmallLimits}
use Rattle.queue_device.specs.Acting.{Acting, Comes, performing}
use Rattle.queue_device.specs.Chains.{Taken}
use Rattle.queue_device.specs.Left.{Hand}
use Rattle.block_device.specs.declared.data.BlockData.{BlockData}
use Rattle.block_device.specs.declared.stage.ServiceStage.{ServiceStage}
use Rattle.block_device.specs.declared.stage.ServiceStage.TheVariants as stage
use Rattle.block_device.specs.declared.work.BlockStage.{BlockStage}
use Rattle.block_device.specs.declared.work.BlockStage.TheVariants as at
use Rattle.block_device.specs.Block.{headed}
use Rattle.block_device.specs.Serving.{IsStage, serving_left, serving_op}

-- what it is at, the bytes that are held with the parts that more are read from, and the parts that are still written
pub record Working : Type 0 where
  pub stage : BlockStage
  pub from : Collect
  pub to : List Part

abbrev pub op_at : BlockStage → Collect → List Part → Op
op_at at.Rest from to = Op.Idle
op_at at.Header from to = Read (place from.from) (room from.from)
op_at (at.Serve status stage) from to = serving_op stage from to status

abbrev pub taking_at : BlockStage → Collect → List Part → BlockData → Reply → Acting BlockData (Option Taken)
taking_at at.Header from to e reply =
    performing (led (collect_left 16 from) reply) e (λ f got. Comes f (Some (headed to got)))
taking_at stage from to e reply = Comes e None

abbrev pub serving_at : BlockStage → Collect → List Part → BlockData → Reply → Acting BlockData (Option ℕ)
serving_at (at.Serve status stage) from to e reply =
    performing (led (serving_left stage from to status) reply) e (λ f used. Comes f (Some used))
serving_at stage from to e reply = Comes e None

abbrev pub hand_of : Working → Hand BlockData
hand_of w = record {
  op = op_at w.stage w.from w.to;
  answering = λ e reply. Comes e false;
  taking = taking_at w.stage w.from w.to;
  serving = serving_at w.stage w.from w.to;
}

abbrev pub IsClear : Collect → List Part → Type 0
IsClear from to = (from ≡ nothing) × (to ≡ [])

-- a stage has something to want, and what isn't needed is clear: a header that isn't whole has a part to be read from, and
-- one for the status
abbrev pub IsAt : BlockStage → Collect → List Part → Type 0
IsAt at.Rest from to = IsClear from to
IsAt at.Header from to = (length from.held < 16) × (0 < room from.from) × (0 < length to)
IsAt (at.Serve status stage) from to = IsStage stage from to

-- its disk has less than 2^64 sectors
abbrev pub IsFine : BlockData → Type 0
IsFine e = e.sectors < 2 ^ 64

-- ---- the widths of what it keeps

-- the status is a byte, and the used length has 32 bits
abbrev pub IsSmallStage : ServiceStage → Type 0
IsSmallStage (stage.Status status used) = (status < 2 ^ 8) × (used < 2 ^ 32)
IsSmallStage stage = Unit {0}

abbrev pub IsSmallAt : BlockStage → Type 0
IsSmallAt (at.Serve place stage) = IsSmallStage stage
IsSmallAt stage = Unit {0}

-- at most 128 bytes are held
abbrev pub IsHeld : List ℕ → Type 0
IsHeld bytes = (length bytes ≤ 128) × All IsByte bytes

pub record IsSmallWork (w : Working) : Type 0 where
  pub held : IsHeld w.from.held
  pub stage : IsSmallAt w.stage

-- what it is at, which is small where each reply was, `sized`
pub record SizedWork (sized : Bool) : Type 0 where
  pub work : Working
  pub small : sized ≡ true → IsSmallWork work

abbrev pub sized_hand : (sized : Bool) → SizedWork sized → Hand BlockData
sized_hand sized w = hand_of w.work

-- what GET_ID gives of the drive are 20 bytes
abbrev pub IsSmallData : BlockData → Type 0
IsSmallData e = (length e.drive_id ≡ 20) × All IsByte e.drive_id × AreSmallLimits e.limits

abbrev pub IsSizedData : Bool → BlockData → Type 0
IsSizedData sized e = IsFine e × (sized ≡ true → IsSmallData e)
