-- The widths of what is kept of a device with queues, and of what it is replied.
use Rattle.std.specs.Prelude.{◌≡◌, ◌<◌, ◌≤◌, ◌^◌, ℕ, Bool, true, Option, Some, None, IfSome, length}
use Rattle.std.specs.List.{All}
use Rattle.vm_types.specs.declared.op.Op.{Op}
use Rattle.vm_types.specs.declared.port_look.QueueShown.{QueueShown}
use Rattle.vm_types.specs.declared.reply.Reply.{Reply}
use Rattle.vm_types.specs.Fits.{Fits}
use Rattle.le_fields.specs.Fields.{IsByte}
use Rattle.vq_split.specs.declared.queue.Queue.{Queue}
use Rattle.vq_split.specs.declared.walk.Stage.{Stage}
use Rattle.vq_split.specs.declared.walk.Stage.TheVariants.{Entry, EntryRest, Link}
use Rattle.queue_device.specs.declared.lanes.Lane.{Lane}
use Rattle.queue_device.specs.declared.phase.Phase.{Phase}
use Rattle.queue_device.specs.declared.phase.Phase.TheVariants as phase

-- ---- a reply: bytes, numbers and words of 64 bits, numbers of connections of 32, and queues whose sizes have 16

pub record IsSmallShown (q : QueueShown) : Type 0 where
  pub descriptors : q.descriptors < 2 ^ 64
  pub available : q.available < 2 ^ 64
  pub used : q.used < 2 ^ 64
  pub size : q.size < 2 ^ 16

abbrev pub IsSmallReply : Reply → Type 0
IsSmallReply (Reply.Word value) = value < 2 ^ 64
IsSmallReply (Reply.Bytes piece) = All IsByte piece
IsSmallReply (Reply.Port look) = IsSmallShown look.first × IsSmallShown look.second × IsSmallShown look.third
IsSmallReply (Reply.Opened connection) = connection < 2 ^ 32
IsSmallReply (Reply.Received piece connection) = (length piece ≤ 64) × All IsByte piece × (connection < 2 ^ 32)
IsSmallReply (Reply.Dialled connection) = connection < 2 ^ 32
IsSmallReply (Reply.Drawn word) = word < 2 ^ 64
IsSmallReply reply = Unit {0}

-- a reply fits its act, and is small where each one is
abbrev pub IsReplyTo : Bool → Op → Reply → Type 0
IsReplyTo sized op reply = Fits op reply × (sized ≡ true → IsSmallReply reply)

-- what an act writes are bytes
abbrev pub IsSmallWrite : Op → Type 0
IsSmallWrite (Op.Write at piece) = All IsByte piece
IsSmallWrite op = Unit {0}

-- ---- what is kept

pub record IsNarrowQueue (q : Queue) : Type 0 where
  pub descriptors : q.descriptors < 2 ^ 64
  pub available : q.available < 2 ^ 64
  pub used : q.used < 2 ^ 64
  pub size : q.size < 2 ^ 16

pub record IsNarrowLane (l : Lane) : Type 0 where
  pub queue : IfSome l.queue IsNarrowQueue
  pub next : l.next < 2 ^ 16
  pub used : l.used < 2 ^ 16

-- the number of a chain's first descriptor has 16 bits, and that of the bytes that were written, where each reply was small, 32
abbrev pub IsHead : ℕ → Type 0
IsHead head = head < 2 ^ 16

abbrev pub IsLength : Bool → Option ℕ → Type 0
IsLength sized None = Unit {0}
IsLength sized (Some len) = sized ≡ true → len < 2 ^ 32

abbrev pub IsNarrowStage : Stage → Type 0
IsNarrowStage (Link head at) = IsHead head
IsNarrowStage (Entry head table at) = IsHead head
IsNarrowStage (EntryRest head table at front) = IsHead head × All IsByte front
IsNarrowStage stage = Unit {0}

abbrev pub IsNarrowPhase : Phase → Type 0
IsNarrowPhase (phase.Walk k w) = IsNarrowStage w.stage
IsNarrowPhase (phase.Take c) = IsHead c.head
IsNarrowPhase (phase.Serve c) = IsHead c.head
IsNarrowPhase (phase.Return c len stage) = IsHead c.head × (len < 2 ^ 32)
IsNarrowPhase phase = Unit {0}
