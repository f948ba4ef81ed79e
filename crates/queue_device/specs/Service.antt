-- What a kind of device has of its own, beside its queues.
use Rattle.std.specs.Prelude.{ℕ, Bool, Option, List}
use Rattle.vm_types.specs.declared.op.Op.{Op}
use Rattle.vm_types.specs.declared.reply.Reply.{Reply}
use Rattle.vq_split.specs.declared.queue.Part.{Part}
use Rattle.dev_core.specs.Pieces.{Got}
use Rattle.queue_device.specs.declared.lanes.Rounds.{Rounds}
use Rattle.queue_device.specs.declared.lanes.Which.{Which}
use Rattle.queue_device.specs.Acting.{Acting}
use Rattle.queue_device.specs.Chains.{Chain, Taken}

-- the data of a device: its rounds, and its kind's own data
pub record Queued (E : Type 0) : Type 0 where
  pub rounds : Rounds
  pub own : E

-- A kind of device by its own data. Whatever is asked is judged by the data of that moment.
pub record Service (E : Type 0) : Type 0 where
  -- the last of its queues
  pub last : Which
  -- Under DRIVER_OK a round asks the host object first, where the kind may ask it at all and there is something to ask: by
  -- which act, and whether its answer is that something was received.
  pub may_ask : Bool
  pub asks : E → Bool
  pub question : E → Op
  pub answer : E → Reply → Acting E Bool
  -- the next chain of the queue is wanted, which was kicked or wasn't
  pub wants_chain : Which → Bool → E → Bool
  -- the available ring shows a chain, which is so begun
  pub begun : Which → E → E
  -- what is kept of a chain of these parts, with what is read of it before it may be served; none breaks the queue
  pub take : Which → List Part → E → Acting E (Option Taken)
  -- a chain of which these parts and this are kept may be served
  pub is_taken : Which → List Part → Got → Bool
  -- guest time is asked for a chain that was taken
  pub is_timed : Which → Chain → E → Bool
  -- at that guest time in nanoseconds it passes, and leaves such data; else it waits
  pub passes : Which → Chain → ℕ → E → Option E
  -- its service, and how many bytes were written; none breaks the queue
  pub serve : Which → Chain → E → Acting E (Option ℕ)
  -- the chain was given back, or the queue was found broken
  pub over : Which → E → E
  -- the driver reset the device
  pub reset : E → E
