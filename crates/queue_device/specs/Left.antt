-- What is left of a group, by what the code of a device is at.
use Rattle.std.specs.Prelude.{◌≡◌, ℕ, Bool, true, false, if◌then◌else◌, Option, Some, None}
use Rattle.vm_types.specs.declared.op.Op.{Op}
use Rattle.vm_types.specs.declared.reply.Reply.{Reply}
use Rattle.device_trace.specs.Script.{Script, Ends, Asks, perform}
use Rattle.device_trace.specs.Doing.{Doing, led}
use Rattle.vq_split.specs.Chain.{index_in}
use Rattle.vq_split.specs.Walking.{Walking, is_looking, look_left, walk_left}
use Rattle.dev_core.specs.declared.returning.UsedChain.{UsedChain}
use Rattle.dev_core.specs.Returning.{break_left, return_left}
use Rattle.queue_device.specs.declared.kind.Begin.{Begin}
use Rattle.queue_device.specs.declared.kind.Begin.TheVariants as begin
use Rattle.queue_device.specs.declared.lanes.Rounds.{Rounds}
use Rattle.queue_device.specs.declared.lanes.Which.{Which}
use Rattle.queue_device.specs.declared.phase.InHand.{InHand}
use Rattle.queue_device.specs.declared.phase.Phase.{Phase}
use Rattle.queue_device.specs.declared.phase.Phase.TheVariants as phase
use Rattle.queue_device.specs.Acting.{Acting, Acts, Comes}
use Rattle.queue_device.specs.Chains.{Taken}
use Rattle.queue_device.specs.Lanes.{lane_of}
use Rattle.queue_device.specs.Rounds.{answered, broken_off, during, given_back, index_shown, served, took, walk_from, walked}
use Rattle.queue_device.specs.Service.{Queued, Service}

-- the work that a kind has begun: the act that is wanted, and where a reply leads, behind a question, while a chain is
-- taken, and in its service
pub record Hand (E : Type 0) : Type 0 where
  pub op : Op
  pub answering : E → Reply → Acting E Bool
  pub taking : E → Reply → Acting E (Option Taken)
  pub serving : E → Reply → Acting E (Option ℕ)

-- how acts begin
abbrev pub begin_of : {E : Type 0} → Acting E (Option ℕ) → Begin
begin_of (Comes e len) = begin.Comes len
begin_of (Acts e op on) = begin.Wants op

-- the chain in hand, as it is given back with so many bytes written
abbrev pub used_chain : InHand → ℕ → Rounds → UsedChain
used_chain c len r =
    record { queue = c.queue; len = len; used = (lane_of c.which r).used; head = c.head; port = r.port }

abbrev pub queued : {E : Type 0} → Rounds → E → Queued E
queued r e = record { rounds = r; own = e }

abbrev pub is_between : Phase → Bool
is_between phase.Between = true
is_between phase = false

module _ {E : Type 0} (s : Service E) where
  -- the reply to the look that counts shows whether there is a chain
  abbrev pub walk_shown : Which → Walking → Reply → Queued E → Queued E
  walk_shown k walk reply d = if is_looking walk.stage then index_shown s k walk.next (index_in reply) d else d

  -- a walk that looks at the ring still isn't begun
  abbrev pub walk_on : Which → Walking → Option (Doing ℕ) → Queued E → Script (Queued E)
  walk_on k walk (Some look) d = walk_from s k walk.next walk.queue look d
  walk_on k walk None d = perform (walk_left walk) d (walked s k walk.queue)

  -- and where a reply leads it
  abbrev pub walk_led : Which → Walking → Reply → Option (Doing ℕ) → Queued E → Script (Queued E)
  walk_led k walk reply (Some look) d = walk_from s k walk.next walk.queue (led look reply) d
  walk_led k walk reply None d = perform (led (walk_left walk) reply) d (walked s k walk.queue)

  abbrev pub left_at : Phase → Hand E → Queued E → Script (Queued E)
  left_at phase.Between h d = Ends d
  left_at phase.Question h d = Asks d h.op (λ e reply. during (h.answering e.own reply) e.rounds (answered s))
  left_at (phase.Walk k walk) h d = walk_on k walk (look_left walk.stage walk.queue walk.next) d
  left_at (phase.Take c) h d =
      Asks d h.op (λ e reply. during (h.taking e.own reply) e.rounds (took s c.which c.queue c.head))
  left_at (phase.Serve c) h d =
      Asks d h.op (λ e reply. during (h.serving e.own reply) e.rounds (served s c.which c.queue c.head))
  left_at (phase.Return c len stage) h d =
      perform (return_left stage (used_chain c len d.rounds)) d (λ e done. Ends (given_back s c.which e))
  left_at (phase.Break k stage) h d =
      perform (break_left stage d.rounds.port) d (λ e done. Ends (broken_off s k e))

  -- inside a group: this act is wanted, and a reply leads on by the data of that moment, whatever the kind's data are now
  abbrev pub Holds : Phase → Hand E → Rounds → Op → Type 0
  Holds p h r op =
      (on : Queued E → Reply → Script (Queued E))
      × ((e : E) → left_at p h (queued r e) ≡ Asks (queued r e) op on)
