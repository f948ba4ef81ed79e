-- What a device with queues may do, and which rounds there are.
use Rattle.std.specs.Prelude.{◌≡◌, ◌<◌, ◌^◌, ◌==◌, ℕ, Bool, true, false, ◌&&◌, Option, Some, None, List}
use Rattle.vm_types.specs.declared.op.Op.{Op}
use Rattle.vm_types.specs.declared.op.OutOp.{OutOp}
use Rattle.vm_types.specs.declared.reply.Reply.{Reply}
use Rattle.vm_types.specs.Fits.{Fits}
use Rattle.device_trace.specs.Acts.{IsAskedBy}
use Rattle.device_trace.specs.Keeps.{Stays}
use Rattle.device_trace.specs.Script.{Script}
use Rattle.device_trace.specs.Traces.{Changing}
use Rattle.vq_split.specs.declared.queue.Queue.{Queue}
use Rattle.vq_split.specs.declared.queue.Part.{Part}
use Rattle.vq_split.specs.Inside.{AreInside, IsInside}
use Rattle.vq_split.specs.Kept.{are_inside, is_sound}
use Rattle.vq_split.specs.Walking.{IsSound}
use Rattle.queue_device.specs.declared.lanes.Lane.{Lane}
use Rattle.queue_device.specs.declared.lanes.Rounds.{Rounds}
use Rattle.queue_device.specs.declared.lanes.Which.{Which}
use Rattle.queue_device.specs.declared.lanes.Which.TheVariants.{First, Second, Third}
use Rattle.queue_device.specs.Acting.{ActingKeeps}
use Rattle.queue_device.specs.Chains.{Chain, Taken}
use Rattle.queue_device.specs.Service.{Queued, Service}

-- An act of the device at this port, which asks its host object for these calls alone, or the question for guest time, where
-- it may ask it; and in a guest of fewer than 2^32 pages it touches no byte outside RAM.
abbrev pub IsDeviceAct : Bool → (OutOp → Bool) → ℕ → ℕ → Op → Type 0
IsDeviceAct times calls port pages op = (pages < 2 ^ 32 → IsInside pages op) × IsAskedBy times calls port op

-- the rounds are as they were
abbrev pub LeavesRounds : {E : Type 0} → Queued E → Queued E → Type 0
LeavesRounds d e = e.rounds ≡ d.rounds

module _ {E : Type 0} (s : Service E) where
  -- ---- rounds

  -- a chain that waits is of a sound queue, its parts lie inside RAM, and it may be served
  abbrev pub is_chain : ℕ → Which → Chain → Bool
  is_chain pages k c =
      (c.queue.pages == pages) && is_sound c.queue && are_inside pages c.parts && are_inside pages c.got.parts
      && s.is_taken k c.parts c.got

  abbrev pub is_waiting : ℕ → Which → Option Chain → Bool
  is_waiting pages k None = true
  is_waiting pages k (Some c) = is_chain pages k c

  abbrev pub is_queue : ℕ → Option Queue → Bool
  is_queue pages None = true
  is_queue pages (Some q) = q.pages == pages

  abbrev pub is_lane : ℕ → Which → Lane → Bool
  is_lane pages k l = is_queue pages l.queue && is_waiting pages k l.waiting

  abbrev pub are_lanes : ℕ → Rounds → Bool
  are_lanes pages r = is_lane pages First r.first && is_lane pages Second r.second && is_lane pages Third r.third

  -- the rounds of the device at this port of a guest of so many pages
  abbrev pub are_rounds : ℕ → ℕ → Rounds → Bool
  are_rounds port pages r = (r.port == port) && (r.pages == pages) && are_lanes pages r

  abbrev pub AreItsRounds : ℕ → ℕ → Rounds → Type 0
  AreItsRounds port pages r = (r.port ≡ port) × (pages < 2 ^ 32 → are_rounds port pages r ≡ true)

  abbrev pub HasRounds : ℕ → ℕ → Queued E → Type 0
  HasRounds port pages d = AreItsRounds port pages d.rounds

  -- what is still to be done of a group asks for no act but the device's own, whatever is replied and changed: guest time is
  -- asked by the first act of a group alone
  abbrev pub IsConfined : (OutOp → Bool) → ℕ → ℕ → Script (Queued E) → Type 0
  IsConfined calls port pages t =
      Stays (IsDeviceAct false calls port pages) (HasRounds port pages) (LeavesRounds {E = E}) t

  -- ---- what a kind owes

  -- what is kept of a chain that was taken lies inside RAM, and the chain may be served
  abbrev pub IsTaken : ℕ → Which → Option Taken → Type 0
  IsTaken pages k None = Unit {0}
  IsTaken pages k (Some t) =
      AreInside pages t.parts × AreInside pages t.got.parts × (s.is_taken k t.parts t.got ≡ true)

  -- a chain inside RAM, of a queue that a device may work on
  pub record IsChain (pages : ℕ) (k : Which) (c : Chain) : Type 0 where
    pub pages_are : c.queue.pages ≡ pages
    pub sound : IsSound c.queue
    pub parts : AreInside pages c.parts
    pub got : AreInside pages c.got.parts
    pub taken : s.is_taken k c.parts c.got ≡ true

  -- The kind's own acts are such, over a chain inside RAM; for none of its chains guest time is asked where it may not be; and
  -- what a change leaves out is answered as it may be.
  pub record Confines {C : Type 0} (changing : Changing E C) (times : Bool) (calls : OutOp → Bool) : Type 0 where
    pub question : (port pages : ℕ) (e : E) → IsDeviceAct false calls port pages (s.question e)
    pub answer : (port pages : ℕ) (before e : E) (reply : Reply) → Fits (s.question before) reply →
        ActingKeeps (IsDeviceAct false calls port pages) (λ (received : Bool). Unit {0}) (s.answer e reply)
    pub take : (port pages : ℕ) (k : Which) (parts : List Part) (e : E) → (pages < 2 ^ 32 → AreInside pages parts) →
        ActingKeeps (IsDeviceAct false calls port pages) (λ (t : Option Taken). pages < 2 ^ 32 → IsTaken pages k t)
        (s.take k parts e)
    pub serve : (port pages : ℕ) (k : Which) (c : Chain) (e : E) → (pages < 2 ^ 32 → IsChain pages k c) →
        ActingKeeps (IsDeviceAct false calls port pages) (λ (len : Option ℕ). Unit {0}) (s.serve k c e)
    pub untimed : times ≡ false → (k : Which) (c : Chain) (e : E) → s.is_timed k c e ≡ false
    pub cut : (c : C) (e : E) (op : Op) (reply : Reply) → changing.cut c e op ≡ Some reply → Fits op reply
