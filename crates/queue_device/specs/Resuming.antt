-- What a kind owes so that a device goes on from what is kept of it.
use Rattle.std.specs.Prelude.{◌≡◌, ◌<◌, ◌≤◌, ◌^◌, ◌⊎◌, ℕ, Bool, true, false, Option, Some, None, List, length}
use Rattle.std.specs.List.{All}
use Rattle.vm_types.specs.declared.op.Op.{Op}
use Rattle.vm_types.specs.declared.op.OutOp.{OutOp}
use Rattle.vm_types.specs.declared.reply.Reply.{Reply}
use Rattle.vm_types.specs.Fits.{Fits}
use Rattle.le_fields.specs.Fields.{IsByte}
use Rattle.device_trace.specs.Script.{Script}
use Rattle.device_trace.specs.Traces.{Changing}
use Rattle.vq_split.specs.declared.queue.Part.{Part}
use Rattle.vq_split.specs.Inside.{AreInside}
use Rattle.dev_core.specs.Inside.{Any}
use Rattle.queue_device.specs.declared.lanes.Lane.{Lane}
use Rattle.queue_device.specs.declared.lanes.Rounds.{Rounds}
use Rattle.queue_device.specs.declared.lanes.Which.{Which}
use Rattle.queue_device.specs.declared.phase.Phase.{Phase}
use Rattle.queue_device.specs.declared.phase.Work.{Work}
use Rattle.queue_device.specs.declared.phase.Work.TheVariants as work
use Rattle.queue_device.specs.Acting.{Acting, ActingKeeps, Acts, Comes}
use Rattle.queue_device.specs.Chains.{Chain, Taken}
use Rattle.queue_device.specs.Confined.{IsChain, IsDeviceAct, IsTaken}
use Rattle.queue_device.specs.Kept.{is_state}
use Rattle.queue_device.specs.Left.{Hand, left_at, queued}
use Rattle.queue_device.specs.Service.{Queued, Service}
use Rattle.queue_device.specs.Sizes.{IsHead, IsLength, IsNarrowLane, IsNarrowPhase, IsReplyTo, IsSmallReply}

-- What is kept of a chain has at most 256 parts each way, and 128 bytes. Where each reply was small, `sized`, they are bytes.
abbrev pub IsShort : Bool → Option Taken → Type 0
IsShort sized None = Unit {0}
IsShort sized (Some t) =
    (length t.parts ≤ 256) × (length t.got.parts ≤ 256) × (length t.got.bytes ≤ 128) × (sized ≡ true → All IsByte t.got.bytes)

abbrev pub IsShortChain : Bool → Option Chain → Type 0
IsShortChain sized None = Unit {0}
IsShortChain sized (Some c) =
    (length c.parts ≤ 256) × (length c.got.parts ≤ 256) × (length c.got.bytes ≤ 128)
    × (sized ≡ true → IsHead c.head × All IsByte c.got.bytes)

-- a chain that waits isn't long, and the other numbers of its lane are narrow
abbrev pub IsShortLane : Bool → Lane → Type 0
IsShortLane sized l = IsShortChain sized l.waiting × (sized ≡ true → IsNarrowLane l)

abbrev pub AreShort : Bool → Rounds → Type 0
AreShort sized r = IsShortLane sized r.first × IsShortLane sized r.second × IsShortLane sized r.third

-- what is taken of a chain may be served, and isn't long
abbrev pub IsShortTaken : {E : Type 0} → Service E → Bool → ℕ → Which → Option Taken → Type 0
IsShortTaken s sized pages k t = IsTaken s pages k t × IsShort sized t

-- where a reply to its work leads
abbrev pub answering_of : {E : Type 0} → Hand E → E → Reply → Acting E Bool
answering_of h = h.answering

abbrev pub taking_of : {E : Type 0} → Hand E → E → Reply → Acting E (Option Taken)
taking_of h = h.taking

abbrev pub serving_of : {E : Type 0} → Hand E → E → Reply → Acting E (Option ℕ)
serving_of h = h.serving

module _ {E G : Type 0} (s : Service E) (hand : G → Hand E) (is_work : Work → ℕ → G → Bool) (IsFine : E → Type 0) (sized : Bool) where
  module _ {A : Type 0} (lead : Hand E → E → Reply → Acting E A) (at : Work) (pages : ℕ) (Q : A → Type 0) where
    -- the kind's work goes on: this stage has just these acts before it
    pub record GoesOn (t : Acting E A) : Type 0 where
      pub own : E
      pub stage : G
      pub fine : IsFine own
      pub is : is_work at pages stage ≡ true
      pub left : t ≡ Acts own (hand stage).op (lead (hand stage))

    -- or it has come to this
    pub record HasCome (t : Acting E A) : Type 0 where
      pub own : E
      pub result : A
      pub fine : IsFine own
      pub is : Q result
      pub left : t ≡ Comes own result

    abbrev pub Goes : Acting E A → Type 0
    Goes t = GoesOn t ⊎ HasCome t

  -- Where the test of its work is true, each act of that is the device's own; and what is begun or led on, in a guest of at
  -- most 2^20 pages, has a stage whose test is true, or comes to something. Its data stay fine. Where each reply is small,
  -- `sized`, so is the number of bytes of a chain that is given back, and so is what a change leaves out.
  pub record Resumes {C : Type 0} (changing : Changing E C) (times : Bool) (calls : OutOp → Bool) : Type 0 where
    pub rest : G
    pub rests : (pages : ℕ) → is_work work.Rest pages rest ≡ true
    pub answering_stays : (port pages : ℕ) (g : G) → is_work work.Answer pages g ≡ true →
        IsDeviceAct false calls port pages (hand g).op
        × ((e : E) (reply : Reply) → Fits (hand g).op reply →
        ActingKeeps (IsDeviceAct false calls port pages) Any ((hand g).answering e reply))
    pub taking_stays : (port pages : ℕ) (k : Which) (g : G) → is_work (work.Take k) pages g ≡ true →
        IsDeviceAct false calls port pages (hand g).op
        × ((e : E) (reply : Reply) → Fits (hand g).op reply →
        ActingKeeps (IsDeviceAct false calls port pages) (λ (t : Option Taken). pages < 2 ^ 32 → IsTaken s pages k t)
        ((hand g).taking e reply))
    pub serving_stays : (port pages : ℕ) (k : Which) (g : G) → is_work (work.Serve k) pages g ≡ true →
        IsDeviceAct false calls port pages (hand g).op
        × ((e : E) (reply : Reply) → Fits (hand g).op reply →
        ActingKeeps (IsDeviceAct false calls port pages) Any ((hand g).serving e reply))
    pub answer : (pages : ℕ) (before e : E) (reply : Reply) → pages ≤ 2 ^ 20 → IsFine e →
        IsReplyTo sized (s.question before) reply → Goes answering_of work.Answer pages Any (s.answer e reply)
    pub answering : (pages : ℕ) (g : G) (e : E) (reply : Reply) → pages ≤ 2 ^ 20 → IsFine e →
        is_work work.Answer pages g ≡ true → IsReplyTo sized (hand g).op reply →
        Goes answering_of work.Answer pages Any ((hand g).answering e reply)
    pub take : (pages : ℕ) (k : Which) (parts : List Part) (e : E) → pages ≤ 2 ^ 20 → IsFine e → AreInside pages parts →
        length parts ≤ 256 → Goes taking_of (work.Take k) pages (IsShortTaken s sized pages k) (s.take k parts e)
    pub taking : (pages : ℕ) (k : Which) (g : G) (e : E) (reply : Reply) → pages ≤ 2 ^ 20 → IsFine e →
        is_work (work.Take k) pages g ≡ true → IsReplyTo sized (hand g).op reply →
        Goes taking_of (work.Take k) pages (IsShortTaken s sized pages k) ((hand g).taking e reply)
    pub serve : (pages : ℕ) (k : Which) (c : Chain) (e : E) → pages ≤ 2 ^ 20 → IsFine e → IsChain s pages k c →
        IsShortChain sized (Some c) → Goes serving_of (work.Serve k) pages (IsLength sized) (s.serve k c e)
    pub serving : (pages : ℕ) (k : Which) (g : G) (e : E) (reply : Reply) → pages ≤ 2 ^ 20 → IsFine e →
        is_work (work.Serve k) pages g ≡ true → IsReplyTo sized (hand g).op reply →
        Goes serving_of (work.Serve k) pages (IsLength sized) ((hand g).serving e reply)
    pub begun : (k : Which) (e : E) → IsFine e → IsFine (s.begun k e)
    pub passes : (pages : ℕ) (k : Which) (c : Chain) (now : ℕ) (e f : E) → pages ≤ 2 ^ 20 → (sized ≡ true → now < 2 ^ 64) →
        IsFine e → IsChain s pages k c → IsShortChain sized (Some c) → s.passes k c now e ≡ Some f → IsFine f
    pub over : (k : Which) (e : E) → IsFine e → IsFine (s.over k e)
    pub reset : (e : E) → IsFine e → IsFine (s.reset e)
    pub cut : (c : C) (e : E) (op : Op) (reply : Reply) → changing.cut c e op ≡ Some reply → sized ≡ true → IsSmallReply reply

  -- what is kept where this is left, by a device at this port of a guest of so many pages
  pub record HasKept (times : Bool) (port pages : ℕ) (t : Script (Queued E)) : Type 0 where
    pub phase : Phase
    pub rounds : Rounds
    pub own : E
    pub stage : G
    pub is : is_state s times is_work phase rounds stage ≡ true
    pub fine : IsFine own
    pub short : AreShort sized rounds
    pub narrow : sized ≡ true → IsNarrowPhase phase
    pub at_port : rounds.port ≡ port
    pub of_pages : rounds.pages ≡ pages
    pub left : left_at s phase (hand stage) (queued rounds own) ≡ t
