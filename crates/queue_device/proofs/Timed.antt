-- Where guest time is wanted a chain waits that its kind times.
use Rattle.std.proofs.Common.{◌≡◌, ℕ, refl, subst, Bool, true, false, if◌then◌else◌, inl, inr, Option, Some, None, is_some}
use Rattle.vm_types.specs.declared.op.Op.{Op}
use Rattle.vm_types.specs.declared.op.BoardOp.TheVariants.{Time}
use Rattle.vm_types.specs.declared.op.OutOp.{OutOp}
use Rattle.device_trace.specs.Acts.{IsAskedBy, IsOwnAct}
use Rattle.device_trace.specs.Script.{Script, Ends, Asks, data_of}
use Rattle.vq_split.specs.declared.queue.Queue.{Queue}
use Rattle.queue_device.specs.declared.lanes.Due.{Due}
use Rattle.queue_device.specs.declared.lanes.Due.TheVariants as due
use Rattle.queue_device.specs.declared.lanes.Which.{Which}
use Rattle.queue_device.specs.Chains.{Chain}
use Rattle.queue_device.specs.Rounds.{due_from, lane}
use Rattle.queue_device.specs.Service.{Queued, Service}
use Rattle.queue_device.specs.Timing.{is_timed_left, timed_due, timed_lane, timed_next}

-- who asks guest time may ask it
pub time_is : (timed : Bool) (calls : OutOp → Bool) (port : ℕ) (op : Op) → op ≡ Op.Board Time → IsAskedBy timed calls port op
    → timed ≡ true
time_is timed calls port op is (inl asks) = asks.0
time_is timed calls port op is (inr own) =
    let wrong : false ≡ true = subst (λ (o : Op). IsOwnAct port o) is own.0 in
    absurd (cc)

module _ {E : Type 0} (s : Service E) where
  -- a chain that the kind times by these data
  abbrev pub Timed : E → Type 0
  Timed e = (k : Which) × ((c : Chain) × (s.is_timed k c e ≡ true))

  timed_by : (timed : Bool) (k : Which) (c : Chain) (e : E) → s.is_timed k c e ≡ timed
      → is_some {T = Which × Chain} (if timed then Some (k, c) else None) ≡ true → Timed e
  timed_by true k c e times is = (k, (c, times))
  timed_by false k c e times is = absurd (cc)

  lane_is : (k : Which) (q : Option Queue) (waiting : Option Chain) (e : E) → is_some (timed_lane s k q waiting e) ≡ true
      → Timed e
  lane_is k (Some q) (Some c) e is = timed_by (s.is_timed k c e) k c e refl is
  lane_is k (Some q) None e is = absurd (cc)
  lane_is k None waiting e is = absurd (cc)

  next_is : (o : Option Which) (d : Queued E) → is_some (timed_next s o d) ≡ true → Timed d.own
  next_is (Some k) d is = lane_is k (lane s k d).queue (lane s k d).waiting d.own is
  next_is None d is = absurd (cc)

  due_is : (o : Due) (d : Queued E) → is_some (timed_due s o d) ≡ true → Timed d.own
  due_is (due.Lane k) d is = next_is (due_from s k d) d is
  due_is due.Look d is = absurd (cc)
  due_is due.Question d is = absurd (cc)
  due_is due.Wait d is = absurd (cc)

  pub timed_left : (t : Script (Queued E)) → is_timed_left s t ≡ true → Timed (data_of t).own
  timed_left (Ends d) is = due_is d.rounds.due d is
  timed_left (Asks d op on) is = absurd (cc)
