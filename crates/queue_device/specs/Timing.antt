-- When a device asks guest time, and what comes of the answer.
use Rattle.std.specs.Prelude.{ℕ, Bool, if◌then◌else◌, Option, Some, None, is_some, unwrap_or}
use Rattle.vm_types.specs.declared.reply.Reply.{Reply}
use Rattle.device_trace.specs.Script.{Script, Ends, Asks, data_of}
use Rattle.vq_split.specs.declared.queue.Queue.{Queue}
use Rattle.queue_device.specs.declared.lanes.Due.{Due}
use Rattle.queue_device.specs.declared.lanes.Due.TheVariants as due
use Rattle.queue_device.specs.declared.lanes.Which.{Which}
use Rattle.queue_device.specs.Chains.{Chain}
use Rattle.queue_device.specs.Rounds.{due_from, lane, time_of}
use Rattle.queue_device.specs.Service.{Queued, Service}

module _ {E : Type 0} (s : Service E) where
  -- the chain that waits of a queue on which the round works, where its kind times it
  abbrev pub timed_lane : Which → Option Queue → Option Chain → E → Option (Which × Chain)
  timed_lane k (Some q) (Some c) e = if s.is_timed k c e then Some (k, c) else None
  timed_lane k q waiting e = None

  abbrev pub timed_next : Option Which → Queued E → Option (Which × Chain)
  timed_next (Some k) d = timed_lane k (lane s k d).queue (lane s k d).waiting d.own
  timed_next None d = None

  abbrev pub timed_due : Due → Queued E → Option (Which × Chain)
  timed_due (due.Lane k) d = timed_next (due_from s k d) d
  timed_due due d = None

  -- the chain for which guest time is wanted: between two groups, by the data of that moment
  abbrev pub timed_chain : Script (Queued E) → Option (Which × Chain)
  timed_chain (Ends d) = timed_due d.rounds.due d
  timed_chain (Asks d op on) = None

  abbrev pub is_timed_left : Script (Queued E) → Bool
  is_timed_left t = is_some (timed_chain t)

  -- the kind's data behind a reply: the chain passes at that time, or waits on
  abbrev pub passed_by : Option (Which × Chain) → ℕ → E → E
  passed_by (Some (k, c)) now e = unwrap_or (s.passes k c now e) e
  passed_by None now e = e

  abbrev pub passed_at : Script (Queued E) → Reply → E
  passed_at t reply = passed_by (timed_chain t) (time_of reply) (data_of t).own
