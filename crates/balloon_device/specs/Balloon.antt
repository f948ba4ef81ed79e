-- A balloon (VIRTIO 1.2, 5.5): its queues are those of pages that the driver gives, of pages that it takes back, and of statistics.
use Rattle.std.specs.Prelude.{ℕ, ◌+◌, ◌*◌, ◌%◌, ◌==◌, nat_le, Bool, true, false, not, if◌then◌else◌, Option, Some, None, List, []}
use Rattle.vm_types.specs.declared.op.Op.{Op}
use Rattle.vm_types.specs.declared.op.OutOp.{OutOp}
use Rattle.device_trace.specs.Traces.{Rules, setting}
use Rattle.vq_split.specs.declared.queue.Part.{Part}
use Rattle.dev_core.specs.Pieces.{Got, readable, total}
use Rattle.queue_device.specs.declared.lanes.Which.{Which}
use Rattle.queue_device.specs.declared.lanes.Which.TheVariants.{First, Second, Third}
use Rattle.queue_device.specs.Acting.{Acting, Comes, performing}
use Rattle.queue_device.specs.Chains.{Chain, Taken}
use Rattle.queue_device.specs.Lanes.{new_rounds}
use Rattle.queue_device.specs.Rounds.{queue_rules}
use Rattle.queue_device.specs.Service.{Queued, Service}
use Rattle.balloon_device.specs.declared.kind.BalloonChange.{BalloonChange}
use Rattle.balloon_device.specs.declared.kind.BalloonChange.TheVariants.{Interval}
use Rattle.balloon_device.specs.declared.statistics.Statistics.{Statistics}
use Rattle.balloon_device.specs.Pages.{inflated}
use Rattle.balloon_device.specs.Statistics.{no_statistics, told}

-- how many seconds there are between two chains of statistics, 0 where they are off; the guest time in nanoseconds at which the
-- last one was let go on, 0 before the first; and what it told
pub record Balloon : Type 0 where
  pub interval : ℕ
  pub last : ℕ
  pub statistics : Statistics

-- the API sets the interval
abbrev pub changed : BalloonChange → Balloon → Balloon
changed (Interval seconds) e = record e { interval = seconds }

abbrev pub nanoseconds : ℕ → ℕ
nanoseconds seconds = 1000000000 * seconds

-- nothing of a chain is read before it may be served
abbrev pub no_bytes : Got
no_bytes = record { bytes = []; parts = [] }

abbrev pub unread : List Part → Taken
unread parts = record { parts = parts; got = no_bytes }

-- a list of pages has whole numbers of 4 bytes
abbrev pub listed_by : List Part → Balloon → Acting Balloon (Option Taken)
listed_by parts e = if total (readable parts) % 4 == 0 then Comes e (Some (unread parts)) else Comes e None

abbrev pub taken_by : Which → List Part → Balloon → Acting Balloon (Option Taken)
taken_by Third parts e = Comes e (Some (unread parts))
taken_by k parts e = listed_by parts e

-- a chain of statistics is kept until the interval is over
abbrev pub timed_of : Which → Balloon → Bool
timed_of Third e = not (e.interval == 0)
timed_of k e = false

abbrev pub passes_at : ℕ → Balloon → Option Balloon
passes_at now e = if nat_le (e.last + nanoseconds e.interval) now then Some (record e { last = now }) else None

abbrev pub pages_done : Balloon → List ℕ → Acting Balloon (Option ℕ)
pages_done e begun = Comes e (Some 0)

abbrev pub tags_done : Balloon → Statistics → Acting Balloon (Option ℕ)
tags_done e s = Comes (record e { statistics = s }) (Some 0)

-- Inflating zeroes the pages that are given, and deflating does nothing. What a chain of statistics tells replaces all that was told
-- before. No byte is written to a chain.
abbrev pub served_by : Which → Chain → Balloon → Acting Balloon (Option ℕ)
served_by First c e = performing (inflated c.queue.pages (readable c.parts)) e pages_done
served_by Second c e = Comes e (Some 0)
served_by Third c e = performing (told (readable c.parts)) e tags_done

-- a reset leaves what the API set
abbrev pub as_new : Balloon → Balloon
as_new e = record { interval = e.interval; last = 0; statistics = no_statistics }

abbrev pub balloon : Service Balloon
balloon = record {
  last = Third;
  may_ask = false;
  asks = λ e. false;
  question = λ e. Op.Idle;
  answer = λ e reply. Comes e false;
  wants_chain = λ k is_kicked e. is_kicked;
  begun = λ k e. e;
  take = taken_by;
  is_taken = λ k parts got. true;
  is_timed = λ k c e. timed_of k e;
  passes = λ k c now e. passes_at now e;
  serve = served_by;
  over = λ k e. e;
  reset = as_new;
}

-- it asks no host object
abbrev pub no_call : OutOp → Bool
no_call call = false

abbrev pub balloon_rules : Rules (Queued Balloon) BalloonChange
balloon_rules = queue_rules balloon (setting changed)

abbrev pub new_balloon : ℕ → ℕ → ℕ → Queued Balloon
new_balloon port pages interval =
    record { rounds = new_rounds port pages; own = record { interval = interval; last = 0; statistics = no_statistics } }
