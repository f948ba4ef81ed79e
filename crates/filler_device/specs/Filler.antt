-- A device of two queues that no machine has. The first bytes of the writable parts of a chain of the first queue are
-- filled with one byte, at most 64 of them, as its limits allow by then; the first readable byte of a chain of the second
-- queue says which byte.
use Rattle.std.specs.Prelude.{ℕ, ◌==◌, min, Bool, true, false, if◌then◌else◌, Option, Some, None, option_map, List, [], get_or, replicate}
use Rattle.vm_types.specs.declared.op.Op.{Op}
use Rattle.vm_types.specs.declared.op.OutOp.{OutOp}
use Rattle.device_trace.specs.Traces.{Rules, setting}
use Rattle.vq_split.specs.declared.queue.Part.{Part}
use Rattle.dev_core.specs.Pieces.{Got, collect_all, put_all, readable, total, writable}
use Rattle.rate_gate.specs.Gate.{Buckets, gate_passes, is_limited, with_buckets}
use Rattle.queue_device.specs.declared.lanes.Which.{Which}
use Rattle.queue_device.specs.declared.lanes.Which.TheVariants.{First, Second, Third}
use Rattle.queue_device.specs.Acting.{Acting, Comes, performing}
use Rattle.queue_device.specs.Chains.{Chain, Taken}
use Rattle.queue_device.specs.Lanes.{new_rounds}
use Rattle.queue_device.specs.Rounds.{queue_rules}
use Rattle.queue_device.specs.Service.{Queued, Service}
use Rattle.filler_device.specs.declared.kind.FillerChange.{FillerChange}
use Rattle.filler_device.specs.declared.kind.FillerChange.TheVariants.{Limits}

pub record Filler : Type 0 where
  pub byte : ℕ
  pub limits : Buckets

-- the API gives it other buckets
abbrev pub limited : FillerChange → Filler → Filler
limited (Limits bandwidth ops) e = record e { limits = with_buckets e.limits bandwidth ops }

-- how many bytes are filled
abbrev pub filled : Chain → ℕ
filled c = min 64 (total (writable c.parts))

-- nothing of a chain, or nothing any more
abbrev pub no_bytes : Got
no_bytes = record { bytes = []; parts = [] }

-- a chain of which the bytes that were read are kept, and no other part
abbrev pub only_read : Got → Taken
only_read got = record { parts = []; got = got }

-- of the first queue's chains nothing is read, of any other's one byte
abbrev pub taken_by : Which → List Part → Filler → Acting Filler (Option Taken)
taken_by First parts e = Comes e (Some (record { parts = parts; got = no_bytes }))
taken_by k parts e =
    if total (readable parts) == 0 then Comes e None
    else performing (collect_all 1 [] (readable parts)) e (λ f got. Comes f (Some (only_read got)))

abbrev pub served_by : Which → Chain → Filler → Acting Filler (Option ℕ)
served_by First c e =
    performing (put_all (replicate (filled c) e.byte) (writable c.parts)) e (λ f left. Comes f (Some (filled c)))
served_by k c e = Comes (record e { byte = get_or c.got.bytes 0 0 }) (Some 0)

abbrev pub is_first : Which → Bool
is_first First = true
is_first k = false

abbrev pub passes_by : ℕ → ℕ → Filler → Option Filler
passes_by bytes now e = option_map (λ (limits : Buckets). record e { limits = limits }) (gate_passes e.limits bytes now)

-- it has two queues
abbrev pub wanted_of : Which → Bool → Bool
wanted_of Third is_kicked = false
wanted_of k is_kicked = is_kicked

-- the limits are the first queue's
abbrev pub timed_of : Which → Filler → Bool
timed_of First e = is_limited e.limits
timed_of k e = false

abbrev pub filler : Service Filler
filler = record {
  last = Second;
  may_ask = false;
  asks = λ e. false;
  question = λ e. Op.Idle;
  answer = λ e reply. Comes e false;
  wants_chain = λ k is_kicked e. wanted_of k is_kicked;
  begun = λ k e. e;
  take = taken_by;
  is_taken = λ k parts got. true;
  is_timed = λ k c e. timed_of k e;
  passes = λ k c now e. passes_by (filled c) now e;
  serve = served_by;
  over = λ k e. e;
  reset = λ e. e;
}

-- it asks no host object
abbrev pub no_call : OutOp → Bool
no_call call = false

abbrev pub filler_rules : Rules (Queued Filler) FillerChange
filler_rules = queue_rules filler (setting limited)

abbrev pub new_filler : ℕ → ℕ → Buckets → Queued Filler
new_filler port pages limits = record { rounds = new_rounds port pages; own = record { byte = 0; limits = limits } }
