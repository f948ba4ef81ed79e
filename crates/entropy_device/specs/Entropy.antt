-- An entropy device (VIRTIO 1.2, 5.4): chains of its one queue are filled with words of random bits, as its limits allow by then.
use Rattle.std.specs.Prelude.{ℕ, ◌==◌, Bool, true, false, if◌then◌else◌, Option, Some, None, option_map, List, []}
use Rattle.vm_types.specs.declared.op.Op.{Op}
use Rattle.vm_types.specs.declared.op.OutOp.{OutOp}
use Rattle.vm_types.specs.declared.op.OutOp.TheVariants.{DrawWord}
use Rattle.device_trace.specs.Traces.{Rules, setting}
use Rattle.vq_split.specs.declared.queue.Part.{Part}
use Rattle.dev_core.specs.Pieces.{readable, total}
use Rattle.rate_gate.specs.Gate.{Buckets, gate_passes, is_limited}
use Rattle.queue_device.specs.declared.lanes.Which.TheVariants.{First}
use Rattle.queue_device.specs.Acting.{Acting, Comes, performing}
use Rattle.queue_device.specs.Chains.{Chain, Taken}
use Rattle.queue_device.specs.Lanes.{new_rounds}
use Rattle.queue_device.specs.Rounds.{queue_rules}
use Rattle.queue_device.specs.Service.{Queued, Service}
use Rattle.entropy_device.specs.declared.kind.EntropyChange.{EntropyChange}
use Rattle.entropy_device.specs.Words.{filled_length, filling_from}

-- how much it may give
pub record Entropy : Type 0 where
  pub limits : Buckets

-- the API changes nothing of it
abbrev pub unchanged : EntropyChange → Entropy → Entropy
unchanged c e = e

-- all parts of a chain are kept, and nothing is read of it
abbrev pub kept_of : List Part → Taken
kept_of parts = record { parts = parts; got = record { bytes = []; parts = [] } }

-- a driver gives buffers that can be written alone (5.4.6.1): a chain with another one breaks the queue
abbrev pub taken_by : List Part → Entropy → Acting Entropy (Option Taken)
taken_by parts e = if total (readable parts) == 0 then Comes e (Some (kept_of parts)) else Comes e None

-- so many bytes were written
abbrev pub filled : Entropy → ℕ → Acting Entropy (Option ℕ)
filled e len = Comes e (Some len)

abbrev pub served_by : Chain → Entropy → Acting Entropy (Option ℕ)
served_by c e = performing (filling_from (filled_length c.parts) 0 c.parts) e filled

-- a chain needs as many bytes as it is filled with, and waits for them
abbrev pub passes_by : Chain → ℕ → Entropy → Option Entropy
passes_by c now e =
    option_map (λ (limits : Buckets). record { limits = limits }) (gate_passes e.limits (filled_length c.parts) now)

abbrev pub entropy : Service Entropy
entropy = record {
  last = First;
  may_ask = false;
  asks = λ e. false;
  question = λ e. Op.Idle;
  answer = λ e reply. Comes e false;
  wants_chain = λ k is_kicked e. is_kicked;
  begun = λ k e. e;
  take = λ k parts e. taken_by parts e;
  is_taken = λ k parts got. total (readable parts) == 0;
  is_timed = λ k c e. is_limited e.limits;
  passes = λ k c now e. passes_by c now e;
  serve = λ k c e. served_by c e;
  over = λ k e. e;
  reset = λ e. e;
}

-- of host objects it asks for words alone
abbrev pub is_word_call : OutOp → Bool
is_word_call DrawWord = true
is_word_call act = false

abbrev pub entropy_rules : Rules (Queued Entropy) EntropyChange
entropy_rules = queue_rules entropy (setting unchanged)

abbrev pub new_entropy : ℕ → ℕ → Buckets → Queued Entropy
new_entropy port pages limits = record { rounds = new_rounds port pages; own = record { limits = limits } }
