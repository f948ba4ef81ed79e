-- What a gate tells, and what passes.
use Rattle.std.proofs.Common.{◌≡◌, ℕ, Bool, if◌then◌else◌, Some, None}
use Rattle.rate_gate.specs.Gate.{Buckets, gate_passes}
use Rattle.rate_gate.proofs.Passing.{passes_on}
use Rattle.queue_device.specs.Chains.{Chain}
use Rattle.entropy_device.specs.Entropy.{Entropy, passes_by}
use Rattle.entropy_device.specs.Words.{filled_length}

pub passes_told : (c : Chain) (e : Entropy) (now : ℕ) (told : Bool) (limits : Buckets)
    → gate_passes e.limits (filled_length c.parts) now ≡ (if told then Some limits else None)
    → passes_by c now e ≡ (if told then Some (record { limits = limits }) else None)
passes_told c e now told limits is =
    passes_on (λ (put : Buckets). record { limits = put }) e.limits limits (filled_length c.parts) now told is
