-- What a gate tells, and what passes.
use Rattle.std.proofs.Common.{◌≡◌, ℕ, ◌≤◌, Bool, if◌then◌else◌, Some, None, take, replicate}
use Rattle.std.proofs.lemmas.List.{take-replicate}
use Rattle.rate_gate.specs.Gate.{Buckets, gate_passes}
use Rattle.rate_gate.proofs.Passing.{passes_on}
use Rattle.filler_device.specs.Filler.{Filler, passes_by}

pub copies_of : (count byte : ℕ) → count ≤ 64 → take count (replicate 64 byte) ≡ replicate count byte
copies_of count byte most = take-replicate count 64 byte most

pub passes_told : (e : Filler) (bytes now : ℕ) (told : Bool) (limits : Buckets)
    → gate_passes e.limits bytes now ≡ (if told then Some limits else None)
    → passes_by bytes now e ≡ (if told then Some (record { byte = e.byte; limits = limits }) else None)
passes_told e bytes now told limits is =
    passes_on (λ (put : Buckets). record e { limits = put }) e.limits limits bytes now told is
