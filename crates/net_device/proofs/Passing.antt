-- What a gate tells, and what passes.
use Rattle.std.proofs.Common.{◌≡◌, ℕ, ◌-◌, subst, Bool, if◌then◌else◌, Some, None, length}
use Rattle.rate_gate.specs.Gate.{Buckets, gate_passes}
use Rattle.rate_gate.proofs.Passing.{passes_on}
use Rattle.queue_device.specs.declared.lanes.Which.TheVariants.{First, Second}
use Rattle.queue_device.specs.Chains.{Chain}
use Rattle.net_device.specs.Frames.{header_size, sent_length}
use Rattle.net_device.specs.Net.{Net, passes_by}

-- a chain to receive into
pub passes_first : (c : Chain) (e : Net) (now bytes : ℕ) (told : Bool) (limits : Buckets) → bytes ≡ length e.text - header_size
    → gate_passes e.rx bytes now ≡ (if told then Some limits else None)
    → passes_by First c now e ≡ (if told then Some (record { text = e.text; rx = limits; tx = e.tx }) else None)
passes_first c e now bytes told limits same is =
    passes_on (λ (put : Buckets). record e { rx = put }) e.rx limits (length e.text - header_size) now told
    (subst (λ (n : ℕ). gate_passes e.rx n now ≡ (if told then Some limits else None)) same is)

-- one to be transmitted
pub passes_second : (c : Chain) (e : Net) (now : ℕ) (told : Bool) (limits : Buckets)
    → gate_passes e.tx (sent_length c.parts) now ≡ (if told then Some limits else None)
    → passes_by Second c now e ≡ (if told then Some (record { text = e.text; rx = e.rx; tx = limits }) else None)
passes_second c e now told limits is =
    passes_on (λ (put : Buckets). record e { tx = put }) e.tx limits (sent_length c.parts) now told is
