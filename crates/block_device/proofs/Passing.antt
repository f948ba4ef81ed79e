-- What a request needs of its limit, and what a gate tells of it.
use Rattle.std.proofs.Common.{◌≡◌, ℕ, ap₂, ◌∙◌, Bool, if◌then◌else◌, Some, None, List}
use Rattle.vq_split.specs.declared.queue.Part.{Part}
use Rattle.dev_core.specs.Pieces.{Got}
use Rattle.rate_gate.specs.Gate.{Buckets, gate_passes}
use Rattle.rate_gate.proofs.Passing.{passes_on}
use Rattle.block_device.specs.declared.data.BlockData.{BlockData}
use Rattle.block_device.specs.Block.{headed, need_of, passes_by}

pub need_is : (need : ℕ) (parts given : List Part) (got read : Got) → need ≡ need_of (headed parts got) → parts ≡ given
    → got ≡ read → need ≡ need_of (headed given read)
need_is need parts given got read is same held = is ∙ ap₂ (λ (p : List Part) (g : Got). need_of (headed p g)) same held

pub passes_told : (e : BlockData) (need now : ℕ) (told : Bool) (limits : Buckets)
    → gate_passes e.limits need now ≡ (if told then Some limits else None)
    → passes_by need now e ≡ (if told then Some (record e { limits = limits }) else None)
passes_told e need now told limits is = passes_on (λ (put : Buckets). record e { limits = put }) e.limits limits need now told is
