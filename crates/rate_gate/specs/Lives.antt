-- What comes to a gate, and the life of each of its buckets.
use Rattle.std.specs.Prelude.{◌≡◌, ℕ, true, List, [], ◌∷◌, Option, Some, None, is_some, unwrap_or, if◌then◌else◌}
use Rattle.token_bucket.specs.Allowance.{Start, Need}
use Rattle.token_bucket.specs.Kept.{Kept}
use Rattle.token_bucket.specs.Window.{Lives, IsBounded, with_need}
use Rattle.rate_gate.specs.Gate.{Buckets, ops_need, gate_takes, gate_took, with_buckets}
use Rattle.rate_gate.specs.Saved.{HaveSameRates, gate_at, gate_saved}

-- a life of a bucket that is there
abbrev pub HasLife : Option Kept → Start → List Need → Type 0
HasLife None start needs = ⊥
HasLife (Some kept) start needs = Lives kept start needs

-- each life of a bucket goes on by a need of so many tokens
abbrev pub LivesOn : Option Kept → Option Kept → ℕ → ℕ → Type 0
LivesOn old new tokens now =
    (start : Start) (needs : List Need) → HasLife old start needs →
    HasLife new start (with_need start needs tokens now)

-- no more passes in any window of these needs than the bucket's rate allows
abbrev pub HasBound : Option Kept → Start → List Need → Type 0
HasBound None start needs = Unit {0}
HasBound (Some kept) start needs = IsBounded kept.rate start needs

-- the same in each life of the bucket, of its needs and so many tokens that pass at a moment
abbrev pub StaysBounded : Option Kept → ℕ → ℕ → Type 0
StaysBounded bucket tokens now =
    (start : Start) (needs : List Need) → HasLife bucket start needs →
    HasBound bucket start (with_need start needs tokens now)

-- one of the two buckets
pub data Which : Type 0 where
  Bandwidth : Which
  Ops : Which

abbrev pub bucket_of : Which → Buckets → Option Kept
bucket_of Bandwidth gate = gate.bandwidth
bucket_of Ops gate = gate.ops

-- what a request of so many bytes needs of it
abbrev pub need_of : Which → ℕ → ℕ
need_of Bandwidth bytes = bytes
need_of Ops bytes = ops_need

-- A request of so many bytes passed at a moment; or buckets were replaced, as `with_buckets` has it; or the gate was
-- saved, and another gate goes on from its saved form.
pub data GateEvent : Type 0 where
  Passed : ℕ → ℕ → GateEvent
  Replaced : Option (Option Kept) → Option (Option Kept) → GateEvent
  Loaded : Buckets → GateEvent

-- Events are listed newest first.
abbrev pub gate_after : Buckets → List GateEvent → Buckets
gate_after gate [] = gate
gate_after gate (Passed bytes now ∷ older) = gate_took (gate_after gate older) bytes now
gate_after gate (Replaced bandwidth ops ∷ older) = with_buckets (gate_after gate older) bandwidth ops
gate_after gate (Loaded other ∷ older) = gate_at other (gate_saved (gate_after gate older))

-- each request that passed was one that the gate takes, and each gate that goes on has its rates, after the older events
abbrev pub MayCome : Buckets → List GateEvent → Type 0
MayCome gate [] = Unit {0}
MayCome gate (Passed bytes now ∷ older) =
    (gate_takes (gate_after gate older) bytes now ≡ true) × MayCome gate older
MayCome gate (Replaced bandwidth ops ∷ older) = MayCome gate older
MayCome gate (Loaded other ∷ older) = HaveSameRates other (gate_after gate older) × MayCome gate older

-- the bucket that is put there, where one is named
abbrev pub named : Which → Option (Option Kept) → Option (Option Kept) → Option (Option Kept)
named Bandwidth bandwidth ops = bandwidth
named Ops bandwidth ops = ops

-- the bucket as it came to the gate, before what passed since
abbrev pub bucket_put : Which → Buckets → List GateEvent → Option Kept
bucket_put which gate [] = bucket_of which gate
bucket_put which gate (Passed bytes now ∷ older) = bucket_put which gate older
bucket_put which gate (Replaced bandwidth ops ∷ older) =
    unwrap_or (named which bandwidth ops) (bucket_put which gate older)
bucket_put which gate (Loaded other ∷ older) = bucket_put which gate older

-- what passed since, newest first
abbrev pub needs_since : Which → List GateEvent → List Need
needs_since which [] = []
needs_since which (Passed bytes now ∷ older) =
    record { tokens = need_of which bytes; moment = now } ∷ needs_since which older
needs_since which (Replaced bandwidth ops ∷ older) =
    if is_some (named which bandwidth ops) then [] else needs_since which older
needs_since which (Loaded other ∷ older) = needs_since which older
