-- Two buckets that let a need pass together. Each part is said of a bucket that may be absent: without one
-- there is no limit.
use Rattle.std.specs.Prelude.{◌≡◌, ℕ, max, ◌&&◌, ◌||◌, Bool, true, List, ◌∷◌, Option, Some, None, if◌then◌else◌, is_some, unwrap_or}
use Rattle.token_bucket.specs.Allowance.{Start, Need, may_pass, moment_at}
use Rattle.token_bucket.specs.Kept.{Kept, Keeps, IsWait, takes, took, waits_until}

-- the bucket of bytes and that of operations
pub record Buckets : Type 0 where
  pub bandwidth : Option Kept
  pub ops : Option Kept

-- a request needs one operation
abbrev pub ops_need : ℕ
ops_need = 1

-- it has a limit of some kind
abbrev pub is_limited : Buckets → Bool
is_limited gate = is_some gate.bandwidth || is_some gate.ops

-- ---- by what the buckets keep alone

-- whether so many tokens pass at a moment
abbrev pub bucket_takes : Option Kept → ℕ → ℕ → Bool
bucket_takes None tokens now = true
bucket_takes (Some kept) tokens now = takes kept tokens now

-- what is kept after them
abbrev pub bucket_took : Option Kept → ℕ → ℕ → Option Kept
bucket_took None tokens now = None
bucket_took (Some kept) tokens now = Some (took kept tokens now)

-- the moment that is waited for; none waits for 0
abbrev pub bucket_wait : Option Kept → ℕ → ℕ
bucket_wait None tokens = 0
bucket_wait (Some kept) tokens = waits_until kept tokens

-- whether a request of so many bytes passes at a moment
abbrev pub gate_takes : Buckets → ℕ → ℕ → Bool
gate_takes gate bytes now = bucket_takes gate.bandwidth bytes now && bucket_takes gate.ops ops_need now

-- what both keep after it
abbrev pub gate_took : Buckets → ℕ → ℕ → Buckets
gate_took gate bytes now =
    record {
      bandwidth = bucket_took gate.bandwidth bytes now;
      ops = bucket_took gate.ops ops_need now;
    }

-- the buckets of a request of so many bytes, where it passes at a moment
abbrev pub gate_passes : Buckets → ℕ → ℕ → Option Buckets
gate_passes gate bytes now = if gate_takes gate bytes now then Some (gate_took gate bytes now) else None

-- the later of the moments that they wait for
abbrev pub gate_wait : Buckets → ℕ → ℕ
gate_wait gate bytes = max (bucket_wait gate.bandwidth bytes) (bucket_wait gate.ops ops_need)

-- Other buckets in place of those that are named. A name without a bucket removes the one that is there.
abbrev pub with_buckets : Buckets → Option (Option Kept) → Option (Option Kept) → Buckets
with_buckets gate bandwidth ops =
    record {
      bandwidth = unwrap_or bandwidth gate.bandwidth;
      ops = unwrap_or ops gate.ops;
    }

-- ---- by what passed before, for each start and list that the buckets keep

-- so many tokens may pass, by whatever needs passed before
abbrev pub Allows : Option Kept → ℕ → ℕ → Type 0
Allows None tokens now = Unit {0}
Allows (Some kept) tokens now =
    (start : Start) (needs : List Need) → Keeps kept start needs →
    may_pass kept.rate start needs tokens (moment_at start needs now) ≡ true

-- the bucket keeps, beside what it kept, that so many tokens passed
abbrev pub Adds : Option Kept → Option Kept → ℕ → ℕ → Type 0
Adds None new tokens now = new ≡ None
Adds (Some kept) new tokens now =
    (after : Kept) × (new ≡ Some after) × (after.rate ≡ kept.rate)
    × ((start : Start) (needs : List Need) → Keeps kept start needs →
    Keeps after start (record { tokens = tokens; moment = moment_at start needs now } ∷ needs))

-- the moment that the bucket waits for; none waits for 0
abbrev pub WaitsFor : Option Kept → ℕ → ℕ → Type 0
WaitsFor None tokens wait = wait ≡ 0
WaitsFor (Some kept) tokens wait =
    (start : Start) (needs : List Need) → Keeps kept start needs → IsWait kept.rate start needs tokens wait

-- a moment is the later one of those that the two wait for
pub record WaitsForBoth (buckets : Buckets) (bytes wait : ℕ) : Type 0 where
  pub bandwidth_wait : ℕ
  pub ops_wait : ℕ
  pub waits_bandwidth : WaitsFor buckets.bandwidth bytes bandwidth_wait
  pub waits_ops : WaitsFor buckets.ops ops_need ops_wait
  pub is_later : wait ≡ max bandwidth_wait ops_wait
