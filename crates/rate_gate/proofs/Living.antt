-- Lives of a gate's buckets.
use Rattle.std.proofs.Common.{◌≡◌, ℕ, true, List, [], ◌∷◌, Option, Some, None}
use Rattle.std.proofs.lemmas.Bool.{and_parts}
use Rattle.token_bucket.specs.Allowance.{Start, Need}
use Rattle.token_bucket.specs.Kept.{Kept}
use Rattle.token_bucket.specs.Window.{with_needs}
use Rattle.token_bucket.proofs.Lives.{life_is_bounded, lives_on, need_is_bounded}
use Rattle.rate_gate.specs.Gate.{Buckets, bucket_takes, bucket_took, gate_takes, gate_took}
use Rattle.rate_gate.specs.Lives.{HasLife, HasBound, LivesOn, StaysBounded, Which, Bandwidth, Ops, GateEvent, Passed, Replaced, Loaded, MayCome, bucket_of, bucket_put, gate_after, need_of, needs_since}
use Rattle.rate_gate.proofs.Loading.{gate_back}

pub bucket_lives : (bucket : Option Kept) (tokens now : ℕ) → bucket_takes bucket tokens now ≡ true → LivesOn bucket (bucket_took bucket tokens now) tokens now
bucket_lives None tokens now takes = λ start needs life. life
bucket_lives (Some kept) tokens now takes = λ start needs life. lives_on kept start needs tokens now life takes

pub stays_bounded : (bucket : Option Kept) (tokens now : ℕ) → bucket_takes bucket tokens now ≡ true → StaysBounded bucket tokens now
stays_bounded None tokens now takes = λ start needs life. tt
stays_bounded (Some kept) tokens now takes = λ start needs life. need_is_bounded kept start needs tokens now life takes

gate_lives : (which : Which) (gate : Buckets) (bytes now : ℕ) → gate_takes gate bytes now ≡ true
    → LivesOn (bucket_of which gate) (bucket_of which (gate_took gate bytes now)) (need_of which bytes) now
gate_lives Bandwidth gate bytes now takes = bucket_lives gate.bandwidth bytes now (and_parts _ _ takes).0
gate_lives Ops gate bytes now takes = bucket_lives gate.ops 1 now (and_parts _ _ takes).1

pub life_goes_on : (which : Which) (gate : Buckets) (events : List GateEvent) (start : Start) (needs : List Need)
    → MayCome gate events → HasLife (bucket_put which gate events) start needs
    → HasLife (bucket_of which (gate_after gate events)) start (with_needs start needs (needs_since which events))
life_goes_on which gate [] start needs may life = life
life_goes_on which gate (Passed bytes now ∷ older) start needs may life =
    gate_lives which (gate_after gate older) bytes now may.0 start _ (life_goes_on which gate older start needs may.1 life)
life_goes_on which gate (Loaded other ∷ older) start needs may life =
    rw (gate_back (gate_after gate older) other may.0) (life_goes_on which gate older start needs may.1 life)
life_goes_on Bandwidth gate (Replaced None ops ∷ older) start needs may life = life_goes_on Bandwidth gate older start needs may life
life_goes_on Bandwidth gate (Replaced (Some bucket) ops ∷ older) start needs may life = life
life_goes_on Ops gate (Replaced bandwidth None ∷ older) start needs may life = life_goes_on Ops gate older start needs may life
life_goes_on Ops gate (Replaced bandwidth (Some bucket) ∷ older) start needs may life = life

pub life_bound : (bucket : Option Kept) (start : Start) (needs : List Need) → HasLife bucket start needs → HasBound bucket start needs
life_bound None start needs life = tt
life_bound (Some kept) start needs lives = life_is_bounded kept.rate start needs lives.life
