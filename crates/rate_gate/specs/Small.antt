-- Buckets whose numbers fit the fields of a state file.
use Rattle.std.specs.Prelude.{◌≡◌, ◌<◌, ◌^◌, true, Option, IfSome}
use Rattle.token_bucket.specs.Kept.{Kept, is_kept}
use Rattle.rate_gate.specs.Gate.{Buckets}

-- a bucket may be such a one, and what is left of its burst and its moment have 64 bits
pub record IsSmallBucket (k : Kept) : Type 0 where
  pub kept : is_kept k ≡ true
  pub burst : k.burst < 2 ^ 64
  pub moment : k.moment < 2 ^ 64

abbrev pub AreSmallLimits : Buckets → Type 0
AreSmallLimits b = IfSome b.bandwidth IsSmallBucket × IfSome b.ops IsSmallBucket

-- other buckets are such
abbrev pub AreSmallOthers : Option (Option Kept) → Type 0
AreSmallOthers o = IfSome o (λ (b : Option Kept). IfSome b IsSmallBucket)
