-- What limits there may be.
use Rattle.std.specs.Prelude.{ℕ, ◌^◌, ◌&&◌, nat_lt, Bool}
use Rattle.api_calls.specs.Form.{holds}
use Rattle.api_calls.specs.declared.limiter.BucketConfig.{BucketConfig}
use Rattle.api_calls.specs.declared.limiter.Limiter.{Limiter}

-- tokens are counted below 2^48, and a refill takes below 2^32 milliseconds
abbrev pub is_bucket : BucketConfig → Bool
is_bucket b =
    nat_lt b.size (2 ^ 48) && nat_lt b.refill_time (2 ^ 32) && holds (λ n. nat_lt n (2 ^ 48)) b.one_time_burst

abbrev pub is_limiter : Limiter → Bool
is_limiter l = holds is_bucket l.bandwidth && holds is_bucket l.ops
