-- What is known of limits that there may be.
use Rattle.std.proofs.Common.{◌≡◌, ◌<◌, ◌^◌, true}
use Rattle.std.specs.Prelude.{nat_lt}
use Rattle.std.proofs.lemmas.Bool.{and_parts, ltb-true}
use Rattle.api_calls.specs.declared.limiter.BucketConfig.{BucketConfig}
use Rattle.api_calls.specs.declared.limiter.Limiter.{Limiter}
use Rattle.api_calls.specs.Form.{holds}
use Rattle.api_calls.specs.Limits.{is_bucket, is_limiter}

pub size_below : (b : BucketConfig) → is_bucket b ≡ true → b.size < 2 ^ 48
size_below b is =
    let first = and_parts _ (holds (λ n. nat_lt n (2 ^ 48)) b.one_time_burst) is in
    ltb-true b.size (2 ^ 48) (and_parts (nat_lt b.size (2 ^ 48)) (nat_lt b.refill_time (2 ^ 32)) first.0).0

pub time_below : (b : BucketConfig) → is_bucket b ≡ true → b.refill_time < 2 ^ 32
time_below b is =
    let first = and_parts _ (holds (λ n. nat_lt n (2 ^ 48)) b.one_time_burst) is in
    ltb-true b.refill_time (2 ^ 32) (and_parts (nat_lt b.size (2 ^ 48)) (nat_lt b.refill_time (2 ^ 32)) first.0).1

pub bandwidth_holds : (l : Limiter) → is_limiter l ≡ true → holds is_bucket l.bandwidth ≡ true
bandwidth_holds l is = (and_parts (holds is_bucket l.bandwidth) (holds is_bucket l.ops) is).0

pub ops_holds : (l : Limiter) → is_limiter l ≡ true → holds is_bucket l.ops ≡ true
ops_holds l is = (and_parts (holds is_bucket l.bandwidth) (holds is_bucket l.ops) is).1
