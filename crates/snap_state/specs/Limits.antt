-- Limits in a state file, as they are configured.
use Rattle.std.specs.Prelude.{refl}
use Rattle.file_format.specs.Format.{Format}
use Rattle.file_format.specs.Kinds.{number64, optional, ◌&◌, made_of}
use Rattle.api_calls.specs.declared.limiter.BucketConfig.{BucketConfig}
use Rattle.api_calls.specs.declared.limiter.Limiter.{Limiter}

-- how many tokens it holds, in how many milliseconds so many flow in, and its burst, if it has one
unfoldable pub bucket : Format BucketConfig
bucket =
    made_of (λ b. (b.size, (b.refill_time, b.one_time_burst)))
    (λ (size, (refill_time, one_time_burst)). record { size = size; refill_time = refill_time; one_time_burst = one_time_burst })
    (λ _. refl) (λ _. refl)
    (number64 & number64 & optional number64)

-- the bucket of bytes and that of requests
unfoldable pub limiter : Format Limiter
limiter =
    made_of (λ l. (l.bandwidth, l.ops)) (λ (bandwidth, ops). record { bandwidth = bandwidth; ops = ops }) (λ _. refl) (λ _. refl)
    (optional bucket & optional bucket)
