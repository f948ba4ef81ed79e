-- The buckets of limits.
use Rattle.std.specs.Prelude.{Option, Some, None, option_and_then, option_map, unwrap_or}
use Rattle.api_calls.specs.declared.limiter.BucketConfig.{BucketConfig}
use Rattle.api_calls.specs.declared.limiter.Limiter.{Limiter}
use Rattle.token_bucket.specs.Kept.{Kept, new_bucket}
use Rattle.rate_gate.specs.Gate.{Buckets}
use Rattle.guest_devices.specs.declared.change.DeviceChange.{DeviceChange}
use Rattle.guest_devices.specs.Kinds.{limits_change, receives_change, transmits_change}

-- a full one with its burst; there is none where its size or its refill time is 0, which is no limit
abbrev pub bucket_of : BucketConfig → Option Kept
bucket_of b = new_bucket b.size (unwrap_or b.one_time_burst 0) b.refill_time

-- a gate that lets all pass
abbrev pub no_limits : Buckets
no_limits = record { bandwidth = None; ops = None }

-- what a drive starts with, and either way of an interface
abbrev pub limits_of : Option Limiter → Buckets
limits_of None = no_limits
limits_of (Some l) = record { bandwidth = option_and_then bucket_of l.bandwidth; ops = option_and_then bucket_of l.ops }

-- what a PATCH tells its device: those that it names are new, and the others stay
abbrev pub limits_told : Limiter → DeviceChange
limits_told l = limits_change (option_map bucket_of l.bandwidth) (option_map bucket_of l.ops)

-- and what a PATCH tells the device of an interface, of what it receives and of what it transmits
abbrev pub receives_told : Limiter → DeviceChange
receives_told l = receives_change (option_map bucket_of l.bandwidth) (option_map bucket_of l.ops)

abbrev pub transmits_told : Limiter → DeviceChange
transmits_told l = transmits_change (option_map bucket_of l.bandwidth) (option_map bucket_of l.ops)
