-- What a PATCH makes of limits.
use Rattle.std.specs.Prelude.{Bool, ◌||◌, if◌then◌else◌, Option, Some, None, is_some, unwrap_or}
use Rattle.std.specs.Option.{option_or}
use Rattle.api_calls.specs.declared.limiter.Limiter.{Limiter}

abbrev pub no_limits : Limiter
no_limits = record { bandwidth = None; ops = None }

abbrev pub names_bucket : Limiter → Bool
names_bucket l = is_some l.bandwidth || is_some l.ops

-- the buckets that are named take the place of the others
abbrev pub with_buckets : Limiter → Limiter → Limiter
with_buckets named old = record {
  bandwidth = option_or named.bandwidth old.bandwidth;
  ops = option_or named.ops old.ops;
}

-- what names no bucket changes nothing, also where there are no limits yet
abbrev pub limited : Option Limiter → Option Limiter → Option Limiter
limited None old = old
limited (Some named) old =
    if names_bucket named then Some (with_buckets named (unwrap_or old no_limits)) else old
