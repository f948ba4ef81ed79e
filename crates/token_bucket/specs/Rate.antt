-- How fast a bucket fills.
use Rattle.std.specs.Prelude.{ℕ, ◌*◌}

-- how many tokens a bucket holds, and in how many nanoseconds that many flow in
pub record Rate : Type 0 where
  pub size : ℕ
  pub refill : ℕ

-- a refill time is configured in milliseconds
abbrev pub rate_of : ℕ → ℕ → Rate
rate_of size ms = record { size = size; refill = ms * 1000000 }

-- A balance is counted in tokens times nanoseconds of refill time, so nothing is rounded. This is a full one:
-- each nanosecond adds `size` to it, and each token takes `refill` from it.
abbrev pub full : Rate → ℕ
full rate = rate.size * rate.refill
