-- What a bucket keeps of its start and its needs.
use Rattle.std.specs.Prelude.{◌≡◌, ℕ, ◌+◌, ◌-◌, ◌*◌, ◌/◌, ◌^◌, ◌<◌, ◌≤◌, min, max, nat_eq, nat_le, nat_lt, ◌&&◌, ◌||◌, Bool, true, false, if◌then◌else◌}
use Rattle.std.specs.Prelude.{List, Option, Some, None, ℤ, pos, negsuc, ◌-ℤ◌}
use Rattle.token_bucket.specs.Rate.{Rate, rate_of, full}
use Rattle.token_bucket.specs.Allowance.{Start, Need, total, last_moment, NeverFall, fits, owed, may_pass}
use Rattle.token_bucket.specs.declared.state.BucketParts.{BucketParts}
use Rattle.token_bucket.specs.declared.state.State.{State}

-- a bucket as its callers see it
pub record Kept : Type 0 where
  pub rate : Rate
  pub burst : ℕ
  pub owes : ℕ
  pub moment : ℕ

-- The bucket keeps the saved form of this start and these needs. Many starts and lists have one saved form;
-- what is said of a bucket holds for each of them.
pub record Keeps (kept : Kept) (start : Start) (needs : List Need) : Type 0 where
  pub in_order : NeverFall start needs
  pub burst_left : kept.burst ≡ start.burst - total needs
  pub is_owed : kept.owes ≡ owed kept.rate start needs (last_moment start needs)
  pub newest : kept.moment ≡ last_moment start needs

-- every bucket keeps the saved form of a start at least
abbrev pub start_of : Kept → Start
start_of kept = record { burst = kept.burst; owed = kept.owes; moment = kept.moment }

-- what is owed where the balance is this; a balance above a full one counts as full
abbrev pub owed_of : ℕ → ℤ → ℕ
owed_of most (pos balance) = most - balance
owed_of most (negsuc debt) = most + (debt + 1)

-- what a bucket of this rate keeps of a saved form
abbrev pub kept_at : Rate → State → Kept
kept_at rate state =
    record {
      rate = rate;
      burst = state.burst;
      owes = owed_of (full rate) state.balance;
      moment = state.moment;
    }

-- what is kept, by all of its parts
abbrev pub kept_of : BucketParts → Kept
kept_of parts =
    record {
      rate = record { size = parts.size; refill = parts.refill };
      burst = parts.burst;
      owes = parts.owed;
      moment = parts.moment;
    }

-- what a bucket may keep: fewer than 2^48 tokens in fewer than 2^52 nanoseconds, and a debt of less than 2^127
abbrev pub is_kept : Kept → Bool
is_kept k =
    nat_lt 0 k.rate.size && nat_lt k.rate.size (2 ^ 48) && nat_lt k.rate.refill (2 ^ 52)
    && nat_le k.owes (k.rate.size * k.rate.refill + 2 ^ 127)

-- the bucket that keeps this, if there may be such a one
abbrev pub bucket_from : Kept → Option Kept
bucket_from k = if is_kept k then Some k else None

-- a new bucket is full; there is none where the size or the milliseconds of refill time are 0, which is no limit
abbrev pub new_bucket : ℕ → ℕ → ℕ → Option Kept
new_bucket size burst ms =
    if nat_eq size 0 || nat_eq ms 0 then None
    else Some (record { rate = rate_of size ms; burst = burst; owes = 0; moment = 0 })

-- the last moment of the clock
abbrev pub last_of_all : ℕ
last_of_all = 2 ^ 64 - 1

-- the least moment, not before the newest need, at which so many tokens may pass, or the last of all where
-- that is later
pub record IsWait (rate : Rate) (start : Start) (needs : List Need) (tokens wait : ℕ) : Type 0 where
  pub not_before : last_moment start needs ≤ wait
  pub none_before : (now : ℕ) → last_moment start needs ≤ now → now < wait →
      may_pass rate start needs tokens now ≡ false
  pub passes : wait < last_of_all → may_pass rate start needs tokens wait ≡ true

-- ---- by what is kept alone

-- what is owed at a moment; one before the newest need's counts as that
abbrev pub owes_at : Kept → ℕ → ℕ
owes_at kept now = kept.owes - kept.rate.size * (max now kept.moment - kept.moment)

-- whether so many tokens pass at a moment
abbrev pub takes : Kept → ℕ → ℕ → Bool
takes kept tokens now = fits kept.rate (tokens - kept.burst) (owes_at kept now)

-- what is kept after them
abbrev pub took : Kept → ℕ → ℕ → Kept
took kept tokens now = record kept {
  burst = kept.burst - tokens;
  owes = owes_at kept now + kept.rate.refill * (tokens - kept.burst);
  moment = max now kept.moment;
}

-- the most that may be owed where a need adds so many tokens
abbrev pub most_owed : Rate → ℕ → ℕ
most_owed rate adds = rate.refill * (rate.size - adds)

-- a quotient, rounded up
abbrev pub rounded_up : ℕ → ℕ → ℕ
rounded_up count divisor = (count + (divisor - 1)) / divisor

-- The moment that is waited for: the newest need's, and where the burst doesn't pay for all, as much later as what
-- is owed too much takes to flow in.
abbrev pub waits_until : Kept → ℕ → ℕ
waits_until kept tokens =
    if nat_le tokens kept.burst then kept.moment
    else min last_of_all
    (kept.moment
    + rounded_up (kept.owes - most_owed kept.rate (tokens - kept.burst)) kept.rate.size)

-- the saved form
abbrev pub saved_of : Kept → State
saved_of kept =
    record {
      burst = kept.burst;
      balance = pos (full kept.rate) -ℤ pos kept.owes;
      moment = kept.moment;
    }
