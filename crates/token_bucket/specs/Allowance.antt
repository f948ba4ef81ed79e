-- What a bucket allows, by sums over the needs that passed.
use Rattle.std.specs.Prelude.{ℕ, ◌+◌, ◌-◌, ◌*◌, ◌≤◌, max, nat_eq, nat_le, nat_lt, Bool, ◌&&◌, ◌||◌, List, [], ◌∷◌, pos, ◌-ℤ◌}
use Rattle.token_bucket.specs.Rate.{Rate, full}
use Rattle.token_bucket.specs.declared.state.State.{State}

-- how a bucket begins: the burst that is left, what is owed to a full balance, and the moment in nanoseconds
pub record Start : Type 0 where
  pub burst : ℕ
  pub owed : ℕ
  pub moment : ℕ

-- a need that passed: how many tokens, and when
pub record Need : Type 0 where
  pub tokens : ℕ
  pub moment : ℕ

-- The passed needs are listed newest first.
abbrev pub total : List Need → ℕ
total [] = 0
total (need ∷ older) = need.tokens + total older

-- The moment of the newest need, or of the start. No moment is before it: an earlier one counts as this one.
abbrev pub last_moment : Start → List Need → ℕ
last_moment start [] = start.moment
last_moment start (need ∷ older) = need.moment

abbrev pub moment_at : Start → List Need → ℕ → ℕ
moment_at start needs now = max now (last_moment start needs)

-- the moments of passed needs never fall
abbrev pub NeverFall : Start → List Need → Type 0
NeverFall start [] = Unit {0}
NeverFall start (need ∷ older) = (last_moment start older ≤ need.moment) × NeverFall start older

-- What a need of so many tokens adds to the debt, after the older ones: the part of it that the burst
-- doesn't pay. The burst pays the first tokens of all needs together.
abbrev pub added : Start → ℕ → List Need → ℕ
added start tokens older = (tokens + total older - start.burst) - (total older - start.burst)

-- For the start and for each need, the sum of what was added from it on, less what flowed in since then: the
-- largest of these, where `newer` is the sum of what needs after these added.
abbrev pub largest : Rate → Start → ℕ → List Need → ℕ → ℕ
largest rate start newer [] now =
    start.owed + rate.refill * newer - rate.size * (now - start.moment)
largest rate start newer (need ∷ older) now =
    max (rate.refill * (newer + added start need.tokens older) - rate.size * (now - need.moment))
    (largest rate start (newer + added start need.tokens older) older now)

-- what is owed to a full balance
abbrev pub owed : Rate → Start → List Need → ℕ → ℕ
owed rate start needs now = largest rate start 0 needs now

-- A need passes if the burst pays all of it; if the balance has what it adds; or, where it adds more than the
-- bucket holds, if nothing is owed. The last leaves a debt: then more is owed than a full balance.
abbrev pub fits : Rate → ℕ → ℕ → Bool
fits rate adds owed =
    nat_eq adds 0
    || (nat_le adds rate.size && nat_le (owed + rate.refill * adds) (full rate))
    || (nat_lt rate.size adds && nat_eq owed 0)

abbrev pub may_pass : Rate → Start → List Need → ℕ → ℕ → Bool
may_pass rate start needs tokens now = fits rate (added start tokens needs) (owed rate start needs now)

-- the saved form: the burst left, and the balance right after the newest need, at its moment
abbrev pub saved : Rate → Start → List Need → State
saved rate start needs =
    record {
      burst = start.burst - total needs;
      balance = pos (full rate) -ℤ pos (owed rate start needs (last_moment start needs));
      moment = last_moment start needs;
    }
