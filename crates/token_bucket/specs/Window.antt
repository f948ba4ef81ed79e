-- A window of a bucket's life, and how much passes in it.
use Rattle.std.specs.Prelude.{◌≡◌, ℕ, ◌+◌, ◌-◌, ◌*◌, ◌≤◌, nat_eq, true, if◌then◌else◌, List, [], ◌∷◌, ◌++◌}
use Rattle.token_bucket.specs.Rate.{Rate}
use Rattle.token_bucket.specs.Allowance.{Start, Need, total, last_moment, moment_at, added, may_pass}
use Rattle.token_bucket.specs.Kept.{Kept, Keeps}

-- each need was one that may pass, after the older ones and at no earlier moment
abbrev pub IsLife : Rate → Start → List Need → Type 0
IsLife rate start [] = Unit {0}
IsLife rate start (need ∷ older) =
    (last_moment start older ≤ need.moment)
    × (may_pass rate start older need.tokens need.moment ≡ true)
    × IsLife rate start older

-- the moments of these needs
abbrev pub IsWithin : ℕ → ℕ → List Need → Type 0
IsWithin from to [] = Unit {0}
IsWithin from to (need ∷ older) = (from ≤ need.moment) × (need.moment ≤ to) × IsWithin from to older

-- how far the newest need of the window that adds something goes past the size
abbrev pub excess : Rate → Start → List Need → List Need → ℕ
excess rate start [] before = 0
excess rate start (need ∷ older) before =
    if nat_eq (added start need.tokens (older ++ before)) 0
    then excess rate start older before
    else added start need.tokens (older ++ before) - rate.size

-- In every window no more passes than the burst that is left as it begins, a full bucket, what its last need that
-- isn't paid by the burst takes beyond the size, and what flows in.
abbrev pub IsBounded : Rate → Start → List Need → Type 0
IsBounded rate start needs =
    (after window before : List Need) (from to : ℕ) → needs ≡ after ++ (window ++ before) →
    IsWithin from to window →
    rate.refill * total window
    ≤ rate.refill * (start.burst - total before + rate.size + excess rate start window before)
    + rate.size * (to - from)

-- a bucket's life: it keeps this start and these needs, each of which was one that may pass
pub record Lives (kept : Kept) (start : Start) (needs : List Need) : Type 0 where
  pub keeps : Keeps kept start needs
  pub life : IsLife kept.rate start needs

-- the needs with a newer one; a moment before the newest need's counts as that one
abbrev pub with_need : Start → List Need → ℕ → ℕ → List Need
with_need start needs tokens now =
    record { tokens = tokens; moment = moment_at start needs now } ∷ needs

-- with several, the newest first
abbrev pub with_needs : Start → List Need → List Need → List Need
with_needs start needs [] = needs
with_needs start needs (need ∷ older) =
    with_need start (with_needs start needs older) need.tokens need.moment
