-- What the definitions say of buckets, worked out by hand.
use Rattle.std.proofs.Common.{◌≡◌, ℕ, [], ◌∷◌, true, false, refl}
use Rattle.std.specs.Prelude.{List, pos, negsuc}
use Rattle.token_bucket.specs.Rate.{Rate, rate_of, full}
use Rattle.token_bucket.specs.Allowance.{Start, Need, may_pass, saved}
use Rattle.token_bucket.specs.Kept.{owed_of}

-- 1000 tokens in 100 ms: a token each 100 microseconds
abbrev rate : Rate
rate = rate_of 1000 100

abbrev full_with : ℕ → Start
full_with burst = record { burst = burst; owed = 0; moment = 0 }

abbrev need : ℕ → ℕ → Need
need tokens moment = record { tokens = tokens; moment = moment }

-- the burst of 500 goes first and comes once, and then what is there
abbrev spent : List Need
spent = need 1000 0 ∷ need 500 0 ∷ []

burst_and_balance : may_pass rate (full_with 500) (need 500 0 ∷ []) 1000 0 ≡ true
burst_and_balance = refl

too_early : may_pass rate (full_with 500) spent 1 99999 ≡ false
too_early = refl

flowed_in : may_pass rate (full_with 500) spent 1 100000 ≡ true
flowed_in = refl

-- a need beyond the size passes when nothing is owed, and leaves a debt of 3096 tokens
abbrev indebted : List Need
indebted = need 4096 100000 ∷ need 1 0 ∷ []

beyond_too_early : may_pass rate (full_with 0) (need 1 0 ∷ []) 4096 99999 ≡ false
beyond_too_early = refl

beyond : may_pass rate (full_with 0) (need 1 0 ∷ []) 4096 100000 ≡ true
beyond = refl

debt : saved rate (full_with 0) indebted ≡ record { burst = 0; balance = negsuc 309599999999; moment = 100000 }
debt = refl

debt_not_paid : may_pass rate (full_with 0) indebted 1 309799999 ≡ false
debt_not_paid = refl

debt_paid : may_pass rate (full_with 0) indebted 1 309800000 ≡ true
debt_paid = refl

-- the burst pays 500 of the 700
burst_pays : saved rate (full_with 500) (need 700 5 ∷ []) ≡ record { burst = 0; balance = pos 80000000000; moment = 5 }
burst_pays = refl

-- a balance above a full one counts as full, and one below 0 is a debt
above_full : owed_of (full rate) (pos 100000000001) ≡ 0
above_full = refl

below_0 : owed_of (full rate) (negsuc 0) ≡ 100000000001
below_0 = refl
