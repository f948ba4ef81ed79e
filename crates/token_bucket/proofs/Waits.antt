-- When a need fits, and from which moment on.
use Rattle.std.proofs.Common.{◌≡◌, ℕ, ◌+◌, ◌-◌, ◌*◌, ◌/◌, ◌%◌, ◌<◌, ◌≤◌, inl, inr, true, false, nat_le, List, sym, ap, ◌∙◌, arith}
use Rattle.std.proofs.Math.Nat.{mul-add, mul-zero, mul_comm}
use Rattle.std.proofs.lemmas.Nat.{mul-le, mod_below, div-add-mod'}
use Rattle.std.proofs.lemmas.Bool.{le-leb, lt-leb, cases_lt}
use Rattle.std.proofs.lemmas.Bool.Decides.{nat_tests}
use Rattle.token_bucket.specs.Rate.{Rate}
use Rattle.token_bucket.specs.Allowance.{Start, Need, fits}
use Rattle.token_bucket.specs.Kept.{Kept, Keeps, IsWait, last_of_all}
use Rattle.token_bucket.proofs.Moves.{may_pass_kept}

within : (rate : Rate) (adds owes : ℕ) → 0 < adds → adds ≤ rate.size → nat_le owes (rate.refill * (rate.size - adds)) ≡ fits rate adds owes
within rate adds owes some small =
    let sum : rate.size ≡ (rate.size - adds) + adds = omega arith in
    let product : rate.refill * rate.size ≡ rate.refill * (rate.size - adds) + rate.refill * adds = ap (λ n. rate.refill * n) sum ∙ mul-add rate.refill (rate.size - adds) adds in
    let turned = mul_comm rate.size rate.refill in
    grind (arith, nat_tests)

beyond : (rate : Rate) (adds owes : ℕ) → rate.size < adds → nat_le owes (rate.refill * (rate.size - adds)) ≡ fits rate adds owes
beyond rate adds owes large =
    let none : rate.size - adds ≡ 0 = omega arith in
    let product : rate.refill * (rate.size - adds) ≡ 0 = ap (λ n. rate.refill * n) none ∙ mul-zero rate.refill in
    grind (arith, nat_tests)

-- a need that adds something fits where no more is owed than this
pub fits_owed : (rate : Rate) (adds owes : ℕ) → 0 < adds → nat_le owes (rate.refill * (rate.size - adds)) ≡ fits rate adds owes
fits_owed rate adds owes some =
    elim (cases_lt rate.size adds) as (λ _. nat_le owes (rate.refill * (rate.size - adds)) ≡ fits rate adds owes) [
      | inl large ↦ beyond rate adds owes large
      | inr small ↦ within rate adds owes some small
    ]

pub steps_enough : (size over : ℕ) → 0 < size → over ≤ size * ((over + (size - 1)) / size)
steps_enough size over some =
    let sum = over + (size - 1) in
    let parts : sum / size * size + sum % size ≡ sum = div-add-mod' sum size in
    let rest : sum % size < size = mod_below sum size some in
    let turned : sum / size * size ≡ size * (sum / size) = mul_comm (sum / size) size in
    omega arith

pub steps_least : (size over count : ℕ) → 0 < size → count < (over + (size - 1)) / size → size * count < over
steps_least size over count some fewer =
    let sum = over + (size - 1) in
    let parts : sum / size * size + sum % size ≡ sum = div-add-mod' sum size in
    let turned : sum / size * size ≡ size * (sum / size) = mul_comm (sum / size) size in
    let more : size * (count + 1) ≤ size * (sum / size) = mul-le size (count + 1) size (sum / size) (omega arith) (omega arith) in
    let product : size * (count + 1) ≡ size * count + size * 1 = mul-add size count 1 in
    omega arith

fits_after : (rate : Rate) (adds owes passed : ℕ) → 0 < adds → owes - rate.refill * (rate.size - adds) ≤ rate.size * passed → fits rate adds (owes - rate.size * passed) ≡ true
fits_after rate adds owes passed some enough =
    sym (fits_owed rate adds (owes - rate.size * passed) some) ∙ le-leb (owes - rate.size * passed) (rate.refill * (rate.size - adds)) (omega arith)

no_fit_before : (rate : Rate) (adds owes passed : ℕ) → 0 < adds → rate.size * passed < owes - rate.refill * (rate.size - adds) → fits rate adds (owes - rate.size * passed) ≡ false
no_fit_before rate adds owes passed some few =
    sym (fits_owed rate adds (owes - rate.size * passed) some) ∙ lt-leb (owes - rate.size * passed) (rate.refill * (rate.size - adds)) (omega arith)

-- a moment that is so many steps on, or the last of all before that, is what the bucket waits for
pub wait_kept : (kept : Kept) (start : Start) (needs : List Need) (tokens wait steps : ℕ) → Keeps kept start needs →
    steps ≡ (kept.owes - kept.rate.refill * (kept.rate.size - (tokens - kept.burst)) + (kept.rate.size - 1)) / kept.rate.size →
    0 < kept.rate.size → 0 < tokens - kept.burst →
    kept.moment ≤ wait → wait ≤ kept.moment + steps → (wait < last_of_all → kept.moment + steps ≤ wait) →
    IsWait kept.rate start needs tokens wait
wait_kept kept start needs tokens wait steps keeps is_steps some adds first most exact =
    let newest = keeps.newest in
    let over = kept.owes - kept.rate.refill * (kept.rate.size - (tokens - kept.burst)) in
    record {
      not_before = omega arith;
      none_before = λ now early before.
          may_pass_kept kept start needs tokens now keeps early
          ∙ no_fit_before kept.rate (tokens - kept.burst) kept.owes (now - kept.moment) adds (steps_least kept.rate.size over (now - kept.moment) some (omega arith));
      passes = λ before.
          let is_on = exact before in
          let on : wait - kept.moment ≡ (over + (kept.rate.size - 1)) / kept.rate.size = omega arith in
          let enough = steps_enough kept.rate.size over some in
          let product : kept.rate.size * (wait - kept.moment) ≡ kept.rate.size * ((over + (kept.rate.size - 1)) / kept.rate.size) = ap (λ n. kept.rate.size * n) on in
          may_pass_kept kept start needs tokens wait keeps (omega arith)
          ∙ fits_after kept.rate (tokens - kept.burst) kept.owes (wait - kept.moment) adds (omega arith);
    }
