-- What passes in a window of a life.
use Rattle.std.proofs.Common.{◌≡◌, ℕ, ◌+◌, ◌-◌, ◌*◌, ◌<◌, ◌≤◌, inl, inr, true, false, nat_eq, List, [], ◌∷◌, ◌++◌, ap, ◌∙◌, arith}
use Rattle.std.proofs.Math.Nat.{mul-add, mul-zero, mul_comm}
use Rattle.std.proofs.lemmas.Nat.{mul-le}
use Rattle.std.proofs.lemmas.Bool.{cases_lt, cases_eq}
use Rattle.std.proofs.lemmas.Bool.Decides.{nat_tests}
use Rattle.token_bucket.specs.Rate.{Rate}
use Rattle.token_bucket.specs.Allowance.{Start, Need, total, NeverFall, added, owed, fits}
use Rattle.token_bucket.specs.Window.{IsLife, IsWithin, excess}
use Rattle.token_bucket.proofs.Largest.{largest_later, owed-need, passed_product}

life_falls : (rate : Rate) (start : Start) (needs : List Need) → IsLife rate start needs → NeverFall start needs
life_falls rate start [] life = tt
life_falls rate start (need ∷ older) life = (life.0, life_falls rate start older life.2)

life_before : (rate : Rate) (start : Start) (after needs : List Need) → IsLife rate start (after ++ needs) → IsLife rate start needs
life_before rate start [] needs life = life
life_before rate start (need ∷ after) needs life = life_before rate start after needs life.2

total-append : (needs before : List Need) → total (needs ++ before) ≡ total needs + total before
total-append [] before = omega arith
total-append (need ∷ needs) before = omega (arith, total-append needs before)

-- what the needs of a window add together
abbrev pub adds : Start → List Need → List Need → ℕ
adds start [] before = 0
adds start (need ∷ older) before = added start need.tokens (older ++ before) + adds start older before

-- the burst pays the rest of them
adds_are : (start : Start) (window before : List Need) → adds start window before ≡ (total window + total before - start.burst) - (total before - start.burst)
adds_are start [] before = omega arith
adds_are start (need ∷ older) before = omega (arith, adds_are start older before, total-append older before)

fits_at_most : (rate : Rate) (more owes : ℕ) → 0 < more → fits rate more owes ≡ true → owes + rate.refill * more ≤ rate.refill * (rate.size + (more - rate.size))
fits_at_most rate more owes some fit =
    elim (cases_lt rate.size more) as (λ _. owes + rate.refill * more ≤ rate.refill * (rate.size + (more - rate.size))) [
      | inl large ↦
          let sum : rate.size + (more - rate.size) ≡ more = omega arith in
          let product : rate.refill * (rate.size + (more - rate.size)) ≡ rate.refill * more = ap (λ n. rate.refill * n) sum in
          grind (arith, nat_tests)
      | inr small ↦
          let sum : rate.size + (more - rate.size) ≡ rate.size = omega arith in
          let product : rate.refill * (rate.size + (more - rate.size)) ≡ rate.refill * rate.size = ap (λ n. rate.refill * n) sum in
          let turned = mul_comm rate.size rate.refill in
          grind (arith, nat_tests)
    ]

-- what a window's needs added is owed after the newest of them, but for what flowed in
window_owed : (rate : Rate) (start : Start) (need : Need) (older before : List Need) (from to : ℕ) → IsLife rate start (need ∷ older ++ before) → IsWithin from to (need ∷ older) →
    rate.refill * adds start (need ∷ older) before ≤ owed rate start (need ∷ older ++ before) need.moment + rate.size * (need.moment - from)
window_owed rate start need [] before from to life within =
    let more = added start need.tokens before in
    let sum : more + 0 ≡ more = omega arith in
    let product : rate.refill * (more + 0) ≡ rate.refill * more = ap (λ n. rate.refill * n) sum in
    let is_owed = owed-need rate start need before in
    omega arith
window_owed rate start need (next ∷ older) before from to life within =
    let more = added start need.tokens (next ∷ older ++ before) in
    let rest = window_owed rate start next older before from to life.2 within.2 in
    let is_owed = owed-need rate start need (next ∷ older ++ before) in
    let later = largest_later rate start 0 (next ∷ older ++ before) next.moment need.moment (life_falls rate start (next ∷ older ++ before) life.2) (omega arith) life.0 in
    let flowed = passed_product rate.size from next.moment need.moment within.2.0 life.0 in
    let product = mul-add rate.refill more (adds start (next ∷ older) before) in
    omega arith

window_adds : (rate : Rate) (start : Start) (window before : List Need) (from to : ℕ) → IsLife rate start (window ++ before) → IsWithin from to window →
    rate.refill * adds start window before ≤ rate.refill * (rate.size + excess rate start window before) + rate.size * (to - from)
window_adds rate start [] before from to life within = let none = mul-zero rate.refill in omega arith
window_adds rate start (need ∷ older) before from to life within =
    elim (cases_eq (added start need.tokens (older ++ before)) 0) as (λ _. rate.refill * adds start (need ∷ older) before ≤ rate.refill * (rate.size + excess rate start (need ∷ older) before) + rate.size * (to - from)) [
      | inl none ↦
          let rest = window_adds rate start older before from to life.2 within.2 in
          let sum : 0 + adds start older before ≡ adds start older before = omega arith in
          rw none (rw sum rest)
      | inr some ↦
          let more = added start need.tokens (older ++ before) in
          let no : nat_eq more 0 ≡ false = grind (arith, nat_tests) in
          let one : 0 < more = omega arith in
          let owes = window_owed rate start need older before from to life within in
          let is_owed = owed-need rate start need (older ++ before) in
          let most = fits_at_most rate more (owed rate start (older ++ before) need.moment) one life.1 in
          let flowed = mul-le rate.size (need.moment - from) rate.size (to - from) (omega arith) (omega arith) in
          rw no (omega (arith, owes, is_owed, most, flowed))
    ]

pub window_bound : (rate : Rate) (start : Start) (after window before : List Need) (from to : ℕ) → IsLife rate start (after ++ (window ++ before)) → IsWithin from to window →
    rate.refill * total window ≤ rate.refill * (start.burst - total before + rate.size + excess rate start window before) + rate.size * (to - from)
window_bound rate start after window before from to life within =
    let bound = window_adds rate start window before from to (life_before rate start after (window ++ before) life) within in
    let burst = start.burst - total before in
    let more = adds start window before in
    let sum : burst + rate.size + excess rate start window before ≡ burst + (rate.size + excess rate start window before) = omega arith in
    let limit = ap (λ n. rate.refill * n) sum ∙ mul-add rate.refill burst (rate.size + excess rate start window before) in
    let are = adds_are start window before in
    let few : total window ≤ burst + more = omega arith in
    let product = mul-le rate.refill (total window) rate.refill (burst + more) (omega arith) few in
    let parts = mul-add rate.refill burst more in
    omega arith
