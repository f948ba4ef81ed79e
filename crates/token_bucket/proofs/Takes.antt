-- What passes, what is waited for and the saved form are told by what is kept.
use Rattle.std.proofs.Common.{◌≡◌, ℕ, ◌+◌, ◌-◌, ◌*◌, ◌<◌, ◌≤◌, min, inl, inr, ℤ, pos, negsuc, ◌+ℤ◌, ◌-ℤ◌, List, ◌∷◌, refl, sym, ap, ap₂, ◌∙◌, arith}
use Rattle.std.proofs.lemmas.Bool.{le-leb, lt-leb, cases_lt}
use Rattle.std.proofs.lemmas.Int.{ints}
use Rattle.token_bucket.specs.Rate.{full}
use Rattle.token_bucket.specs.Allowance.{Start, Need, may_pass, moment_at, fits, saved}
use Rattle.token_bucket.specs.Kept.{Kept, Keeps, IsWait, last_of_all, owed_of, kept_at, saved_of, took, takes, most_owed, rounded_up, waits_until}
use Rattle.token_bucket.proofs.Moves.{may_pass_at, may_pass_kept, need_kept}
use Rattle.token_bucket.proofs.Waits.{wait_kept}

pub may_pass_is : (kept : Kept) (start : Start) (needs : List Need) (tokens now : ℕ) → Keeps kept start needs
    → takes kept tokens now ≡ may_pass kept.rate start needs tokens (moment_at start needs now)
may_pass_is kept start needs tokens now keeps = sym (may_pass_at kept start needs tokens now keeps)

pub keeps_on : (kept : Kept) (start : Start) (needs : List Need) (tokens now : ℕ) → Keeps kept start needs
    → Keeps (took kept tokens now) start (record { tokens = tokens; moment = moment_at start needs now } ∷ needs)
keeps_on kept start needs tokens now keeps =
    need_kept kept (took kept tokens now) start needs tokens now keeps refl refl refl refl

-- the burst pays for all
waits_for_none : (kept : Kept) (start : Start) (needs : List Need) (tokens : ℕ) → Keeps kept start needs → tokens ≤ kept.burst → IsWait kept.rate start needs tokens kept.moment
waits_for_none kept start needs tokens keeps small =
    let newest = keeps.newest in
    let none : tokens - kept.burst ≡ 0 = omega arith in
    record {
      not_before = omega arith;
      none_before = λ now early before. absurd (omega arith);
      passes = λ before. may_pass_kept kept start needs tokens kept.moment keeps (omega arith)
          ∙ ap (λ n. fits kept.rate n (kept.owes - kept.rate.size * (kept.moment - kept.moment))) none;
    }

pub waits_are : (kept : Kept) (start : Start) (needs : List Need) (tokens : ℕ) → Keeps kept start needs → 0 < kept.rate.size → kept.moment ≤ last_of_all
    → IsWait kept.rate start needs tokens (waits_until kept tokens)
waits_are kept start needs tokens keeps some most =
    let steps = rounded_up (kept.owes - most_owed kept.rate (tokens - kept.burst)) kept.rate.size in
    elim (cases_lt kept.burst tokens) as (λ _. IsWait kept.rate start needs tokens (waits_until kept tokens)) [
      | inl large ↦ rw (lt-leb tokens kept.burst large) (wait_kept kept start needs tokens _ steps keeps refl some (omega arith) (omega arith) (omega arith) (λ early. omega arith))
      | inr small ↦ rw (le-leb tokens kept.burst small) (waits_for_none kept start needs tokens keeps small)
    ]

-- the burst doesn't pay for all
pub until_is : (kept : Kept) (tokens wait steps : ℕ) → 0 < tokens - kept.burst
    → steps ≡ rounded_up (kept.owes - most_owed kept.rate (tokens - kept.burst)) kept.rate.size
    → wait ≡ min last_of_all (kept.moment + steps) → wait ≡ waits_until kept tokens
until_is kept tokens wait steps some are is =
    rw (lt-leb tokens kept.burst (omega arith)) (is ∙ ap (λ n. min last_of_all (kept.moment + n)) are)

pub saved_is : (kept : Kept) (start : Start) (needs : List Need) → Keeps kept start needs → saved_of kept ≡ saved kept.rate start needs
saved_is kept start needs keeps = rw (keeps.burst_left, keeps.is_owed, keeps.newest) refl

owed_back : (most owes : ℕ) (balance : ℤ) → balance +ℤ pos owes ≡ pos most → owed_of most balance ≡ owes
owed_back most owes (pos left) is = omega (arith, ints)
owed_back most owes (negsuc debt) is = omega (arith, ints)

-- what is kept comes back from its saved form
pub loaded_is : (kept : Kept) → kept_at kept.rate (saved_of kept) ≡ kept
loaded_is kept =
    let balance = pos (full kept.rate) -ℤ pos kept.owes in
    ap (λ n. record kept { owes = n }) (owed_back (full kept.rate) kept.owes balance (omega (arith, ints)))

-- what is kept is the same where each part is
pub kept_is : (a b : Kept) → a.rate ≡ b.rate → a.burst ≡ b.burst → a.owes ≡ b.owes → a.moment ≡ b.moment → a ≡ b
kept_is a b rate burst owes moment =
    let first = ap₂ (λ r n. record a { rate = r; burst = n }) rate burst in
    first ∙ ap₂ (λ n at. record b { owes = n; moment = at }) owes moment
