-- What a bucket keeps, as time goes on and needs pass.
use Rattle.std.proofs.Common.{◌≡◌, ℕ, ◌+◌, ◌-◌, ◌*◌, ◌≤◌, max, List, ◌∷◌, refl, sym, ap, ◌∙◌, arith}
use Rattle.token_bucket.specs.Rate.{Rate}
use Rattle.token_bucket.specs.Allowance.{Start, Need, last_moment, moment_at, added, owed, fits, may_pass}
use Rattle.token_bucket.specs.Kept.{Kept, Keeps}
use Rattle.token_bucket.proofs.Largest.{largest_later, owed-need}

-- what is owed at a moment that isn't before the newest need
pub owed_kept : (kept : Kept) (start : Start) (needs : List Need) (now : ℕ) → Keeps kept start needs → last_moment start needs ≤ now →
    owed kept.rate start needs now ≡ kept.owes - kept.rate.size * (now - kept.moment)
owed_kept kept start needs now keeps first =
    rw (keeps.is_owed, keeps.newest) (largest_later kept.rate start 0 needs (last_moment start needs) now keeps.in_order (omega arith) first)

pub added_kept : (kept : Kept) (start : Start) (needs : List Need) (tokens : ℕ) → Keeps kept start needs → added start tokens needs ≡ tokens - kept.burst
added_kept kept start needs tokens keeps = let left = keeps.burst_left in omega arith

-- a need may pass by what is kept
pub may_pass_kept : (kept : Kept) (start : Start) (needs : List Need) (tokens now : ℕ) → Keeps kept start needs → last_moment start needs ≤ now →
    may_pass kept.rate start needs tokens now ≡ fits kept.rate (tokens - kept.burst) (kept.owes - kept.rate.size * (now - kept.moment))
may_pass_kept kept start needs tokens now keeps first =
    rw (added_kept kept start needs tokens keeps, owed_kept kept start needs now keeps first) refl

-- a need has passed
pub need_kept : (kept new : Kept) (start : Start) (needs : List Need) (tokens now : ℕ) → Keeps kept start needs →
    new.rate ≡ kept.rate → new.burst ≡ kept.burst - tokens → new.moment ≡ max now kept.moment →
    new.owes ≡ kept.owes - kept.rate.size * (max now kept.moment - kept.moment) + kept.rate.refill * (tokens - kept.burst) →
    Keeps new start (record { tokens = tokens; moment = moment_at start needs now } ∷ needs)
need_kept kept new start needs tokens now keeps rate burst moment owes =
    let at = moment_at start needs now in
    let need : Need = record { tokens = tokens; moment = at } in
    let left = keeps.burst_left in
    let newest = keeps.newest in
    let is_at : max now kept.moment ≡ at = ap (λ n. max now n) newest in
    let is_owed = owed-need kept.rate start need needs in
    let before = owed_kept kept start needs at keeps (omega arith) in
    let first : kept.owes - kept.rate.size * (max now kept.moment - kept.moment) ≡ owed kept.rate start needs at = ap (λ n. kept.owes - kept.rate.size * (n - kept.moment)) is_at ∙ sym before in
    let second : kept.rate.refill * (tokens - kept.burst) ≡ kept.rate.refill * added start tokens needs = ap (λ n. kept.rate.refill * n) (sym (added_kept kept start needs tokens keeps)) in
    let after : new.owes ≡ owed kept.rate start (need ∷ needs) at = omega (arith, owes, first, second, is_owed) in
    record {
      in_order = (omega arith, keeps.in_order);
      burst_left = omega arith;
      is_owed = after ∙ ap (λ (r : Rate). owed r start (need ∷ needs) at) (sym rate);
      newest = moment ∙ is_at;
    }

-- at a moment that counts as the newest need's if it is before that
pub may_pass_at : (kept : Kept) (start : Start) (needs : List Need) (tokens now : ℕ) → Keeps kept start needs →
    may_pass kept.rate start needs tokens (moment_at start needs now) ≡ fits kept.rate (tokens - kept.burst) (kept.owes - kept.rate.size * (max now kept.moment - kept.moment))
may_pass_at kept start needs tokens now keeps =
    let newest = keeps.newest in
    let is_at : moment_at start needs now ≡ max now kept.moment = ap (λ n. max now n) (sym newest) in
    may_pass_kept kept start needs tokens (moment_at start needs now) keeps (omega arith)
    ∙ ap (λ n. fits kept.rate (tokens - kept.burst) (kept.owes - kept.rate.size * (n - kept.moment))) is_at
