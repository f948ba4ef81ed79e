-- What a bucket answers is what it allows, since it keeps some start.
use Rattle.std.proofs.Common.{◌≡◌, ℕ, ◌-◌, ◌*◌, Bool, true, List, [], Some, refl, sym, ap, ◌∙◌, arith}
use Rattle.std.proofs.Math.Nat.{mul-zero}
use Rattle.token_bucket.specs.Allowance.{Start, Need, may_pass, moment_at}
use Rattle.token_bucket.specs.Kept.{Kept, Keeps, start_of}
use Rattle.rate_gate.specs.Gate.{Allows}

some_start : (kept : Kept) → Keeps kept (start_of kept) []
some_start kept =
    let none : kept.rate.size * (kept.moment - kept.moment) ≡ 0 = ap (λ n. kept.rate.size * n) (omega arith) ∙ mul-zero kept.rate.size in
    let nothing = mul-zero kept.rate.refill in
    record { in_order = tt; burst_left = omega arith; is_owed = omega arith; newest = refl }

pub record Answers (kept : Kept) (tokens now : ℕ) (answer : Bool) : Type 0 where
  pub each : (start : Start) (needs : List Need) → Keeps kept start needs → answer ≡ may_pass kept.rate start needs tokens (moment_at start needs now)

pub allows_by : (kept : Kept) (tokens now : ℕ) (answer : Bool) → Answers kept tokens now answer → answer ≡ true → Allows (Some kept) tokens now
allows_by kept tokens now answer answers is = λ start needs keeps. sym (answers.each start needs keeps) ∙ is

pub answer_by : (kept : Kept) (tokens now : ℕ) (answer : Bool) → Answers kept tokens now answer → Allows (Some kept) tokens now → answer ≡ true
answer_by kept tokens now answer answers allows =
    answers.each (start_of kept) [] (some_start kept) ∙ allows (start_of kept) [] (some_start kept)
