-- Lives of buckets.
use Rattle.std.proofs.Common.{◌≡◌, ℕ, true, List, [], ◌∷◌, ◌++◌, refl, sym, ap, ◌∙◌, arith}
use Rattle.token_bucket.specs.Rate.{Rate}
use Rattle.token_bucket.specs.Allowance.{Start, Need, NeverFall, moment_at}
use Rattle.token_bucket.specs.Kept.{Kept, takes, took}
use Rattle.token_bucket.specs.Window.{IsLife, IsBounded, Lives, with_need, with_needs}
use Rattle.token_bucket.proofs.Takes.{may_pass_is, keeps_on}
use Rattle.token_bucket.proofs.Windows.{window_bound}

pub life_is_bounded : (rate : Rate) (start : Start) (needs : List Need) → IsLife rate start needs → IsBounded rate start needs
life_is_bounded rate start needs life = λ after window before from to is within. window_bound rate start after window before from to (rw is at life) within

pub lives_on : (kept : Kept) (start : Start) (needs : List Need) (tokens now : ℕ) → Lives kept start needs → takes kept tokens now ≡ true
    → Lives (took kept tokens now) start (with_need start needs tokens now)
lives_on kept start needs tokens now lives is =
    record {
      keeps = keeps_on kept start needs tokens now lives.keeps;
      life = (omega arith, sym (may_pass_is kept start needs tokens now lives.keeps) ∙ is, lives.life);
    }

pub need_is_bounded : (kept : Kept) (start : Start) (needs : List Need) (tokens now : ℕ) → Lives kept start needs → takes kept tokens now ≡ true
    → IsBounded kept.rate start (with_need start needs tokens now)
need_is_bounded kept start needs tokens now lives is = life_is_bounded kept.rate start _ (lives_on kept start needs tokens now lives is).life

pub needs_in_order : (start : Start) (needs newer : List Need) → NeverFall start (newer ++ needs) → with_needs start needs newer ≡ newer ++ needs
needs_in_order start needs [] falls = refl
needs_in_order start needs (need ∷ older) falls =
    let at : moment_at start (older ++ needs) need.moment ≡ need.moment = let order = falls.0 in omega arith in
    rw (needs_in_order start needs older falls.1) (ap (λ n. record need { moment = n } ∷ (older ++ needs)) at)
