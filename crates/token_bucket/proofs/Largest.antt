-- The largest of the sums, in steps: time takes from what is owed, and a need adds to it.
use Rattle.std.proofs.Common.{◌≡◌, ℕ, ◌+◌, ◌-◌, ◌*◌, ◌≤◌, max, List, [], ◌∷◌, ap, ◌∙◌, arith}
use Rattle.std.proofs.Math.Nat.{mul-add, mul-zero}
use Rattle.token_bucket.specs.Rate.{Rate}
use Rattle.token_bucket.specs.Allowance.{Start, Need, last_moment, NeverFall, added, largest, owed}

-- one more sum: what is added stays, at least
grown_term : (adds sum less : ℕ) → max adds ((sum + adds) - less) ≡ adds + (sum - less)
grown_term adds sum less = omega arith

grown_two : (adds a b c d : ℕ) → max adds a ≡ adds + c → max adds b ≡ adds + d → max adds (max a b) ≡ adds + max c d
grown_two adds a b c d first second = omega arith

-- needs after these added so much
pub largest_grown : (rate : Rate) (start : Start) (newer adds : ℕ) (needs : List Need) (now : ℕ) →
    max (rate.refill * adds) (largest rate start (newer + adds) needs now) ≡ rate.refill * adds + largest rate start newer needs now
largest_grown rate start newer adds [] now =
    let product = mul-add rate.refill newer adds in
    omega (arith, product)
largest_grown rate start newer adds (need ∷ older) now =
    let more = added start need.tokens older in
    let swapped : newer + adds + more ≡ newer + more + adds = omega arith in
    let product = mul-add rate.refill (newer + more) adds in
    let less = rate.size * (now - need.moment) in
    let term : max (rate.refill * adds) (rate.refill * (newer + more + adds) - less) ≡ rate.refill * adds + (rate.refill * (newer + more) - less) = omega (arith, product) in
    rw swapped
    (grown_two (rate.refill * adds) (rate.refill * (newer + more + adds) - less) (largest rate start (newer + more + adds) older now) (rate.refill * (newer + more) - less) (largest rate start (newer + more) older now) term (largest_grown rate start (newer + more) adds older now))

pub passed_product : (size moment now later : ℕ) → moment ≤ now → now ≤ later → size * (later - moment) ≡ size * (now - moment) + size * (later - now)
passed_product size moment now later first second =
    let sum : later - moment ≡ (now - moment) + (later - now) = omega arith in
    ap (λ n. size * n) sum ∙ mul-add size (now - moment) (later - now)

less_two : (a b less : ℕ) → max (a - less) (b - less) ≡ max a b - less
less_two a b less = omega arith

less_more : (a first second both : ℕ) → both ≡ first + second → a - both ≡ (a - first) - second
less_more a first second both e = omega arith

-- time goes on
pub largest_later : (rate : Rate) (start : Start) (newer : ℕ) (needs : List Need) (now later : ℕ) → NeverFall start needs → last_moment start needs ≤ now → now ≤ later →
    largest rate start newer needs later ≡ largest rate start newer needs now - rate.size * (later - now)
largest_later rate start newer [] now later order first second =
    less_more (start.owed + rate.refill * newer) (rate.size * (now - start.moment)) (rate.size * (later - now)) (rate.size * (later - start.moment)) (passed_product rate.size start.moment now later first second)
largest_later rate start newer (need ∷ older) now later order first second =
    let more = newer + added start need.tokens older in
    let before : last_moment start older ≤ need.moment = order.0 in
    let rest = largest_later rate start more older now later order.1 (omega arith) second in
    let term = less_more (rate.refill * more) (rate.size * (now - need.moment)) (rate.size * (later - now)) (rate.size * (later - need.moment)) (passed_product rate.size need.moment now later first second) in
    rw (term, rest) (less_two (rate.refill * more - rate.size * (now - need.moment)) (largest rate start more older now) (rate.size * (later - now)))

-- right after a need
pub owed-need : (rate : Rate) (start : Start) (need : Need) (older : List Need) →
    owed rate start (need ∷ older) need.moment ≡ owed rate start older need.moment + rate.refill * added start need.tokens older
owed-need rate start need older =
    let adds = added start need.tokens older in
    let grown = largest_grown rate start 0 adds older need.moment in
    let none : rate.size * (need.moment - need.moment) ≡ 0 = ap (λ n. rate.size * n) (omega arith) ∙ mul-zero rate.size in
    let sum : 0 + adds ≡ adds = omega arith in
    let grown = rw sum at grown in
    rw sum (omega (arith, none, grown))
