-- Something done with each page, one after another, and how many of them are made.
use Rattle.std.proofs.Common.{◌≡◌, ℕ, zero, suc, ◌+◌, ◌<◌, Bool, true, false, cond, not, List, [], ◌∷◌, ◌++◌, length, map, take, drop, get_or, set, refl, ap, ◌∙◌, arith}
use Rattle.std.specs.List.{count_by}
use Rattle.std.proofs.lemmas.List.Sums.{sum_by-cons}
use Rattle.guest_pages.specs.Made.{unmade}
use Rattle.guest_pages.specs.Pages.{PageValue}

-- a function of pages, of each in its place
module _ (f : PageValue → PageValue) where
  mapped_more : (xs : List PageValue) (i : ℕ) (d : PageValue) → i < length xs → set (map f (take i xs) ++ drop i xs) i (f (get_or xs i d)) ≡ map f (take (suc i) xs) ++ drop (suc i) xs
  mapped_more [] i d lt = absurd (omega arith)
  mapped_more (x ∷ xs) zero d lt = refl
  mapped_more (x ∷ xs) (suc i) d lt = ap (λ (l : List PageValue). f x ∷ l) (mapped_more xs i d (omega arith))

  mapped_there : (xs : List PageValue) (i : ℕ) (d : PageValue) → i < length xs → get_or (map f (take i xs) ++ drop i xs) i d ≡ get_or xs i d
  mapped_there [] i d lt = absurd (omega arith)
  mapped_there (x ∷ xs) zero d lt = refl
  mapped_there (x ∷ xs) (suc i) d lt = mapped_there xs i d (omega arith)

  next : (i : ℕ) → suc i ≡ i + 1
  next i = omega arith

  pub still_there : (init now : List PageValue) (i : ℕ) (d : PageValue) → i < length init → now ≡ map f (take i init) ++ drop i init → get_or now i d ≡ get_or init i d
  still_there init now i d lt so_far = ap (λ (l : List PageValue). get_or l i d) so_far ∙ mapped_there init i d lt

  pub mapped_step : (init now : List PageValue) (i : ℕ) (d new : PageValue) → i < length init → now ≡ map f (take i init) ++ drop i init → new ≡ f (get_or now i d) → set now i new ≡ map f (take (i + 1) init) ++ drop (i + 1) init
  mapped_step init now i d new lt so_far is =
      ap (λ (l : List PageValue). set l i new) so_far
      ∙ ap (λ (p : PageValue). set (map f (take i init) ++ drop i init) i p) (is ∙ ap f (still_there init now i d lt so_far))
      ∙ mapped_more init i d lt
      ∙ ap (λ (k : ℕ). map f (take k init) ++ drop k init) (next i)

-- ---- how many are made

abbrev one_if : Bool → ℕ
one_if b = cond b 1 0

either_way : (made : Bool) → one_if made + one_if (not made) ≡ 1
either_way true = refl
either_way false = refl

-- those that are and those that aren't are all
pub all_counted : (pages : List PageValue) → count_by (λ (p : PageValue). p.made) pages + unmade pages ≡ length pages
all_counted [] = refl
all_counted (p ∷ ps) =
    let made = sum_by-cons (λ (q : PageValue). one_if q.made) p ps in
    let others = sum_by-cons (λ (q : PageValue). one_if (not q.made)) p ps in
    omega (arith, made, others, either_way p.made, all_counted ps)
