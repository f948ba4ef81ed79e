-- All of some pages, by their places.
use Rattle.std.proofs.Common.{◌≡◌, ℕ, zero, suc, ◌+◌, ◌*◌, ◌≤◌, nat_le, nat_lt, true, List, [], ◌∷◌, ◌++◌, length, drop, refl, sym, ap, ◌∙◌, arith}
use Rattle.std.specs.List.{list_all}
use Rattle.std.proofs.lemmas.Bool.{le-leb, lt-ltb}
use Rattle.std.proofs.lemmas.List.{drop-drop, drop_all, take-append-drop}
use Rattle.snap_diff.specs.Copies.{page_at, pages_at, rises}
use Rattle.snap_diff.specs.Runs.{chosen, filled_of, kinds_of, numbers_from}
use Rattle.snap_diff.proofs.Tables.{many_from}
use Rattle.snap_diff.proofs.Written.{filled_at}
use Rattle.snap_writer.specs.Selected.{are_there}

one_more : (n k : ℕ) → numbers_from k (suc n) ≡ numbers_from k n ++ (k + n) ∷ []
one_more zero k = let same : k ≡ k + 0 = omega arith in ap (λ (m : ℕ). m ∷ []) same
one_more (suc n) k =
    let same : suc k + n ≡ k + suc n = omega arith in
    ap (λ (l : List ℕ). k ∷ l) (one_more n (suc k)) ∙ ap (λ (m : ℕ). k ∷ (numbers_from (suc k) n ++ m ∷ [])) same

-- one place more
pub one_place : (places new : List ℕ) (n : ℕ) → places ≡ numbers_from 0 n → new ≡ places ++ n ∷ [] → new ≡ numbers_from 0 (n + 1)
one_place places new n so_far put =
    let next : suc n ≡ n + 1 = omega arith in
    let same : 0 + n ≡ n = omega arith in
    put ∙ ap (λ (l : List ℕ). l ++ n ∷ []) so_far
    ∙ sym (ap (λ (m : ℕ). numbers_from 0 m) (sym next) ∙ one_more n 0 ∙ ap (λ (m : ℕ). numbers_from 0 n ++ m ∷ []) same)

all_from : (n k : ℕ) (bytes : List ℕ) → length bytes ≡ 4096 * (k + n) → pages_at (numbers_from k n) bytes ≡ drop (4096 * k) bytes
all_from zero k bytes size = sym (drop_all (4096 * k) bytes (omega (arith, size)))
all_from (suc n) k bytes size =
    let next : 4096 * k + 4096 ≡ 4096 * suc k = omega arith in
    ap (λ (l : List ℕ). page_at k bytes ++ l)
    (all_from n (suc k) bytes (omega (arith, size)) ∙ sym (drop-drop 4096 (4096 * k) bytes ∙ ap (λ (m : ℕ). drop m bytes) next))
    ∙ take-append-drop 4096 (drop (4096 * k) bytes)

pub all_pages : (n : ℕ) (bytes : List ℕ) → length bytes ≡ 4096 * n → pages_at (numbers_from 0 n) bytes ≡ bytes
all_pages n bytes size = all_from n 0 bytes (omega (arith, size))

rise_from : (n k pages : ℕ) → k + n ≤ pages → rises pages k (numbers_from k n) ≡ true
rise_from zero k pages le = refl
rise_from (suc n) k pages le =
    let same : nat_le k k ≡ true = le-leb k k (omega arith) in
    let below : nat_lt k pages ≡ true = lt-ltb k pages (omega (arith, le)) in
    let rest = rise_from n (suc k) pages (omega (arith, le)) in
    rw (same, below, rest) refl

below_from : (n k pages : ℕ) → k + n ≤ pages → list_all (λ m. nat_lt m pages) (numbers_from k n) ≡ true
below_from zero k pages le = refl
below_from (suc n) k pages le =
    let below : nat_lt k pages ≡ true = lt-ltb k pages (omega (arith, le)) in
    let rest = below_from n (suc k) pages (omega (arith, le)) in
    rw (below, rest) refl

pub places_there : (n : ℕ) → are_there (numbers_from 0 n) n ≡ true
places_there n =
    let few : nat_le (length (numbers_from 0 n)) n ≡ true = le-leb (length (numbers_from 0 n)) n (omega (arith, many_from 0 n)) in
    let below = below_from n 0 n (omega arith) in
    rw (few, below) refl

-- those of a kind
pub chosen_are : (n : ℕ) (bytes : List ℕ) → length bytes ≡ 4096 * n
    → pages_at (chosen (numbers_from 0 n) (kinds_of n bytes)) bytes ≡ filled_of (kinds_of n bytes) bytes
chosen_are n bytes size =
    let places : List ℕ = numbers_from 0 n in
    let all : pages_at places bytes ≡ bytes = all_pages n bytes size in
    let many : length places ≡ n = many_from 0 n in
    sym (
    ap (λ (l : List ℕ). filled_of (kinds_of n l) l) (sym all)
    ∙ ap (λ (k : ℕ). filled_of (kinds_of k (pages_at places bytes)) (pages_at places bytes)) (sym many)
    ∙ filled_at n 0 places bytes (rise_from n 0 n (omega arith)) size
    ∙ ap (λ (k : ℕ). pages_at (chosen places (kinds_of k (pages_at places bytes))) bytes) many
    ∙ ap (λ (l : List ℕ). pages_at (chosen places (kinds_of n l)) bytes) all)
