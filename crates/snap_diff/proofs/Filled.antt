-- Which pages aren't zeros, and those pages.
use Rattle.std.proofs.Common.{◌≡◌, ℕ, zero, suc, ◌+◌, ◌*◌, ◌-◌, ◌<◌, ◌==◌, ◌&&◌, Bool, true, false, not, cond, List, [], ◌∷◌, ◌++◌, length, drop, take, refl, sym, ap, ◌∙◌, arith, append_assoc}
use Rattle.std.specs.Prelude.{replicate}
use Rattle.std.specs.List.{list_all}
use Rattle.std.proofs.lemmas.Bool.{and_parts, eqb-true}
use Rattle.std.proofs.lemmas.List.{drop-drop, drop_at, length-drop, length-take-le, take-append-drop, take_at}
use Rattle.file_format.specs.Readers.{are_zeros}
use Rattle.snap_diff.specs.Runs.{filled_of, kinds_of}

-- ---- lists of bytes

pub zeros_in : (n : ℕ) → are_zeros (replicate n 0) ≡ true
zeros_in zero = refl
zeros_in (suc n) = zeros_in n

zeros_take : (n : ℕ) (bs : List ℕ) → are_zeros bs ≡ true → are_zeros (take n bs) ≡ true
zeros_take zero bs is = refl
zeros_take (suc n) [] is = refl
zeros_take (suc n) (b ∷ bs) is =
    let two = and_parts (b == 0) (are_zeros bs) is in
    ap (λ (k : Bool). k && are_zeros (take n bs)) two.0 ∙ zeros_take n bs two.1

zeros_drop : (n : ℕ) (bs : List ℕ) → are_zeros bs ≡ true → are_zeros (drop n bs) ≡ true
zeros_drop zero bs is = is
zeros_drop (suc n) [] is = refl
zeros_drop (suc n) (b ∷ bs) is = zeros_drop n bs (and_parts (b == 0) (are_zeros bs) is).1

pub are_zeros_of : (bs : List ℕ) → are_zeros bs ≡ true → bs ≡ replicate (length bs) 0
are_zeros_of [] is = refl
are_zeros_of (b ∷ bs) is =
    let two = and_parts (b == 0) (are_zeros bs) is in
    ap (λ (x : ℕ). x ∷ bs) (eqb-true b 0 two.0) ∙ ap (λ (l : List ℕ). 0 ∷ l) (are_zeros_of bs two.1)

pub many_zeros : (a b : ℕ) → replicate {A = ℕ} (a + b) 0 ≡ replicate {A = ℕ} a 0 ++ replicate {A = ℕ} b 0
many_zeros zero b = let none : zero + b ≡ b = omega arith in ap (λ (n : ℕ). replicate {A = ℕ} n 0) none
many_zeros (suc a) b =
    let next : suc a + b ≡ suc (a + b) = omega arith in
    ap (λ (n : ℕ). replicate {A = ℕ} n 0) next ∙ ap (λ (l : List ℕ). 0 ∷ l) (many_zeros a b)

-- one page and others
module _ (page others : List ℕ) (size : length page ≡ 4096) where
  pub first_page : take 4096 (page ++ others) ≡ page
  first_page = take_at page others 4096 size

  pub other_pages : drop 4096 (page ++ others) ≡ others
  other_pages = drop_at page others 4096 size

  pub kinds_then : (n : ℕ) → kinds_of (suc n) (page ++ others) ≡ not (are_zeros page) ∷ kinds_of n others
  kinds_then n = ap (λ (l : List ℕ). not (are_zeros l) ∷ kinds_of n (drop 4096 (page ++ others))) first_page ∙ ap (λ (l : List ℕ). not (are_zeros page) ∷ kinds_of n l) other_pages

  pub filled_then : (kind : Bool) (kinds : List Bool) → filled_of (kind ∷ kinds) (page ++ others) ≡ cond kind page [] ++ filled_of kinds others
  filled_then kind kinds =
      ap (λ (l : List ℕ). cond kind l [] ++ filled_of kinds (drop 4096 (page ++ others))) first_page
      ∙ ap (λ (l : List ℕ). cond kind page [] ++ filled_of kinds l) other_pages

-- ---- pages of one kind

pub as_many_kinds : (n : ℕ) (bytes : List ℕ) → length (kinds_of n bytes) ≡ n
as_many_kinds zero bytes = refl
as_many_kinds (suc n) bytes = ap suc (as_many_kinds n (drop 4096 bytes))

abbrev pub all_of : List Bool → Bool
all_of kinds = list_all (λ kind. kind) kinds

pub all_true : (kinds : List Bool) → all_of kinds ≡ true → kinds ≡ replicate (length kinds) true
all_true [] is = refl
all_true (kind ∷ kinds) is =
    let two = and_parts kind (all_of kinds) is in
    ap (λ (k : Bool). k ∷ kinds) two.0 ∙ ap (λ (l : List Bool). true ∷ l) (all_true kinds two.1)

-- n pages, then others
pub kinds_of_both : (n m : ℕ) (xs ys : List ℕ) → length xs ≡ 4096 * n → kinds_of (n + m) (xs ++ ys) ≡ kinds_of n xs ++ kinds_of m ys
kinds_of_both zero m [] ys size = let none : zero + m ≡ m = omega arith in ap (λ (k : ℕ). kinds_of k ys) none
kinds_of_both zero m (x ∷ xs) ys size = absurd (omega (arith, size))
kinds_of_both (suc n) m xs ys size =
    let page : List ℕ = take 4096 xs in
    let more : List ℕ = drop 4096 xs in
    let one : length page ≡ 4096 = length-take-le 4096 xs (omega (arith, size)) in
    let parts : xs ≡ page ++ more = sym (take-append-drop 4096 xs) in
    let next : suc n + m ≡ suc (n + m) = omega arith in
    ap (λ (k : ℕ). kinds_of k (xs ++ ys)) next
    ∙ ap (λ (l : List ℕ). kinds_of (suc (n + m)) (l ++ ys)) parts
    ∙ ap (λ (l : List ℕ). kinds_of (suc (n + m)) l) (append_assoc page more ys)
    ∙ kinds_then page (more ++ ys) one (n + m)
    ∙ ap (λ (l : List Bool). not (are_zeros page) ∷ l) (kinds_of_both n m more ys (omega (arith, size, length-drop 4096 xs)))

kinds_of_all : (n : ℕ) (bs : List ℕ) → are_zeros bs ≡ true → kinds_of n bs ≡ replicate n false
kinds_of_all zero bs is = refl
kinds_of_all (suc n) bs is =
    ap (λ (b : Bool). not b ∷ kinds_of n (drop 4096 bs)) (zeros_take 4096 bs is)
    ∙ ap (λ (l : List Bool). false ∷ l) (kinds_of_all n (drop 4096 bs) (zeros_drop 4096 bs is))

pub kinds_of_zeros : (n : ℕ) → kinds_of n (replicate (4096 * n) 0) ≡ replicate n false
kinds_of_zeros n = kinds_of_all n (replicate (4096 * n) 0) (zeros_in (4096 * n))

-- ---- the pages of a kind, in front of others

pub filled_none : (n : ℕ) (kinds : List Bool) (xs ys : List ℕ) → length xs ≡ 4096 * n → filled_of (replicate n false ++ kinds) (xs ++ ys) ≡ filled_of kinds ys
filled_none zero kinds [] ys size = refl
filled_none zero kinds (x ∷ xs) ys size = absurd (omega (arith, size))
filled_none (suc n) kinds xs ys size =
    let page : List ℕ = take 4096 xs in
    let more : List ℕ = drop 4096 xs in
    let one : length page ≡ 4096 = length-take-le 4096 xs (omega (arith, size)) in
    let parts : xs ≡ page ++ more = sym (take-append-drop 4096 xs) in
    ap (λ (l : List ℕ). filled_of (false ∷ (replicate n false ++ kinds)) (l ++ ys)) parts
    ∙ ap (λ (l : List ℕ). filled_of (false ∷ (replicate n false ++ kinds)) l) (append_assoc page more ys)
    ∙ filled_then page (more ++ ys) one false (replicate n false ++ kinds)
    ∙ filled_none n kinds more ys (omega (arith, size, length-drop 4096 xs))

pub filled_all : (n : ℕ) (kinds : List Bool) (xs ys : List ℕ) → length xs ≡ 4096 * n → filled_of (replicate n true ++ kinds) (xs ++ ys) ≡ xs ++ filled_of kinds ys
filled_all zero kinds [] ys size = refl
filled_all zero kinds (x ∷ xs) ys size = absurd (omega (arith, size))
filled_all (suc n) kinds xs ys size =
    let page : List ℕ = take 4096 xs in
    let more : List ℕ = drop 4096 xs in
    let one : length page ≡ 4096 = length-take-le 4096 xs (omega (arith, size)) in
    let parts : xs ≡ page ++ more = sym (take-append-drop 4096 xs) in
    ap (λ (l : List ℕ). filled_of (true ∷ (replicate n true ++ kinds)) (l ++ ys)) parts
    ∙ ap (λ (l : List ℕ). filled_of (true ∷ (replicate n true ++ kinds)) l) (append_assoc page more ys)
    ∙ filled_then page (more ++ ys) one true (replicate n true ++ kinds)
    ∙ ap (λ (l : List ℕ). page ++ l) (filled_all n kinds more ys (omega (arith, size, length-drop 4096 xs)))
    ∙ sym (append_assoc page more (filled_of kinds ys))
    ∙ ap (λ (l : List ℕ). l ++ filled_of kinds ys) (sym parts)

pub all_both : (bs cs : List Bool) → all_of (bs ++ cs) ≡ true → (all_of bs ≡ true) × (all_of cs ≡ true)
all_both [] cs is = (refl, is)
all_both (b ∷ bs) cs is =
    let two = and_parts b (all_of (bs ++ cs)) is in
    let rest = all_both bs cs two.1 in
    (ap (λ (k : Bool). k && all_of bs) two.0 ∙ rest.0, rest.1)

-- ---- page by page

one_left : (count i : ℕ) → i < count → count - i ≡ suc (count - (i + 1))
one_left count i lt = omega (arith, lt)

pub kinds_from : (given : List ℕ) (at count i : ℕ) → i < count
    → kinds_of (count - i) (drop (at + 4096 * i) given)
    ≡ not (are_zeros (take 4096 (drop (at + 4096 * i) given))) ∷ kinds_of (count - (i + 1)) (drop (at + 4096 * (i + 1)) given)
kinds_from given at count i lt =
    ap (λ (k : ℕ). kinds_of k (drop (at + 4096 * i) given)) (one_left count i lt)
    ∙ ap (λ (l : List ℕ). not (are_zeros (take 4096 (drop (at + 4096 * i) given))) ∷ kinds_of (count - (i + 1)) l)
    (drop-drop 4096 (at + 4096 * i) given ∙ ap (λ (k : ℕ). drop k given) (omega arith))
