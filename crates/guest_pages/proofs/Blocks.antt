-- A flag for 64 pages: where a page passes a test, as that it is marked, its block has it.
use Rattle.std.proofs.Common.{◌≡◌, ℕ, zero, suc, ◌+◌, ◌-◌, ◌*◌, ◌/◌, ◌<◌, ◌≤◌, Bool, true, false, ◌⊎◌, inl, inr, List, [], ◌∷◌, ◌++◌, length, map, drop, replicate, set, refl, sym, ap, ◌∙◌, subst, arith}
use Rattle.std.specs.Prelude.{slice_index_or}
use Rattle.std.proofs.lemmas.List.{append-nil, append_assoc}
use Rattle.guest_pages.specs.Flat.{AreSummed}
use Rattle.guest_pages.specs.Marks.{marked_from}
use Rattle.guest_pages.specs.Pages.{PageValue, cleared, marks_of, unmarked}

abbrev pub is_marked : PageValue → Bool
is_marked p = p.marked

-- ---- a page of them becomes another

mark_at : (test : PageValue → Bool) (pages : List PageValue) (n i : ℕ) (p : PageValue) → slice_index_or (map test (set pages n p)) i false ≡ true
    → ((i ≡ n) × (test p ≡ true)) ⊎ (slice_index_or (map test pages) i false ≡ true)
mark_at test [] n i p marked = inr marked
mark_at test (q ∷ pages) zero zero p marked = inl (refl, marked)
mark_at test (q ∷ pages) zero (suc i) p marked = inr marked
mark_at test (q ∷ pages) (suc n) zero p marked = inr marked
mark_at test (q ∷ pages) (suc n) (suc i) p marked = one_more (mark_at test pages n i p marked)
  where
    one_more : ((i ≡ n) × (test p ≡ true)) ⊎ (slice_index_or (map test pages) i false ≡ true)
        → ((suc i ≡ suc n) × (test p ≡ true)) ⊎ (slice_index_or (map test pages) i false ≡ true)
    one_more (inl here) = inl (ap (λ (k : ℕ). suc k) here.0, here.1)
    one_more (inr other) = inr other

pub summed_after : (test : PageValue → Bool) (pages : List PageValue) (blocks now : List Bool) (n : ℕ) (p : PageValue)
    → ((k : ℕ) → slice_index_or blocks k true ≡ true → slice_index_or now k true ≡ true)
    → (test p ≡ true → slice_index_or now (n / 64) true ≡ true)
    → AreSummed (map test pages) blocks → AreSummed (map test (set pages n p)) now
summed_after test pages blocks now n p more own summed = λ i marked. by_place i (mark_at test pages n i p marked)
  where
    by_place : (i : ℕ) → ((i ≡ n) × (test p ≡ true)) ⊎ (slice_index_or (map test pages) i false ≡ true) → slice_index_or now (i / 64) true ≡ true
    by_place i (inl here) = subst (λ (k : ℕ). slice_index_or now (k / 64) true ≡ true) (sym here.0) (own here.1)
    by_place i (inr other) = more (i / 64) (summed i other)

-- with the same marks
pub summed_same : (marks other blocks : List Bool) → other ≡ marks → AreSummed marks blocks → AreSummed other blocks
summed_same marks other blocks same summed = subst (λ (l : List Bool). AreSummed l blocks) (sym same) summed

-- where none is marked
none_there : (n i : ℕ) → slice_index_or (replicate n false) i false ≡ true → ⊥
none_there zero i marked = cc
none_there (suc n) zero marked = cc
none_there (suc n) (suc i) marked = none_there n i marked

pub none_summed : (marks blocks : List Bool) (n : ℕ) → marks ≡ replicate n false → AreSummed marks blocks
none_summed marks blocks n are = λ i marked.
    absurd (none_there n i (ap (λ (l : List Bool). slice_index_or l i false) (sym are) ∙ marked))

-- ---- a block's flag is set

set_there : (blocks : List Bool) (k : ℕ) → slice_index_or (set blocks k true) k true ≡ true
set_there [] k = refl
set_there (b ∷ blocks) zero = refl
set_there (b ∷ blocks) (suc k) = set_there blocks k

set_more : (blocks : List Bool) (n k : ℕ) → slice_index_or blocks k true ≡ true → slice_index_or (set blocks n true) k true ≡ true
set_more [] n k is = is
set_more (b ∷ blocks) zero zero is = refl
set_more (b ∷ blocks) zero (suc k) is = is
set_more (b ∷ blocks) (suc n) zero is = is
set_more (b ∷ blocks) (suc n) (suc k) is = set_more blocks n k is

pub noted_own : (blocks now : List Bool) (k : ℕ) → now ≡ set blocks k true → slice_index_or now k true ≡ true
noted_own blocks now k is = ap (λ (l : List Bool). slice_index_or l k true) is ∙ set_there blocks k

pub noted_more : (blocks now : List Bool) (n : ℕ) → now ≡ set blocks n true → (k : ℕ) → slice_index_or blocks k true ≡ true
    → slice_index_or now k true ≡ true
noted_more blocks now n is k had = ap (λ (l : List Bool). slice_index_or l k true) is ∙ set_more blocks n k had

pub past_all : (blocks : List Bool) (k : ℕ) → length blocks ≤ k → slice_index_or blocks k true ≡ true
past_all [] k past = refl
past_all (b ∷ blocks) zero past = absurd (omega arith)
past_all (b ∷ blocks) (suc k) past = past_all blocks k (omega arith)

-- ---- marks, page by page

pub mark_here : (test : PageValue → Bool) (pages : List PageValue) (k : ℕ) (page : PageValue) → k < length pages
    → page ≡ slice_index_or pages k page → slice_index_or (map test pages) k false ≡ test page
mark_here test [] k page lt is = absurd (omega arith)
mark_here test (p ∷ pages) zero page lt is = ap test (sym is)
mark_here test (p ∷ pages) (suc k) page lt is = mark_here test pages k page (omega arith) is

mark_past : (test : PageValue → Bool) (pages : List PageValue) (k : ℕ) → length pages ≤ k → slice_index_or (map test pages) k false ≡ true → ⊥
mark_past test [] k past marked = cc
mark_past test (p ∷ pages) zero past marked = absurd (omega arith)
mark_past test (p ∷ pages) (suc k) past marked = mark_past test pages k (omega arith) marked

-- where it passes only if it did
pub summed_kept : (test : PageValue → Bool) (pages : List PageValue) (blocks : List Bool) (n : ℕ) (old new : PageValue) → n < length pages
    → old ≡ slice_index_or pages n old → (test new ≡ true → test old ≡ true) → AreSummed (map test pages) blocks → AreSummed (map test (set pages n new)) blocks
summed_kept test pages blocks n old new lt was stays summed =
    summed_after test pages blocks blocks n new (λ k is. is) (λ is. summed n (mark_here test pages n old lt was ∙ stays is)) summed

pub lt_or : (i n : ℕ) → (i < n) ⊎ (n ≤ i)
lt_or i zero = inr (omega arith)
lt_or zero (suc n) = inl (omega arith)
lt_or (suc i) (suc n) = one_more (lt_or i n)
  where
    one_more : (i < n) ⊎ (n ≤ i) → (suc i < suc n) ⊎ (suc n ≤ suc i)
    one_more (inl less) = inl (omega (arith, less))
    one_more (inr most) = inr (omega (arith, most))

-- the marks of so many pages are summed
abbrev pub AreSummedTo : ℕ → List Bool → List Bool → Type 0
AreSummedTo n marks blocks = (i : ℕ) → i < n → slice_index_or marks i false ≡ true → slice_index_or blocks (i / 64) true ≡ true

pub summed_one : (test : PageValue → Bool) (pages : List PageValue) (blocks now : List Bool) (n : ℕ) (page : PageValue) → n < length pages
    → page ≡ slice_index_or pages n page
    → ((k : ℕ) → slice_index_or blocks k true ≡ true → slice_index_or now k true ≡ true)
    → (test page ≡ true → slice_index_or now (n / 64) true ≡ true)
    → AreSummedTo n (map test pages) blocks → AreSummedTo (n + 1) (map test pages) now
summed_one test pages blocks now n page lt is more own summed = λ i below marked. by_place i (lt_or i n) below marked
  where
    by_place : (i : ℕ) → (i < n) ⊎ (n ≤ i) → i < n + 1 → slice_index_or (map test pages) i false ≡ true → slice_index_or now (i / 64) true ≡ true
    by_place i (inl less) below marked = more (i / 64) (summed i less marked)
    by_place i (inr most) below marked =
        let here : n ≡ i = omega (arith, below, most) in
        subst (λ (k : ℕ). slice_index_or now (k / 64) true ≡ true) here
        (own (sym (mark_here test pages n page lt is) ∙ ap (λ (k : ℕ). slice_index_or (map test pages) k false) here ∙ marked))

pub summed_all : (test : PageValue → Bool) (pages : List PageValue) (blocks : List Bool) (n : ℕ) → length pages ≤ n → AreSummedTo n (map test pages) blocks
    → AreSummed (map test pages) blocks
summed_all test pages blocks n all summed = λ i marked. by_place i (lt_or i n) marked
  where
    by_place : (i : ℕ) → (i < n) ⊎ (n ≤ i) → slice_index_or (map test pages) i false ≡ true → slice_index_or blocks (i / 64) true ≡ true
    by_place i (inl less) marked = summed i less marked
    by_place i (inr most) marked = absurd (mark_past test pages i (omega (arith, all, most)) marked)

-- ---- the next page that is marked

none_at : (marks : List Bool) (k n : ℕ) → (slice_index_or marks k false ≡ true → ⊥) → marked_from n (drop k marks) ≡ marked_from (suc n) (drop (suc k) marks)
none_at [] zero n none = refl
none_at [] (suc k) n none = refl
none_at (true ∷ marks) zero n none = absurd (none refl)
none_at (false ∷ marks) zero n none = refl
none_at (b ∷ marks) (suc k) n none = none_at marks k n none

skip_by : (marks : List Bool) (d k : ℕ) → ((i : ℕ) → k ≤ i → i < k + d → slice_index_or marks i false ≡ true → ⊥)
    → marked_from k (drop k marks) ≡ marked_from (k + d) (drop (k + d) marks)
skip_by marks zero k none = let e : k ≡ k + 0 = omega arith in ap (λ (n : ℕ). marked_from n (drop n marks)) e
skip_by marks (suc d) k none =
    let e : suc k + d ≡ k + suc d = omega arith in
    none_at marks k k (none k (omega arith) (omega arith))
    ∙ skip_by marks d (suc k) (λ i from to. none i (omega (arith, from)) (omega (arith, to)))
    ∙ ap (λ (n : ℕ). marked_from n (drop n marks)) e

-- a block in which none is marked
skipped : (marks blocks : List Bool) (k e : ℕ) → e ≡ (k / 64 + 1) * 64 → slice_index_or blocks (k / 64) true ≡ false → AreSummed marks blocks
    → marked_from k (drop k marks) ≡ marked_from e (drop e marks)
skipped marks blocks k e is clear summed =
    let d : ℕ = (k / 64 + 1) * 64 - k in
    let end : k + d ≡ e = omega (arith, is) in
    skip_by marks d k (λ i from to marked.
    let same : i / 64 ≡ k / 64 = omega (arith, from, to) in
    let both : false ≡ true = sym clear ∙ ap (λ (n : ℕ). slice_index_or blocks n true) (sym same) ∙ summed i marked in
    cc)
    ∙ ap (λ (n : ℕ). marked_from n (drop n marks)) end

-- a page that isn't marked
passed : (marks : List Bool) (k : ℕ) → (slice_index_or marks k false ≡ true → ⊥)
    → marked_from k (drop k marks) ≡ marked_from (k + 1) (drop (k + 1) marks)
passed marks k none =
    let e : suc k ≡ k + 1 = omega arith in none_at marks k k none ∙ ap (λ (n : ℕ). marked_from n (drop n marks)) e

one_at : (marks : List Bool) (k n : ℕ) → slice_index_or marks k false ≡ true → marked_from n (drop k marks) ≡ n ∷ marked_from (suc n) (drop (suc k) marks)
one_at [] k n one = cc
one_at (true ∷ marks) zero n one = refl
one_at (false ∷ marks) zero n one = cc
one_at (b ∷ marks) (suc k) n one = one_at marks k n one

-- and one that is
found : (marks : List Bool) (k : ℕ) → slice_index_or marks k false ≡ true → marked_from k (drop k marks) ≡ k ∷ marked_from (k + 1) (drop (k + 1) marks)
found marks k one =
    let e : suc k ≡ k + 1 = omega arith in one_at marks k k one ∙ ap (λ (n : ℕ). k ∷ marked_from n (drop n marks)) e

none_behind : (marks : List Bool) (k n : ℕ) → length marks ≤ k → marked_from n (drop k marks) ≡ []
none_behind [] zero n past = refl
none_behind [] (suc k) n past = refl
none_behind (b ∷ marks) zero n past = absurd (omega arith)
none_behind (b ∷ marks) (suc k) n past = none_behind marks k n (omega arith)

length_marks : (pages : List PageValue) → length (marks_of pages) ≡ length pages
length_marks [] = refl
length_marks (p ∷ pages) = let e = length_marks pages in omega (arith, e)

pub no_more : (pages : List PageValue) (k : ℕ) → length pages ≤ k → marked_from k (drop k (marks_of pages)) ≡ []
no_more pages k past = none_behind (marks_of pages) k k (omega (arith, past, length_marks pages))

-- from a number on, with what was found to be the same
module _ (pages : List PageValue) (blocks : List Bool) (k : ℕ) (all : List ℕ) (so_far : all ≡ marked_from k (drop k (marks_of pages))) where
  pub skipped_on : slice_index_or blocks (k / 64) true ≡ false → AreSummed (marks_of pages) blocks → (e : ℕ) → e ≡ (k / 64 + 1) * 64
      → all ≡ marked_from e (drop e (marks_of pages))
  skipped_on clear summed e is = so_far ∙ skipped (marks_of pages) blocks k e is clear summed

  module _ (page : PageValue) (lt : k < length pages) (is : page ≡ slice_index_or pages k page) where
    pub passed_on : page.marked ≡ false → all ≡ marked_from (k + 1) (drop (k + 1) (marks_of pages))
    passed_on un = so_far ∙ passed (marks_of pages) k (λ marked.
        let both : false ≡ true = sym un ∙ sym (mark_here is_marked pages k page lt is) ∙ marked in
        cc)

    pub found_on : page.marked ≡ true → all ≡ k ∷ marked_from (k + 1) (drop (k + 1) (marks_of pages))
    found_on marked = so_far ∙ found (marks_of pages) k (mark_here is_marked pages k page lt is ∙ marked)

  pub none_on : length pages ≤ k → all ≡ []
  none_on past = so_far ∙ no_more pages k past

-- numbers that were found, and one more
pub numbers_more : (marks : List Bool) (from n : ℕ) (numbers all : List ℕ) → numbers ++ marked_from from (drop from marks) ≡ all
    → marked_from from (drop from marks) ≡ n ∷ marked_from (n + 1) (drop (n + 1) marks)
    → (numbers ++ n ∷ []) ++ marked_from (n + 1) (drop (n + 1) marks) ≡ all
numbers_more marks from n numbers all so_far next =
    append_assoc numbers (n ∷ []) (marked_from (n + 1) (drop (n + 1) marks)) ∙ ap (λ (l : List ℕ). numbers ++ l) (sym next) ∙ so_far

pub numbers_all : (marks : List Bool) (from : ℕ) (numbers all : List ℕ) → numbers ++ marked_from from (drop from marks) ≡ all
    → marked_from from (drop from marks) ≡ [] → numbers ≡ all
numbers_all marks from numbers all so_far none = sym (append-nil numbers) ∙ ap (λ (l : List ℕ). numbers ++ l) (sym none) ∙ so_far

-- ---- marks that are taken away, one after another

-- the first of them is taken away
less_by_one : (pages : List PageValue) (k n m : ℕ) (p : PageValue) → m ≡ k + n → p.marked ≡ false
    → marked_from k (marks_of pages) ≡ m ∷ marked_from (suc m) (drop (suc n) (marks_of pages))
    → marked_from k (marks_of (set pages n p)) ≡ marked_from (suc m) (drop (suc n) (marks_of (set pages n p)))
less_by_one [] k n m p at un is = cc
less_by_one (q ∷ pages) k zero m p at un is =
    let e : suc k ≡ suc m = omega (arith, at) in
    ap (λ (b : Bool). marked_from k (b ∷ marks_of pages)) un ∙ ap (λ (i : ℕ). marked_from i (marks_of pages)) e
less_by_one (q ∷ pages) k (suc n) m p at un is =
    by_mark q.marked is (λ first. less_by_one pages (suc k) n m p (omega (arith, at)) un first)
  where
    by_mark : (b : Bool) → marked_from k (b ∷ marks_of pages) ≡ m ∷ marked_from (suc m) (drop (suc n) (marks_of pages))
        → (marked_from (suc k) (marks_of pages) ≡ m ∷ marked_from (suc m) (drop (suc n) (marks_of pages))
        → marked_from (suc k) (marks_of (set pages n p)) ≡ marked_from (suc m) (drop (suc n) (marks_of (set pages n p))))
        → marked_from k (b ∷ marks_of (set pages n p)) ≡ marked_from (suc m) (drop (suc n) (marks_of (set pages n p)))
    by_mark true first rest =
        let same : k ≡ m = cc in
        absurd (omega (arith, same, at))
    by_mark false first rest = rest first

pub first_less : (pages : List PageValue) (n : ℕ) (p : PageValue) → p.marked ≡ false
    → marked_from 0 (marks_of pages) ≡ n ∷ marked_from (n + 1) (drop (n + 1) (marks_of pages))
    → marked_from 0 (marks_of (set pages n p)) ≡ marked_from (n + 1) (drop (n + 1) (marks_of (set pages n p)))
first_less pages n p un is =
    let e : n + 1 ≡ suc n = omega arith in
    let at : n ≡ 0 + n = omega arith in
    less_by_one pages 0 n n p at un (is ∙ ap (λ (i : ℕ). n ∷ marked_from i (drop i (marks_of pages))) e)
    ∙ ap (λ (i : ℕ). marked_from i (drop i (marks_of (set pages n p)))) (sym e)

-- the marks of others are summed as they were
pub summed_less : (pages : List PageValue) (blocks : List Bool) (n : ℕ) (p : PageValue) → p.marked ≡ false → AreSummed (marks_of pages) blocks
    → AreSummed (marks_of (set pages n p)) blocks
summed_less pages blocks n p un summed = summed_after is_marked pages blocks blocks n p (λ k is. is) (λ marked. let both : false ≡ true = sym un ∙ marked in cc) summed

-- a page without its mark stands in the list of all without theirs
pub cleared_same : (pages : List PageValue) (n : ℕ) (page new : PageValue) → page ≡ slice_index_or pages n page → new ≡ unmarked page
    → cleared (set pages n new) ≡ cleared pages
cleared_same [] n page new is now = refl
cleared_same (p ∷ pages) zero page new is now =
    ap (λ (q : PageValue). unmarked q ∷ cleared pages) (now ∙ ap unmarked is)
cleared_same (p ∷ pages) (suc n) page new is now = ap (λ (l : List PageValue). unmarked p ∷ l) (cleared_same pages n page new is now)

-- where none is marked these are all
pub all_cleared : (pages : List PageValue) (k : ℕ) → marked_from k (marks_of pages) ≡ [] → cleared pages ≡ pages
all_cleared [] k none = refl
all_cleared (p ∷ pages) k none = by_mark p.marked refl none (λ rest. all_cleared pages (suc k) rest)
  where
    by_mark : (b : Bool) → p.marked ≡ b → marked_from k (b ∷ marks_of pages) ≡ [] → (marked_from (suc k) (marks_of pages) ≡ [] → cleared pages ≡ pages)
        → cleared (p ∷ pages) ≡ p ∷ pages
    by_mark true is first same = cc
    by_mark false is rest same = λ i. record p { marked = sym is i } ∷ same rest i
