-- Pages that are put in their places.
use Rattle.std.proofs.Common.{◌≡◌, ℕ, zero, suc, ◌+◌, ◌*◌, ◌-◌, ◌<◌, ◌≤◌, ◌==◌, ◌&&◌, ◌||◌, Bool, true, false, List, [], ◌∷◌, ◌++◌, length, take, drop, get_or, Some, refl, sym, ap, ◌∙◌, arith, inl, inr, length-append, length-drop}
use Rattle.std.specs.Prelude.{nat_le, nat_lt, slice_get}
use Rattle.std.specs.List.{list_any}
use Rattle.std.proofs.lemmas.Bool.{and_parts, eqb-true, eqb-false, ltb-true, leb-true, ne_eqb, cases_lt, or_parts}
use Rattle.std.proofs.lemmas.List.{length-take-le, get_or_append_left, get_or-append-add, get_or-take, get_or-drop, take_at, drop_at}
use Rattle.guest_memory.specs.Memory.{put_at}
use Rattle.snap_diff.specs.Copies.{page_at, pages_at, rises, with_pages}

-- ---- bytes in the place of as many others

module _ (bs piece : List ℕ) (o : ℕ) (inside : o + length piece ≤ length bs) where
  front : length (take o bs) ≡ o
  front = length-take-le o bs (omega (arith, inside))

  both : length (take o bs ++ piece) ≡ o + length piece
  both = omega (arith, front, length-append (take o bs) piece)

  pub length-put : length (put_at bs o piece) ≡ length bs
  length-put = omega (arith, inside, both, length-append (take o bs ++ piece) (drop (o + length piece) bs), length-drop (o + length piece) bs)

  pub put_before : (k : ℕ) → k < o → get_or (put_at bs o piece) k 0 ≡ get_or bs k 0
  put_before k lt =
      get_or_append_left (take o bs ++ piece) (drop (o + length piece) bs) 0 k (omega (arith, both, lt))
      ∙ get_or_append_left (take o bs) piece 0 k (omega (arith, front, lt))
      ∙ get_or-take o bs k 0 lt

  pub put_inside : (k j : ℕ) → k ≡ o + j → j < length piece → get_or (put_at bs o piece) k 0 ≡ get_or piece j 0
  put_inside k j is lt =
      get_or_append_left (take o bs ++ piece) (drop (o + length piece) bs) 0 k (omega (arith, both, lt, is))
      ∙ ap (λ (i : ℕ). get_or (take o bs ++ piece) i 0) (omega (arith, is, front))
      ∙ get_or-append-add (take o bs) piece j 0

  pub put_behind : (k : ℕ) → o + length piece ≤ k → get_or (put_at bs o piece) k 0 ≡ get_or bs k 0
  put_behind k le =
      let seam : k ≡ length (take o bs ++ piece) + (k - (o + length piece)) = omega (arith, both, le) in
      let here : (o + length piece) + (k - (o + length piece)) ≡ k = omega (arith, le) in
      ap (λ (i : ℕ). get_or (put_at bs o piece) i 0) seam
      ∙ get_or-append-add (take o bs ++ piece) (drop (o + length piece) bs) (k - (o + length piece)) 0
      ∙ get_or-drop (o + length piece) bs (k - (o + length piece)) 0
      ∙ ap (λ (i : ℕ). get_or bs i 0) here

-- ---- one page

module _ (count : ℕ) (bs page : List ℕ) (n : ℕ) (whole : length bs ≡ 4096 * count) (size : length page ≡ 4096) (below : n < count) where
  fits : 4096 * n + length page ≤ length bs
  fits = omega (arith, whole, size, below)

  pub length-paged : length (put_at bs (4096 * n) page) ≡ 4096 * count
  length-paged = length-put bs page (4096 * n) fits ∙ whole

  pub this_page : (r : ℕ) → r < 4096 → get_or (put_at bs (4096 * n) page) (4096 * n + r) 0 ≡ get_or page r 0
  this_page r lt = put_inside bs page (4096 * n) fits (4096 * n + r) r refl (omega (arith, size, lt))

  pub other_page : (m r : ℕ) → (n == m) ≡ false → r < 4096 → get_or (put_at bs (4096 * n) page) (4096 * m + r) 0 ≡ get_or bs (4096 * m + r) 0
  other_page m r differs lt = elim (cases_lt (4096 * m + r) (4096 * n)) [
    | inl before ↦ put_before bs page (4096 * n) fits (4096 * m + r) before
    | inr after ↦ put_behind bs page (4096 * n) fits (4096 * m + r) (let ne = eqb-false n m differs in omega (arith, ne, after, lt, size))
  ]

-- ---- several pages

module _ (count low n : ℕ) (ns : List ℕ) (rise : rises count low (n ∷ ns) ≡ true) where
  tests : ((nat_le low n && nat_lt n count) ≡ true) × (rises count (suc n) ns ≡ true)
  tests = and_parts (nat_le low n && nat_lt n count) (rises count (suc n) ns) rise

  pub below : n < count
  below = ltb-true n count (and_parts (nat_le low n) (nat_lt n count) tests.0).1

  pub above : low ≤ n
  above = leb-true low n (and_parts (nat_le low n) (nat_lt n count) tests.0).0

  pub others_rise : rises count (suc n) ns ≡ true
  others_rise = tests.1

or_left : (a b : Bool) → (a || b) ≡ true → b ≡ false → a ≡ true
or_left true b is none = refl
or_left false b is none = absurd cc

-- what rises from above a number has it nowhere
lacks : (ns : List ℕ) (count low n : ℕ) → rises count low ns ≡ true → n < low → list_any (λ m. m == n) ns ≡ false
lacks [] count low n rise lt = refl
lacks (m ∷ ns) count low n rise lt =
    let far : (m == n) ≡ false = ne_eqb m n (λ same. omega (arith, same, above count low m ns rise, lt)) in
    ap (λ (b : Bool). b || list_any (λ x. x == n) ns) far
    ∙ lacks ns count (suc m) n (others_rise count low m ns rise) (omega (arith, above count low m ns rise, lt))

-- a page that isn't put is as it was
pub outside : (numbers : List ℕ) (count low : ℕ) (pages bs : List ℕ) → rises count low numbers ≡ true
    → length bs ≡ 4096 * count → length pages ≡ 4096 * length numbers
    → (length (with_pages numbers pages bs) ≡ 4096 * count)
    × ((m r : ℕ) → r < 4096 → list_any (λ n. n == m) numbers ≡ false → get_or (with_pages numbers pages bs) (4096 * m + r) 0 ≡ get_or bs (4096 * m + r) 0)
outside [] count low pages bs rise whole size = (whole, λ m r lt none. refl)
outside (n ∷ ns) count low pages bs rise whole size =
    let one : length (take 4096 pages) ≡ 4096 = length-take-le 4096 pages (omega (arith, size)) in
    let lt = below count low n ns rise in
    let later = outside ns count (suc n) (drop 4096 pages) (put_at bs (4096 * n) (take 4096 pages)) (others_rise count low n ns rise)
    (length-paged count bs (take 4096 pages) n whole one lt) (omega (arith, size, length-drop 4096 pages)) in (
      later.0,
      λ m r small none.
          let parts = or_parts (n == m) (list_any (λ x. x == m) ns) none in
          later.1 m r small parts.1 ∙ other_page count bs (take 4096 pages) n whole one lt m r parts.0 small,
    )

-- a page that is put is there
pub placed : (numbers : List ℕ) (count low : ℕ) (pages bs : List ℕ) (k m : ℕ) → rises count low numbers ≡ true
    → length bs ≡ 4096 * count → length pages ≡ 4096 * length numbers → slice_get numbers k ≡ Some m → (r : ℕ) → r < 4096
    → get_or (with_pages numbers pages bs) (4096 * m + r) 0 ≡ get_or pages (4096 * k + r) 0
placed [] count low pages bs k m rise whole size there r small = absurd cc
placed (n ∷ ns) count low pages bs zero m rise whole size there r small =
    let same : n ≡ m = cc in
    let one : length (take 4096 pages) ≡ 4096 = length-take-le 4096 pages (omega (arith, size)) in
    let lt = below count low n ns rise in
    let later = outside ns count (suc n) (drop 4096 pages) (put_at bs (4096 * n) (take 4096 pages)) (others_rise count low n ns rise)
    (length-paged count bs (take 4096 pages) n whole one lt) (omega (arith, size, length-drop 4096 pages)) in
    ap (λ (i : ℕ). get_or (with_pages (n ∷ ns) pages bs) (4096 * i + r) 0) (sym same)
    ∙ later.1 n r small (lacks ns count (suc n) n (others_rise count low n ns rise) (omega arith))
    ∙ this_page count bs (take 4096 pages) n whole one lt r small
    ∙ get_or-take 4096 pages r 0 small
    ∙ ap (λ (i : ℕ). get_or pages i 0) (omega arith)
placed (n ∷ ns) count low pages bs (suc k) m rise whole size there r small =
    let one : length (take 4096 pages) ≡ 4096 = length-take-le 4096 pages (omega (arith, size)) in
    placed ns count (suc n) (drop 4096 pages) (put_at bs (4096 * n) (take 4096 pages)) k m (others_rise count low n ns rise)
    (length-paged count bs (take 4096 pages) n whole one (below count low n ns rise)) (omega (arith, size, length-drop 4096 pages)) there r small
    ∙ get_or-drop 4096 pages (4096 * k + r) 0
    ∙ ap (λ (i : ℕ). get_or pages i 0) (omega arith)

-- ---- pages of another list of as many

page_size_is : (count n : ℕ) (new : List ℕ) → length new ≡ 4096 * count → n < count → length (page_at n new) ≡ 4096
page_size_is count n new whole lt = length-take-le 4096 (drop (4096 * n) new) (omega (arith, whole, lt, length-drop (4096 * n) new))

pub cell_of_page : (n r : ℕ) (bs : List ℕ) → r < 4096 → get_or (page_at n bs) r 0 ≡ get_or bs (4096 * n + r) 0
cell_of_page n r bs small = get_or-take 4096 (drop (4096 * n) bs) r 0 small ∙ get_or-drop (4096 * n) bs r 0

pub size_of_pages : (numbers : List ℕ) (count low : ℕ) (new : List ℕ) → rises count low numbers ≡ true → length new ≡ 4096 * count
    → length (pages_at numbers new) ≡ 4096 * length numbers
size_of_pages [] count low new rise whole = refl
size_of_pages (n ∷ ns) count low new rise whole =
    omega (arith, length-append (page_at n new) (pages_at ns new), page_size_is count n new whole (below count low n ns rise), size_of_pages ns count (suc n) new (others_rise count low n ns rise) whole)

-- each page that is put is as there
pub laid : (numbers : List ℕ) (count low : ℕ) (new bs : List ℕ) → rises count low numbers ≡ true
    → length bs ≡ 4096 * count → length new ≡ 4096 * count → (m r : ℕ) → r < 4096 → list_any (λ n. n == m) numbers ≡ true
    → get_or (with_pages numbers (pages_at numbers new) bs) (4096 * m + r) 0 ≡ get_or new (4096 * m + r) 0
laid [] count low new bs rise whole all m r small some = absurd cc
laid (n ∷ ns) count low new bs rise whole all m r small some =
    let lt = below count low n ns rise in
    let page : List ℕ = page_at n new in
    let more : List ℕ = pages_at ns new in
    let one = page_size_is count n new all lt in
    let put : List ℕ = put_at bs (4096 * n) page in
    let first : with_pages (n ∷ ns) (page ++ more) bs ≡ with_pages ns more put =
    ap (λ (l : List ℕ). with_pages ns l (put_at bs (4096 * n) (take 4096 (page ++ more)))) (drop_at page more 4096 one)
    ∙ ap (λ (l : List ℕ). with_pages ns more (put_at bs (4096 * n) l)) (take_at page more 4096 one) in
    let size : length put ≡ 4096 * count = length-paged count bs page n whole one lt in
    let rest = others_rise count low n ns rise in
    let by_rest : (b : Bool) → list_any (λ x. x == m) ns ≡ b → get_or (with_pages ns more put) (4096 * m + r) 0 ≡ get_or new (4096 * m + r) 0 =
    λ b is. elim b as (λ c. list_any (λ x. x == m) ns ≡ c → get_or (with_pages ns more put) (4096 * m + r) 0 ≡ get_or new (4096 * m + r) 0) [
      | true ↦ λ there. laid ns count (suc n) new put rest size all m r small there
      | false ↦ λ none.
          let this : (n == m) ≡ true = or_left (n == m) (list_any (λ x. x == m) ns) some none in
          let same : n ≡ m = eqb-true n m this in
          (outside ns count (suc n) more put rest size (size_of_pages ns count (suc n) new rest all)).1 m r small none
          ∙ ap (λ (i : ℕ). get_or put (4096 * i + r) 0) (sym same)
          ∙ this_page count bs page n whole one lt r small
          ∙ cell_of_page n r new small
          ∙ ap (λ (i : ℕ). get_or new (4096 * i + r) 0) same
    ] is in
    ap (λ (l : List ℕ). get_or l (4096 * m + r) 0) first ∙ by_rest (list_any (λ x. x == m) ns) refl
