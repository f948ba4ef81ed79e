-- The bytes of some pages, one page behind the other.
use Rattle.std.proofs.Common.{◌≡◌, ℕ, zero, suc, ◌+◌, ◌*◌, ◌-◌, ◌<◌, ◌≤◌, nat_lt, true, List, [], ◌∷◌, ◌++◌, length, take, drop, Option, Some, None, get_or, refl, sym, ap, ◌∙◌, arith, length-drop, length-append}
use Rattle.std.specs.List.{list_all}
use Rattle.std.proofs.lemmas.Bool.{and_parts, leb-true, ltb-true}
use Rattle.std.proofs.lemmas.List.{drop-drop, length-take-le, take_at}
use Rattle.std.proofs.Math.Seq.{drop-append_seam}
use Rattle.snap_diff.specs.Copies.{page_at, pages_at}
use Rattle.snap_writer.specs.Selected.{are_there, can_select, selected}

length-page : (number count : ℕ) (bytes : List ℕ) → length bytes ≡ 4096 * count → number < count → length (page_at number bytes) ≡ 4096
length-page number count bytes whole lt =
    let left = length-drop (4096 * number) bytes in
    length-take-le 4096 (drop (4096 * number) bytes) (omega (arith, left, whole, lt))

pub length-pages : (numbers : List ℕ) (count : ℕ) (bytes : List ℕ) → length bytes ≡ 4096 * count
    → list_all (λ n. nat_lt n count) numbers ≡ true → length (pages_at numbers bytes) ≡ 4096 * length numbers
length-pages [] count bytes whole all = refl
length-pages (n ∷ ns) count bytes whole all =
    let parts = and_parts (nat_lt n count) (list_all (λ n. nat_lt n count) ns) all in
    let one = length-page n count bytes whole (ltb-true n count parts.0) in
    let more = length-pages ns count bytes whole parts.1 in
    length-append (page_at n bytes) (pages_at ns bytes) ∙ omega (arith, one, more)

past : (page rest : List ℕ) (i : ℕ) → length page ≡ 4096 → drop (4096 * suc i) (page ++ rest) ≡ drop (4096 * i) rest
past page rest i long =
    let split : 4096 * suc i ≡ 4096 + 4096 * i = omega arith in
    ap (λ (k : ℕ). drop k (page ++ rest)) split
    ∙ sym (drop-drop (4096 * i) 4096 (page ++ rest))
    ∙ ap (λ (k : ℕ). drop (4096 * i) (drop k (page ++ rest))) (sym long)
    ∙ ap (drop (4096 * i)) (drop-append_seam page rest)

-- each of them where it stands
pub page_there : (numbers : List ℕ) (count i : ℕ) (bytes : List ℕ) → length bytes ≡ 4096 * count
    → list_all (λ n. nat_lt n count) numbers ≡ true → i < length numbers
    → take 4096 (drop (4096 * i) (pages_at numbers bytes)) ≡ page_at (get_or numbers i 0) bytes
page_there [] count i bytes whole all lt = absurd (omega arith)
page_there (n ∷ ns) count zero bytes whole all lt =
    let parts = and_parts (nat_lt n count) (list_all (λ n. nat_lt n count) ns) all in
    let one = length-page n count bytes whole (ltb-true n count parts.0) in
    take_at (page_at n bytes) (pages_at ns bytes) 4096 one
page_there (n ∷ ns) count (suc i) bytes whole all lt =
    let parts = and_parts (nat_lt n count) (list_all (λ n. nat_lt n count) ns) all in
    let one = length-page n count bytes whole (ltb-true n count parts.0) in
    ap (take 4096) (past (page_at n bytes) (pages_at ns bytes) i one)
    ∙ page_there ns count i bytes whole parts.1 (omega (arith, lt))

-- what is known of numbers that are there
pub there_parts : (numbers : List ℕ) (count : ℕ) → are_there numbers count ≡ true
    → (length numbers ≤ count) × (list_all (λ n. nat_lt n count) numbers ≡ true)
there_parts numbers count there =
    let parts = and_parts _ (list_all (λ n. nat_lt n count) numbers) there in
    (leb-true (length numbers) count parts.0, parts.1)

pub is_there : (numbers : List ℕ) (count i : ℕ) → list_all (λ n. nat_lt n count) numbers ≡ true → i < length numbers
    → get_or numbers i 0 < count
is_there [] count i all lt = absurd (omega arith)
is_there (n ∷ ns) count zero all lt = ltb-true n count (and_parts (nat_lt n count) (list_all (λ n. nat_lt n count) ns) all).0
is_there (n ∷ ns) count (suc i) all lt =
    is_there ns count i (and_parts (nat_lt n count) (list_all (λ n. nat_lt n count) ns) all).1 (omega (arith, lt))

-- what is known of pages of some numbers
pub size_is : (o : Option (List ℕ)) (numbers : List ℕ) (count : ℕ) (bytes all : List ℕ) → o ≡ Some numbers
    → can_select o count ≡ true → length bytes ≡ 4096 * count → selected o bytes ≡ all → 4096 * length numbers ≡ length all
size_is None numbers count bytes all is can whole are = cc
size_is (Some ns) numbers count bytes all is can whole are =
    let same : ns ≡ numbers = cc in
    ap (λ (l : List ℕ). 4096 * length l) (sym same) ∙ sym (length-pages ns count bytes whole (there_parts ns count can).1)
    ∙ ap (λ (l : List ℕ). length l) are

pub some_there : (o : Option (List ℕ)) (numbers : List ℕ) (count : ℕ) → o ≡ Some numbers → can_select o count ≡ true
    → (length numbers ≤ count) × (list_all (λ n. nat_lt n count) numbers ≡ true)
some_there None numbers count is can = cc
some_there (Some ns) numbers count is can =
    let same : ns ≡ numbers = cc in
    there_parts numbers count (ap (λ (l : List ℕ). are_there l count) (sym same) ∙ can)

pub some_are : (o : Option (List ℕ)) (numbers bytes all : List ℕ) → o ≡ Some numbers → selected o bytes ≡ all
    → pages_at numbers bytes ≡ all
some_are None numbers bytes all is are = cc
some_are (Some ns) numbers bytes all is are =
    let same : ns ≡ numbers = cc in
    ap (λ (l : List ℕ). pages_at l bytes) (sym same) ∙ are
