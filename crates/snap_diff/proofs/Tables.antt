-- The entries of a table, and the pages and bytes of its runs.
use Rattle.std.proofs.Common.{◌≡◌, ℕ, zero, suc, ◌+◌, ◌*◌, ◌-◌, ◌<◌, ◌≤◌, ◌&&◌, Bool, true, false, cond, List, [], ◌∷◌, ◌++◌, length, drop, take, get_or, Some, refl, sym, ap, ◌∙◌, subst, inl, inr, arith, length-append}
use Rattle.std.specs.Prelude.{nat_le, nat_lt, replicate}
use Rattle.std.specs.List.{AllByRecursion}
use Rattle.std.proofs.lemmas.Bool.{and_parts, cases_lt, leb-true, lt-ltb, le-leb}
use Rattle.std.proofs.lemmas.List.{append-nil, get_or-append-add, get_or_append_left, get_or-drop, get_or-take, get_or_past, length-drop, length-replicate, length-take, length-take-le}
use Rattle.file_format.specs.Format.{IsBytes}
use Rattle.file_format.specs.Kinds.{number32, times}
use Rattle.file_format.specs.declared.version.Version.{Version}
use Rattle.file_format.specs.declared.version.Version.TheVariants.{One, Two}
use Rattle.snap_diff.specs.declared.run.Run.{Run}
use Rattle.snap_diff.specs.Copies.{rises}
use Rattle.snap_diff.specs.Diffs.{entry, entry_size, run_kind, table_bytes}
use Rattle.snap_diff.specs.Runs.{are_runs, bytes_of, heads, is_inside, may_follow, numbers_from, numbers_of, stored_in}

-- ---- the size of a table

size_of_kind : (kind : Bool) → length (run_kind.bytes kind) ≡ 4
unfolding run_kind number32
size_of_kind true = refl
size_of_kind false = refl

size_of_entry : (v : Version) (r : Run) → length ((entry v).bytes r) ≡ entry_size v
unfolding entry number32
size_of_entry One r = refl
size_of_entry Two r = omega (arith, size_of_kind r.stored)

pub size_of_table : (v : Version) (runs : List Run) → length (table_bytes v runs) ≡ entry_size v * length runs
size_of_table One [] = refl
size_of_table Two [] = refl
size_of_table One (r ∷ runs) = omega (arith, length-append ((entry One).bytes r) (table_bytes One runs), size_of_entry One r, size_of_table One runs)
size_of_table Two (r ∷ runs) = omega (arith, length-append ((entry Two).bytes r) (table_bytes Two runs), size_of_entry Two r, size_of_table Two runs)

-- ---- a table that is read

pub table_reads : (v : Version) (runs : List Run) (count : ℕ) → AllByRecursion (entry v).Fits runs → length runs ≡ count
    → (times count (entry v)).reads (table_bytes v runs) ≡ Some (runs, [])
unfolding times
table_reads v runs count fit size =
    ap (times count (entry v)).reads (sym (append-nil (table_bytes v runs))) ∙ (times count (entry v)).again runs [] (size, fit)

pub table_only : (v : Version) (count : ℕ) (table left : List ℕ) (runs : List Run) → IsBytes table → (times count (entry v)).reads table ≡ Some (runs, left)
    → (length runs ≡ count) × (AllByRecursion (entry v).Fits runs × (table ≡ table_bytes v runs ++ left))
unfolding times
table_only v count table left runs bytes read =
    let takes = (times count (entry v)).only table runs left bytes read in
    (takes.0.0, (takes.0.1, takes.1))

-- ---- bytes and their parts

pub bytes_behind : (n : ℕ) (given : List ℕ) → IsBytes given → IsBytes (drop n given)
bytes_behind n given bytes i = subst (λ (b : ℕ). b < 256) (sym (get_or-drop n given i 0)) (bytes (n + i))

pub bytes_front : (n : ℕ) (given : List ℕ) → IsBytes given → IsBytes (take n given)
bytes_front n given bytes i = elim (cases_lt i n) [
  | inl lt ↦ subst (λ (b : ℕ). b < 256) (sym (get_or-take n given i 0 lt)) (bytes i)
  | inr le ↦ subst (λ (b : ℕ). b < 256) (sym (get_or_past (take n given) i 0 (omega (arith, le, length-take n given)))) (omega arith)
]

-- ---- the numbers of runs rise

module _ (v : Version) (pages : ℕ) (r : Run) (runs : List Run) (are : are_runs v pages (r ∷ runs) ≡ true) where
  both : (heads v pages (r ∷ runs) ≡ true) × (are_runs v pages runs ≡ true)
  both = and_parts (heads v pages (r ∷ runs)) (are_runs v pages runs) are

  pub others_are : are_runs v pages runs ≡ true
  others_are = both.1

  pub first_is : heads v pages (r ∷ runs) ≡ true
  first_is = both.0

-- the run at the front is inside the memory
pub inside : (v : Version) (pages : ℕ) (r : Run) (runs : List Run) → heads v pages (r ∷ runs) ≡ true → (1 ≤ r.length) × (r.first + r.length ≤ pages)
inside v pages r [] is =
    let both = and_parts (nat_le 1 r.length) (nat_le (r.first + r.length) pages) is in
    (leb-true 1 r.length both.0, leb-true (r.first + r.length) pages both.1)
inside v pages r (s ∷ runs) is =
    let both = and_parts (nat_le 1 r.length) (nat_le (r.first + r.length) pages) (and_parts (is_inside pages r) (may_follow v r s) is).0 in
    (leb-true 1 r.length both.0, leb-true (r.first + r.length) pages both.1)

-- and the next one is behind it
abbrev pub IsFrom : ℕ → List Run → Type 0
IsFrom low [] = Unit {0}
IsFrom low (r ∷ runs) = low ≤ r.first

pub behind_it : (v : Version) (pages : ℕ) (r : Run) (runs : List Run) → heads v pages (r ∷ runs) ≡ true → IsFrom (r.first + r.length) runs
behind_it v pages r [] is = tt
behind_it v pages r (s ∷ runs) is =
    let follow = (and_parts (is_inside pages r) (may_follow v r s) is).1 in
    leb-true (r.first + r.length) s.first (and_parts (nat_le (r.first + r.length) s.first) _ follow).0

rises_lower : (pages low high : ℕ) (ns : List ℕ) → low ≤ high → rises pages high ns ≡ true → rises pages low ns ≡ true
rises_lower pages low high [] le rise = refl
rises_lower pages low high (n ∷ ns) le rise =
    let all = and_parts (nat_le high n && nat_lt n pages) (rises pages (suc n) ns) rise in
    let two = and_parts (nat_le high n) (nat_lt n pages) all.0 in
    let above : nat_le low n ≡ true = le-leb low n (omega (arith, le, leb-true high n two.0)) in
    ap (λ (b : Bool). b && nat_lt n pages && rises pages (suc n) ns) above
    ∙ ap (λ (b : Bool). b && rises pages (suc n) ns) two.1
    ∙ all.1

pub rises_on : (pages low n : ℕ) (ns : List ℕ) → low ≤ n → n < pages → rises pages low (n ∷ ns) ≡ rises pages (suc n) ns
rises_on pages low n ns above below =
    ap (λ (b : Bool). b && nat_lt n pages && rises pages (suc n) ns) (le-leb low n above)
    ∙ ap (λ (b : Bool). b && rises pages (suc n) ns) (lt-ltb n pages below)

rises_run : (pages low first count : ℕ) (rest : List ℕ) → low ≤ first → first + count ≤ pages → rises pages (first + count) rest ≡ true
    → rises pages low (numbers_from first count ++ rest) ≡ true
rises_run pages low first zero rest le inside rise = rises_lower pages low (first + zero) rest (omega (arith, le)) rise
rises_run pages low first (suc count) rest le inside rise =
    let next : first + suc count ≡ suc first + count = omega arith in
    ap (λ (b : Bool). b && nat_lt first pages && rises pages (suc first) (numbers_from (suc first) count ++ rest)) (le-leb low first le)
    ∙ ap (λ (b : Bool). b && rises pages (suc first) (numbers_from (suc first) count ++ rest)) (lt-ltb first pages (omega (arith, inside)))
    ∙ rises_run pages (suc first) (suc first) count rest (omega arith) (omega (arith, inside)) (subst (λ (k : ℕ). rises pages k rest ≡ true) next rise)

pub numbers_rise : (v : Version) (pages low : ℕ) (runs : List Run) → are_runs v pages runs ≡ true → IsFrom low runs → rises pages low (numbers_of runs) ≡ true
numbers_rise v pages low [] are from = refl
numbers_rise v pages low (r ∷ runs) are from =
    let first = first_is v pages r runs are in
    rises_run pages low r.first r.length (numbers_of runs) from (inside v pages r runs first).1
    (numbers_rise v pages (r.first + r.length) runs (others_are v pages r runs are) (behind_it v pages r runs first))

-- ---- as many bytes as pages

pub many_from : (first count : ℕ) → length (numbers_from first count) ≡ count
many_from first zero = refl
many_from first (suc count) = ap suc (many_from (suc first) count)

size_by_kind : (kind : Bool) (n : ℕ) (runs : List Run) (stored : List ℕ)
    → ((more : List ℕ) → 4096 * stored_in runs ≡ length more → length (bytes_of runs more) ≡ 4096 * length (numbers_of runs))
    → 4096 * (cond kind n 0 + stored_in runs) ≡ length stored
    → length (cond kind (take (4096 * n) stored ++ bytes_of runs (drop (4096 * n) stored)) (replicate (4096 * n) 0 ++ bytes_of runs stored)) ≡ 4096 * (n + length (numbers_of runs))
size_by_kind true n runs stored more size =
    let front : length (take (4096 * n) stored) ≡ 4096 * n = length-take-le (4096 * n) stored (omega (arith, size)) in
    let rest = more (drop (4096 * n) stored) (omega (arith, size, length-drop (4096 * n) stored)) in
    omega (arith, front, rest, length-append (take (4096 * n) stored) (bytes_of runs (drop (4096 * n) stored)))
size_by_kind false n runs stored more size =
    let nothing : ℕ = 0 in
    let rest = more stored (omega (arith, size)) in
    omega (arith, rest, length-append (replicate (4096 * n) nothing) (bytes_of runs stored), length-replicate (4096 * n) nothing)

pub size_of_bytes : (runs : List Run) (stored : List ℕ) → 4096 * stored_in runs ≡ length stored
    → length (bytes_of runs stored) ≡ 4096 * length (numbers_of runs)
size_of_bytes [] stored size = refl
size_of_bytes (r ∷ runs) stored size =
    size_by_kind r.stored r.length runs stored (size_of_bytes runs) size
    ∙ omega (arith, length-append (numbers_from r.first r.length) (numbers_of runs), many_from r.first r.length)

-- ---- and they are bytes

both_bytes : (xs ys : List ℕ) → IsBytes xs → IsBytes ys → IsBytes (xs ++ ys)
both_bytes xs ys first second i = elim (cases_lt i (length xs)) [
  | inl lt ↦ subst (λ (b : ℕ). b < 256) (sym (get_or_append_left xs ys 0 i lt)) (first i)
  | inr le ↦ (
      let here : i ≡ length xs + (i - length xs) = omega (arith, le) in
      subst (λ (b : ℕ). b < 256) (sym (ap (λ (k : ℕ). get_or (xs ++ ys) k 0) here ∙ get_or-append-add xs ys (i - length xs) 0)) (second (i - length xs))
      )
]

zero_bytes : (n : ℕ) → IsBytes (replicate n 0)
zero_bytes zero i = omega arith
zero_bytes (suc n) zero = omega arith
zero_bytes (suc n) (suc i) = zero_bytes n i

bytes_by_kind : (kind : Bool) (n : ℕ) (runs : List Run) (stored : List ℕ) → IsBytes stored → ((more : List ℕ) → IsBytes more → IsBytes (bytes_of runs more))
    → IsBytes (cond kind (take (4096 * n) stored ++ bytes_of runs (drop (4096 * n) stored)) (replicate (4096 * n) 0 ++ bytes_of runs stored))
bytes_by_kind true n runs stored bytes more =
    both_bytes (take (4096 * n) stored) (bytes_of runs (drop (4096 * n) stored)) (bytes_front (4096 * n) stored bytes) (more (drop (4096 * n) stored) (bytes_behind (4096 * n) stored bytes))
bytes_by_kind false n runs stored bytes more = both_bytes (replicate (4096 * n) 0) (bytes_of runs stored) (zero_bytes (4096 * n)) (more stored bytes)

pub runs_of_bytes : (runs : List Run) (stored : List ℕ) → IsBytes stored → IsBytes (bytes_of runs stored)
runs_of_bytes [] stored bytes = zero_bytes 0
runs_of_bytes (r ∷ runs) stored bytes = bytes_by_kind r.stored r.length runs stored bytes (runs_of_bytes runs)

-- ---- no more pages than the memory has

pub few_numbers : (v : Version) (pages low : ℕ) (runs : List Run) → are_runs v pages runs ≡ true → IsFrom low runs → low ≤ pages
    → low + length (numbers_of runs) ≤ pages
few_numbers v pages low [] are from le = omega (arith, le)
few_numbers v pages low (r ∷ runs) are from le =
    let first = first_is v pages r runs are in
    let end = (inside v pages r runs first).1 in
    let rest = few_numbers v pages (r.first + r.length) runs (others_are v pages r runs are) (behind_it v pages r runs first) end in
    omega (arith, rest, from, length-append (numbers_from r.first r.length) (numbers_of runs), many_from r.first r.length)
