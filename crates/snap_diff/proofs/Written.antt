-- The parts of a diff in version 2 are a file of it.
use Rattle.std.proofs.Common.{◌≡◌, ℕ, zero, suc, ◌+◌, ◌*◌, ◌<◌, ◌≤◌, ◌==◌, ◌&&◌, ◌||◌, Bool, true, false, not, cond, List, [], ◌∷◌, ◌++◌, length, drop, take, refl, sym, ap, subst, ◌∙◌, arith, append_assoc, length-append}
use Rattle.std.specs.Prelude.{IsTrue, nat_le, nat_lt, replicate}
use Rattle.std.specs.Bool.{beq}
use Rattle.std.specs.List.{AllByRecursion}
use Rattle.std.proofs.lemmas.Bool.{and_parts, eq-eqb, eqb-true, eqb-false, le-leb, leb-true, lt-ltb, ltb-true}
use Rattle.std.proofs.lemmas.List.{drop_at, length-drop, length-take-le, take-append-drop, take_at}
use Rattle.file_format.specs.Kinds.{fixed, number32, zeros}
use Rattle.file_format.specs.Versions.{version}
use Rattle.file_format.specs.Readers.{are_zeros}
use Rattle.file_format.specs.declared.version.Version.TheVariants.{Two}
use Rattle.snap_diff.specs.declared.header.DiffNames.{DiffNames}
use Rattle.snap_diff.specs.declared.run.Run.{Run}
use Rattle.snap_diff.specs.Copies.{DiffCopy, IsDiff, page_at, pages_at, rises}
use Rattle.snap_diff.specs.Headers.{are_names, behind_gate, counts, header, names, names_of}
use Rattle.snap_diff.specs.Runs.{are_runs, bytes_of, chosen, filled_of, goes_on, heads, is_inside, kinds_of, may_follow, numbers_from, numbers_of, run_of, runs_from, runs_of, stored_in}
use Rattle.snap_diff.specs.Diffs.{IsDiffFile, are_stored, copy_of, entry, header_in, is_table, parts, parts_in, run_kind, runs_in, stored_pages}
use Rattle.snap_diff.proofs.Files.{Fit, bytes_of_parts, made}
use Rattle.snap_diff.proofs.Tables.{first_is, inside as inside_of, others_are}
use Rattle.snap_diff.proofs.Filled.{all_of, are_zeros_of, as_many_kinds, filled_then, kinds_then, many_zeros}

-- how many of these kinds are of pages that are stored
abbrev pub trues : List Bool → ℕ
trues [] = 0
trues (kind ∷ kinds) = cond kind 1 0 + trues kinds

-- ---- the pages of the runs

numbers_more : (first count : ℕ) (ns : List ℕ) → numbers_from first (suc count) ++ ns ≡ numbers_from first count ++ ((first + count) ∷ ns)
numbers_more first zero ns = ap (λ (n : ℕ). n ∷ ns) (omega arith)
numbers_more first (suc count) ns =
    ap (λ (l : List ℕ). first ∷ l) (numbers_more (suc first) count ns ∙ ap (λ (n : ℕ). numbers_from (suc first) count ++ (n ∷ ns)) (omega arith))

same_kind : (a b : Bool) → beq a b ≡ true → a ≡ b
same_kind true true is = refl
same_kind true false is = absurd cc
same_kind false true is = absurd cc
same_kind false false is = refl

next_is : (r : Run) (n : ℕ) (kind : Bool) → goes_on r n kind ≡ true → (r.first + r.length ≡ n) × (r.stored ≡ kind)
next_is r n kind is =
    let two = and_parts (r.first + r.length == n) (beq r.stored kind) is in
    (eqb-true (r.first + r.length) n two.0, same_kind r.stored kind two.1)

numbers_by : (r : Run) (n : ℕ) (ns : List ℕ) (kind : Bool) (kinds : List Bool) (b : Bool) → goes_on r n kind ≡ b
    → ((q : Run) → numbers_of (runs_from q ns kinds) ≡ numbers_from q.first q.length ++ ns)
    → numbers_of (cond b (runs_from (record r { length = suc r.length }) ns kinds) (r ∷ runs_from (run_of n kind) ns kinds)) ≡ numbers_from r.first r.length ++ (n ∷ ns)
numbers_by r n ns kind kinds true is again =
    again (record r { length = suc r.length }) ∙ numbers_more r.first r.length ns
    ∙ ap (λ (k : ℕ). numbers_from r.first r.length ++ (k ∷ ns)) (next_is r n kind is).0
numbers_by r n ns kind kinds false is again = ap (λ (l : List ℕ). numbers_from r.first r.length ++ l) (again (run_of n kind))

numbers_again : (r : Run) (ns : List ℕ) (kinds : List Bool) → length kinds ≡ length ns → numbers_of (runs_from r ns kinds) ≡ numbers_from r.first r.length ++ ns
numbers_again r [] [] size = refl
numbers_again r [] (kind ∷ kinds) size = refl
numbers_again r (n ∷ ns) [] size = absurd (omega (arith, size))
numbers_again r (n ∷ ns) (kind ∷ kinds) size =
    numbers_by r n ns kind kinds (goes_on r n kind) refl (λ q. numbers_again q ns kinds (omega (arith, size)))

pub numbers_are : (ns : List ℕ) (kinds : List Bool) → length kinds ≡ length ns → numbers_of (runs_of ns kinds) ≡ ns
numbers_are [] kinds size = refl
numbers_are (n ∷ ns) [] size = absurd (omega (arith, size))
numbers_are (n ∷ ns) (kind ∷ kinds) size = numbers_again (run_of n kind) ns kinds (omega (arith, size))

-- ---- how many are stored

one_more : (n others : ℕ) (a b : Bool) → a ≡ b → cond a (suc n) 0 + others ≡ cond a n 0 + (cond b 1 0 + others)
one_more n others true true same = omega arith
one_more n others true false same = absurd cc
one_more n others false true same = absurd cc
one_more n others false false same = omega arith

many_by : (r : Run) (n : ℕ) (ns : List ℕ) (kind : Bool) (kinds : List Bool) (b : Bool) → goes_on r n kind ≡ b
    → ((q : Run) → stored_in (runs_from q ns kinds) ≡ cond q.stored q.length 0 + trues kinds)
    → stored_in (cond b (runs_from (record r { length = suc r.length }) ns kinds) (r ∷ runs_from (run_of n kind) ns kinds)) ≡ cond r.stored r.length 0 + (cond kind 1 0 + trues kinds)
many_by r n ns kind kinds true is again =
    again (record r { length = suc r.length }) ∙ one_more r.length (trues kinds) r.stored kind (next_is r n kind is).1
many_by r n ns kind kinds false is again = ap (λ (k : ℕ). cond r.stored r.length 0 + k) (again (run_of n kind))

many_again : (r : Run) (ns : List ℕ) (kinds : List Bool) → length kinds ≡ length ns → stored_in (runs_from r ns kinds) ≡ cond r.stored r.length 0 + trues kinds
many_again r [] [] size = refl
many_again r [] (kind ∷ kinds) size = absurd (omega (arith, size))
many_again r (n ∷ ns) [] size = absurd (omega (arith, size))
many_again r (n ∷ ns) (kind ∷ kinds) size = many_by r n ns kind kinds (goes_on r n kind) refl (λ q. many_again q ns kinds (omega (arith, size)))

pub many_are : (ns : List ℕ) (kinds : List Bool) → length kinds ≡ length ns → stored_in (runs_of ns kinds) ≡ trues kinds
many_are [] [] size = refl
many_are [] (kind ∷ kinds) size = absurd (omega (arith, size))
many_are (n ∷ ns) [] size = absurd (omega (arith, size))
many_are (n ∷ ns) (kind ∷ kinds) size = many_again (run_of n kind) ns kinds (omega (arith, size))

pub size_of_filled : (kinds : List Bool) (bytes : List ℕ) → length bytes ≡ 4096 * length kinds → length (filled_of kinds bytes) ≡ 4096 * trues kinds
size_of_filled [] bytes size = refl
size_of_filled (true ∷ kinds) bytes size =
    let one : length (take 4096 bytes) ≡ 4096 = length-take-le 4096 bytes (omega (arith, size)) in
    let rest = size_of_filled kinds (drop 4096 bytes) (omega (arith, size, length-drop 4096 bytes)) in
    omega (arith, one, rest, length-append (take 4096 bytes) (filled_of kinds (drop 4096 bytes)))
size_of_filled (false ∷ kinds) bytes size =
    let rest = size_of_filled kinds (drop 4096 bytes) (omega (arith, size, length-drop 4096 bytes)) in
    omega (arith, rest)

-- none of them is a page of zeros
filled_by : (n : ℕ) (page : List ℕ) (kinds : List Bool) (more : List ℕ) (kind : Bool) → not (are_zeros page) ≡ kind → length page ≡ 4096
    → all_of (kinds_of (trues kinds) more) ≡ true → all_of (kinds_of (cond kind 1 0 + trues kinds) (cond kind page [] ++ more)) ≡ true
filled_by n page kinds more true is size rest =
    let next : 1 + trues kinds ≡ suc (trues kinds) = omega arith in
    ap (λ (k : ℕ). all_of (kinds_of k (page ++ more))) next
    ∙ ap all_of (kinds_then page more size (trues kinds)) ∙ ap (λ (b : Bool). b && all_of (kinds_of (trues kinds) more)) is ∙ rest
filled_by n page kinds more false is size rest =
    let none : 0 + trues kinds ≡ trues kinds = omega arith in
    ap (λ (k : ℕ). all_of (kinds_of k more)) none ∙ rest

pub all_filled : (n : ℕ) (bytes : List ℕ) → length bytes ≡ 4096 * n → all_of (kinds_of (trues (kinds_of n bytes)) (filled_of (kinds_of n bytes) bytes)) ≡ true
all_filled zero bytes size = refl
all_filled (suc n) bytes size =
    let page : List ℕ = take 4096 bytes in
    let more : List ℕ = drop 4096 bytes in
    filled_by n page (kinds_of n more) (filled_of (kinds_of n more) more) (not (are_zeros page)) refl (length-take-le 4096 bytes (omega (arith, size)))
    (all_filled n more (omega (arith, size, length-drop 4096 bytes)))

-- ---- the bytes of the runs

-- what is stored of so many pages of a kind
abbrev IsOf : Bool → ℕ → List ℕ → List ℕ → Type 0
IsOf true n front whole = (front ≡ whole) × (length whole ≡ 4096 * n)
IsOf false n front whole = (front ≡ []) × (whole ≡ replicate (4096 * n) 0)

not_none : (b : Bool) → not b ≡ false → b ≡ true
not_none true is = refl
not_none false is = absurd cc

-- a page more
more_of : (kind : Bool) (n : ℕ) (front whole page : List ℕ) → IsOf kind n front whole → not (are_zeros page) ≡ kind → length page ≡ 4096
    → IsOf kind (suc n) (front ++ cond kind page []) (whole ++ page)
more_of true n front whole page is filled size =
    (ap (λ (l : List ℕ). l ++ page) is.0, omega (arith, is.1, size, length-append whole page))
more_of false n front whole page is filled size =
    let zeros : are_zeros page ≡ true = not_none (are_zeros page) filled in (
      ap (λ (l : List ℕ). l ++ []) is.0,
      ap (λ (l : List ℕ). l ++ page) is.1 ∙ ap (λ (l : List ℕ). replicate (4096 * n) 0 ++ l) (are_zeros_of page zeros)
          ∙ sym (many_zeros (4096 * n) (length page)) ∙ ap (λ (k : ℕ). replicate k 0) (omega (arith, size)),
    )

no_page : (kind : Bool) → IsOf kind 0 [] []
no_page true = (refl, refl)
no_page false = (refl, refl)

-- the bytes of a run and of those behind it
run_then : (kind : Bool) (n : ℕ) (runs : List Run) (front whole more after : List ℕ) → IsOf kind n front whole → bytes_of runs more ≡ after
    → cond kind (take (4096 * n) (front ++ more) ++ bytes_of runs (drop (4096 * n) (front ++ more))) (replicate (4096 * n) 0 ++ bytes_of runs (front ++ more)) ≡ whole ++ after
run_then true n runs front whole more after is rest =
    let size : length front ≡ 4096 * n = ap length is.0 ∙ is.1 in
    ap (λ (l : List ℕ). l ++ bytes_of runs (drop (4096 * n) (front ++ more))) (take_at front more (4096 * n) size ∙ is.0)
    ∙ ap (λ (l : List ℕ). whole ++ bytes_of runs l) (drop_at front more (4096 * n) size)
    ∙ ap (λ (l : List ℕ). whole ++ l) rest
run_then false n runs front whole more after is rest =
    ap (λ (l : List ℕ). replicate (4096 * n) 0 ++ bytes_of runs (l ++ more)) is.0
    ∙ ap (λ (l : List ℕ). replicate (4096 * n) 0 ++ l) rest
    ∙ ap (λ (l : List ℕ). l ++ after) (sym is.1)

module _ (r : Run) (n : ℕ) (ns : List ℕ) (front whole page more : List ℕ) (is : IsOf r.stored r.length front whole) (one : length page ≡ 4096) where
  abbrev kind : Bool
  kind = not (are_zeros page)

  abbrev kinds : List Bool
  kinds = kinds_of (length ns) more

  abbrev others : List ℕ
  others = filled_of kinds more

  bytes_by : (b : Bool) → goes_on r n kind ≡ b
      → ((q : Run) (f w : List ℕ) → IsOf q.stored q.length f w → bytes_of (runs_from q ns kinds) (f ++ others) ≡ w ++ more)
      → bytes_of (cond b (runs_from (record r { length = suc r.length }) ns kinds) (r ∷ runs_from (run_of n kind) ns kinds)) (front ++ (cond kind page [] ++ others)) ≡ whole ++ (page ++ more)
  bytes_by true goes again =
      let same : r.stored ≡ kind = (next_is r n kind goes).1 in
      let step : IsOf r.stored (suc r.length) (front ++ cond kind page []) (whole ++ page) =
      subst (λ (k : Bool). IsOf r.stored (suc r.length) (front ++ cond k page []) (whole ++ page)) same
      (more_of r.stored r.length front whole page is (sym same) one) in
      ap (bytes_of (runs_from (record r { length = suc r.length }) ns kinds)) (sym (append_assoc front (cond kind page []) others))
      ∙ again (record r { length = suc r.length }) (front ++ cond kind page []) (whole ++ page) step
      ∙ append_assoc whole page more
  bytes_by false goes again =
      run_then r.stored r.length (runs_from (run_of n kind) ns kinds) front whole (cond kind page [] ++ others) (page ++ more) is
      (again (run_of n kind) (cond kind page []) page (more_of kind 0 [] [] page (no_page kind) refl one))

none_more : (r : Run) (front whole bytes : List ℕ) → IsOf r.stored r.length front whole → 0 ≡ length bytes
    → bytes_of (r ∷ []) (front ++ []) ≡ whole ++ bytes
none_more r front whole [] is size = run_then r.stored r.length [] front whole [] [] is refl
none_more r front whole (b ∷ bytes) is size = absurd (omega (arith, size))

bytes_again : (r : Run) (ns : List ℕ) (front whole bytes : List ℕ) → IsOf r.stored r.length front whole → length bytes ≡ 4096 * length ns
    → bytes_of (runs_from r ns (kinds_of (length ns) bytes)) (front ++ filled_of (kinds_of (length ns) bytes) bytes) ≡ whole ++ bytes
bytes_again r [] front whole bytes is size = none_more r front whole bytes is (sym size)
bytes_again r (n ∷ ns) front whole bytes is size =
    let page : List ℕ = take 4096 bytes in
    let more : List ℕ = drop 4096 bytes in
    bytes_by r n ns front whole page more is (length-take-le 4096 bytes (omega (arith, size))) (goes_on r n (not (are_zeros page))) refl
    (λ q f w of. bytes_again q ns f w more of (omega (arith, size, length-drop 4096 bytes)))
    ∙ ap (λ (l : List ℕ). whole ++ l) (take-append-drop 4096 bytes)

none_left : (bytes : List ℕ) → 0 ≡ length bytes → [] ≡ bytes
none_left [] is = refl
none_left (b ∷ bytes) is = absurd (omega (arith, is))

pub bytes_are : (ns bytes : List ℕ) → length bytes ≡ 4096 * length ns → bytes_of (runs_of ns (kinds_of (length ns) bytes)) (filled_of (kinds_of (length ns) bytes) bytes) ≡ bytes
bytes_are [] bytes size = none_left bytes (sym size)
bytes_are (n ∷ ns) bytes size =
    let page : List ℕ = take 4096 bytes in
    let more : List ℕ = drop 4096 bytes in
    let kind : Bool = not (are_zeros page) in
    let one : length page ≡ 4096 = length-take-le 4096 bytes (omega (arith, size)) in
    bytes_again (run_of n kind) ns (cond kind page []) page more (more_of kind 0 [] [] page (no_page kind) refl one) (omega (arith, size, length-drop 4096 bytes))
    ∙ take-append-drop 4096 bytes

-- ---- they rise, and those that touch differ in kind

-- the first of them begins where this run does
record Begun (r : Run) (runs : List Run) : Type 0 where
  pub length : ℕ
  pub others : List Run
  pub is : runs ≡ record { first = r.first; length = length; stored = r.stored } ∷ others

begun_by : (r : Run) (n : ℕ) (ns : List ℕ) (kind : Bool) (kinds : List Bool) (b : Bool) → ((q : Run) → Begun q (runs_from q ns kinds))
    → Begun r (cond b (runs_from (record r { length = suc r.length }) ns kinds) (r ∷ runs_from (run_of n kind) ns kinds))
begun_by r n ns kind kinds true again =
    let rest = again (record r { length = suc r.length }) in record { length = rest.length; others = rest.others; is = rest.is }
begun_by r n ns kind kinds false again = record { length = r.length; others = runs_from (run_of n kind) ns kinds; is = refl }

begun : (r : Run) (ns : List ℕ) (kinds : List Bool) → Begun r (runs_from r ns kinds)
begun r [] kinds = record { length = r.length; others = []; is = refl }
begun r (n ∷ ns) [] = record { length = r.length; others = []; is = refl }
begun r (n ∷ ns) (kind ∷ kinds) = begun_by r n ns kind kinds (goes_on r n kind) (λ q. begun q ns kinds)

first_fails : (b : Bool) → (b && true) ≡ false → b ≡ false
first_fails true is = absurd cc
first_fails false is = refl

follows : (r : Run) (n : ℕ) (kind : Bool) (touch : Bool) → not (beq r.stored kind) ≡ touch → r.first + r.length ≤ n → goes_on r n kind ≡ false
    → (nat_le (r.first + r.length) n && (touch || nat_lt (r.first + r.length) n)) ≡ true
follows r n kind true is le stops = ap (λ (b : Bool). b && true) (le-leb (r.first + r.length) n le)
follows r n kind false is le stops =
    let apart : (r.first + r.length == n) ≡ false = first_fails (r.first + r.length == n) (sym (ap (λ (b : Bool). (r.first + r.length == n) && b) (not_none (beq r.stored kind) is)) ∙ stops) in
    let less : r.first + r.length < n = (let ne = eqb-false (r.first + r.length) n apart in omega (arith, le, ne)) in
    ap (λ (b : Bool). b && nat_lt (r.first + r.length) n) (le-leb (r.first + r.length) n le) ∙ lt-ltb (r.first + r.length) n less

module _ (pages : ℕ) where
  inside : (r : Run) → 1 ≤ r.length → r.first + r.length ≤ pages → is_inside pages r ≡ true
  inside r some le = ap (λ (b : Bool). b && nat_le (r.first + r.length) pages) (le-leb 1 r.length some) ∙ le-leb (r.first + r.length) pages le

  runs_by : (r : Run) (n : ℕ) (ns : List ℕ) (kind : Bool) (kinds : List Bool) (b : Bool) → goes_on r n kind ≡ b → 1 ≤ r.length → r.first + r.length ≤ pages
      → r.first + r.length ≤ n → n < pages
      → ((q : Run) → 1 ≤ q.length → q.first + q.length ≡ suc n → are_runs Two pages (runs_from q ns kinds) ≡ true)
      → are_runs Two pages (cond b (runs_from (record r { length = suc r.length }) ns kinds) (r ∷ runs_from (run_of n kind) ns kinds)) ≡ true
  runs_by r n ns kind kinds true is some le above below again =
      again (record r { length = suc r.length }) (omega arith) (let end = (next_is r n kind is).0 in omega (arith, end))
  runs_by r n ns kind kinds false is some le above below again =
      let rest = again (run_of n kind) (omega arith) (omega arith) in
      let it = begun (run_of n kind) ns kinds in
      let first : heads Two pages (r ∷ runs_from (run_of n kind) ns kinds) ≡ true =
      ap (λ (l : List Run). heads Two pages (r ∷ l)) it.is
      ∙ ap (λ (b : Bool). b && may_follow Two r (run_of n kind)) (inside r some le)
      ∙ follows r n kind (not (beq r.stored kind)) refl above is in
      ap (λ (b : Bool). b && are_runs Two pages (runs_from (run_of n kind) ns kinds)) first ∙ rest

  runs_again : (r : Run) (ns : List ℕ) (kinds : List Bool) → 1 ≤ r.length → r.first + r.length ≤ pages → rises pages (r.first + r.length) ns ≡ true
      → are_runs Two pages (runs_from r ns kinds) ≡ true
  runs_again r [] kinds some le rise = ap (λ (b : Bool). b && true) (inside r some le)
  runs_again r (n ∷ ns) [] some le rise = ap (λ (b : Bool). b && true) (inside r some le)
  runs_again r (n ∷ ns) (kind ∷ kinds) some le rise =
      let two = and_parts (nat_le (r.first + r.length) n && nat_lt n pages) (rises pages (suc n) ns) rise in
      let tests = and_parts (nat_le (r.first + r.length) n) (nat_lt n pages) two.0 in
      let below = ltb-true n pages tests.1 in
      runs_by r n ns kind kinds (goes_on r n kind) refl some le (leb-true (r.first + r.length) n tests.0) below
      (λ q many end. runs_again q ns kinds many (omega (arith, end, below)) (subst (λ (k : ℕ). rises pages k ns ≡ true) (sym end) two.1))

  pub runs_are : (low : ℕ) (ns : List ℕ) (kinds : List Bool) → rises pages low ns ≡ true → are_runs Two pages (runs_of ns kinds) ≡ true
  runs_are low [] kinds rise = refl
  runs_are low (n ∷ ns) [] rise = refl
  runs_are low (n ∷ ns) (kind ∷ kinds) rise =
      let two = and_parts (nat_le low n && nat_lt n pages) (rises pages (suc n) ns) rise in
      let below = ltb-true n pages (and_parts (nat_le low n) (nat_lt n pages) two.0).1 in
      runs_again (run_of n kind) ns kinds (omega arith) (omega (arith, below)) (subst (λ (k : ℕ). rises pages k ns ≡ true) (omega arith) two.1)

-- ---- the file

kind_fits : (kind : Bool) → run_kind.Fits kind
unfolding run_kind number32
kind_fits true = (omega arith, refl)
kind_fits false = (omega arith, refl)

entries_fit : (pages : ℕ) (runs : List Run) → are_runs Two pages runs ≡ true → pages < 4294967296 → AllByRecursion (entry Two).Fits runs
unfolding entry number32
entries_fit pages [] are small = tt
entries_fit pages (r ∷ runs) are small =
    let in_it = inside_of Two pages r runs (first_is Two pages r runs are) in
    ((omega (arith, in_it.0, in_it.1, small), (omega (arith, in_it.1, small), kind_fits r.stored)), entries_fit pages runs (others_are Two pages r runs are) small)

-- no more runs than pages, and none but those are stored
few_by : (r : Run) (n : ℕ) (ns : List ℕ) (kind : Bool) (kinds : List Bool) (b : Bool) → ((q : Run) → length (runs_from q ns kinds) ≤ suc (length ns))
    → length (cond b (runs_from (record r { length = suc r.length }) ns kinds) (r ∷ runs_from (run_of n kind) ns kinds)) ≤ suc (suc (length ns))
few_by r n ns kind kinds true few = omega (arith, few (record r { length = suc r.length }))
few_by r n ns kind kinds false few = omega (arith, few (run_of n kind))

few_from : (r : Run) (ns : List ℕ) (kinds : List Bool) → length (runs_from r ns kinds) ≤ suc (length ns)
few_from r [] kinds = omega arith
few_from r (n ∷ ns) [] = omega arith
few_from r (n ∷ ns) (kind ∷ kinds) = few_by r n ns kind kinds (goes_on r n kind) (λ q. few_from q ns kinds)

pub few_runs : (ns : List ℕ) (kinds : List Bool) → length (runs_of ns kinds) ≤ length ns
few_runs [] kinds = omega arith
few_runs (n ∷ ns) [] = omega arith
few_runs (n ∷ ns) (kind ∷ kinds) = few_from (run_of n kind) ns kinds

few_trues : (kinds : List Bool) → trues kinds ≤ length kinds
few_trues [] = omega arith
few_trues (true ∷ kinds) = omega (arith, few_trues kinds)
few_trues (false ∷ kinds) = omega (arith, few_trues kinds)

few_risen : (pages low : ℕ) (ns : List ℕ) → rises pages low ns ≡ true → low ≤ pages → low + length ns ≤ pages
few_risen pages low [] rise le = omega (arith, le)
few_risen pages low (n ∷ ns) rise le =
    let two = and_parts (nat_le low n && nat_lt n pages) (rises pages (suc n) ns) rise in
    let tests = and_parts (nat_le low n) (nat_lt n pages) two.0 in
    let above = leb-true low n tests.0 in
    let below = ltb-true n pages tests.1 in
    let rest = few_risen pages (suc n) ns two.1 (omega (arith, below)) in
    omega (arith, rest, above)

small_pages : (n : DiffNames) → names.Fits n → n.pages < 4294967296
unfolding names number32
small_pages n fits = fits.0

header_of_names : (n : DiffNames) (count stored : ℕ) → names.Fits n → count < 4294967296 → stored < 4294967296
    → header.Fits (record { version = Two; names = n; count = count; stored = stored })
unfolding header behind_gate version counts number32 fixed zeros
header_of_names n count stored fits few fewer = (refl, ((refl, ((omega arith, refl), fits)), (refl, (few, (fewer, tt)))))

module _ (d : DiffCopy) (is : IsDiff d) (of : names.Fits (names_of d)) (valid : IsTrue (are_names (names_of d))) where
  abbrev kinds_d : List Bool
  kinds_d = kinds_of (length d.numbers) d.bytes

  few_pages : length d.numbers < 4294967296
  few_pages = omega (arith, few_risen d.pages 0 d.numbers is.rise (omega arith), small_pages (names_of d) of)

  as_many : length kinds_d ≡ length d.numbers
  as_many = as_many_kinds (length d.numbers) d.bytes

  runs_rise : are_runs Two d.pages (runs_in Two d) ≡ true
  runs_rise = runs_are d.pages 0 d.numbers kinds_d is.rise

  stored_many : stored_in (runs_in Two d) ≡ trues kinds_d
  stored_many = many_are d.numbers kinds_d as_many

  pub header_fits : header.Fits (header_in Two d)
  header_fits =
      header_of_names (names_of d) (length (runs_in Two d)) (stored_in (runs_in Two d)) of (omega (arith, few_runs d.numbers kinds_d, few_pages))
      (omega (arith, stored_many, few_trues kinds_d, as_many, few_pages))

  fit : Fit (parts_in Two d)
  fit = record {
    head = header_fits;
    count = refl;
    fit = entries_fit d.pages (runs_in Two d) runs_rise (small_pages (names_of d) of);
    size = size_of_filled kinds_d d.bytes (is.size ∙ ap (λ (n : ℕ). 4096 * n) (sym as_many)) ∙ ap (λ (n : ℕ). 4096 * n) (sym stored_many);
  }

  table : IsTrue (is_table (header_in Two d) (runs_in Two d))
  table = ap (λ (b : Bool). b && (stored_in (runs_in Two d) == stored_in (runs_in Two d))) runs_rise ∙ eq-eqb (stored_in (runs_in Two d)) _ refl

  full : IsTrue (are_stored Two (stored_in (runs_in Two d)) (stored_pages Two (length d.numbers) d.bytes))
  full = ap (λ (n : ℕ). all_of (kinds_of n (stored_pages Two (length d.numbers) d.bytes))) stored_many ∙ all_filled (length d.numbers) d.bytes is.size

  copy_is : copy_of (parts_in Two d) ≡ d
  copy_is =
      ap (λ (ns : List ℕ). record { pages = d.pages; parent = d.parent; identity = d.identity; numbers = ns; bytes = bytes_of (runs_in Two d) (stored_pages Two (length d.numbers) d.bytes) }) (numbers_are d.numbers kinds_d as_many)
      ∙ ap (λ (bs : List ℕ). record { pages = d.pages; parent = d.parent; identity = d.identity; numbers = d.numbers; bytes = bs }) (bytes_are d.numbers d.bytes is.size)

  pub written_file : IsDiffFile (parts.bytes (parts_in Two d)) d
  written_file = subst (λ (c : DiffCopy). IsDiffFile (parts.bytes (parts_in Two d)) c) copy_is
      (made (parts.bytes (parts_in Two d)) (parts_in Two d) fit valid table full (bytes_of_parts (parts_in Two d)))

-- ---- of a memory's pages

by_page : (n : ℕ) (ns bytes : List ℕ) (kinds : List Bool) (kind : Bool)
    → cond kind (page_at n bytes) [] ++ pages_at (chosen ns kinds) bytes ≡ pages_at (chosen (n ∷ ns) (kind ∷ kinds)) bytes
by_page n ns bytes kinds true = refl
by_page n ns bytes kinds false = refl

-- the stored pages are those of the numbers of their kind
pub filled_at : (pages low : ℕ) (ns bytes : List ℕ) → rises pages low ns ≡ true → length bytes ≡ 4096 * pages
    → filled_of (kinds_of (length ns) (pages_at ns bytes)) (pages_at ns bytes) ≡ pages_at (chosen ns (kinds_of (length ns) (pages_at ns bytes))) bytes
filled_at pages low [] bytes rise whole = refl
filled_at pages low (n ∷ ns) bytes rise whole =
    let two = and_parts (nat_le low n && nat_lt n pages) (rises pages (suc n) ns) rise in
    let below = ltb-true n pages (and_parts (nat_le low n) (nat_lt n pages) two.0).1 in
    let page : List ℕ = page_at n bytes in
    let more : List ℕ = pages_at ns bytes in
    let one : length page ≡ 4096 = length-take-le 4096 (drop (4096 * n) bytes) (omega (arith, whole, below, length-drop (4096 * n) bytes)) in
    let rest = filled_at pages (suc n) ns bytes two.1 whole in
    ap (λ (ks : List Bool). filled_of ks (page ++ more)) (kinds_then page more one (length ns))
    ∙ filled_then page more one (not (are_zeros page)) (kinds_of (length ns) more)
    ∙ ap (λ (l : List ℕ). cond (not (are_zeros page)) page [] ++ l) rest
    ∙ by_page n ns bytes (kinds_of (length ns) more) (not (are_zeros page))
    ∙ ap (λ (ks : List Bool). pages_at (chosen (n ∷ ns) ks) bytes) (sym (kinds_then page more one (length ns)))

chosen_by : (n : ℕ) (ns : List ℕ) (kind : Bool) (kinds : List Bool) → length (chosen ns kinds) ≡ trues kinds
    → length (chosen (n ∷ ns) (kind ∷ kinds)) ≡ trues (kind ∷ kinds)
chosen_by n ns true kinds many = omega (arith, many)
chosen_by n ns false kinds many = omega (arith, many)

many_chosen : (ns : List ℕ) (kinds : List Bool) → length kinds ≡ length ns → length (chosen ns kinds) ≡ trues kinds
many_chosen [] [] size = refl
many_chosen [] (kind ∷ kinds) size = absurd (omega (arith, size))
many_chosen (n ∷ ns) [] size = absurd (omega (arith, size))
many_chosen (n ∷ ns) (kind ∷ kinds) size = chosen_by n ns kind kinds (many_chosen ns kinds (omega (arith, size)))

-- as many pages are stored as numbers are of that kind
pub stored_chosen : (ns : List ℕ) (kinds : List Bool) → length kinds ≡ length ns → stored_in (runs_of ns kinds) ≡ length (chosen ns kinds)
stored_chosen ns kinds size = many_are ns kinds size ∙ sym (many_chosen ns kinds size)
