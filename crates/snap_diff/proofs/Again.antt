-- The parts of a file are those of its diff: each version has one file of a diff.
use Rattle.std.proofs.Common.{◌≡◌, ℕ, zero, suc, ◌+◌, ◌*◌, ◌≤◌, ◌==◌, ◌&&◌, ◌||◌, Bool, true, false, not, cond, List, [], ◌∷◌, ◌++◌, length, drop, take, refl, sym, ap, subst, ◌∙◌, arith, length-append}
use Rattle.std.specs.Prelude.{map, nat_le, nat_lt, replicate}
use Rattle.std.specs.Bool.{beq}
use Rattle.std.specs.List.{AllByRecursion}
use Rattle.std.proofs.lemmas.Bool.{and_parts, and_right, eq-eqb, ltb-true, ne_eqb}
use Rattle.std.proofs.lemmas.List.{length-drop, length-replicate, length-take-le, take-append-drop}
use Rattle.file_format.specs.Versions.{version_of}
use Rattle.file_format.specs.declared.version.Version.{Version}
use Rattle.file_format.specs.declared.version.Version.TheVariants.{One, Two}
use Rattle.snap_diff.specs.declared.header.DiffHeader.{DiffHeader}
use Rattle.snap_diff.specs.declared.run.Run.{Run}
use Rattle.snap_diff.specs.Copies.{DiffCopy}
use Rattle.snap_diff.specs.Runs.{are_runs, bytes_of, filled_of, goes_on, is_inside, kinds_of, may_follow, numbers_from, numbers_of, run_of, runs_from, runs_of, stored_in}
use Rattle.snap_diff.specs.Diffs.{DiffParts, IsDiffFile, are_stored, copy_of, entry, header_in, is_valid, parts, parts_in, runs_in, stored_pages}
use Rattle.snap_diff.proofs.Files.{Fit, begins, many_stored, parts_fit, runs_good, stored_good}
use Rattle.snap_diff.proofs.Fronts.{its_version}
use Rattle.snap_diff.proofs.Filled.{all_both, all_of, all_true, as_many_kinds, filled_all, filled_none, kinds_of_both, kinds_of_zeros}
use Rattle.snap_diff.proofs.Tables.{first_is, inside, many_from, others_are}

-- which of the runs' pages are stored
abbrev pub kinds_in : List Run → List Bool
kinds_in [] = []
kinds_in (r ∷ runs) = replicate r.length r.stored ++ kinds_in runs

-- ---- they are those that aren't zeros

module _ (n : ℕ) (runs : List Run) (stored : List ℕ) where
  abbrev front : List ℕ
  front = take (4096 * n) stored

  abbrev rest : List ℕ
  rest = drop (4096 * n) stored

  abbrev m : ℕ
  m = length (numbers_of runs)

  kinds_by : (kind : Bool) → 4096 * (cond kind n 0 + stored_in runs) ≡ length stored → all_of (kinds_of (cond kind n 0 + stored_in runs) stored) ≡ true
      → ((more : List ℕ) → 4096 * stored_in runs ≡ length more → all_of (kinds_of (stored_in runs) more) ≡ true → kinds_of m (bytes_of runs more) ≡ kinds_in runs)
      → kinds_of (n + m) (cond kind (front ++ bytes_of runs rest) (replicate (4096 * n) 0 ++ bytes_of runs stored)) ≡ replicate n kind ++ kinds_in runs
  kinds_by true size all again =
      let long : length front ≡ 4096 * n = length-take-le (4096 * n) stored (omega (arith, size)) in
      let two = all_both (kinds_of n front) (kinds_of (stored_in runs) rest)
      (sym (ap all_of (ap (kinds_of (n + stored_in runs)) (sym (take-append-drop (4096 * n) stored)) ∙ kinds_of_both n (stored_in runs) front rest long)) ∙ all) in
      kinds_of_both n m front (bytes_of runs rest) long
      ∙ ap (λ (l : List Bool). l ++ kinds_of m (bytes_of runs rest)) (all_true (kinds_of n front) two.0 ∙ ap (λ (k : ℕ). replicate k true) (as_many_kinds n front))
      ∙ ap (λ (l : List Bool). replicate n true ++ l) (again rest (omega (arith, size, length-drop (4096 * n) stored)) two.1)
  kinds_by false size all again =
      let nothing : ℕ = 0 in
      let none : 0 + stored_in runs ≡ stored_in runs = omega arith in
      kinds_of_both n m (replicate (4096 * n) nothing) (bytes_of runs stored) (length-replicate (4096 * n) nothing)
      ∙ ap (λ (l : List Bool). l ++ kinds_of m (bytes_of runs stored)) (kinds_of_zeros n)
      ∙ ap (λ (l : List Bool). replicate n false ++ l) (again stored (omega (arith, size)) (ap (λ (k : ℕ). all_of (kinds_of k stored)) (sym none) ∙ all))

  filled_by : (kind : Bool) → 4096 * (cond kind n 0 + stored_in runs) ≡ length stored
      → ((more : List ℕ) → 4096 * stored_in runs ≡ length more → filled_of (kinds_in runs) (bytes_of runs more) ≡ more)
      → filled_of (replicate n kind ++ kinds_in runs) (cond kind (front ++ bytes_of runs rest) (replicate (4096 * n) 0 ++ bytes_of runs stored)) ≡ stored
  filled_by true size again =
      filled_all n (kinds_in runs) front (bytes_of runs rest) (length-take-le (4096 * n) stored (omega (arith, size)))
      ∙ ap (λ (l : List ℕ). front ++ l) (again rest (omega (arith, size, length-drop (4096 * n) stored)))
      ∙ take-append-drop (4096 * n) stored
  filled_by false size again =
      let nothing : ℕ = 0 in
      filled_none n (kinds_in runs) (replicate (4096 * n) nothing) (bytes_of runs stored) (length-replicate (4096 * n) nothing) ∙ again stored (omega (arith, size))

kinds_again : (runs : List Run) (stored : List ℕ) → 4096 * stored_in runs ≡ length stored → all_of (kinds_of (stored_in runs) stored) ≡ true
    → kinds_of (length (numbers_of runs)) (bytes_of runs stored) ≡ kinds_in runs
kinds_again [] stored size all = refl
kinds_again (r ∷ runs) stored size all =
    let many : length (numbers_of (r ∷ runs)) ≡ r.length + length (numbers_of runs) =
    omega (arith, length-append (numbers_from r.first r.length) (numbers_of runs), many_from r.first r.length) in
    ap (λ (k : ℕ). kinds_of k (bytes_of (r ∷ runs) stored)) many ∙ kinds_by r.length runs stored r.stored size all (kinds_again runs)

none_left : (rest : List ℕ) → 0 ≡ length rest → [] ≡ rest
none_left [] is = refl
none_left (b ∷ bs) is = absurd (omega (arith, is))

filled_again : (runs : List Run) (stored : List ℕ) → 4096 * stored_in runs ≡ length stored → filled_of (kinds_in runs) (bytes_of runs stored) ≡ stored
filled_again [] stored size = none_left stored size
filled_again (r ∷ runs) stored size = filled_by r.length runs stored r.stored size (filled_again runs)

-- ---- runs that touch differ in kind, so they are as few as there can be

abbrev run : ℕ → ℕ → Bool → Run
run first length kind = record { first = first; length = length; stored = kind }

goes_here : (first n at : ℕ) (kind : Bool) → at ≡ first + n → goes_on (run first n kind) at kind ≡ true
goes_here first n at true is = ap (λ (b : Bool). b && true) (eq-eqb (first + n) at (sym is))
goes_here first n at false is = ap (λ (b : Bool). b && true) (eq-eqb (first + n) at (sym is))

-- more pages of a run
longer : (first n count at : ℕ) (kind : Bool) (numbers : List ℕ) (kinds : List Bool) → at ≡ first + n
    → runs_from (run first n kind) (numbers_from at count ++ numbers) (replicate count kind ++ kinds) ≡ runs_from (run first (n + count) kind) numbers kinds
longer first n zero at kind numbers kinds is = ap (λ (k : ℕ). runs_from (run first k kind) numbers kinds) (omega arith)
longer first n (suc count) at kind numbers kinds is =
    ap (λ (b : Bool). cond b (runs_from (run first (suc n) kind) (numbers_from (suc at) count ++ numbers) (replicate count kind ++ kinds))
    (run first n kind ∷ runs_from (run_of at kind) (numbers_from (suc at) count ++ numbers) (replicate count kind ++ kinds))) (goes_here first n at kind is)
    ∙ longer first (suc n) count (suc at) kind numbers kinds (omega (arith, is))
    ∙ ap (λ (k : ℕ). runs_from (run first k kind) numbers kinds) (omega arith)

not_same : (b : Bool) → not b ≡ true → b ≡ false
not_same true is = absurd cc
not_same false is = refl

-- a run that may follow doesn't go on with the one before it
stops_by : (r : Run) (first : ℕ) (kind touch : Bool) → not (beq r.stored kind) ≡ touch → (nat_le (r.first + r.length) first && (touch || nat_lt (r.first + r.length) first)) ≡ true
    → goes_on r first kind ≡ false
stops_by r first kind true is follow =
    let none : beq r.stored kind ≡ false = not_same (beq r.stored kind) is in
    ap (λ (b : Bool). (r.first + r.length == first) && b) none ∙ and_right (r.first + r.length == first) false refl
stops_by r first kind false is follow =
    let two = and_parts (nat_le (r.first + r.length) first) (nat_lt (r.first + r.length) first) follow in
    let before = ltb-true (r.first + r.length) first two.1 in
    ap (λ (b : Bool). b && beq r.stored kind) (ne_eqb (r.first + r.length) first (λ same. absurd (omega (arith, same, before))))

stops : (r s : Run) → may_follow Two r s ≡ true → goes_on r s.first s.stored ≡ false
stops r s follow = stops_by r s.first s.stored (not (beq r.stored s.stored)) refl follow

-- the pages of a run, which has some
module _ (s : Run) (runs : List Run) (n : ℕ) (some : s.length ≡ suc n) where
  whole_run : run s.first (suc n) s.stored ≡ s
  whole_run = ap (λ (k : ℕ). run s.first k s.stored) (sym some)

  all_of_run : runs_from (run_of s.first s.stored) (numbers_from (suc s.first) n ++ numbers_of runs) (replicate n s.stored ++ kinds_in runs) ≡ runs_from s (numbers_of runs) (kinds_in runs)
  all_of_run =
      longer s.first 1 n (suc s.first) s.stored (numbers_of runs) (kinds_in runs) (omega arith)
      ∙ ap (λ (k : ℕ). runs_from (run s.first k s.stored) (numbers_of runs) (kinds_in runs)) (omega arith)
      ∙ ap (λ (q : Run). runs_from q (numbers_of runs) (kinds_in runs)) whole_run

  -- in front of others
  behind : (r : Run) → goes_on r s.first s.stored ≡ false → runs_from s (numbers_of runs) (kinds_in runs) ≡ s ∷ runs
      → runs_from r (numbers_of (s ∷ runs)) (kinds_in (s ∷ runs)) ≡ r ∷ s ∷ runs
  behind r stop rest =
      let more : List ℕ = numbers_from (suc s.first) n ++ numbers_of runs in
      let kinds : List Bool = replicate n s.stored ++ kinds_in runs in
      ap (λ (k : ℕ). runs_from r (numbers_from s.first k ++ numbers_of runs) (replicate k s.stored ++ kinds_in runs)) some
      ∙ ap (λ (b : Bool). cond b (runs_from (record r { length = suc r.length }) more kinds) (r ∷ runs_from (run_of s.first s.stored) more kinds)) stop
      ∙ ap (λ (l : List Run). r ∷ l) (all_of_run ∙ rest)

  at_front : runs_from s (numbers_of runs) (kinds_in runs) ≡ s ∷ runs → runs_of (numbers_of (s ∷ runs)) (kinds_in (s ∷ runs)) ≡ s ∷ runs
  at_front rest =
      ap (λ (k : ℕ). runs_of (numbers_from s.first k ++ numbers_of runs) (replicate k s.stored ++ kinds_in runs)) some ∙ all_of_run ∙ rest

-- one less
less : (n : ℕ) → 1 ≤ n → (k : ℕ) × (n ≡ suc k)
less zero some = absurd (omega (arith, some))
less (suc n) some = (n, refl)

from_again : (pages : ℕ) (r : Run) (runs : List Run) → are_runs Two pages (r ∷ runs) ≡ true → runs_from r (numbers_of runs) (kinds_in runs) ≡ r ∷ runs
from_again pages r [] are = refl
from_again pages r (s ∷ runs) are =
    let rest = others_are Two pages r (s ∷ runs) are in
    let follow = (and_parts (is_inside pages r) (may_follow Two r s) (first_is Two pages r (s ∷ runs) are)).1 in
    let n = less s.length (inside Two pages s runs (first_is Two pages s runs rest)).0 in
    behind s runs n.0 n.1 r (stops r s follow) (from_again pages s runs rest)

runs_again : (pages : ℕ) (runs : List Run) → are_runs Two pages runs ≡ true → runs_of (numbers_of runs) (kinds_in runs) ≡ runs
runs_again pages [] are = refl
runs_again pages (r ∷ runs) are =
    let n = less r.length (inside Two pages r runs (first_is Two pages r runs are)).0 in
    at_front r runs n.0 n.1 (from_again pages r runs are)

-- ---- in version 1 each page is a run

one_entry : (r : Run) → (entry One).Fits r → r ≡ run_of r.first true
unfolding entry
one_entry r fits = fits.0

ones_again : (runs : List Run) → AllByRecursion (entry One).Fits runs → map (λ number. run_of number true) (numbers_of runs) ≡ runs
ones_again [] fit = refl
ones_again (r ∷ runs) fit =
    let is = one_entry r fit.0 in
    ap (λ (q : Run). map (λ number. run_of number true) (numbers_from q.first q.length ++ numbers_of runs)) is
    ∙ ap (λ (l : List Run). run_of r.first true ∷ l) (ones_again runs fit.1)
    ∙ ap (λ (q : Run). q ∷ runs) (sym is)

one_bytes : (runs : List Run) (stored : List ℕ) → AllByRecursion (entry One).Fits runs → 4096 * stored_in runs ≡ length stored → bytes_of runs stored ≡ stored
one_bytes [] stored fit size = none_left stored size
one_bytes (r ∷ runs) stored fit size =
    let is = one_entry r fit.0 in
    let some : 4096 * (1 + stored_in runs) ≡ length stored = subst (λ (q : Run). 4096 * (cond q.stored q.length 0 + stored_in runs) ≡ length stored) is size in
    ap (λ (q : Run). bytes_of (q ∷ runs) stored) is
    ∙ ap (λ (l : List ℕ). take 4096 stored ++ l) (one_bytes runs (drop 4096 stored) fit.1 (omega (arith, some, length-drop 4096 stored)))
    ∙ take-append-drop 4096 stored

-- ---- of each version

module _ (p : DiffParts) (fit : Fit p) (valid : is_valid p ≡ true) where
  abbrev h : DiffHeader
  h = p.header

  size : 4096 * stored_in p.runs ≡ length p.stored
  size = ap (λ (n : ℕ). 4096 * n) (many_stored p fit valid) ∙ sym fit.size

  all_are : (v : Version) → h.version ≡ v → are_stored v h.stored p.stored ≡ true
  all_are v is = subst (λ (w : Version). are_stored w h.stored p.stored ≡ true) is (stored_good p fit valid)

  kinds_are : are_stored Two h.stored p.stored ≡ true → kinds_of (length (numbers_of p.runs)) (bytes_of p.runs p.stored) ≡ kinds_in p.runs
  kinds_are all = kinds_again p.runs p.stored size (ap (λ (n : ℕ). all_of (kinds_of n p.stored)) (many_stored p fit valid) ∙ all)

  runs_are : (v : Version) → h.version ≡ v → p.runs ≡ runs_in v (copy_of p)
  runs_are One is = sym (ones_again p.runs (subst (λ (v : Version). AllByRecursion (entry v).Fits p.runs) is fit.fit))
  runs_are Two is =
      sym (ap (runs_of (numbers_of p.runs)) (kinds_are (all_are Two is))
      ∙ runs_again h.names.pages p.runs (subst (λ (v : Version). are_runs v h.names.pages p.runs ≡ true) is (runs_good p fit valid)))

  stored_are : (v : Version) → h.version ≡ v → p.stored ≡ stored_pages v (length (numbers_of p.runs)) (bytes_of p.runs p.stored)
  stored_are One is = sym (one_bytes p.runs p.stored (subst (λ (v : Version). AllByRecursion (entry v).Fits p.runs) is fit.fit) size)
  stored_are Two is =
      sym (ap (λ (kinds : List Bool). filled_of kinds (bytes_of p.runs p.stored)) (kinds_are (all_are Two is)) ∙ filled_again p.runs p.stored size)

  header_is : h ≡ header_in h.version (copy_of p)
  header_is =
      let count : h.count ≡ length (runs_in h.version (copy_of p)) = sym fit.count ∙ ap length (runs_are h.version refl) in
      let many : h.stored ≡ stored_in (runs_in h.version (copy_of p)) = sym (many_stored p fit valid) ∙ ap stored_in (runs_are h.version refl) in
      ap (λ (n : ℕ). record { version = h.version; names = h.names; count = n; stored = h.stored }) count
      ∙ ap (λ (n : ℕ). record { version = h.version; names = h.names; count = length (runs_in h.version (copy_of p)); stored = n }) many

  pub parts_again : p ≡ parts_in h.version (copy_of p)
  parts_again =
      let v : Version = h.version in
      let d : DiffCopy = copy_of p in
      ap (λ (g : DiffHeader). record { header = g; runs = p.runs; stored = p.stored }) header_is
      ∙ ap (λ (runs : List Run). record { header = header_in v d; runs = runs; stored = p.stored }) (runs_are v refl)
      ∙ ap (λ (stored : List ℕ). record { header = header_in v d; runs = runs_in v d; stored = stored }) (stored_are v refl)

-- ---- files

pub its_parts : (given : List ℕ) (d : DiffCopy) (is : IsDiffFile given d) → is.parts_of ≡ parts_in (version_of given) d
its_parts given d is =
    let p : DiffParts = is.parts_of in
    parts_again p (parts_fit p is.fits) is.valid
    ∙ ap (λ (c : DiffCopy). parts_in p.header.version c) (sym is.copy)
    ∙ ap (λ (v : Version). parts_in v d) (sym (its_version given p.header (begins given d is)))

pub one_file : (given other : List ℕ) (d : DiffCopy) → IsDiffFile given d → IsDiffFile other d → version_of given ≡ version_of other
    → given ≡ other
one_file given other d a b same =
    a.bytes ∙ ap parts.bytes (its_parts given d a)
    ∙ ap (λ (v : Version). parts.bytes (parts_in v d)) same
    ∙ sym (b.bytes ∙ ap parts.bytes (its_parts other d b))
