-- What the loops over runs and pages keep.
use Rattle.std.proofs.Common.{◌≡◌, ℕ, zero, suc, ◌+◌, ◌<◌, ◌≤◌, ◌&&◌, Bool, true, false, cond, List, [], ◌∷◌, ◌++◌, length, drop, get_or, refl, sym, ap, ◌∙◌, arith, length-append}
use Rattle.std.specs.Prelude.{IsTrue, ◌==◌}
use Rattle.std.proofs.lemmas.Bool.{and_parts}
use Rattle.std.proofs.lemmas.List.{drop_all, drop_more}
use Rattle.file_format.specs.declared.version.Version.{Version}
use Rattle.snap_diff.specs.declared.header.DiffHeader.{DiffHeader}
use Rattle.snap_diff.specs.declared.run.Run.{Run}
use Rattle.snap_diff.specs.Runs.{are_runs, heads, numbers_from, numbers_of, runs_from, runs_of, stored_in}
use Rattle.snap_diff.specs.Diffs.{is_table}
use Rattle.snap_diff.proofs.Tables.{IsFrom, few_numbers, many_from}

-- ---- the rules of runs

runs_on : (v : Version) (pages : ℕ) (runs : List Run) → are_runs v pages runs ≡ (heads v pages runs && are_runs v pages (drop 1 runs))
runs_on v pages [] = refl
runs_on v pages (r ∷ runs) = refl

drop_one : (runs : List Run) (i : ℕ) → drop 1 (drop i runs) ≡ drop (i + 1) runs
drop_one runs zero = refl
drop_one [] (suc i) = let next : suc (i + 1) ≡ suc i + 1 = omega arith in ap (λ (k : ℕ). drop {A = Run} k []) next
drop_one (r ∷ runs) (suc i) = let next : suc (i + 1) ≡ suc i + 1 = omega arith in drop_one runs i ∙ ap (λ (k : ℕ). drop k (r ∷ runs)) next

pub runs_next : (v : Version) (pages i : ℕ) (runs : List Run) → heads v pages (drop i runs) ≡ true
    → are_runs v pages (drop (i + 1) runs) ≡ are_runs v pages (drop i runs)
runs_next v pages i runs is =
    ap (are_runs v pages) (sym (drop_one runs i))
    ∙ sym (runs_on v pages (drop i runs) ∙ ap (λ (b : Bool). b && are_runs v pages (drop 1 (drop i runs))) is)

pub runs_fail : (v : Version) (pages i : ℕ) (runs : List Run) → heads v pages (drop i runs) ≡ false → false ≡ are_runs v pages (drop i runs)
runs_fail v pages i runs is = sym (runs_on v pages (drop i runs) ∙ ap (λ (b : Bool). b && are_runs v pages (drop 1 (drop i runs))) is)

pub runs_end : (v : Version) (pages i : ℕ) (runs : List Run) → length runs ≤ i → true ≡ are_runs v pages (drop i runs)
runs_end v pages i runs all = ap (are_runs v pages) (sym (drop_all i runs all))

-- ---- how many they are

pub stored_next : (runs : List Run) (i : ℕ) (r : Run) → i < length runs → r ≡ get_or runs i r
    → stored_in (drop i runs) ≡ cond r.stored r.length 0 + stored_in (drop (i + 1) runs)
stored_next runs i r lt is = ap stored_in (drop_more runs i r lt ∙ ap (λ (q : Run). q ∷ drop (i + 1) runs) (sym is))

pub stored_end : (runs : List Run) (i : ℕ) → length runs ≤ i → stored_in (drop i runs) ≡ 0
stored_end runs i all = ap stored_in (drop_all i runs all)

pub many_next : (runs : List Run) (i : ℕ) (r : Run) → i < length runs → r ≡ get_or runs i r
    → length (numbers_of (drop i runs)) ≡ r.length + length (numbers_of (drop (i + 1) runs))
many_next runs i r lt is =
    ap (λ (l : List Run). length (numbers_of l)) (drop_more runs i r lt ∙ ap (λ (q : Run). q ∷ drop (i + 1) runs) (sym is))
    ∙ omega (arith, length-append (numbers_from r.first r.length) (numbers_of (drop (i + 1) runs)), many_from r.first r.length)

pub many_end : (runs : List Run) (i : ℕ) → length runs ≤ i → length (numbers_of (drop i runs)) ≡ 0
many_end runs i all = ap (λ (l : List Run). length (numbers_of l)) (drop_all i runs all)

from_none : (runs : List Run) → IsFrom 0 runs
from_none [] = tt
from_none (r ∷ runs) = omega arith

pub many_fit : (h : DiffHeader) (runs : List Run) → IsTrue (is_table h runs) → length (numbers_of runs) ≤ h.names.pages
many_fit h runs table =
    let are = (and_parts (are_runs h.version h.names.pages runs) (stored_in runs == h.stored) table).0 in
    let few = few_numbers h.version h.names.pages 0 runs are (from_none runs) (omega arith) in
    omega (arith, few)

-- ---- the runs of pages

pub first_run : (numbers : List ℕ) (kinds : List Bool) (n : ℕ) (kind : Bool) (r : Run) → 0 < length numbers → length kinds ≡ length numbers
    → n ≡ get_or numbers 0 n → kind ≡ get_or kinds 0 kind → r ≡ record { first = n; length = 1; stored = kind }
    → runs_from r (drop 1 numbers) (drop 1 kinds) ≡ runs_of numbers kinds
first_run [] kinds n kind r some many is kind_is run = absurd (omega (arith, some))
first_run (m ∷ numbers) [] n kind r some many is kind_is run = absurd (omega (arith, many))
first_run (m ∷ numbers) (k ∷ kinds) n kind r some many is kind_is run =
    ap (λ (q : Run). runs_from q numbers kinds) run
    ∙ ap (λ (x : ℕ). runs_from (record { first = x; length = 1; stored = kind }) numbers kinds) is
    ∙ ap (λ (x : Bool). runs_from (record { first = m; length = 1; stored = x }) numbers kinds) kind_is

pub runs_more : (done new : List Run) (r q : Run) (numbers : List ℕ) (kinds : List Bool) (i n : ℕ) (kind : Bool) → i < length numbers → length kinds ≡ length numbers
    → n ≡ get_or numbers i n → kind ≡ get_or kinds i kind
    → ((ns : List ℕ) (ks : List Bool) → new ++ runs_from q ns ks ≡ done ++ runs_from r (n ∷ ns) (kind ∷ ks))
    → new ++ runs_from q (drop (i + 1) numbers) (drop (i + 1) kinds) ≡ done ++ runs_from r (drop i numbers) (drop i kinds)
runs_more done new r q numbers kinds i n kind lt many is kind_is put =
    let ns : drop i numbers ≡ n ∷ drop (i + 1) numbers = drop_more numbers i n lt ∙ ap (λ (x : ℕ). x ∷ drop (i + 1) numbers) (sym is) in
    let ks : drop i kinds ≡ kind ∷ drop (i + 1) kinds = drop_more kinds i kind (omega (arith, lt, many)) ∙ ap (λ (x : Bool). x ∷ drop (i + 1) kinds) (sym kind_is) in
    put (drop (i + 1) numbers) (drop (i + 1) kinds)
    ∙ ap (λ (l : List ℕ). done ++ runs_from r l (kind ∷ drop (i + 1) kinds)) (sym ns)
    ∙ ap (λ (l : List Bool). done ++ runs_from r (drop i numbers) l) (sym ks)

pub runs_last : (done : List Run) (r : Run) (numbers : List ℕ) (kinds : List Bool) (i : ℕ) → length numbers ≤ i
    → done ++ runs_from r (drop i numbers) (drop i kinds) ≡ done ++ r ∷ []
runs_last done r numbers kinds i all = ap (λ (l : List ℕ). done ++ runs_from r l (drop i kinds)) (drop_all i numbers all)
