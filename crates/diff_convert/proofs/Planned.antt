-- The plan of a diff is its file of the version that is written.
use Rattle.std.proofs.Common.{◌≡◌, ◌≤◌, ℕ, ◌*◌, ◌==◌, Bool, true, List, [], ◌∷◌, ◌++◌, length, drop, refl, sym, ap, ◌∙◌, arith}
use Rattle.std.specs.Prelude.{◌/◌, map}
use Rattle.std.proofs.lemmas.Bool.{and_from, eq-eqb}
use Rattle.file_format.specs.declared.version.Version.{Version}
use Rattle.file_format.specs.declared.version.Version.TheVariants.{One, Two}
use Rattle.snap_diff.specs.declared.header.DiffHeader.{DiffHeader}
use Rattle.snap_diff.specs.declared.run.Run.{Run}
use Rattle.snap_diff.specs.Copies.{DiffCopy, IsDiff, pages_at}
use Rattle.snap_diff.specs.Diffs.{DiffParts, are_stored, copy_of, is_table, is_valid, parts_in, runs_in, table_bytes}
use Rattle.snap_diff.specs.Headers.{header}
use Rattle.snap_diff.specs.Runs.{are_runs, chosen, kinds_of, numbers_from, run_of, runs_of, stored_in}
use Rattle.snap_diff.proofs.Again.{parts_again}
use Rattle.snap_diff.proofs.Files.{Fit, all_valid, copy_whole}
use Rattle.snap_diff.proofs.Filled.{as_many_kinds}
use Rattle.snap_diff.proofs.Tables.{many_from}
use Rattle.snap_diff.proofs.Written.{few_runs, many_are, runs_are, stored_chosen}
use Rattle.snap_writer.specs.Selected.{are_there}
use Rattle.snap_writer.proofs.ByKind.{are_chosen, few_chosen}
use Rattle.snapshot_merge.specs.Answering.{IsWhole}
use Rattle.diff_convert.specs.Planning.{head_of, pages_of, parts_here}
use Rattle.diff_convert.proofs.Places.{chosen_are, places_there}

firsts_back : (ns : List ℕ) → map (λ (r : Run). r.first) (map (λ n. run_of n true) ns) ≡ ns
firsts_back [] = refl
firsts_back (n ∷ ns) = ap (λ (l : List ℕ). n ∷ l) (firsts_back ns)

module _ (h : DiffHeader) (runs : List Run) (stored : List ℕ) (whole : IsWhole h runs) (size : length stored ≡ 4096 * h.stored)
    (full : are_stored h.version h.stored stored ≡ true) where
  abbrev p : DiffParts
  p = parts_here h runs stored

  abbrev d : DiffCopy
  d = copy_of p

  fit : Fit p
  fit = record { head = whole.head.fits; count = whole.runs_are.count; fit = whole.runs_are.fit; size = size }

  valid : is_valid p ≡ true
  valid = all_valid p whole.head.names whole.runs_are.table full

  its_parts : (v : Version) → h.version ≡ v → p ≡ parts_in v d
  its_parts v is = parts_again p fit valid ∙ ap (λ (w : Version). parts_in w d) is

  its_diff : IsDiff d
  its_diff = copy_whole p fit valid

  -- ---- version 2: as it is

  pub head_again : h.version ≡ Two → (head : List ℕ) → 1 ∷ head ≡ header.bytes h ++ table_bytes Two runs → head ≡ head_of d
  head_again two head written =
      ap (drop 1) written
      ∙ ap (λ (q : DiffParts). drop 1 (header.bytes q.header ++ table_bytes Two q.runs)) (its_parts Two two)

  pub pages_again : h.version ≡ Two → stored ≡ pages_of d
  pages_again two = ap (λ (q : DiffParts). q.stored) (its_parts Two two)

  -- ---- version 1: by its pages

  module _ (one : h.version ≡ One) where
    numbers_are : (numbers : List ℕ) → numbers ≡ map (λ (r : Run). r.first) runs → numbers ≡ d.numbers
    numbers_are numbers is =
        is ∙ ap (λ (q : DiffParts). map (λ (r : Run). r.first) q.runs) (its_parts One one) ∙ firsts_back d.numbers

    bytes_are : stored ≡ d.bytes
    bytes_are = ap (λ (q : DiffParts). q.stored) (its_parts One one)

    pub many_here : length d.numbers ≡ h.stored
    many_here = omega (arith, its_diff.size, size, ap (λ (l : List ℕ). length l) bytes_are)

    pub as_stored : (numbers : List ℕ) → numbers ≡ map (λ (r : Run). r.first) runs → length numbers ≡ h.stored
    as_stored numbers is = ap (λ (l : List ℕ). length l) (numbers_are numbers is) ∙ many_here

    kinds_are : (kinds : List Bool) → kinds ≡ kinds_of (length stored / 4096) stored → kinds ≡ kinds_of (length d.numbers) d.bytes
    kinds_are kinds is =
        let pages : length stored / 4096 ≡ length d.numbers = omega (arith, size, many_here) in
        is ∙ ap (λ (n : ℕ). kinds_of n stored) pages ∙ ap (kinds_of (length d.numbers)) bytes_are

    module _ (numbers : List ℕ) (kinds : List Bool) (firsts : numbers ≡ map (λ (r : Run). r.first) runs)
        (kinds_is : kinds ≡ kinds_of (length stored / 4096) stored) where
      pub as_many : length kinds ≡ length numbers
      as_many =
          ap (λ (l : List Bool). length l) (kinds_are kinds kinds_is) ∙ as_many_kinds (length d.numbers) d.bytes
          ∙ ap (λ (l : List ℕ). length l) (sym (numbers_are numbers firsts))

      pub as_many_places : length kinds ≡ length (numbers_from 0 h.stored)
      as_many_places = as_many ∙ ap (λ (l : List ℕ). length l) (numbers_are numbers firsts) ∙ many_here ∙ sym (many_from 0 h.stored)

      module _ (some : List ℕ) (made : List Run) (made_is : made ≡ runs_of numbers kinds) (some_is : some ≡ chosen (numbers_from 0 h.stored) kinds) where
        pub few_made : length made ≤ h.stored
        few_made =
            omega (arith, ap (λ (l : List Run). length l) made_is, few_runs numbers kinds, ap (λ (l : List ℕ). length l) (numbers_are numbers firsts), many_here)

        pub few_some : length some ≤ h.stored
        few_some = omega (arith, ap (λ (l : List ℕ). length l) some_is, few_chosen (numbers_from 0 h.stored) kinds, many_from 0 h.stored)

        pub there_now : are_there some h.stored ≡ true
        there_now = ap (λ (l : List ℕ). are_there l h.stored) some_is ∙ are_chosen h.stored (numbers_from 0 h.stored) kinds (places_there h.stored)

        runs_now : made ≡ runs_in Two d
        runs_now =
            made_is ∙ ap (λ (l : List ℕ). runs_of l kinds) (numbers_are numbers firsts) ∙ ap (runs_of d.numbers) (kinds_are kinds kinds_is)

        -- as many as there are runs' pages that are stored
        stored_now : length some ≡ stored_in made
        stored_now =
            let places : List ℕ = numbers_from 0 h.stored in
            ap (λ (l : List ℕ). length l) some_is
            ∙ sym (stored_chosen places kinds as_many_places)
            ∙ many_are places kinds as_many_places ∙ sym (many_are numbers kinds as_many)
            ∙ ap stored_in (sym made_is)

        pub table_now : (lent : List Run) (count filled : ℕ) → lent ≡ made → filled ≡ length some
            → is_table (record { version = Two; names = h.names; count = count; stored = filled }) lent ≡ true
        table_now lent count filled same is =
            and_from (are_runs Two h.names.pages lent) (stored_in lent == filled)
            (ap (are_runs Two h.names.pages) (same ∙ runs_now) ∙ runs_are h.names.pages 0 d.numbers (kinds_of (length d.numbers) d.bytes) its_diff.rise)
            (eq-eqb (stored_in lent) filled (ap stored_in same ∙ sym stored_now ∙ sym is))

        pub head_now : (lent : List Run) (count filled : ℕ) (head : List ℕ) → lent ≡ made → count ≡ length lent → filled ≡ length some
            → 1 ∷ head ≡ header.bytes (record { version = Two; names = h.names; count = count; stored = filled }) ++ table_bytes Two lent
            → head ≡ head_of d
        head_now lent count filled head same count_is filled_is written =
            ap (drop 1) written
            ∙ ap (λ (n : ℕ). drop 1 (header.bytes (record { version = Two; names = h.names; count = n; stored = filled }) ++ table_bytes Two lent)) count_is
            ∙ ap (λ (n : ℕ). drop 1 (header.bytes (record { version = Two; names = h.names; count = length lent; stored = n }) ++ table_bytes Two lent)) (filled_is ∙ stored_now ∙ ap stored_in (sym same))
            ∙ ap (λ (rs : List Run). drop 1 (header.bytes (record { version = Two; names = h.names; count = length rs; stored = stored_in rs }) ++ table_bytes Two rs)) (same ∙ runs_now)

        pub pages_now : pages_at some stored ≡ pages_of d
        pages_now =
            ap (λ (l : List ℕ). pages_at l stored) some_is
            ∙ ap (λ (ks : List Bool). pages_at (chosen (numbers_from 0 h.stored) ks) stored) (kinds_are kinds kinds_is)
            ∙ ap (λ (n : ℕ). pages_at (chosen (numbers_from 0 n) (kinds_of (length d.numbers) d.bytes)) stored) (sym many_here)
            ∙ ap (λ (l : List ℕ). pages_at (chosen (numbers_from 0 (length d.numbers)) (kinds_of (length d.numbers) d.bytes)) l) bytes_are
            ∙ chosen_are (length d.numbers) d.bytes its_diff.size
