-- Numbers under rising names, added one after another, stand in the order of their names.
use Rattle.std.proofs.Common.{◌≡◌, ℕ, Bool, true, false, ◌&&◌, List, [], ◌∷◌, ◌++◌, Option, Some, None, Ordering, Less, Equal, Greater, nat_cmp, refl, ap, ◌∙◌}
use Rattle.std.specs.Cmp.Lexicographic.{slice_cmp}
use Rattle.std.specs.List.{list_all}
use Rattle.std.specs.Ordering.{match_ordering}
use Rattle.std.proofs.lemmas.Bool.{and_parts}
use Rattle.serde_json.specs.Data.{number, unsigned, Members, member, put}
use Rattle.vm_config.specs.declared.statistics.Statistics.{Statistics}
use Rattle.vm_config.specs.Statistics.{given, rows_of}
use Rattle.vm_config.specs.Numbers.{and_numbers, numbered, with_number}

abbrev is_greater : Ordering → Bool
is_greater Less = false
is_greater Equal = false
is_greater Greater = true

-- a name stands behind that of a row
abbrev is_behind : List ℕ → List ℕ × Option ℕ → Bool
is_behind name row = is_greater (slice_cmp nat_cmp name row.0)

-- each name stands behind those of the rows before it
abbrev is_rising : List (List ℕ × Option ℕ) → List (List ℕ × Option ℕ) → Bool
is_rising done [] = true
is_rising done (row ∷ rows) = list_all (is_behind row.0) done && is_rising (done ++ row ∷ []) rows

nothing_last : (done : List (List ℕ × Option ℕ)) (name : List ℕ) → given done ≡ given (done ++ (name, None) ∷ [])
nothing_last [] name = refl
nothing_last ((k, Some n) ∷ done) name = ap (λ (ms : Members). member k (number (unsigned n)) ms) (nothing_last done name)
nothing_last ((k, None) ∷ done) name = nothing_last done name

by_greater : (o : Ordering) (a b c : Members) → is_greater o ≡ true → match_ordering o a b c ≡ c
by_greater Less a b c e = absurd cc
by_greater Equal a b c e = absurd cc
by_greater Greater a b c e = refl

number_last : (done : List (List ℕ × Option ℕ)) (name : List ℕ) (n : ℕ) → list_all (is_behind name) done ≡ true
    → put name (number (unsigned n)) (given done) ≡ given (done ++ (name, Some n) ∷ [])
number_last [] name n behind = refl
number_last ((k, None) ∷ done) name n behind = number_last done name n (and_parts _ _ behind).1
number_last ((k, Some m) ∷ done) name n behind =
    let two = and_parts (is_greater (slice_cmp nat_cmp name k)) (list_all (is_behind name) done) behind in
    by_greater (slice_cmp nat_cmp name k) _ _ _ two.0
    ∙ ap (λ (ms : Members). member k (number (unsigned m)) ms) (number_last done name n two.1)

row_last : (done : List (List ℕ × Option ℕ)) (name : List ℕ) (o : Option ℕ) → list_all (is_behind name) done ≡ true
    → with_number name o (given done) ≡ given (done ++ (name, o) ∷ [])
row_last done name None behind = nothing_last done name
row_last done name (Some n) behind = number_last done name n behind

-- at the end of what is done comes what is left
behind_nothing : (rows : List (List ℕ × Option ℕ)) → rows ≡ rows ++ []
behind_nothing [] = refl
behind_nothing (row ∷ rows) = ap (λ (l : List (List ℕ × Option ℕ)). row ∷ l) (behind_nothing rows)

one_by_one : (done rows : List (List ℕ × Option ℕ)) (row : List ℕ × Option ℕ) → (done ++ row ∷ []) ++ rows ≡ done ++ row ∷ rows
one_by_one [] rows row = refl
one_by_one (first ∷ done) rows row = ap (λ (l : List (List ℕ × Option ℕ)). first ∷ l) (one_by_one done rows row)

all_rows : (done rows : List (List ℕ × Option ℕ)) → is_rising done rows ≡ true → and_numbers rows (given done) ≡ given (done ++ rows)
all_rows done [] rising = ap given (behind_nothing done)
all_rows done ((name, o) ∷ rows) rising =
    let two = and_parts (list_all (is_behind name) done) (is_rising (done ++ (name, o) ∷ []) rows) rising in
    ap (and_numbers rows) (row_last done name o two.0)
    ∙ all_rows (done ++ (name, o) ∷ []) rows two.1
    ∙ ap given (one_by_one done rows (name, o))

pub statistics_numbered : (amount_mib : ℕ) (s : Statistics) → numbered (rows_of amount_mib s) ≡ given (rows_of amount_mib s)
statistics_numbered amount_mib s = all_rows [] (rows_of amount_mib s) refl
