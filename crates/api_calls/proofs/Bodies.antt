-- A body in which nothing is refused, and the values of its fields.
use Rattle.std.proofs.Common.{◌≡◌, ◌⊎◌, inl, inr, ℕ, Bool, true, false, not, cond, List, ◌∷◌, Option, Some, None, refl}
use Rattle.std.specs.Prelude.{is_some, option_and_then, option_map}
use Rattle.std.specs.List.{list_all}
use Rattle.std.proofs.lemmas.Bool.{and_parts}
use Rattle.serde_json.specs.Data.{Data, null, boolean, number, string, array, object}
use Rattle.serde_json.specs.Find.{get, as_str}
use Rattle.api_calls.specs.declared.test.Test.{Test}
use Rattle.api_calls.specs.declared.test.Test.TheVariants as test
use Rattle.api_calls.specs.Form.{path, id, Row, Level, Together, Form, unless_null, text_at, holds, is_path, is_id, is_of_kind, is_in_range, row_passes, level_passes, together_passes, passes, refusal_by, refusal}
use Rattle.api_calls.specs.Call.{text_or_none}

-- ---- the tests of a body that isn't refused

by_tests : (a b c d : Bool)
    → option_map refusal_by (cond (not a) (Some test.Known) (cond (not b) (Some test.There) (cond (not c) (Some test.Kind) (cond (not d) (Some test.Range) None)))) ≡ None
    → (b ≡ true) × (c ≡ true) × (d ≡ true)
by_tests true true true true e = (refl, refl, refl)
by_tests true true true false e = absurd cc
by_tests true true false d e = absurd cc
by_tests true false c d e = absurd cc
by_tests false b c d e = absurd cc

pub passed : (form : Form) (d : Data) → refusal form d ≡ None
    → (passes form d test.There ≡ true) × (passes form d test.Kind ≡ true) × (passes form d test.Range ≡ true)
unfolding refusal
passed form d none = by_tests (passes form d test.Known) (passes form d test.There) (passes form d test.Kind) (passes form d test.Range) none

-- the first level, the others, and what must be together
pub form_parts : (level : Level) (levels : List Level) (together : Together) (d : Data) (t : Test)
    → passes (record { levels = level ∷ levels; together = together }) d t ≡ true
    → (level_passes t d level ≡ true) × (list_all (level_passes t d) levels ≡ true) × (together_passes t together d ≡ true)
unfolding passes
form_parts level levels together d t e =
    let both = and_parts (list_all (level_passes t d) (level ∷ levels)) (together_passes t together d) e in
    let two = and_parts (level_passes t d level) (list_all (level_passes t d) levels) both.0 in
    (two.0, two.1, both.1)

-- ---- the name of a file

-- in a field that must be there
needed_path : (g : Option Data) → is_some (option_and_then (unless_null true) g) ≡ true
    → holds (is_of_kind path) (option_and_then (unless_null true) g) ≡ true
    → holds (is_in_range path) (option_and_then (unless_null true) g) ≡ true
    → is_path (text_or_none (option_and_then as_str g)) ≡ true
unfolding is_of_kind is_in_range
needed_path None there kind range = absurd cc
needed_path (Some null) there kind range = absurd cc
needed_path (Some (boolean b)) there kind range = absurd cc
needed_path (Some (number n)) there kind range = absurd cc
needed_path (Some (string s)) there kind range = range
needed_path (Some (array ds)) there kind range = absurd cc
needed_path (Some (object ms)) there kind range = absurd cc

abbrev pub file_row : List ℕ → Row
file_row name = record { name = name; required = true; kind = path }

pub file_path : (name : List ℕ) (d : Data) → row_passes test.There d (file_row name) ≡ true → row_passes test.Kind d (file_row name) ≡ true
    → row_passes test.Range d (file_row name) ≡ true → is_path (text_or_none (text_at name d)) ≡ true
unfolding row_passes
file_path name d there kind range = needed_path (get name d) there kind range

-- in a field that need not be there: a name, or the field is not given
pub optional_path : (g : Option Data) → holds (is_of_kind path) (option_and_then (unless_null false) g) ≡ true
    → holds (is_in_range path) (option_and_then (unless_null false) g) ≡ true
    → ((s : List ℕ) × (option_and_then as_str g ≡ Some s) × (is_path s ≡ true)) ⊎ ((option_and_then as_str g ≡ None) × (is_some (option_and_then (unless_null false) g) ≡ false))
unfolding is_of_kind is_in_range
optional_path None kind range = inr (refl, refl)
optional_path (Some null) kind range = inr (refl, refl)
optional_path (Some (boolean b)) kind range = absurd cc
optional_path (Some (number n)) kind range = absurd cc
optional_path (Some (string s)) kind range = inl (s, refl, range)
optional_path (Some (array ds)) kind range = absurd cc
optional_path (Some (object ms)) kind range = absurd cc

-- a name, or none
pub held : (o : Option (List ℕ)) (given : Bool) → ((s : List ℕ) × (o ≡ Some s) × (is_path s ≡ true)) ⊎ ((o ≡ None) × (given ≡ false)) → holds is_path o ≡ true
held o given (inl x) = rw x.1 x.2
held o given (inr x) = rw x.0 refl

-- ---- an id

needed_id : (g : Option Data) → is_some (option_and_then (unless_null true) g) ≡ true
    → holds (is_of_kind id) (option_and_then (unless_null true) g) ≡ true
    → holds (is_in_range id) (option_and_then (unless_null true) g) ≡ true
    → is_id (text_or_none (option_and_then as_str g)) ≡ true
unfolding is_of_kind is_in_range
needed_id None there kind range = absurd cc
needed_id (Some null) there kind range = absurd cc
needed_id (Some (boolean b)) there kind range = absurd cc
needed_id (Some (number n)) there kind range = absurd cc
needed_id (Some (string s)) there kind range = range
needed_id (Some (array ds)) there kind range = absurd cc
needed_id (Some (object ms)) there kind range = absurd cc

abbrev pub id_row : List ℕ → Row
id_row name = record { name = name; required = true; kind = id }

pub id_text : (name : List ℕ) (d : Data) → row_passes test.There d (id_row name) ≡ true → row_passes test.Kind d (id_row name) ≡ true
    → row_passes test.Range d (id_row name) ≡ true → is_id (text_or_none (text_at name d)) ≡ true
unfolding row_passes
id_text name d there kind range = needed_id (get name d) there kind range
