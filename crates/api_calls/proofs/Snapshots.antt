-- The files that a create and a load name.
use Rattle.std.proofs.Common.{◌≡◌, ◌≢◌, ◌⊎◌, inl, inr, ℕ, Bool, true, false, ◌||◌, List, [], ◌∷◌, Option, Some, None, sym}
use Rattle.std.specs.Prelude.{is_some, option_and_then, codes}
use Rattle.std.specs.Str.{bytes_eq}
use Rattle.std.proofs.lemmas.Bool.{and_parts}
use Rattle.std.proofs.lemmas.Slice.Eq.{bytes_eq-Decides}
use Rattle.serde_json.specs.Data.{Data, null, boolean, number, string, array, object, Members}
use Rattle.serde_json.specs.Find.{get}
use Rattle.api_calls.specs.declared.test.Test.TheVariants as test
use Rattle.api_calls.specs.Form.{choice, group, Row, unless_null, text_at, is_given, object_at, holds, is_path, is_of_kind, object_passes, row_passes, differ, together_passes, refusal}
use Rattle.api_calls.specs.Fields.{snapshot_create, snapshot_load}
use Rattle.api_calls.specs.Call.{text_or_none, this_or, memory_path}
use Rattle.api_calls.proofs.Bodies.{passed, form_parts, file_row, file_path, optional_path}

-- ---- a create

-- two names that differ as texts in a body
differs : (s t : Option (List ℕ)) → is_path (text_or_none s) ≡ true → is_path (text_or_none t) ≡ true → differ s t ≡ true → text_or_none t ≢ text_or_none s
differs None t p q e same = absurd cc
differs (Some a) None p q e same = absurd cc
differs (Some a) (Some b) p q e same = let f : bytes_eq a b ≡ true = (bytes_eq-Decides a b).1 (sym same) in absurd cc

abbrev pub IsCreate : Data → Type 0
IsCreate d = (is_path (text_or_none (text_at (codes "snapshot_path") d)) ≡ true) × (is_path (text_or_none (text_at (codes "mem_file_path") d)) ≡ true)
    × (text_or_none (text_at (codes "mem_file_path") d) ≢ text_or_none (text_at (codes "snapshot_path") d))

pub create_is : (ms : Members) → refusal snapshot_create (object ms) ≡ None → IsCreate (object ms)
unfolding object_passes row_passes together_passes
create_is ms none =
    let all = passed snapshot_create (object ms) none in
    let there = form_parts _ _ _ (object ms) test.There all.0 in
    let kind = form_parts _ _ _ (object ms) test.Kind all.1 in
    let range = form_parts _ _ _ (object ms) test.Range all.2 in
    let state = file_path (codes "snapshot_path") (object ms) (and_parts _ _ there.0).0 (and_parts _ _ kind.0).0 (and_parts _ _ range.0).0 in
    let memory =
    file_path (codes "mem_file_path") (object ms) (and_parts _ _ (and_parts _ _ there.0).1).0 (and_parts _ _ (and_parts _ _ kind.0).1).0
    (and_parts _ _ (and_parts _ _ range.0).1).0 in
    (state, memory, differs (text_at (codes "snapshot_path") (object ms)) (text_at (codes "mem_file_path") (object ms)) state memory range.2)

-- ---- a load

-- in the first field of an object in a field that is given
inner_path : (name : List ℕ) (more : List Row) (g : Option Data) → is_some (option_and_then (unless_null false) g) ≡ true
    → holds (is_of_kind group) (option_and_then (unless_null false) g) ≡ true
    → holds (object_passes test.There (file_row name ∷ more)) (option_and_then (object_at []) g) ≡ true
    → holds (object_passes test.Kind (file_row name ∷ more)) (option_and_then (object_at []) g) ≡ true
    → holds (object_passes test.Range (file_row name ∷ more)) (option_and_then (object_at []) g) ≡ true
    → is_path (text_or_none (option_and_then (text_at name) g)) ≡ true
unfolding is_of_kind object_passes
inner_path name more None given is_group there kind range = absurd cc
inner_path name more (Some null) given is_group there kind range = absurd cc
inner_path name more (Some (boolean b)) given is_group there kind range = absurd cc
inner_path name more (Some (number n)) given is_group there kind range = absurd cc
inner_path name more (Some (string s)) given is_group there kind range = absurd cc
inner_path name more (Some (array ds)) given is_group there kind range = absurd cc
inner_path name more (Some (object ms)) given is_group there kind range =
    file_path name (object ms) (and_parts _ _ there).0 (and_parts _ _ kind).0 (and_parts _ _ range).0

-- the other row of that object
abbrev after_backend_path : List Row
after_backend_path = record { name = codes "backend_type"; required = true; kind = choice (codes "File" ∷ []) } ∷ []

-- this name, or the other where this field isn't given
chosen : (o p : Option (List ℕ)) (a b : Bool) → ((s : List ℕ) × (o ≡ Some s) × (is_path s ≡ true)) ⊎ ((o ≡ None) × (a ≡ false)) → (a || b) ≡ true
    → (b ≡ true → is_path (text_or_none p) ≡ true) → is_path (text_or_none (this_or o p)) ≡ true
chosen o p a b (inl x) any other = rw x.1 x.2
chosen o p true b (inr x) any other = absurd cc
chosen o p false b (inr x) any other = rw x.0 (other any)

abbrev pub IsLoad : Data → Type 0
IsLoad d = (is_path (text_or_none (text_at (codes "snapshot_path") d)) ≡ true) × (is_path (text_or_none (memory_path d)) ≡ true)

pub load_is : (ms : Members) → refusal snapshot_load (object ms) ≡ None → IsLoad (object ms)
unfolding object_passes row_passes together_passes
load_is ms none =
    let all = passed snapshot_load (object ms) none in
    let there = form_parts _ _ _ (object ms) test.There all.0 in
    let kind = form_parts _ _ _ (object ms) test.Kind all.1 in
    let range = form_parts _ _ _ (object ms) test.Range all.2 in
    let state = file_path (codes "snapshot_path") (object ms) (and_parts _ _ there.0).0 (and_parts _ _ kind.0).0 (and_parts _ _ range.0).0 in
    let kinds = (and_parts _ _ kind.0).1 in
    let ranges = (and_parts _ _ range.0).1 in
    let is_group = (and_parts _ _ (and_parts _ _ kinds).1).0 in
    let backend = λ (given : is_given (codes "mem_backend") (object ms) ≡ true).
    inner_path (codes "backend_path") after_backend_path (get (codes "mem_backend") (object ms)) given is_group
    (and_parts _ _ there.1).0 (and_parts _ _ kind.1).0 (and_parts _ _ range.1).0 in
    let memory = chosen _ _ _ _ (optional_path (get (codes "mem_file_path") (object ms)) (and_parts _ _ kinds).0 (and_parts _ _ ranges).0) there.2 backend in
    (state, memory)
