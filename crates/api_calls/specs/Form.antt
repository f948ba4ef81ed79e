-- The fields of a body by tables, and the first refusal by them.
use Rattle.std.specs.Prelude.{ℕ, ◌&&◌, ◌||◌, ◌==◌, Bool, true, false, not, List, [], ◌∷◌, length, if◌then◌else◌, nat_lt, nat_le, Option, Some, None, is_some, option_and_then, option_map}
use Rattle.std.specs.List.{list_any, list_all, find}
use Rattle.std.specs.Char.{is_ascii_alphanumeric}
use Rattle.std.specs.Str.{bytes_eq, is_utf8}
use Rattle.serde_json.specs.Data.{Data, null, boolean, number, string, array, object, Items, no_items, item, Members, no_members, member}
use Rattle.serde_json.specs.Find.{get, as_array, as_object, as_null, as_bool, as_str, as_number, as_u64}
use Rattle.refusals.specs.declared.refusal.Refusal.{Refusal}
use Rattle.refusals.specs.declared.refusal.Refusal.TheVariants as refused
use Rattle.api_calls.specs.Addresses.{is_mac, is_metadata_address}
use Rattle.api_calls.specs.declared.test.Test.{Test}
use Rattle.api_calls.specs.declared.test.Test.TheVariants as test

-- ---- tables

-- What a field's value must be: the name of a file; the id of a thing; 1 to 16 ids; an address of a network device; an
-- address of metadata; a text of at most so many bytes; one of these texts; a whole number, at least and at most; a flag; a flag that must not be set; an object,
-- whose fields have a level of their own.
pub data Kind : Type 0 where
  path : Kind
  id : Kind
  ids : Kind
  mac : Kind
  address : Kind
  text : ℕ → Kind
  choice : List (List ℕ) → Kind
  whole : ℕ → ℕ → Kind
  flag : Kind
  unset : Kind
  group : Kind

pub record Row : Type 0 where
  pub name : List ℕ
  pub required : Bool
  pub kind : Kind

-- the fields of the object that these names lead to from the body
pub record Level : Type 0 where
  pub place : List (List ℕ)
  pub rows : List Row

-- What fields must be together: nothing; at least one of these is given; one of these two is given and
-- not both; these two texts differ; the text of this field is this text.
pub data Together : Type 0 where
  free : Together
  some_of : List (List ℕ) → Together
  either : List ℕ → List ℕ → Together
  differing : List ℕ → List ℕ → Together
  naming : List ℕ → List ℕ → Together

pub record Form : Type 0 where
  pub levels : List Level
  pub together : Together

-- ---- values

-- an optional field that is null counts as absent
abbrev pub unless_null : Bool → Data → Option Data
unless_null required d = if not required && is_some (as_null d) then None else Some d

abbrev pub field : Data → Row → Option Data
field d row = option_and_then (unless_null row.required) (get row.name d)

-- a whole number of 64 bits
abbrev pub as_whole : Data → Option ℕ
as_whole d = option_and_then as_u64 (as_number d)

-- a list whose items are texts
abbrev pub text_onto : Option (List ℕ) → Option (List (List ℕ)) → Option (List (List ℕ))
text_onto (Some t) (Some ts) = Some (t ∷ ts)
text_onto t ts = None

abbrev pub texts_of : Items → Option (List (List ℕ))
texts_of no_items = Some []
texts_of (item d ds) = text_onto (as_str d) (texts_of ds)

abbrev pub as_texts : Data → Option (List (List ℕ))
as_texts d = option_and_then texts_of (as_array d)

abbrev pub texts_at : List ℕ → Data → Option (List (List ℕ))
texts_at name d = option_and_then as_texts (get name d)

abbrev pub text_at : List ℕ → Data → Option (List ℕ)
text_at name d = option_and_then as_str (get name d)

abbrev pub number_at : List ℕ → Data → Option ℕ
number_at name d = option_and_then as_whole (get name d)

abbrev pub flag_at : List ℕ → Data → Option Bool
flag_at name d = option_and_then as_bool (get name d)

-- there, and not null
abbrev pub is_given : List ℕ → Data → Bool
is_given name d = is_some (option_and_then (unless_null false) (get name d))

-- the object that the names lead to, if there is one
abbrev pub object_at : List (List ℕ) → Data → Option Data
object_at [] d = if is_some (as_object d) then Some d else None
object_at (name ∷ place) d = option_and_then (object_at place) (get name d)

-- ---- tests

-- the test holds of the value, if there is one
abbrev pub holds : {A : Type 0} → (A → Bool) → Option A → Bool
holds p None = true
holds p (Some a) = p a

abbrev pub names_of : Members → List (List ℕ)
names_of no_members = []
names_of (member k d ms) = k ∷ names_of ms

-- the names of an object's fields
abbrev pub names : Data → List (List ℕ)
names null = []
names (boolean b) = []
names (number n) = []
names (string s) = []
names (array ds) = []
names (object ms) = names_of ms

abbrev pub is_known : List Row → List ℕ → Bool
is_known rows name = list_any (λ row. bytes_eq row.name name) rows

unfoldable pub is_of_kind : Kind → Data → Bool
is_of_kind path d = is_some (as_str d)
is_of_kind id d = is_some (as_str d)
is_of_kind ids d = is_some (as_texts d)
is_of_kind mac d = is_some (as_str d)
is_of_kind address d = is_some (as_str d)
is_of_kind (text most) d = is_some (as_str d)
is_of_kind (choice texts) d = is_some (as_str d)
is_of_kind (whole least most) d = is_some (as_whole d)
is_of_kind flag d = is_some (as_bool d)
is_of_kind unset d = is_some (as_bool d)
is_of_kind group d = is_some (as_object d)

-- 1 to 4,095 bytes, none of them a NUL
abbrev pub has_path_bytes : List ℕ → Bool
has_path_bytes t = nat_lt 0 (length t) && nat_le (length t) 4095 && not (list_any (λ b. b == 0) t)

-- of UTF-8
abbrev pub is_path : List ℕ → Bool
is_path t = has_path_bytes t && is_utf8 t

-- so many bytes of UTF-8 at most
abbrev pub is_short_text : ℕ → List ℕ → Bool
is_short_text most t = nat_le (length t) most && is_utf8 t

-- a letter or digit of ASCII, or _
abbrev pub is_id_byte : ℕ → Bool
is_id_byte b = is_ascii_alphanumeric b || b == 95

-- 1 to 64 of them
abbrev pub is_id : List ℕ → Bool
is_id t = nat_lt 0 (length t) && nat_le (length t) 64 && list_all is_id_byte t

-- an address of metadata has 15 bytes at most
abbrev pub is_address : List ℕ → Bool
is_address t = is_short_text 15 t && is_metadata_address t

-- one at least, and no more than a machine has devices
abbrev pub most_ids : ℕ
most_ids = 16

abbrev pub are_ids : List (List ℕ) → Bool
are_ids ts = nat_lt 0 (length ts) && nat_le (length ts) most_ids && list_all is_id ts

unfoldable pub is_in_range : Kind → Data → Bool
is_in_range path d = holds is_path (as_str d)
is_in_range id d = holds is_id (as_str d)
is_in_range ids d = holds are_ids (as_texts d)
is_in_range mac d = holds is_mac (as_str d)
is_in_range address d = holds is_address (as_str d)
is_in_range (text most) d = holds (is_short_text most) (as_str d)
is_in_range (choice texts) d = holds (λ t. list_any (λ c. bytes_eq c t) texts) (as_str d)
is_in_range (whole least most) d = holds (λ n. nat_le least n && nat_le n most) (as_whole d)
is_in_range flag d = true
is_in_range unset d = holds not (as_bool d)
is_in_range group d = true

unfoldable pub row_passes : Test → Data → Row → Bool
row_passes test.Known d row = true
row_passes test.There d row = not row.required || is_some (field d row)
row_passes test.Kind d row = holds (is_of_kind row.kind) (field d row)
row_passes test.Range d row = holds (is_in_range row.kind) (field d row)

-- the fields of one object
unfoldable pub object_passes : Test → List Row → Data → Bool
object_passes test.Known rows d = list_all (is_known rows) (names d)
object_passes test.There rows d = list_all (row_passes test.There d) rows
object_passes test.Kind rows d = list_all (row_passes test.Kind d) rows
object_passes test.Range rows d = list_all (row_passes test.Range d) rows

abbrev pub level_passes : Test → Data → Level → Bool
level_passes t d level = holds (object_passes t level.rows) (object_at level.place d)

abbrev pub differ : Option (List ℕ) → Option (List ℕ) → Bool
differ s t = holds (λ a. holds (λ b. not (bytes_eq a b)) t) s

abbrev pub has_enough : Together → Data → Bool
has_enough free d = true
has_enough (some_of names) d = list_any (λ name. is_given name d) names
has_enough (either a b) d = is_given a d || is_given b d
has_enough (differing a b) d = true
has_enough (naming a due) d = true

abbrev pub agrees : Together → Data → Bool
agrees free d = true
agrees (some_of names) d = true
agrees (either a b) d = not (is_given a d && is_given b d)
agrees (differing a b) d = differ (text_at a d) (text_at b d)
agrees (naming a due) d = holds (λ t. bytes_eq t due) (text_at a d)

-- too few fields are a missing one, and what doesn't agree is out of range
unfoldable pub together_passes : Test → Together → Data → Bool
together_passes test.Known t d = true
together_passes test.There t d = has_enough t d
together_passes test.Kind t d = true
together_passes test.Range t d = agrees t d

-- over all fields at all levels
unfoldable pub passes : Form → Data → Test → Bool
passes form d t = list_all (level_passes t d) form.levels && together_passes t form.together d

-- ---- the first refusal

-- in this order
abbrev pub tests : List Test
tests = test.Known ∷ test.There ∷ test.Kind ∷ test.Range ∷ []

abbrev pub refusal_by : Test → Refusal
refusal_by test.Known = refused.UnknownField
refusal_by test.There = refused.MissingField
refusal_by test.Kind = refused.WrongKind
refusal_by test.Range = refused.OutOfRange

-- the refusal of the first test that not all fields pass
unfoldable pub refusal : Form → Data → Option Refusal
refusal form d = option_map refusal_by (find (λ t. not (passes form d t)) tests)
