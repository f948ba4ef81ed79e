-- The examples of RFC 7396, appendix A: a target, a patch, and what comes of them.
use Rattle.std.proofs.Common.{◌≡◌, ℕ, List, codes, refl}
use Rattle.serde_json.specs.Data.{Data, unsigned, null, number, string, array, object, no_items, item, no_members, member}
use Rattle.metadata_store.specs.MergePatch.{merge_patch}

-- ---- how they are written: `{}`, `{"a":d}`, `{"a":d,"b":e}`, `[d]`, `[d,e]`, a string and a number

abbrev none : Data
none = object no_members

abbrev one : List ℕ → Data → Data
one k d = object (member k d no_members)

abbrev two : List ℕ → Data → List ℕ → Data → Data
two k d l e = object (member k d (member l e no_members))

abbrev list : Data → Data
list d = array (item d no_items)

abbrev pair : Data → Data → Data
pair d e = array (item d (item e no_items))

abbrev text : List ℕ → Data
text s = string s

abbrev whole : ℕ → Data
whole n = number (unsigned n)

abbrev a : List ℕ
a = codes "a"

abbrev b : List ℕ
b = codes "b"

abbrev c : List ℕ
c = codes "c"

-- ---- patches that are objects

replaced : merge_patch (one a (text b)) (one a (text c)) ≡ one a (text c)
replaced = refl

added : merge_patch (one a (text b)) (one b (text c)) ≡ two a (text b) b (text c)
added = refl

removed : merge_patch (one a (text b)) (one a null) ≡ none
removed = refl

removed_of_two : merge_patch (two a (text b) b (text c)) (one a null) ≡ one b (text c)
removed_of_two = refl

list_replaced : merge_patch (one a (list (text b))) (one a (text c)) ≡ one a (text c)
list_replaced = refl

replaced_by_a_list : merge_patch (one a (text c)) (one a (list (text b))) ≡ one a (list (text b))
replaced_by_a_list = refl

inside : merge_patch (one a (one b (text c))) (one a (two b (text (codes "d")) c null)) ≡ one a (one b (text (codes "d")))
inside = refl

not_inside_a_list : merge_patch (one a (list (one b (text c)))) (one a (list (whole 1))) ≡ one a (list (whole 1))
not_inside_a_list = refl

null_stays : merge_patch (one (codes "e") null) (one a (whole 1)) ≡ two a (whole 1) (codes "e") null
null_stays = refl

object_of_a_list : merge_patch (pair (whole 1) (whole 2)) (two a (text b) c null) ≡ one a (text b)
object_of_a_list = refl

no_null_in_what_is_new : merge_patch none (one a (one (codes "bb") (one (codes "ccc") null))) ≡ one a (one (codes "bb") none)
no_null_in_what_is_new = refl

-- ---- patches that are none take the target's place

list_by_a_list : merge_patch (pair (text a) (text b)) (pair (text c) (text (codes "d"))) ≡ pair (text c) (text (codes "d"))
list_by_a_list = refl

object_by_a_list : merge_patch (one a (text b)) (list (text c)) ≡ list (text c)
object_by_a_list = refl

object_by_null : merge_patch (one a (text (codes "foo"))) null ≡ null
object_by_null = refl

object_by_a_text : merge_patch (one a (text (codes "foo"))) (text (codes "bar")) ≡ text (codes "bar")
object_by_a_text = refl
