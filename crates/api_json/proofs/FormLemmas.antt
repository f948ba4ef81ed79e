-- Tests over a table, and the names of an object's members.
use Rattle.std.proofs.Common.{◌≡◌, ℕ, Bool, true, false, ◌&&◌, ◌||◌, List, [], ◌∷◌, map, Some, None, refl, sym, ap, ◌∙◌, String, Global, string_bytes}
use Rattle.std.specs.Prelude.{IsUtf8}
use Rattle.std.specs.List.{list_any, list_all}
use Rattle.std.specs.Str.{is_utf8}
use Rattle.std.specs.Map.{keys_of}
use Rattle.std.proofs.lemmas.List.Folds.{list_all-map}
use Rattle.std.proofs.lemmas.Str.{is_utf8-from_IsUtf8}
use Rattle.serde_json.specs.Data.{Data, null, boolean, number, string, array, object, Members}
use Rattle.serde_json.specs.Find.{as_object}
use Rattle.serde_json.specs.View.{members_view}
use Rattle.serde_json.specs.declared.value.Value.{Value}
use Rattle.api_calls.specs.Form.{names, names_of}

pub list_any_map : {X Y : Type 0} (p : X → Bool) (h : Y → X) (ys : List Y) → list_any p (map h ys) ≡ list_any (λ y. p (h y)) ys
list_any_map p h [] = refl
list_any_map p h (y ∷ ys) = ap (λ b. p (h y) || b) (list_any_map p h ys)

names_of_members : (es : List (String Global × Value)) → names_of (members_view es) ≡ map string_bytes (keys_of es)
names_of_members [] = refl
names_of_members (e ∷ es) = ap (λ l. string_bytes e.0 ∷ l) (names_of_members es)

names_some : (d : Data) (ms : Members) → as_object d ≡ Some ms → names d ≡ names_of ms
names_some null ms e = cc
names_some (boolean b) ms e = cc
names_some (number n) ms e = cc
names_some (string s) ms e = cc
names_some (array ds) ms e = cc
names_some (object l) ms e = let k : l ≡ ms = cc in ap names_of k

pub names_none : (d : Data) → as_object d ≡ None → names d ≡ []
names_none null e = refl
names_none (boolean b) e = refl
names_none (number n) e = refl
names_none (string s) e = refl
names_none (array ds) e = refl
names_none (object l) e = cc

-- a test of all names, by the keys of the map
pub all_names : (p : List ℕ → Bool) (d : Data) (es : List (String Global × Value)) → Some (members_view es) ≡ as_object d
    → list_all (λ k. p (string_bytes k)) (keys_of es) ≡ list_all p (names d)
all_names p d es e =
    sym (list_all-map p string_bytes (keys_of es)) ∙ ap (list_all p) (sym (names_of_members es) ∙ sym (names_some d (members_view es) (sym e)))

pub list_all_map : {X Y : Type 0} (p : X → Bool) (h : Y → X) (ys : List Y) → list_all p (map h ys) ≡ list_all (λ y. p (h y)) ys
list_all_map p h ys = list_all-map p h ys

-- what is a text is UTF-8
pub and_utf8 : (b : Bool) (t : List ℕ) → IsUtf8 t → b ≡ (b && is_utf8 t)
and_utf8 b t text = rw (is_utf8-from_IsUtf8 t text) (and_true b)
  where
    and_true : (b : Bool) → b ≡ (b && true)
    and_true true = refl
    and_true false = refl
