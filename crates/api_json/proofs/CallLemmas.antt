-- A body as JSON, and a route in a table.
use Rattle.std.proofs.Common.{◌≡◌, ℕ, Bool, true, false, cond, List, [], ◌∷◌, map, Some, None, option_map, refl}
use Rattle.std.specs.Prelude.{IsUtf8}
use Rattle.std.specs.Str.{is_utf8}
use Rattle.std.specs.List.{find}
use Rattle.std.proofs.lemmas.Str.{IsUtf8-from_is_utf8, is_utf8-from_IsUtf8}
use Rattle.serde_json.specs.Data.{Data}
use Rattle.serde_json.specs.Read.{read}
use Rattle.api_calls.specs.Call.{json_of}

pub json_some : (bytes : List ℕ) (d : Data) → IsUtf8 bytes → read bytes ≡ Some d → json_of bytes ≡ Some d
json_some bytes d utf8 e = rw (is_utf8-from_IsUtf8 bytes utf8) e

pub json_none : (bytes : List ℕ) → (IsUtf8 bytes → read bytes ≡ None) → json_of bytes ≡ None
json_none bytes f = by_test (is_utf8 bytes) (λ e. f (IsUtf8-from_is_utf8 bytes e))
  where
    by_test : (b : Bool) → (b ≡ true → read bytes ≡ None) → cond b (read bytes) None ≡ None
    by_test true g = g refl
    by_test false g = refl

pub find_map : {X Y : Type 0} (p : X → Bool) (h : Y → X) (ys : List Y) → find p (map h ys) ≡ option_map h (find (λ y. p (h y)) ys)
find_map p h [] = refl
find_map p h (y ∷ ys) = by_test (p (h y)) (find_map p h ys)
  where
    by_test : (b : Bool) → find p (map h ys) ≡ option_map h (find (λ y. p (h y)) ys)
        → cond b (Some (h y)) (find p (map h ys)) ≡ option_map h (cond b (Some y) (find (λ y. p (h y)) ys))
    by_test true e = refl
    by_test false e = e
