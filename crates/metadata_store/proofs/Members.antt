-- What removing and inserting do to the entries of a map, as members of an object.
use Rattle.std.proofs.Common.{◌≡◌, ℕ, List, [], ◌∷◌, Option, Some, None, unwrap_or, Bor, String, Global, string_bytes, nat_cmp, cond, Bool, true, false, refl, ap, ◌∙◌, rules}
use Rattle.std.proofs.lemmas.Map.Text.{is_eq-slice_cmp}
use Rattle.std.specs.BTreeMap.{is_at}
use Rattle.std.specs.Cmp.Lexicographic.{slice_cmp}
use Rattle.std.specs.Map.{lookup, remove_entry}
use Rattle.std.specs.Option.{option_copied}
use Rattle.serde_json.specs.Data.{Data, null, Members, no_members, member, put}
use Rattle.serde_json.specs.View.{view, members_view}
use Rattle.serde_json.proofs.Views.{Entry, view-lookup}
use Rattle.serde_json.specs.declared.value.Value.{Value, Null, the_lemmas}
use Rattle.metadata_store.specs.MergePatch.{is_null, merge_members, merge_patch, remove, value_at}

-- the query of a name
abbrev pub named : List ℕ → String Global → Bool
named name = is_at (λ k. slice_cmp nat_cmp name (string_bytes k))

removed_by : (b : Bool) (e : Entry) (es rest : List Entry) (ms : Members) → members_view rest ≡ ms
    → members_view (cond b es (e ∷ rest)) ≡ cond b (members_view es) (member (string_bytes e.0) (view e.1) ms)
removed_by true e es rest ms h = refl
removed_by false e es rest ms h = ap (member (string_bytes e.0) (view e.1)) h

-- what is removed of the entries is removed of the members
pub members_view-remove_entry : (name : List ℕ) (es : List Entry) → members_view (remove_entry (named name) es) ≡ remove name (members_view es)
members_view-remove_entry name [] = refl
members_view-remove_entry name (e ∷ es) =
    removed_by (named name e.0) e es _ _ (members_view-remove_entry name es)
    ∙ ap (λ b. cond b (members_view es) (member (string_bytes e.0) (view e.1) (remove name (members_view es)))) (is_eq-slice_cmp name (string_bytes e.0))

-- a change that is null, and one that is not
pub merge_null : (name : List ℕ) (d : Data) (ms : Members) → is_null d ≡ true → merge_members ms (member name d no_members) ≡ remove name ms
merge_null name d ms e = rw e refl

pub merge_other : (name : List ℕ) (d : Data) (ms : Members) → is_null d ≡ false
    → merge_members ms (member name d no_members) ≡ put name (merge_patch (value_at name ms) d) ms
merge_other name d ms e = rw e refl

-- what is found of the entries, or `null`, is what the members have
pub found_or_null : (r : Option (Bor Value)) (d : Bor Value) (name : List ℕ) (es : List Entry) → option_copied r ≡ lookup (named name) es → view d.now ≡ null
    → view (unwrap_or r d).now ≡ value_at name (members_view es)
found_or_null None d name es e is = rw (← view-lookup name es, ← e) is
found_or_null (Some x) d name es e is = rw (← view-lookup name es, ← e) refl

pub view-Null : view Null ≡ null
view-Null = search (rules, the_lemmas)
