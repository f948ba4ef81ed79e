-- A merge of trees without floats has none.
use Rattle.std.proofs.Common.{◌≡◌, ℕ, List, Bool, true, false, ◌&&◌, not, is_some, cond, Option, Some, unwrap_or, Ordering, Less, Equal, Greater, nat_cmp, refl, sym}
use Rattle.std.specs.Cmp.Lexicographic.{slice_cmp}
use Rattle.std.specs.Ordering.{match_ordering}
use Rattle.std.specs.Str.{bytes_eq}
use Rattle.std.proofs.lemmas.Bool.{or_parts, or_from}
use Rattle.serde_json.specs.Data.{Data, null, boolean, number, string, array, object, Members, no_members, member, put}
use Rattle.serde_json.specs.Find.{as_object, get_member}
use Rattle.serde_json.specs.Written.{has_float, members_have_float}
use Rattle.metadata_store.specs.Store.{is_metadata}
use Rattle.metadata_store.specs.MergePatch.{is_null, members_of, merge_members, merge_patch, remove, value_at}

put_by : (o : Ordering) (k l : List ℕ) (d e : Data) (ms : Members) → has_float d ≡ false → members_have_float (member l e ms) ≡ false
    → members_have_float (put k d ms) ≡ false
    → members_have_float (match_ordering o (member k d (member l e ms)) (member l d ms) (member l e (put k d ms))) ≡ false
put_by Less k l d e ms p q r = or_from _ _ p q
put_by Equal k l d e ms p q r = or_from _ _ p (or_parts (has_float e) (members_have_float ms) q).1
put_by Greater k l d e ms p q r = or_from _ _ (or_parts (has_float e) (members_have_float ms) q).0 r

put_whole : (k : List ℕ) (d : Data) (ms : Members) → has_float d ≡ false → members_have_float ms ≡ false → members_have_float (put k d ms) ≡ false
put_whole k d no_members p q = or_from _ _ p refl
put_whole k d (member l e ms) p q =
    put_by (slice_cmp nat_cmp k l) k l d e ms p q (put_whole k d ms p (or_parts (has_float e) (members_have_float ms) q).1)

remove_by : (b : Bool) (l : List ℕ) (e : Data) (ms rest : Members) → has_float e ≡ false → members_have_float ms ≡ false → members_have_float rest ≡ false
    → members_have_float (cond b ms (member l e rest)) ≡ false
remove_by true l e ms rest p q r = q
remove_by false l e ms rest p q r = or_from _ _ p r

remove_whole : (k : List ℕ) (ms : Members) → members_have_float ms ≡ false → members_have_float (remove k ms) ≡ false
remove_whole k no_members q = refl
remove_whole k (member l e ms) q =
    let parts = or_parts (has_float e) (members_have_float ms) q in
    remove_by (bytes_eq k l) l e ms (remove k ms) parts.0 parts.1 (remove_whole k ms parts.1)

found_by : (o : Ordering) (e : Data) (d : Option Data) → has_float e ≡ false → has_float (unwrap_or d null) ≡ false
    → has_float (unwrap_or (match_ordering o d (Some e) d) null) ≡ false
found_by Less e d p q = q
found_by Equal e d p q = p
found_by Greater e d p q = q

value_whole : (k : List ℕ) (ms : Members) → members_have_float ms ≡ false → has_float (value_at k ms) ≡ false
value_whole k no_members q = refl
value_whole k (member l e ms) q =
    let parts = or_parts (has_float e) (members_have_float ms) q in
    found_by (slice_cmp nat_cmp k l) e (get_member k ms) parts.0 (value_whole k ms parts.1)

members_whole : (d : Data) → has_float d ≡ false → members_have_float (members_of d) ≡ false
members_whole null p = refl
members_whole (boolean b) p = refl
members_whole (number n) p = refl
members_whole (string s) p = refl
members_whole (array ds) p = refl
members_whole (object ms) p = p

mutual
  pub merge_whole : (target patch : Data) → has_float target ≡ false → has_float patch ≡ false → has_float (merge_patch target patch) ≡ false
  merge_whole target null p q = q
  merge_whole target (boolean b) p q = q
  merge_whole target (number n) p q = q
  merge_whole target (string s) p q = q
  merge_whole target (array ds) p q = q
  merge_whole target (object changes) p q = merge_members_whole (members_of target) changes (members_whole target p) q

  merge_members_whole : (ms changes : Members) → members_have_float ms ≡ false → members_have_float changes ≡ false → members_have_float (merge_members ms changes) ≡ false
  merge_members_whole ms no_members p q = p
  merge_members_whole ms (member name change changes) p q =
      let parts = or_parts (has_float change) (members_have_float changes) q in
      merge_members_whole _ changes (changed_whole name change ms p parts.0) parts.1

  changed_whole : (name : List ℕ) (change : Data) (ms : Members) → members_have_float ms ≡ false → has_float change ≡ false
      → members_have_float (cond (is_null change) (remove name ms) (put name (merge_patch (value_at name ms) change) ms)) ≡ false
  changed_whole name null ms p q = remove_whole name ms p
  changed_whole name (boolean b) ms p q = put_whole name (boolean b) ms q p
  changed_whole name (number n) ms p q = put_whole name (number n) ms q p
  changed_whole name (string s) ms p q = put_whole name (string s) ms q p
  changed_whole name (array ds) ms p q = put_whole name (array ds) ms q p
  changed_whole name (object changes) ms p q =
      put_whole name (merge_patch (value_at name ms) (object changes)) ms (merge_members_whole (members_of (value_at name ms)) changes (members_whole (value_at name ms) (value_whole name ms p)) q) p

-- what can be stored has none
pub metadata_whole : (d : Data) → is_metadata d ≡ true → has_float d ≡ false
metadata_whole d h = by_tests (is_some (as_object d)) (has_float d) h
  where
    by_tests : (a b : Bool) → (a && not b) ≡ true → b ≡ false
    by_tests a false h = refl
    by_tests true true h = sym h
    by_tests false true h = sym h
