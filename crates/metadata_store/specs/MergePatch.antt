-- JSON Merge Patch (RFC 7396, 2), on the trees that JSON texts are read as.
use Rattle.std.specs.Prelude.{List, ℕ, Bool, if◌then◌else◌, is_some, unwrap_or}
use Rattle.std.specs.Str.{bytes_eq}
use Rattle.serde_json.specs.Data.{Data, null, boolean, number, string, array, object, Members, no_members, member, put}
use Rattle.serde_json.specs.Find.{as_null, as_object, get_member}

abbrev pub is_null : Data → Bool
is_null d = is_some (as_null d)

-- the members of an object; anything else has none
abbrev pub members_of : Data → Members
members_of d = unwrap_or (as_object d) no_members

-- the members without the one of that name
abbrev pub remove : List ℕ → Members → Members
remove name no_members = no_members
remove name (member k d ms) = if bytes_eq name k then ms else member k d (remove name ms)

-- the value at a name, and `null` where there is none
abbrev pub value_at : List ℕ → Members → Data
value_at name ms = unwrap_or (get_member name ms) null

-- A patch that is an object changes the target's members, and makes an object of a target that is none: a member of
-- the patch that is `null` removes the target's, and any other is merged into it. A patch that is no object takes the
-- target's place.
abbrev mutual
  pub merge_patch : Data → Data → Data
  merge_patch target null = null
  merge_patch target (boolean b) = boolean b
  merge_patch target (number n) = number n
  merge_patch target (string s) = string s
  merge_patch target (array ds) = array ds
  merge_patch target (object changes) = object (merge_members (members_of target) changes)

  pub merge_members : Members → Members → Members
  merge_members ms no_members = ms
  merge_members ms (member name change changes) =
      merge_members (if is_null change then remove name ms else put name (merge_patch (value_at name ms) change) ms) changes
