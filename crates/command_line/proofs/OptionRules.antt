-- Rules of options with one value, as `clap` builds them, and the rows that their uses leave.
use Rattle.std.proofs.Common.{◌≡◌, ◌∙◌, ◌&&◌, ◌||◌, ℕ, Bool, true, false, cond, refl, sym, ap, ap₂, List, [], ◌∷◌, ◌++◌, map, length, append-nil, Option, Some, None, option_map, unwrap_or, find, nat_lt, bytes_eq, true≢false}
use Rattle.std.specs.List.{fold, list_any}
use Rattle.std.specs.Option.{option_map_or}
use Rattle.std.proofs.lemmas.List.{map-append}
use Rattle.std.proofs.lemmas.Slice.Eq.{bytes_eq-Decides}
use Rattle.clap.specs.Facts.{explicit_source}
use Rattle.clap.specs.Faults.{defaults_fault, use_fault}
use Rattle.clap.specs.Kinds.{Kinds, or_else}
use Rattle.clap.specs.Takes.{is_given}
use Rattle.clap.specs.Walk.{Row, Rule, Text, arg_by_id, arg_by_index, arg_by_long, at_row, default_rows, has_row, more_values, used, with_default, with_values}
use Rattle.clap.specs.declared.builder.ArgAction.TheVariants.{Set}
use Rattle.clap.specs.declared.builder.ValueParser.TheVariants.{NonEmptyString}
use Rattle.clap.specs.declared.builder.value_parser.Reading.TheVariants.{AsWritten}
use Rattle.clap.specs.declared.error.ErrorKind.{ErrorKind}
use Rattle.clap.specs.declared.error.ErrorKind.TheVariants as kind
use Rattle.clap.specs.declared.parser.ValueSource.TheVariants.{CommandLine}

-- an option: its name, and whether it has to be given
abbrev pub Opt : Type 0
Opt = Text × Bool

abbrev pub built_option : Opt → Rule
built_option o = record {
  id = o.0;
  long = Some o.0;
  aliases = [];
  short = None;
  short_aliases = [];
  index = None;
  action = Some Set;
  range = Some (record { start_inclusive = 1; end_inclusive = 1 });
  value_names = 0;
  defaults = [];
  missing = [];
  trailing_var_arg = false;
  parser = Some NonEmptyString;
  ignore_case = false;
  required = o.1;
  is_simple = true;
  is_free = true;
}

abbrev pub rules_for : List Opt → List Rule
rules_for os = map built_option os

abbrev pub known : List Opt → Text → Option Opt
known os name = find (λ o. bytes_eq o.0 name) os

-- ---- finding one

pub find_long : (os : List Opt) (name : Text) → arg_by_long (rules_for os) name ≡ option_map built_option (known os name)
find_long [] name = refl
find_long (o ∷ os) name = go (bytes_eq o.0 name) (find_long os name)
  where
    go : (b : Bool) → arg_by_long (rules_for os) name ≡ option_map built_option (known os name)
        → cond (b || false) (Some (built_option o)) (arg_by_long (rules_for os) name) ≡ option_map built_option (cond b (Some o) (known os name))
    go true e = refl
    go false e = e

pub find_id : (os : List Opt) (id : Text) → arg_by_id (rules_for os) id ≡ option_map built_option (known os id)
find_id [] id = refl
find_id (o ∷ os) id = go (bytes_eq o.0 id) (find_id os id)
  where
    go : (b : Bool) → arg_by_id (rules_for os) id ≡ option_map built_option (known os id)
        → cond b (Some (built_option o)) (arg_by_id (rules_for os) id) ≡ option_map built_option (cond b (Some o) (known os id))
    go true e = refl
    go false e = e

pub no_position : (os : List Opt) (i : ℕ) → arg_by_index (rules_for os) i ≡ None
no_position [] i = refl
no_position (o ∷ os) i = no_position os i

pub same_text : (t : Text) → bytes_eq t t ≡ true
same_text t = (bytes_eq-Decides t t).1 refl

pub known_name : (os : List Opt) (name : Text) (o : Opt) → known os name ≡ Some o → o.0 ≡ name
known_name [] name o is = cc
known_name (x ∷ os) name o is = go (bytes_eq x.0 name) refl is (known_name os name o)
  where
    go : (b : Bool) → bytes_eq x.0 name ≡ b → cond b (Some x) (known os name) ≡ Some o → (known os name ≡ Some o → o.0 ≡ name) → o.0 ≡ name
    go true e f rest = sym (ap (λ (m : Option Opt). (unwrap_or m x).0) f) ∙ (bytes_eq-Decides x.0 name).0 e
    go false e f rest = rest f

-- ---- rows

-- what was given: the name without its dashes, and the value
abbrev pub Pair : Type 0
Pair = Text × Text

abbrev pub row : Pair → Row
row d = record { id = d.0; values = d.1 ∷ []; count = None; source = Some CommandLine; reading = AsWritten }

abbrev pub rows_for : List Pair → List Row
rows_for ds = map row ds

abbrev pub has : List Pair → Text → Bool
has ds name = list_any (λ d. bytes_eq d.0 name) ds

has_rows : (ds : List Pair) (name : Text) → has_row name (rows_for ds) ≡ has ds name
has_rows [] name = refl
has_rows (d ∷ ds) name = ap (λ b. bytes_eq d.0 name || b) (has_rows ds name)

pub given_rows : (ds : List Pair) (name : Text) → is_given name (rows_for ds) ≡ has ds name
given_rows [] name = refl
given_rows (d ∷ ds) name = go (bytes_eq d.0 name) (given_rows ds name)
  where
    go : (b : Bool) → is_given name (rows_for ds) ≡ has ds name
        → option_map_or (λ (r : Row). explicit_source r.source) (cond b (Some (row d)) (find (λ r. bytes_eq r.id name) (rows_for ds))) false ≡ (b || has ds name)
    go true e = refl
    go false e = e

at_none : (change : Row → List Row) (missing : List Row) (ds : List Pair) (name : Text) → has ds name ≡ false
    → at_row name change missing (rows_for ds) ≡ rows_for ds ++ missing
at_none change missing [] name new = refl
at_none change missing (d ∷ ds) name new = go (bytes_eq d.0 name) new (at_none change missing ds name)
  where
    go : (b : Bool) → (b || has ds name) ≡ false → (has ds name ≡ false → at_row name change missing (rows_for ds) ≡ rows_for ds ++ missing)
        → cond b (change (row d) ++ rows_for ds) (row d ∷ at_row name change missing (rows_for ds)) ≡ row d ∷ (rows_for ds ++ missing)
    go true e rest = absurd (true≢false e)
    go false e rest = ap (λ rs. row d ∷ rs) (rest e)

-- a first use
pub used_new : (ds : List Pair) (o : Opt) (v : Text) → has ds o.0 ≡ false → used (built_option o) (v ∷ []) (rows_for ds) ≡ rows_for (ds ++ (o.0, v) ∷ [])
used_new ds o v new =
    ap (with_values o.0 AsWritten CommandLine (v ∷ [])) (at_none (λ r. []) [] ds o.0 new ∙ append-nil (rows_for ds))
    ∙ at_none (more_values CommandLine (v ∷ [])) (row (o.0, v) ∷ []) ds o.0 new ∙ sym (map-append row ds ((o.0, v) ∷ []))

pub some_kind : (k : ErrorKind) (ks : Kinds) → k ∷ ks ≡ [] → ⊥
some_kind k ks e = cc

abbrev use_by : Bool → Bool → Kinds
use_by again filled =
    or_else (cond (again && true) (kind.ArgumentConflict ∷ []) []) (or_else (cond filled [] (kind.InvalidValue ∷ [])) [])

use_is : (ds : List Pair) (o : Opt) (v : Text) → use_fault false (built_option o) (v ∷ []) (rows_for ds) ≡ use_by (has ds o.0) (nat_lt 0 (length v))
use_is ds o v = ap (λ h. use_by h (nat_lt 0 (length v))) (has_rows ds o.0)

pub use_passes : (ds : List Pair) (o : Opt) (v : Text) → has ds o.0 ≡ false → nat_lt 0 (length v) ≡ true
    → use_fault false (built_option o) (v ∷ []) (rows_for ds) ≡ []
use_passes ds o v new filled = use_is ds o v ∙ ap₂ use_by new filled

pub use_repeats : (ds : List Pair) (o : Opt) (v : Text) → has ds o.0 ≡ true
    → use_fault false (built_option o) (v ∷ []) (rows_for ds) ≡ [] → ⊥
use_repeats ds o v old none =
    some_kind kind.ArgumentConflict [] (sym (use_is ds o v ∙ ap (λ h. use_by h (nat_lt 0 (length v))) old) ∙ none)

empty_fails : (again : Bool) → use_by again false ≡ [] → ⊥
empty_fails true e = some_kind kind.ArgumentConflict [] e
empty_fails false e = some_kind kind.InvalidValue [] e

pub use_empty : (ds : List Pair) (o : Opt) (v : Text) → nat_lt 0 (length v) ≡ false
    → use_fault false (built_option o) (v ∷ []) (rows_for ds) ≡ [] → ⊥
use_empty ds o v empty none = empty_fails (has ds o.0) (sym (use_is ds o v ∙ ap (use_by (has ds o.0)) empty) ∙ none)

pub use_nothing : (ds : List Pair) (o : Opt) → use_fault false (built_option o) [] (rows_for ds) ≡ [] → ⊥
use_nothing ds o none = some_kind kind.InvalidValue [] none

-- ---- after the words: no option has a default

no_default : (rows : List Row) (o : Opt) → with_default rows (built_option o) ≡ rows
no_default rows o = go (has_row o.0 rows)
  where
    go : (b : Bool) → cond b rows (default_rows o.0 AsWritten [] rows) ≡ rows
    go true = refl
    go false = refl

pub defaults_pass : (rows : List Row) (os : List Opt) → defaults_fault rows (rules_for os) ≡ []
unfolding defaults_fault
defaults_pass rows [] = refl
defaults_pass rows (o ∷ os) = go (has_row o.0 rows) (defaults_pass (with_default rows (built_option o)) os)
  where
    go : (b : Bool) → defaults_fault (with_default rows (built_option o)) (rules_for os) ≡ []
        → or_else (cond (b || true) [] []) (defaults_fault (with_default rows (built_option o)) (rules_for os)) ≡ []
    go true e = e
    go false e = e

pub rows_stay : (rows : List Row) (os : List Opt) → fold with_default rows (rules_for os) ≡ rows
rows_stay rows [] = refl
rows_stay rows (o ∷ os) = ap (λ rs. fold with_default rs (rules_for os)) (no_default rows o) ∙ rows_stay rows os
