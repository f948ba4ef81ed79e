-- What `clap` finds in the words behind the tool's name is the command that they say.
use Rattle.std.proofs.Common.{◌≡◌, ◌∙◌, ◌||◌, ◌⊎◌, inl, inr, Bool, true, false, not, cond, refl, sym, ap, subst, List, [], ◌∷◌, Option, Some, None, option_map, option_and_then, bytes_eq, codes, true≢false}
use Rattle.std.specs.List.{list_any}
use Rattle.std.proofs.lemmas.Slice.Eq.{bytes_eq-Decides}
use Rattle.std.proofs.lemmas.Bool.{not-true, or_parts}
use Rattle.clap.specs.Faults.{fault_of, is_simple_and_free}
use Rattle.clap.specs.Kinds.{Kinds}
use Rattle.clap.specs.Simple.{Shape, subcommand_of, subcommand_rows_of}
use Rattle.clap.specs.Walk.{Row, Text}
use Rattle.clap.specs.declared.parser.ArgMatches.{ArgMatches}
use Rattle.command_line.specs.Options.{Given, is_given, options_in, value_of}
use Rattle.command_line.specs.Programs.{IsRead, IsUsage, has_one_dash}
use Rattle.command_line.proofs.Dashes.{dash_options, kind_of_word, or_either}
use Rattle.command_line.proofs.Entering.{enters, none_met, none_named, top_entered, top_fault}
use Rattle.command_line.proofs.OptionNames.{flipped, given_for, not_given, value_is}
use Rattle.command_line.proofs.OptionReads.{means}
use Rattle.command_line.proofs.OptionRules.{Opt, Pair, rows_for, rules_for}
use Rattle.command_line.proofs.Turns.{leaf}
use Rattle.rebase_cli.specs.Words.{Convert, Edit, Rebase, convert_names, edit_by, edit_found, edit_of, edit_rows, converted, named, names_by, names_rows, rebase_names, tool_app, conversion_by, conversion_rows}

abbrev rebase_options : List Opt
rebase_options = (codes "memory-path", true) ∷ (codes "diff-path", true) ∷ []

abbrev convert_options : List Opt
convert_options = (codes "diff-path", true) ∷ (codes "out-path", true) ∷ []

abbrev subs : List Shape
subs = leaf (codes "rebase") (rules_for rebase_options) ∷ leaf (codes "convert") (rules_for convert_options) ∷ []

abbrev fault : List Text → Kinds
fault words = top_fault (codes "edit-memory") subs words

abbrev entered : List Text → Option (Text × List Row)
entered words = top_entered (codes "edit-memory") subs words

pub is_plain : is_simple_and_free tool_app ≡ true
is_plain = refl

-- where clap finds no fault, what it entered says this; where it finds one, nothing is said
abbrev Tells : List Text → Option Edit → Type 0
Tells words meaning = (fault words ≡ [] → edit_found (entered words) ≡ meaning) × ((fault words ≡ [] → ⊥) → meaning ≡ None)

by_level : (words : List Text) (below : Kinds) (name : Text) (rows : List Row) (meaning : Option Edit)
    → (fault words ≡ below) × (entered words ≡ Some (name, rows))
    → (below ≡ [] → edit_rows name rows ≡ meaning) × ((below ≡ [] → ⊥) → meaning ≡ None) → Tells words meaning
by_level words below name rows meaning into level =
    (λ none. ap edit_found into.1 ∙ level.0 (sym into.0 ∙ none), λ bad. level.1 (λ none. bad (into.0 ∙ none)))

map_then : {X Y Z : Type 0} (f : Y → Z) (g : X → Option Y) (o : Option X) → option_and_then (λ x. option_map f (g x)) o ≡ option_map f (option_and_then g o)
map_then f g None = refl
map_then f g (Some x) = refl

-- ---- both options are required

either_lost : (first second : Text) (given : List Given) → (not (is_given first given) || (not (is_given second given) || false)) ≡ true
    → (value_of first given ≡ None) ⊎ (value_of second given ≡ None)
either_lost first second given e = by (or_either (not (is_given first given)) (not (is_given second given) || false) e)
  where
    behind : (not (is_given second given) ≡ true) ⊎ (false ≡ true) → (value_of first given ≡ None) ⊎ (value_of second given ≡ None)
    behind (inl here) = inr (not_given second given (not-true (is_given second given) here))
    behind (inr never) = absurd (true≢false (sym never))

    by : (not (is_given first given) ≡ true) ⊎ ((not (is_given second given) || false) ≡ true) → (value_of first given ≡ None) ⊎ (value_of second given ≡ None)
    by (inl here) = inl (not_given first given (not-true (is_given first given) here))
    by (inr there) = behind (or_either (not (is_given second given)) false there)

no_diff : (base : Option Text) → names_by base None ≡ None
no_diff None = refl
no_diff (Some base) = refl

no_conversion : (from : Option Text) → conversion_by from None ≡ None
no_conversion None = refl
no_conversion (Some from) = refl

-- ---- rebase

rebase_law : (ds : List Pair) → option_map Rebase (names_rows (rows_for ds)) ≡ option_map Rebase (named (given_for ds))
rebase_law ds = λ i. option_map Rebase (names_by (value_is ds (codes "memory-path") i) (value_is ds (codes "diff-path") i))

rebase_lost : (given : List Given)
    → (not (is_given (codes "--memory-path") given) || (not (is_given (codes "--diff-path") given) || false)) ≡ true → option_map Rebase (named given) ≡ None
rebase_lost given lost = by (either_lost (codes "--memory-path") (codes "--diff-path") given lost)
  where
    by : (value_of (codes "--memory-path") given ≡ None) ⊎ (value_of (codes "--diff-path") given ≡ None) → option_map Rebase (named given) ≡ None
    by (inl none) = ap (λ (o : Option Text). option_map Rebase (names_by o (value_of (codes "--diff-path") given))) none
    by (inr none) =
        ap (λ (o : Option Text). option_map Rebase (names_by (value_of (codes "--memory-path") given) o)) none
        ∙ ap (option_map Rebase) (no_diff (value_of (codes "--memory-path") given))

tells_rebase : (rest : List Text) → list_any has_one_dash rest ≡ false → Tells (codes "rebase" ∷ rest) (edit_by (codes "rebase") rest)
tells_rebase rest clear =
    let read = means (codes "rebase") rebase_options refl rest (λ (rows : List Row). option_map Rebase (names_rows rows))
    (λ (given : List Given). option_map Rebase (named given)) rebase_law rebase_lost clear in
    let same = map_then Rebase named (options_in rebase_names [] rest) in
    by_level (codes "rebase" ∷ rest) _ (codes "rebase") _ (edit_by (codes "rebase") rest)
    (enters (codes "edit-memory") subs (codes "rebase") rest (codes "rebase") (leaf (codes "rebase") (rules_for rebase_options)) refl refl)
    (λ none. read.0 none ∙ same, λ bad. sym same ∙ read.1 bad)

-- ---- convert

convert_law : (ds : List Pair) → option_map Convert (conversion_rows (rows_for ds)) ≡ option_map Convert (converted (given_for ds))
convert_law ds = λ i. option_map Convert (conversion_by (value_is ds (codes "diff-path") i) (value_is ds (codes "out-path") i))

convert_lost : (given : List Given)
    → (not (is_given (codes "--diff-path") given) || (not (is_given (codes "--out-path") given) || false)) ≡ true → option_map Convert (converted given) ≡ None
convert_lost given lost = by (either_lost (codes "--diff-path") (codes "--out-path") given lost)
  where
    by : (value_of (codes "--diff-path") given ≡ None) ⊎ (value_of (codes "--out-path") given ≡ None) → option_map Convert (converted given) ≡ None
    by (inl none) = ap (λ (o : Option Text). option_map Convert (conversion_by o (value_of (codes "--out-path") given))) none
    by (inr none) =
        ap (λ (o : Option Text). option_map Convert (conversion_by (value_of (codes "--diff-path") given) o)) none
        ∙ ap (option_map Convert) (no_conversion (value_of (codes "--diff-path") given))

tells_convert : (rest : List Text) → list_any has_one_dash rest ≡ false → Tells (codes "convert" ∷ rest) (edit_by (codes "convert") rest)
tells_convert rest clear =
    let read = means (codes "convert") convert_options refl rest (λ (rows : List Row). option_map Convert (conversion_rows rows))
    (λ (given : List Given). option_map Convert (converted given)) convert_law convert_lost clear in
    let same = map_then Convert converted (options_in convert_names [] rest) in
    by_level (codes "convert" ∷ rest) _ (codes "convert") _ (edit_by (codes "convert") rest)
    (enters (codes "edit-memory") subs (codes "convert") rest (codes "convert") (leaf (codes "convert") (rules_for convert_options)) refl refl)
    (λ none. read.0 none ∙ same, λ bad. sym same ∙ read.1 bad)

-- ---- by the first word

module _ (w : Text) (rest : List Text) (a : bytes_eq w (codes "rebase") ≡ false) (b : bytes_eq w (codes "convert") ≡ false) where
  says_none : edit_by w rest ≡ None
  says_none = λ i. cond (a i) (option_map Rebase (option_and_then named (options_in rebase_names [] rest)))
      (cond (b i) (option_map Convert (option_and_then converted (options_in convert_names [] rest))) None)

  abbrev Label : Type 0
  Label = Text × List Text

  meets_none : option_map (λ (p : Label). p.0) (cond (bytes_eq (codes "rebase") w || false) (Some (codes "rebase", []))
      (cond (bytes_eq (codes "convert") w || false) (Some (codes "convert", [])) None)) ≡ None
  meets_none = λ i. option_map (λ (p : Label). p.0) (cond (flipped w (codes "rebase") a i || false) (Some (codes "rebase", []))
      (cond (flipped w (codes "convert") b i || false) (Some (codes "convert", [])) None))

  tells_none : has_one_dash w ≡ false → Tells (w ∷ rest) (edit_by w rest)
  tells_none clear = (λ none. absurd (none_met (codes "edit-memory") subs w rest (kind_of_word w clear) meets_none none), λ bad. says_none)

-- P holds of each word where it holds of the two, and of all others
by_word : (P : Text → Type 0) (w : Text) → P (codes "rebase") → P (codes "convert")
    → (bytes_eq w (codes "rebase") ≡ false → bytes_eq w (codes "convert") ≡ false → P w) → P w
by_word P w p q none = is (codes "rebase") p (λ a. is (codes "convert") q (λ b. none a b))
  where
    is : (name : Text) → P name → (bytes_eq w name ≡ false → P w) → P w
    is name here other = go (bytes_eq w name) refl
      where
        go : (t : Bool) → bytes_eq w name ≡ t → P w
        go true e = subst P (sym ((bytes_eq-Decides w name).0 e)) here
        go false e = other e

tells : (words : List Text) → list_any has_one_dash words ≡ false
    → (fault_of tool_app words ≡ [] → edit_found (subcommand_of tool_app words) ≡ edit_of words) × ((fault_of tool_app words ≡ [] → ⊥) → edit_of words ≡ None)
tells [] clear = (λ none. absurd (none_named (codes "edit-memory") subs none), λ bad. refl)
tells (w ∷ rest) clear =
    let parts = or_parts (has_one_dash w) (list_any has_one_dash rest) clear in
    by_word (λ (v : Text). Tells (v ∷ rest) (edit_by v rest)) w (tells_rebase rest parts.1) (tells_convert rest parts.1)
    (λ a b. tells_none w rest a b parts.0)

dashed : (words : List Text) → list_any has_one_dash words ≡ true → edit_of words ≡ None
dashed [] dash = absurd (true≢false (sym dash))
dashed (w ∷ rest) dash =
    by_word (λ (v : Text). (has_one_dash v || list_any has_one_dash rest) ≡ true → edit_by v rest ≡ None) w
    (λ e. ap (λ o. option_map Rebase (option_and_then named o)) (dash_options rebase_options rest e []))
    (λ e. ap (λ o. option_map Convert (option_and_then converted o)) (dash_options convert_options rest e []))
    (λ a b other. says_none w rest a b) dash

pub read_means : (words : List Text) (matches : ArgMatches) → IsRead tool_app words matches → edit_found (subcommand_rows_of matches) ≡ edit_of words
read_means words matches read = ap edit_found read.rows ∙ (tells words read.dashes).0 read.fault

pub usage_means : (words : List Text) → IsUsage tool_app words → edit_of words ≡ None
usage_means words (inl dash) = dashed words dash
usage_means words (inr bad) = go (list_any has_one_dash words) refl
  where
    go : (b : Bool) → list_any has_one_dash words ≡ b → edit_of words ≡ None
    go true e = dashed words e
    go false e = (tells words e).1 bad
