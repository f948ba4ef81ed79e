-- `clap` reads the one number of a command as the definition does.
use Rattle.std.proofs.Common.{◌≡◌, ◌∙◌, inl, inr, ℕ, Bool, true, false, cond, refl, sym, ap, ap₂, subst, List, [], ◌∷◌, Option, Some, None, bytes_eq, codes}
use Rattle.std.specs.List.{fold, list_any}
use Rattle.std.proofs.lemmas.Bool.{or_parts}
use Rattle.clap.specs.Faults.{check_fault, defaults_fault, level_fault, settle_fault, step_fault, turn_fault, walk_fault}
use Rattle.clap.specs.Kinds.{Kinds, or_else}
use Rattle.clap.specs.Simple.{Shape, new_rule}
use Rattle.clap.specs.Walk.{Held, Row, Rule, Step, Text, Walk, finished, idle, nothing_held, rows_after, settled, walked}
use Rattle.clap.specs.declared.builder.ArgAction.TheVariants.{Set}
use Rattle.clap.specs.declared.builder.ValueParser.TheVariants as parser
use Rattle.clap.specs.declared.builder.value_parser.Reading.TheVariants.{AsWritten}
use Rattle.clap.specs.declared.error.ErrorKind.TheVariants as kind
use Rattle.clap.specs.declared.parser.ValueSource.TheVariants.{CommandLine}
use Rattle.command_line.specs.Numbers.{load_number, one_number}
use Rattle.command_line.specs.Programs.{has_one_dash, number_rows}
use Rattle.command_line.proofs.Dashes.{Kind, kind_of_word, not_end, starts_dash}
use Rattle.command_line.proofs.OptionNames.{either_none}
use Rattle.command_line.proofs.OptionRules.{some_kind}
use Rattle.command_line.proofs.Turns.{end_idle, idle_at, leaf, or_first, plain_idle, plain_met, plain_passes, trails_at}

-- the rule of the number, as it is built
abbrev pub number_rule : Rule
number_rule = record (new_rule (codes "number")) {
  index = Some 1;
  action = Some Set;
  range = Some (record { start_inclusive = 1; end_inclusive = 1 });
  parser = Some parser.String;
  required = true;
}

abbrev pub number_leaf : Text → Shape
number_leaf name = leaf name (number_rule ∷ [])

or_more : (a b d : Kinds) → or_else (or_else a b) d ≡ or_else a (or_else b d)
or_more [] b d = refl
or_more (k ∷ ks) b d = refl

module _ (name : Text) where
  abbrev c : List Rule
  c = number_rule ∷ []

  abbrev s : Shape
  s = number_leaf name

  -- behind the words: the pending number, and the last checks
  abbrev behind : Walk → Kinds
  behind v = or_else (settle_fault c false v.held) (or_else (defaults_fault (settled c v.held).rows c) (check_fault s (finished c v.held) false))

  abbrev fault_from : Walk → List Text → Kinds
  fault_from w words = or_else (walk_fault s [] w words) (behind (fold (walked c []) w words))

  abbrev rows_from : Walk → List Text → List Row
  rows_from w words = finished c (fold (walked c []) w words).held

  step : (w : Walk) (x : Text) (xs : List Text) → fault_from w (x ∷ xs) ≡ or_else (turn_fault s [] w x) (fault_from (walked c [] w x) xs)
  unfolding walk_fault
  step w x xs = or_more (turn_fault s [] w x) (walk_fault s [] (walked c [] w x) xs) (behind (fold (walked c []) (walked c [] w x) xs))

  stops : (w : Walk) (x : Text) (xs : List Text) → (turn_fault s [] w x ≡ [] → ⊥) → fault_from w (x ∷ xs) ≡ [] → ⊥
  stops w x xs bad none = bad (or_first (turn_fault s [] w x) (fault_from (walked c [] w x) xs) (sym (step w x xs) ∙ none))

  moves : (w v : Walk) (x : Text) (xs : List Text) → turn_fault s [] w x ≡ [] → walked c [] w x ≡ v
      → (fault_from w (x ∷ xs) ≡ fault_from v xs) × (rows_from w (x ∷ xs) ≡ rows_from v xs)
  moves w v x xs ok is = (
    step w x xs ∙ ap (λ (k : Kinds). or_else k (fault_from (walked c [] w x) xs)) ok ∙ ap (λ (u : Walk). fault_from u xs) is,
    ap (λ (u : Walk). rows_from u xs) is,
  )

  -- where it stands: at the start, behind `--`, and with the number, before `--` or behind it
  abbrev start : Walk
  start = idle_at nothing_held

  abbrev ended : Walk
  ended = trails_at idle nothing_held

  abbrev with_number : Text → Bool → Walk
  with_number x behind_end = record {
    held = record { rows = []; pending = Some (codes "number", x ∷ []); skip = 0 };
    waiting = idle;
    position = 2;
    is_trailing = behind_end;
    stopped = None;
  }

  abbrev number_row : Text → Row
  number_row x = record { id = codes "number"; values = x ∷ []; count = None; source = Some CommandLine; reading = AsWritten }

  given : (x : Text) (behind_end : Bool) → (fault_from (with_number x behind_end) [] ≡ []) × (rows_from (with_number x behind_end) [] ≡ number_row x ∷ [])
  unfolding walk_fault defaults_fault
  given x behind_end = (refl, refl)

  takes_plain : (x : Text) → starts_dash x ≡ false → (turn_fault s [] start x ≡ []) × (walked c [] start x ≡ with_number x false)
  takes_plain x plain = plain_idle name c x plain nothing_held

  takes_behind : (x : Text) → (turn_fault s [] ended x ≡ []) × (walked c [] ended x ≡ with_number x true)
  unfolding walked
  takes_behind x = (refl, refl)

  ends : (x : Text) → (turn_fault s [] (with_number x false) (45 ∷ 45 ∷ []) ≡ []) × (walked c [] (with_number x false) (45 ∷ 45 ∷ []) ≡ with_number x true)
  unfolding walked
  ends x = (refl, refl)

  no_long : (w : Walk) (y : ℕ) (ys : Text) → w ≡ start → turn_fault s [] w (45 ∷ 45 ∷ y ∷ ys) ≡ [] → ⊥
  no_long w y ys is none = some_kind kind.UnknownArgument [] (subst (λ (v : Walk). turn_fault s [] v (45 ∷ 45 ∷ y ∷ ys) ≡ []) is none)

  no_long_behind : (x : Text) (y : ℕ) (ys : Text) → turn_fault s [] (with_number x false) (45 ∷ 45 ∷ y ∷ ys) ≡ [] → ⊥
  no_long_behind x y ys none = some_kind kind.UnknownArgument [] none

  no_more : (x y : Text) → turn_fault s [] (with_number x true) y ≡ [] → ⊥
  no_more x y none = some_kind kind.UnknownArgument [] none

  no_second : (x y : Text) → starts_dash y ≡ false → turn_fault s [] (with_number x false) y ≡ [] → ⊥
  no_second x y plain none = some_kind kind.UnknownArgument []
      (sym (ap₂ (λ (k : Kinds) (m : Held × Step). or_else k (step_fault s 2 m.0 m.1)) (plain_passes name c y plain (with_number x false).held)
      (plain_met name c y plain (with_number x false).held 2 idle)) ∙ none)

  -- ---- by the words

  abbrev pub fault : List Text → Kinds
  fault words = level_fault s [] nothing_held words false []

  abbrev pub rows : List Text → List Row
  rows words = rows_after c [] words

  abbrev Says : List Text → Type 0
  Says words = (fault words ≡ [] → number_rows (rows words) ≡ one_number words) × ((fault words ≡ [] → ⊥) → one_number words ≡ None)

  refused : (words : List Text) → (fault_from start words ≡ [] → ⊥) → one_number words ≡ None → Says words
  refused words bad none = (λ e. absurd (bad e), λ _. none)

  taken : (words : List Text) (x : Text) → fault_from start words ≡ [] → rows_from start words ≡ number_row x ∷ [] → one_number words ≡ load_number x → Says words
  taken words x ok are same = (λ _. ap number_rows are ∙ sym same, λ bad. absurd (bad ok))

  says_none : Says []
  unfolding walk_fault defaults_fault
  says_none = (λ none. absurd (some_kind kind.MissingRequiredArgument [] none), λ _. refl)

  says_end : Says ((45 ∷ 45 ∷ []) ∷ [])
  unfolding walk_fault walked defaults_fault
  says_end = (λ none. absurd (some_kind kind.MissingRequiredArgument [] none), λ _. refl)

  one_plain : (x : Text) → starts_dash x ≡ false → Says (x ∷ [])
  one_plain x plain =
      let m = moves start (with_number x false) x [] (takes_plain x plain).0 (takes_plain x plain).1 in
      taken (x ∷ []) x (m.0 ∙ (given x false).0) (m.1 ∙ (given x false).1) refl

  one_by : (x : Text) → Kind x → Says (x ∷ [])
  one_by x (inl end) = subst (λ (t : Text). Says (t ∷ [])) (sym end) says_end
  one_by x (inr (inl long)) = subst (λ (t : Text). Says (t ∷ [])) (sym long.2)
      (refused ((45 ∷ 45 ∷ long.0 ∷ long.1) ∷ []) (stops start (45 ∷ 45 ∷ long.0 ∷ long.1) [] (no_long start long.0 long.1 refl)) refl)
  one_by x (inr (inr plain)) = one_plain x plain

  -- one word behind `--`
  end_first : (y : Text) → Says ((45 ∷ 45 ∷ []) ∷ y ∷ [])
  end_first y =
      let first = moves start ended (45 ∷ 45 ∷ []) (y ∷ []) (end_idle name c nothing_held).0 (end_idle name c nothing_held).1 in
      let second = moves ended (with_number y true) y [] (takes_behind y).0 (takes_behind y).1 in
      taken ((45 ∷ 45 ∷ []) ∷ y ∷ []) y (first.0 ∙ second.0 ∙ (given y true).0) (first.1 ∙ second.1 ∙ (given y true).1) refl

  long_first : (y : ℕ) (ys w : Text) → Says ((45 ∷ 45 ∷ y ∷ ys) ∷ w ∷ [])
  long_first y ys w = refused ((45 ∷ 45 ∷ y ∷ ys) ∷ w ∷ []) (stops start (45 ∷ 45 ∷ y ∷ ys) (w ∷ []) (no_long start y ys refl))
      (either_none (bytes_eq w (45 ∷ 45 ∷ [])) (load_number (45 ∷ 45 ∷ y ∷ ys)) refl)

  module _ (x : Text) (plain : starts_dash x ≡ false) where
    moved : (xs : List Text) → (fault_from start (x ∷ xs) ≡ fault_from (with_number x false) xs) × (rows_from start (x ∷ xs) ≡ rows_from (with_number x false) xs)
    moved xs = moves start (with_number x false) x xs (takes_plain x plain).0 (takes_plain x plain).1

    abbrev second_by : Bool → Text → Option ℕ
    second_by b y = cond b (load_number y) (cond (bytes_eq y (45 ∷ 45 ∷ [])) (load_number x) None)

    plain_by : (y : Text) → Kind y → Says (x ∷ y ∷ [])
    plain_by y (inl end) = subst (λ (t : Text). Says (x ∷ t ∷ [])) (sym end)
        (let last = moves (with_number x false) (with_number x true) (45 ∷ 45 ∷ []) [] (ends x).0 (ends x).1 in
        taken (x ∷ (45 ∷ 45 ∷ []) ∷ []) x ((moved ((45 ∷ 45 ∷ []) ∷ [])).0 ∙ last.0 ∙ (given x true).0) ((moved ((45 ∷ 45 ∷ []) ∷ [])).1 ∙ last.1 ∙ (given x true).1)
        (ap (λ (b : Bool). second_by b (45 ∷ 45 ∷ [])) (not_end x plain)))
    plain_by y (inr (inl long)) = subst (λ (t : Text). Says (x ∷ t ∷ [])) (sym long.2)
        (refused (x ∷ (45 ∷ 45 ∷ long.0 ∷ long.1) ∷ [])
        (λ none. stops (with_number x false) (45 ∷ 45 ∷ long.0 ∷ long.1) [] (no_long_behind x long.0 long.1) (sym (moved ((45 ∷ 45 ∷ long.0 ∷ long.1) ∷ [])).0 ∙ none))
        (ap (λ (b : Bool). second_by b (45 ∷ 45 ∷ long.0 ∷ long.1)) (not_end x plain)))
    plain_by y (inr (inr also)) = refused (x ∷ y ∷ [])
        (λ none. stops (with_number x false) y [] (no_second x y also) (sym (moved (y ∷ [])).0 ∙ none))
        (ap₂ (λ (b d : Bool). cond b (load_number y) (cond d (load_number x) None)) (not_end x plain) (not_end y also))

  two_by : (x y : Text) → Kind x → Kind y → Says (x ∷ y ∷ [])
  two_by x y (inl end) sort = subst (λ (t : Text). Says (t ∷ y ∷ [])) (sym end) (end_first y)
  two_by x y (inr (inl long)) sort = subst (λ (t : Text). Says (t ∷ y ∷ [])) (sym long.2) (long_first long.0 long.1 y)
  two_by x y (inr (inr plain)) sort = plain_by x plain y sort

  -- three words are none
  module _ (y z : Text) (more : List Text) where
    three_end : fault_from start ((45 ∷ 45 ∷ []) ∷ y ∷ z ∷ more) ≡ [] → ⊥
    three_end none =
        let first = moves start ended (45 ∷ 45 ∷ []) (y ∷ z ∷ more) (end_idle name c nothing_held).0 (end_idle name c nothing_held).1 in
        let second = moves ended (with_number y true) y (z ∷ more) (takes_behind y).0 (takes_behind y).1 in
        stops (with_number y true) z more (no_more y z) (sym (first.0 ∙ second.0) ∙ none)

    three_plain : (x : Text) → starts_dash x ≡ false → Kind y → fault_from start (x ∷ y ∷ z ∷ more) ≡ [] → ⊥
    three_plain x plain (inl end) = subst (λ (t : Text). fault_from start (x ∷ t ∷ z ∷ more) ≡ [] → ⊥) (sym end)
        (λ none.
        let last = moves (with_number x false) (with_number x true) (45 ∷ 45 ∷ []) (z ∷ more) (ends x).0 (ends x).1 in
        stops (with_number x true) z more (no_more x z) (sym ((moved x plain ((45 ∷ 45 ∷ []) ∷ z ∷ more)).0 ∙ last.0) ∙ none))
    three_plain x plain (inr (inl long)) = subst (λ (t : Text). fault_from start (x ∷ t ∷ z ∷ more) ≡ [] → ⊥) (sym long.2)
        (λ none. stops (with_number x false) (45 ∷ 45 ∷ long.0 ∷ long.1) (z ∷ more) (no_long_behind x long.0 long.1)
        (sym (moved x plain ((45 ∷ 45 ∷ long.0 ∷ long.1) ∷ z ∷ more)).0 ∙ none))
    three_plain x plain (inr (inr also)) =
        λ none. stops (with_number x false) y (z ∷ more) (no_second x y also) (sym (moved x plain (y ∷ z ∷ more)).0 ∙ none)

    three_by : (x : Text) → Kind x → Kind y → Says (x ∷ y ∷ z ∷ more)
    three_by x (inl end) sort = subst (λ (t : Text). Says (t ∷ y ∷ z ∷ more)) (sym end) (refused ((45 ∷ 45 ∷ []) ∷ y ∷ z ∷ more) three_end refl)
    three_by x (inr (inl long)) sort = subst (λ (t : Text). Says (t ∷ y ∷ z ∷ more)) (sym long.2)
        (refused ((45 ∷ 45 ∷ long.0 ∷ long.1) ∷ y ∷ z ∷ more) (stops start (45 ∷ 45 ∷ long.0 ∷ long.1) (y ∷ z ∷ more) (no_long start long.0 long.1 refl)) refl)
    three_by x (inr (inr plain)) sort = refused (x ∷ y ∷ z ∷ more) (three_plain x plain sort) refl

  pub number_says : (words : List Text) → list_any has_one_dash words ≡ false → Says words
  number_says [] clear = says_none
  number_says (x ∷ []) clear = one_by x (kind_of_word x (or_parts (has_one_dash x) false clear).0)
  number_says (x ∷ y ∷ rest) clear =
      let first = or_parts (has_one_dash x) (list_any has_one_dash (y ∷ rest)) clear in
      let second = or_parts (has_one_dash y) (list_any has_one_dash rest) first.1 in
      by rest (kind_of_word x first.0) (kind_of_word y second.0)
    where
      by : (rest : List Text) → Kind x → Kind y → Says (x ∷ y ∷ rest)
      by [] a b = two_by x y a b
      by (z ∷ more) a b = three_by y z more x a b
