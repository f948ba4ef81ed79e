-- `clap` reads options with one value as the definition does.
use Rattle.std.proofs.Common.{◌≡◌, ◌∙◌, ◌&&◌, ◌||◌, inl, inr, ℕ, Bool, true, false, not, cond, refl, sym, ap, ap₂, subst, List, [], ◌∷◌, ◌++◌, length, Option, Some, None, option_map, option_and_then, nat_lt}
use Rattle.std.specs.List.{after_first, before_first, fold, list_any}
use Rattle.std.specs.Option.{option_map_or, unwrap_or}
use Rattle.std.proofs.lemmas.Bool.{or_parts}
use Rattle.clap.specs.Faults.{check_fault, level_fault, positional_fault, settle_fault, turn_fault, use_fault, walk_fault}
use Rattle.clap.specs.Kinds.{Kinds, check_kinds, or_else}
use Rattle.clap.specs.Lexer.{name_and_value}
use Rattle.clap.specs.Simple.{Shape}
use Rattle.clap.specs.Takes.{is_given}
use Rattle.clap.specs.Walk.{Held, Row, Rule, Step, Text, Waiting, after_step, arg_by_id, arg_by_index, arg_by_long, idle, next, nothing_held, option, option_word, rows_after, settled, used, used_by_id, walked}
use Rattle.clap.specs.declared.error.ErrorKind.TheVariants as kind
use Rattle.command_line.specs.Options.{Given, apart, is_equals, is_given as is_given_option, is_value, joined, options_in, with_option}
use Rattle.command_line.specs.Programs.{has_one_dash}
use Rattle.command_line.proofs.Dashes.{Kind, after_none, kind_of_word, long_value, not_end, plain_two, plain_value, starts_dash}
use Rattle.command_line.proofs.OptionNames.{after_dashed, before_all, before_dashed, either_none, given_for, given_has, names_for, no_apart, no_joined, with_again, with_new, with_unknown}
use Rattle.command_line.proofs.OptionRules.{Opt, Pair, built_option, defaults_pass, find_id, find_long, given_rows, has, known, known_name, no_position, rows_for, rows_stay, rules_for, same_text, some_kind, use_empty, use_nothing, use_passes, use_repeats, used_new}
use Rattle.command_line.proofs.Turns.{end_idle, end_waits, fails, fate_ends, fate_fault, fate_rows, goes, idle_at, leaf, long_idle, long_step, long_turn, long_waits, or_first, plain_idle, plain_waits, trails_at, waits_at}

-- rows that are those of options that were read
pub record ReadTo (given : List Given) (rows : List Row) : Type 0 where
  pub pairs : List Pair
  pub given_are : given ≡ given_for pairs
  pub rows_are : rows ≡ rows_for pairs

-- no fault where the options are read, and a fault where they are none
abbrev pub Reads : Kinds → List Row → Option (List Given) → Type 0
Reads fault rows None = fault ≡ [] → ⊥
Reads fault rows (Some given) = (fault ≡ []) × ReadTo given rows

reads_as : (f g : Kinds) (a b : List Row) (o : Option (List Given)) → f ≡ g → a ≡ b → Reads g b o → Reads f a o
reads_as f g a b None e r h = λ none. h (sym e ∙ none)
reads_as f g a b (Some given) e r h =
    (e ∙ h.0, record { pairs = h.1.pairs; given_are = h.1.given_are; rows_are = r ∙ h.1.rows_are })

reads_none : (f : Kinds) (a : List Row) (o : Option (List Given)) → o ≡ None → (f ≡ [] → ⊥) → Reads f a o
reads_none f a o none bad = subst (λ (p : Option (List Given)). Reads f a p) (sym none) bad

reads_by : (f : Kinds) (a : List Row) (o p : Option (List Given)) → o ≡ p → Reads f a p → Reads f a o
reads_by f a o p e h = subst (λ (q : Option (List Given)). Reads f a q) (sym e) h

-- what is held where these were read, and where an option waits or has its value
abbrev pub held : List Pair → Held
held ds = record { rows = rows_for ds; pending = None; skip = 0 }

abbrev holds : List Pair → Text → List Text → Held
holds ds n vs = record { rows = rows_for ds; pending = Some (n, vs); skip = 0 }

module _ (name : Text) (os : List Opt) (unnamed : known os [] ≡ None) where
  abbrev c : List Rule
  c = rules_for os

  abbrev s : Shape
  s = leaf name c

  -- ---- words that stop it

  stray : (h : Held) → option_map_or (λ a. positional_fault c false a h) (arg_by_index c 1) (kind.UnknownArgument ∷ []) ≡ [] → ⊥
  stray h none = some_kind kind.UnknownArgument []
      (sym (ap (λ (f : Option Rule). option_map_or (λ a. positional_fault c false a h) f (kind.UnknownArgument ∷ [])) (no_position os 1)) ∙ none)

  trail_stops : (waiting : Waiting) (h : Held) (x : Text) → turn_fault s [] (trails_at waiting h) x ≡ [] → ⊥
  trail_stops waiting h x none = stray h none

  plain_stops : (x : Text) → starts_dash x ≡ false → (h : Held) → turn_fault s [] (idle_at h) x ≡ [] → ⊥
  plain_stops x plain h none = stray h (sym (plain_idle name c x plain h).0 ∙ none)

  -- the option that is pending fails
  abbrev IsBad : Held → Type 0
  IsBad h = settle_fault c false h ≡ [] → ⊥

  bad_long : (waiting : Waiting) (x : Text) (m : Option Opt) (v : Option Text) (h : Held) → IsBad h
      → long_turn name c waiting x (option_map built_option m) v h ≡ [] → ⊥
  bad_long waiting x None v h bad none = some_kind kind.UnknownArgument [] none
  bad_long waiting x (Some o) (Some v) h bad none =
      bad (or_first (settle_fault c false h) (use_fault false (built_option o) (v ∷ []) (settled c h).rows)
      (or_first (or_else (settle_fault c false h) (use_fault false (built_option o) (v ∷ []) (settled c h).rows)) [] none))
  bad_long waiting x (Some o) None h bad none = bad (or_first (settle_fault c false h) [] none)

  bad_trail : (waiting : Waiting) (h : Held) → IsBad h → (words : List Text) → fate_fault s (trails_at waiting h) words ≡ [] → ⊥
  bad_trail waiting h bad [] none = bad (sym (fate_ends s (trails_at waiting h)) ∙ none)
  bad_trail waiting h bad (x ∷ xs) none = fails s (trails_at waiting h) x xs (trail_stops waiting h x) none

  bad_by : (h : Held) → IsBad h → (x : Text) (xs : List Text) → Kind x → fate_fault s (idle_at h) (x ∷ xs) ≡ [] → ⊥
  bad_by h bad x xs (inl end) =
      subst (λ (t : Text). fate_fault s (idle_at h) (t ∷ xs) ≡ [] → ⊥) (sym end)
      (λ none.
      let g = goes s (idle_at h) (trails_at idle h) (45 ∷ 45 ∷ []) xs (end_idle name c h).0 (end_idle name c h).1 in
      bad_trail idle h bad xs (sym g.0 ∙ none))
  bad_by h bad x xs (inr (inl long)) =
      subst (λ (t : Text). fate_fault s (idle_at h) (t ∷ xs) ≡ [] → ⊥) (sym long.2)
      (fails s (idle_at h) (45 ∷ 45 ∷ long.0 ∷ long.1) xs (λ none.
      let nv = name_and_value (long.0 ∷ long.1) in
      let turn = (long_idle name c long.0 long.1 h (option_map built_option (known os nv.0)) nv.1 (find_long os nv.0) refl).0 in
      bad_long idle (45 ∷ 45 ∷ long.0 ∷ long.1) (known os nv.0) nv.1 h bad (sym turn ∙ none)))
  bad_by h bad x xs (inr (inr plain)) = fails s (idle_at h) x xs (plain_stops x plain h)

  bad_idle : (h : Held) → IsBad h → (words : List Text) → list_any has_one_dash words ≡ false → fate_fault s (idle_at h) words ≡ [] → ⊥
  bad_idle h bad [] clear none = bad (sym (fate_ends s (idle_at h)) ∙ none)
  bad_idle h bad (x ∷ xs) clear none = bad_by h bad x xs (kind_of_word x (or_parts (has_one_dash x) (list_any has_one_dash xs) clear).0) none

  -- ---- an option that is known

  module _ (o : Opt) (is : known os o.0 ≡ Some o) (ds : List Pair) where
    by_id : arg_by_id c o.0 ≡ Some (built_option o)
    by_id = find_id os o.0 ∙ ap (option_map built_option) is

    waits_bad : IsBad (holds ds o.0 [])
    waits_bad none = use_nothing ds o
        (sym (ap (λ (f : Option Rule). option_map_or (λ a. use_fault false a [] (rows_for ds)) f []) by_id) ∙ none)

    holds_fault : (v : Text) → settle_fault c false (holds ds o.0 (v ∷ [])) ≡ use_fault false (built_option o) (v ∷ []) (rows_for ds)
    holds_fault v = ap (λ (f : Option Rule). option_map_or (λ a. use_fault false a (v ∷ []) (rows_for ds)) f []) by_id

    holds_settled : (v : Text) → has ds o.0 ≡ false → settled c (holds ds o.0 (v ∷ [])) ≡ held (ds ++ (o.0, v) ∷ [])
    holds_settled v new =
        ap (λ (f : Option Rule). record { rows = used_by_id f (v ∷ []) (rows_for ds); pending = None; skip = 0 }) by_id
        ∙ ap (λ (r : List Row). record { rows = r; pending = None; skip = 0 }) (used_new ds o v new)

    -- it waits, and the next word begins with no dash
    abbrev waits_by : Text → Option Rule → Held × Step
    waits_by x f = (
      (option_word f o.0 x (holds ds o.0 [])).0,
      next (option_word f o.0 x (holds ds o.0 [])).1,
    )

    value_taken : (x : Text) → starts_dash x ≡ false → (turn_fault s [] (waits_at o.0 (holds ds o.0 [])) x ≡ [])
        × (walked c [] (waits_at o.0 (holds ds o.0 [])) x ≡ idle_at (holds ds o.0 (x ∷ [])))
    value_taken x plain =
        let turn = plain_waits name c x plain (holds ds o.0 []) o.0 in (
          turn.0,
          turn.1 ∙ ap (λ (f : Option Rule). after_step c x (waits_at o.0 (holds ds o.0 [])) (waits_by x f).0 (waits_by x f).1) by_id
              ∙ ap (λ (b : Bool). record {
                held = holds ds o.0 (x ∷ []);
                waiting = cond (nat_lt (cond b 1 0) 1) (option o.0) idle;
                position = 1;
                is_trailing = false;
                stopped = None;
              }) (same_text o.0),
        )

  -- ---- options one after another

  abbrev Claim : List Text → Type 0
  Claim words = (h : Held) (ds : List Pair) → settle_fault c false h ≡ [] → settled c h ≡ held ds
      → Reads (fate_fault s (idle_at h) words) (fate_rows s (idle_at h) words) (options_in (names_for os) (given_for ds) words)

  module _ (y : ℕ) (ys : Text) (h : Held) (ds : List Pair) (ok : settle_fault c false h ≡ []) (is : settled c h ≡ held ds) where
    abbrev x : Text
    x = 45 ∷ 45 ∷ y ∷ ys

    abbrev n : Text
    n = before_first is_equals (y ∷ ys)

    abbrev v : Text
    v = after_first is_equals (y ∷ ys)

    abbrev by_name : Text → Option (List Given)
    by_name t = cond (nat_lt 0 (length v)) (with_option (names_for os) (given_for ds) (45 ∷ 45 ∷ t) v) None

    joined_is : joined (names_for os) (given_for ds) x ≡ by_name n
    joined_is =
        ap₂ (λ (a b : Text). cond (nat_lt 0 (length a)) (with_option (names_for os) (given_for ds) b a) None) (after_dashed (y ∷ ys)) (before_dashed (y ∷ ys))

    -- `--name=value`
    module _ (valued : list_any is_equals (y ∷ ys) ≡ true) (rest : List Text) where
      abbrev Goal : Type 0
      Goal = Reads (fate_fault s (idle_at h) (x ∷ rest)) (fate_rows s (idle_at h) (x ∷ rest))
          (option_and_then (λ more. options_in (names_for os) more rest) (joined (names_for os) (given_for ds) x))

      turn_by : (m : Option Opt) → known os n ≡ m → (turn_fault s [] (idle_at h) x ≡ long_turn name c idle x (option_map built_option m) (Some v) h)
          × (walked c [] (idle_at h) x ≡ after_step c x (idle_at h) (long_step name c idle x (option_map built_option m) (Some v) h).0 (long_step name c idle x (option_map built_option m) (Some v) h).1)
      turn_by m found = long_idle name c y ys h (option_map built_option m) (Some v) (find_long os n ∙ ap (option_map built_option) found)
          (ap (λ b. cond b (Some v) None) valued)

      refused : joined (names_for os) (given_for ds) x ≡ None → (turn_fault s [] (idle_at h) x ≡ [] → ⊥) → Goal
      refused none bad = reads_none _ _ _ (after_none (λ more. options_in (names_for os) more rest) (joined (names_for os) (given_for ds) x) none)
          (fails s (idle_at h) x rest bad)

      module _ (o : Opt) (found : known os n ≡ Some o) (same : o.0 ≡ n) (known_o : known os o.0 ≡ Some o) where
        use_at : turn_fault s [] (idle_at h) x ≡ or_else (use_fault false (built_option o) (v ∷ []) (rows_for ds)) []
        use_at = (turn_by (Some o) found).0
            ∙ ap₂ (λ (k : Kinds) (r : List Row). or_else (or_else k (use_fault false (built_option o) (v ∷ []) r)) []) ok (ap (λ (e : Held). e.rows) is)

        bad_use : (use_fault false (built_option o) (v ∷ []) (rows_for ds) ≡ [] → ⊥) → turn_fault s [] (idle_at h) x ≡ [] → ⊥
        bad_use bad none = bad (or_first _ [] (sym use_at ∙ none))

        moved : has ds o.0 ≡ false → walked c [] (idle_at h) x ≡ idle_at (held (ds ++ (o.0, v) ∷ []))
        moved new = (turn_by (Some o) found).1
            ∙ ap (λ (e : Held). idle_at (record { rows = used (built_option o) (v ∷ []) e.rows; pending = None; skip = e.skip })) is
            ∙ ap (λ (r : List Row). idle_at (record { rows = r; pending = None; skip = 0 })) (used_new ds o v new)

        joined_o : joined (names_for os) (given_for ds) x ≡ by_name o.0
        joined_o = joined_is ∙ ap by_name (sym same)

        use_goes : (old filled : Bool) → has ds o.0 ≡ old → nat_lt 0 (length v) ≡ filled → Claim rest → Goal
        use_goes true filled e f claim = refused
            (joined_o ∙ either_none (nat_lt 0 (length v)) (with_option (names_for os) (given_for ds) (45 ∷ 45 ∷ o.0) v) (with_again os ds o.0 v e))
            (bad_use (use_repeats ds o v e))
        use_goes false false e f claim = refused
            (joined_o ∙ ap (λ b. cond b (with_option (names_for os) (given_for ds) (45 ∷ 45 ∷ o.0) v) None) f) (bad_use (use_empty ds o v f))
        use_goes false true e f claim =
            let g = goes s (idle_at h) (idle_at (held (ds ++ (o.0, v) ∷ []))) x rest (use_at ∙ ap (λ k. or_else k []) (use_passes ds o v e f)) (moved e) in
            let there = claim (held (ds ++ (o.0, v) ∷ [])) (ds ++ (o.0, v) ∷ []) refl refl in
            reads_by _ _ _ _
            (ap (option_and_then (λ more. options_in (names_for os) more rest))
            (joined_o ∙ ap (λ b. cond b (with_option (names_for os) (given_for ds) (45 ∷ 45 ∷ o.0) v) None) f ∙ with_new os ds o.0 v o known_o e))
            (reads_as _ _ _ _ (options_in (names_for os) (given_for (ds ++ (o.0, v) ∷ [])) rest) g.0 g.1 there)

      joined_by : (m : Option Opt) → known os n ≡ m → Claim rest → Goal
      joined_by None found claim = refused
          (joined_is ∙ either_none (nat_lt 0 (length v)) (with_option (names_for os) (given_for ds) (45 ∷ 45 ∷ n) v) (with_unknown os ds n v found))
          (λ none. some_kind kind.UnknownArgument [] (sym (turn_by None found).0 ∙ none))
      joined_by (Some o) found claim =
          let same = known_name os n o found in
          use_goes o found same (ap (known os) same ∙ found) (has ds o.0) (nat_lt 0 (length v)) refl refl claim

      joined_goes : Claim rest → Goal
      joined_goes claim = joined_by (known os n) refl claim

    -- `--name value`
    module _ (alone : list_any is_equals (y ∷ ys) ≡ false) where
      abbrev zs : Text
      zs = y ∷ ys

      wait_by : (m : Option Opt) → known os zs ≡ m → (turn_fault s [] (idle_at h) x ≡ long_turn name c idle x (option_map built_option m) None h)
          × (walked c [] (idle_at h) x ≡ after_step c x (idle_at h) (long_step name c idle x (option_map built_option m) None h).0 (long_step name c idle x (option_map built_option m) None h).1)
      wait_by m found = long_idle name c y ys h (option_map built_option m) None
          (ap (arg_by_long c) (before_all zs alone) ∙ find_long os zs ∙ ap (option_map built_option) found) (ap (λ b. cond b (Some v) None) alone)

      unknown : known os zs ≡ None → turn_fault s [] (idle_at h) x ≡ [] → ⊥
      unknown found none = some_kind kind.UnknownArgument [] (sym (wait_by None found).0 ∙ none)

      module _ (o : Opt) (found : known os zs ≡ Some o) (same : o.0 ≡ zs) (known_o : known os o.0 ≡ Some o) where
        waits : (xs : List Text) → (fate_fault s (idle_at h) (x ∷ xs) ≡ fate_fault s (waits_at o.0 (holds ds o.0 [])) xs)
            × (fate_rows s (idle_at h) (x ∷ xs) ≡ fate_rows s (waits_at o.0 (holds ds o.0 [])) xs)
        waits xs = goes s (idle_at h) (waits_at o.0 (holds ds o.0 [])) x xs
            ((wait_by (Some o) found).0 ∙ ap (λ k. or_else k []) ok)
            ((wait_by (Some o) found).1 ∙ ap (λ (e : Held). waits_at o.0 (record { rows = e.rows; pending = Some (o.0, []); skip = e.skip })) is)

        ends_bad : fate_fault s (idle_at h) (x ∷ []) ≡ [] → ⊥
        ends_bad none = waits_bad o known_o ds (sym (fate_ends s (waits_at o.0 (holds ds o.0 []))) ∙ sym (waits []).0 ∙ none)

        module _ (w : Text) (rest : List Text) where
          abbrev Next : Text → Type 0
          Next t = Reads (fate_fault s (idle_at h) (x ∷ t ∷ rest)) (fate_rows s (idle_at h) (x ∷ t ∷ rest))
              (option_and_then (λ more. options_in (names_for os) more rest) (apart (names_for os) (given_for ds) x t))

          none_next : (t : Text) → is_value t ≡ false → (fate_fault s (waits_at o.0 (holds ds o.0 [])) (t ∷ rest) ≡ [] → ⊥) → Next t
          none_next t not_value bad = reads_none _ _ _
              (ap (λ b. option_and_then (λ more. options_in (names_for os) more rest) (cond b (with_option (names_for os) (given_for ds) x t) None)) not_value)
              (λ none. bad (sym (waits (t ∷ rest)).0 ∙ none))

          next_end : Next (45 ∷ 45 ∷ [])
          next_end = none_next (45 ∷ 45 ∷ []) (long_value []) (λ none.
              let g = goes s (waits_at o.0 (holds ds o.0 [])) (trails_at (option o.0) (holds ds o.0 [])) (45 ∷ 45 ∷ []) rest
              (end_waits name c o.0 (holds ds o.0 [])).0 (end_waits name c o.0 (holds ds o.0 [])).1 in
              bad_trail (option o.0) (holds ds o.0 []) (waits_bad o known_o ds) rest (sym g.0 ∙ none))

          next_long : (a : ℕ) (as_ : Text) → Next (45 ∷ 45 ∷ a ∷ as_)
          next_long a as_ = none_next (45 ∷ 45 ∷ a ∷ as_) (long_value (a ∷ as_)) (fails s (waits_at o.0 (holds ds o.0 [])) (45 ∷ 45 ∷ a ∷ as_) rest (λ none.
              let nv = name_and_value (a ∷ as_) in
              let turn = long_waits name c a as_ (holds ds o.0 []) (option_map built_option (known os nv.0)) nv.1 (find_long os nv.0) refl o.0 in
              bad_long (option o.0) (45 ∷ 45 ∷ a ∷ as_) (known os nv.0) nv.1 (holds ds o.0 []) (waits_bad o known_o ds) (sym turn ∙ none)))

          module _ (plain : starts_dash w ≡ false) (clear : list_any has_one_dash rest ≡ false) where
            taken : (fate_fault s (idle_at h) (x ∷ w ∷ rest) ≡ fate_fault s (idle_at (holds ds o.0 (w ∷ []))) rest)
                × (fate_rows s (idle_at h) (x ∷ w ∷ rest) ≡ fate_rows s (idle_at (holds ds o.0 (w ∷ []))) rest)
            taken =
                let value = value_taken o known_o ds w plain in
                let g = goes s (waits_at o.0 (holds ds o.0 [])) (idle_at (holds ds o.0 (w ∷ []))) w rest value.0 value.1 in
                ((waits (w ∷ rest)).0 ∙ g.0, (waits (w ∷ rest)).1 ∙ g.1)

            apart_is : apart (names_for os) (given_for ds) x w ≡ cond (nat_lt 0 (length w)) (with_option (names_for os) (given_for ds) (45 ∷ 45 ∷ o.0) w) None
            apart_is = ap₂ (λ (b : Bool) (t : Text). cond b (with_option (names_for os) (given_for ds) (45 ∷ 45 ∷ t) w) None) (plain_value w plain) (sym same)

            spoils : apart (names_for os) (given_for ds) x w ≡ None → IsBad (holds ds o.0 (w ∷ [])) → Next w
            spoils none bad = reads_none _ _ _ (after_none (λ more. options_in (names_for os) more rest) (apart (names_for os) (given_for ds) x w) none)
                (λ e. bad_idle (holds ds o.0 (w ∷ [])) bad rest clear (sym taken.0 ∙ e))

            next_by : (old filled : Bool) → has ds o.0 ≡ old → nat_lt 0 (length w) ≡ filled → Claim rest → Next w
            next_by true filled e f claim = spoils
                (apart_is ∙ either_none (nat_lt 0 (length w)) (with_option (names_for os) (given_for ds) (45 ∷ 45 ∷ o.0) w) (with_again os ds o.0 w e))
                (λ none. use_repeats ds o w e (sym (holds_fault o known_o ds w) ∙ none))
            next_by false false e f claim = spoils
                (apart_is ∙ ap (λ b. cond b (with_option (names_for os) (given_for ds) (45 ∷ 45 ∷ o.0) w) None) f)
                (λ none. use_empty ds o w f (sym (holds_fault o known_o ds w) ∙ none))
            next_by false true e f claim =
                let there = claim (holds ds o.0 (w ∷ [])) (ds ++ (o.0, w) ∷ []) (holds_fault o known_o ds w ∙ use_passes ds o w e f) (holds_settled o known_o ds w e) in
                reads_by _ _ _ _
                (ap (option_and_then (λ more. options_in (names_for os) more rest))
                (apart_is ∙ ap (λ b. cond b (with_option (names_for os) (given_for ds) (45 ∷ 45 ∷ o.0) w) None) f ∙ with_new os ds o.0 w o known_o e))
                (reads_as _ _ _ _ (options_in (names_for os) (given_for (ds ++ (o.0, w) ∷ [])) rest) taken.0 taken.1 there)

          next_goes : Kind w → list_any has_one_dash rest ≡ false → Claim rest → Next w
          next_goes (inl end) clear claim = subst Next (sym end) next_end
          next_goes (inr (inl long)) clear claim = subst Next (sym long.2) (next_long long.0 long.1)
          next_goes (inr (inr plain)) clear claim = next_by plain clear (has ds o.0) (nat_lt 0 (length w)) refl refl claim

      apart_by : (m : Option Opt) → known os zs ≡ m → (w : Text) (rest : List Text) → Kind w → list_any has_one_dash rest ≡ false → Claim rest
          → Reads (fate_fault s (idle_at h) (x ∷ w ∷ rest)) (fate_rows s (idle_at h) (x ∷ w ∷ rest))
          (option_and_then (λ more. options_in (names_for os) more rest) (apart (names_for os) (given_for ds) x w))
      apart_by None found w rest sort clear claim = reads_none _ _ _
          (after_none (λ more. options_in (names_for os) more rest) (apart (names_for os) (given_for ds) x w)
          (either_none (is_value w) (with_option (names_for os) (given_for ds) x w) (with_unknown os ds zs w found)))
          (fails s (idle_at h) x (w ∷ rest) (unknown found))
      apart_by (Some o) found w rest sort clear claim =
          let same = known_name os zs o found in
          next_goes o found same (ap (known os) same ∙ found) w rest sort clear claim

      alone_bad : (m : Option Opt) → known os zs ≡ m → fate_fault s (idle_at h) (x ∷ []) ≡ [] → ⊥
      alone_bad None found = fails s (idle_at h) x [] (unknown found)
      alone_bad (Some o) found =
          let same = known_name os zs o found in
          ends_bad o found same (ap (known os) same ∙ found)

  -- ---- by the first word

  then_some : (o : Option (List Given)) → option_and_then (λ more. Some more) o ≡ o
  then_some None = refl
  then_some (Some given) = refl

  nothing_more : Claim []
  unfolding options_in
  nothing_more h ds ok is =
      (fate_ends s (idle_at h) ∙ ok, record { pairs = ds; given_are = refl; rows_are = ap (λ (e : Held). e.rows) is })

  last_end : Claim ((45 ∷ 45 ∷ []) ∷ [])
  unfolding options_in
  last_end h ds ok is =
      let g = goes s (idle_at h) (trails_at idle h) (45 ∷ 45 ∷ []) [] (end_idle name c h).0 (end_idle name c h).1 in
      (g.0 ∙ fate_ends s (trails_at idle h) ∙ ok, record { pairs = ds; given_are = refl; rows_are = g.1 ∙ ap (λ (e : Held). e.rows) is })

  last_long : (y : ℕ) (ys : Text) → Claim ((45 ∷ 45 ∷ y ∷ ys) ∷ [])
  unfolding options_in
  last_long y ys h ds ok is = go (list_any is_equals (y ∷ ys)) refl
    where
      go : (b : Bool) → list_any is_equals (y ∷ ys) ≡ b
          → Reads (fate_fault s (idle_at h) ((45 ∷ 45 ∷ y ∷ ys) ∷ [])) (fate_rows s (idle_at h) ((45 ∷ 45 ∷ y ∷ ys) ∷ []))
          (cond b (joined (names_for os) (given_for ds) (45 ∷ 45 ∷ y ∷ ys)) None)
      go true e = reads_by _ _ _ _ (sym (then_some (joined (names_for os) (given_for ds) (45 ∷ 45 ∷ y ∷ ys)))) (joined_goes y ys h ds ok is e [] nothing_more)
      go false e = alone_bad y ys h ds ok is e (known os (y ∷ ys)) refl

  last_plain : (x : Text) → starts_dash x ≡ false → Claim (x ∷ [])
  unfolding options_in
  last_plain x plain h ds ok is = reads_none _ _ _
      (ap (λ b. cond b (Some (given_for ds)) (cond (list_any is_equals x) (joined (names_for os) (given_for ds) x) None)) (not_end x plain)
      ∙ either_none (list_any is_equals x) (joined (names_for os) (given_for ds) x) (no_joined os (given_for ds) x (plain_two x plain)))
      (fails s (idle_at h) x [] (plain_stops x plain h))

  last_by : (x : Text) → Kind x → Claim (x ∷ [])
  last_by x (inl end) = subst (λ (t : Text). Claim (t ∷ [])) (sym end) last_end
  last_by x (inr (inl long)) = subst (λ (t : Text). Claim (t ∷ [])) (sym long.2) (last_long long.0 long.1)
  last_by x (inr (inr plain)) = last_plain x plain

  module _ (w : Text) (rest : List Text) where
    first_end : Claim ((45 ∷ 45 ∷ []) ∷ w ∷ rest)
    unfolding options_in
    first_end h ds ok is = reads_none _ _ _
        (after_none (λ more. options_in (names_for os) more rest) (apart (names_for os) (given_for ds) (45 ∷ 45 ∷ []) w)
        (either_none (is_value w) (with_option (names_for os) (given_for ds) (45 ∷ 45 ∷ []) w) (with_unknown os ds [] w unnamed)))
        (λ none.
        let g = goes s (idle_at h) (trails_at idle h) (45 ∷ 45 ∷ []) (w ∷ rest) (end_idle name c h).0 (end_idle name c h).1 in
        fails s (trails_at idle h) w rest (trail_stops idle h w) (sym g.0 ∙ none))

    first_long : (y : ℕ) (ys : Text) → Kind w → list_any has_one_dash rest ≡ false → Claim (w ∷ rest) → Claim rest → Claim ((45 ∷ 45 ∷ y ∷ ys) ∷ w ∷ rest)
    unfolding options_in
    first_long y ys sort clear near later h ds ok is = go (list_any is_equals (y ∷ ys)) refl
      where
        go : (b : Bool) → list_any is_equals (y ∷ ys) ≡ b
            → Reads (fate_fault s (idle_at h) ((45 ∷ 45 ∷ y ∷ ys) ∷ w ∷ rest)) (fate_rows s (idle_at h) ((45 ∷ 45 ∷ y ∷ ys) ∷ w ∷ rest))
            (cond b (option_and_then (λ more. options_in (names_for os) more (w ∷ rest)) (joined (names_for os) (given_for ds) (45 ∷ 45 ∷ y ∷ ys)))
            (option_and_then (λ more. options_in (names_for os) more rest) (apart (names_for os) (given_for ds) (45 ∷ 45 ∷ y ∷ ys) w)))
        go true e = joined_goes y ys h ds ok is e (w ∷ rest) near
        go false e = apart_by y ys h ds ok is e (known os (y ∷ ys)) refl w rest sort clear later

    first_plain : (x : Text) → starts_dash x ≡ false → Claim (x ∷ w ∷ rest)
    unfolding options_in
    first_plain x plain h ds ok is = reads_none _ _ _
        (neither (list_any is_equals x) _ _
        (after_none (λ more. options_in (names_for os) more (w ∷ rest)) (joined (names_for os) (given_for ds) x) (no_joined os (given_for ds) x (plain_two x plain)))
        (after_none (λ more. options_in (names_for os) more rest) (apart (names_for os) (given_for ds) x w) (no_apart os (given_for ds) x w (plain_two x plain))))
        (fails s (idle_at h) x (w ∷ rest) (plain_stops x plain h))
      where
        neither : (b : Bool) (p q : Option (List Given)) → p ≡ None → q ≡ None → cond b p q ≡ None
        neither true p q e f = e
        neither false p q e f = f

    first_by : (x : Text) → Kind x → Kind w → list_any has_one_dash rest ≡ false → Claim (w ∷ rest) → Claim rest → Claim (x ∷ w ∷ rest)
    first_by x (inl end) sort clear near later = subst (λ (t : Text). Claim (t ∷ w ∷ rest)) (sym end) first_end
    first_by x (inr (inl long)) sort clear near later =
        subst (λ (t : Text). Claim (t ∷ w ∷ rest)) (sym long.2) (first_long long.0 long.1 sort clear near later)
    first_by x (inr (inr plain)) sort clear near later = first_plain x plain

  claim : (words : List Text) → list_any has_one_dash words ≡ false → Claim words
  claim [] clear = nothing_more
  claim (x ∷ []) clear = last_by x (kind_of_word x (or_parts (has_one_dash x) false clear).0)
  claim (x ∷ w ∷ rest) clear =
      let first = or_parts (has_one_dash x) (list_any has_one_dash (w ∷ rest)) clear in
      let second = or_parts (has_one_dash w) (list_any has_one_dash rest) first.1 in
      first_by w rest x (kind_of_word x first.0) (kind_of_word w second.0) second.1 (claim (w ∷ rest) first.1) (claim rest second.1)

  -- ---- the whole level

  -- an option lacks that has to be given
  abbrev pub lacks : List Given → Bool
  lacks given = list_any (λ o. o.1 && not (is_given_option (45 ∷ 45 ∷ o.0) given)) os

  check_is : (ds : List Pair) (rows : List Row) → rows ≡ rows_for ds → check_fault s rows false ≡ check_kinds false false (lacks (given_for ds))
  check_is ds rows are = ap (λ (r : List Row). check_fault s r false) are ∙ ap (check_kinds false false) (each os)
    where
      each : (ps : List Opt) → list_any (λ (a : Rule). a.required && not (is_given a.id (rows_for ds))) (rules_for ps)
          ≡ list_any (λ o. o.1 && not (is_given_option (45 ∷ 45 ∷ o.0) (given_for ds))) ps
      each [] = refl
      each (p ∷ ps) = ap₂ (λ (b d : Bool). (p.1 && not b) || d) (given_rows ds p.0 ∙ sym (given_has ds p.0)) (each ps)

  or_more : (a b d : Kinds) → or_else a (or_else b d) ≡ or_else (or_else a b) d
  or_more [] b d = refl
  or_more (k ∷ ks) b d = refl

  module _ (words : List Text) where
    abbrev fate : Kinds
    fate = fate_fault s (idle_at nothing_held) words

    abbrev last : List Row
    last = fate_rows s (idle_at nothing_held) words

    abbrev pub fault : Kinds
    fault = level_fault s [] nothing_held words false []

    abbrev pub rows : List Row
    rows = rows_after c [] words

    -- the last checks come behind the words: no option has a default
    level_is : fault ≡ or_else fate (check_fault s last false)
    level_is =
        let end = (fold (walked c []) (idle_at nothing_held) words).held in
        ap (λ k. or_else (walk_fault s [] (idle_at nothing_held) words) (or_else (settle_fault c false end) k))
        (ap₂ (λ (k : Kinds) (r : List Row). or_else k (check_fault s r false)) (defaults_pass last os) (rows_stay last os))
        ∙ or_more (walk_fault s [] (idle_at nothing_held) words) (settle_fault c false end) (check_fault s last false)

    -- with no fault the options were read, none lacks, and the rows are theirs
    record WasRead : Type 0 where
      pub pairs : List Pair
      pub given : options_in (names_for os) [] words ≡ Some (given_for pairs)
      pub rows_are : rows ≡ rows_for pairs

    -- with a fault they are none, or one lacks
    abbrev NotRead : Type 0
    NotRead = (given : List Given) → options_in (names_for os) [] words ≡ Some given → lacks given ≡ true

    level_by : (o : Option (List Given)) → options_in (names_for os) [] words ≡ o → Reads fate last o → (fault ≡ [] → WasRead) × ((fault ≡ [] → ⊥) → NotRead)
    level_by None e read = (
      λ none. absurd (read (or_first fate (check_fault s last false) (sym level_is ∙ none))),
      λ bad given some. absurd (no_some given (sym e ∙ some)),
    )
      where
        no_some : (given : List Given) → None ≡ Some given → ⊥
        no_some given is = cc
    level_by (Some given) e read = go (lacks (given_for read.1.pairs)) refl
      where
        at_end : fault ≡ check_kinds false false (lacks (given_for read.1.pairs))
        at_end = level_is ∙ ap (λ k. or_else k (check_fault s last false)) read.0 ∙ check_is read.1.pairs last read.1.rows_are

        go : (b : Bool) → lacks (given_for read.1.pairs) ≡ b → (fault ≡ [] → WasRead) × ((fault ≡ [] → ⊥) → NotRead)
        go false f = (
          λ none. record { pairs = read.1.pairs; given = e ∙ ap (λ g. Some g) read.1.given_are; rows_are = rows_stay last os ∙ read.1.rows_are },
          λ bad. absurd (bad (at_end ∙ ap (check_kinds false false) f)),
        )
        go true f = (
          λ none. absurd (some_kind kind.MissingRequiredArgument [] (sym (at_end ∙ ap (check_kinds false false) f) ∙ none)),
          λ bad other some. ap lacks (same_given other (sym some ∙ e ∙ ap (λ g. Some g) read.1.given_are)) ∙ f,
        )
          where
            same_given : (other : List Given) → Some other ≡ Some (given_for read.1.pairs) → other ≡ given_for read.1.pairs
            same_given other is = ap (λ (m : Option (List Given)). unwrap_or m other) is

    -- what is said by the rows is what is said by the options
    pub means : {X : Type 0} (decode : List Row → Option X) (spec : List Given → Option X) → ((ds : List Pair) → decode (rows_for ds) ≡ spec (given_for ds))
        → ((given : List Given) → lacks given ≡ true → spec given ≡ None) → list_any has_one_dash words ≡ false
        → (fault ≡ [] → decode rows ≡ option_and_then spec (options_in (names_for os) [] words))
        × ((fault ≡ [] → ⊥) → option_and_then spec (options_in (names_for os) [] words) ≡ None)
    means {X} decode spec law lost clear =
        let level = level_by (options_in (names_for os) [] words) refl (claim words clear nothing_held [] refl refl) in (
          λ none.
              let read = level.0 none in
              ap decode read.rows_are ∙ law read.pairs ∙ ap (option_and_then spec) (sym read.given),
          λ bad. gone (options_in (names_for os) [] words) (level.1 bad),
        )
      where
        gone : (o : Option (List Given)) → ((given : List Given) → o ≡ Some given → lacks given ≡ true) → option_and_then spec o ≡ None
        gone None un = refl
        gone (Some given) un = lost given (un given refl)
