-- A program whose first word names a subcommand.
use Rattle.std.proofs.Common.{◌≡◌, ◌∙◌, inl, inr, Bool, true, false, cond, refl, sym, ap, ap₂, subst, append-nil, append_assoc, List, [], ◌∷◌, ◌++◌, Option, Some, None, is_some, option_map, find, bytes_eq, codes}
use Rattle.std.specs.List.{fold}
use Rattle.std.specs.Option.{option_map_or}
use Rattle.std.proofs.lemmas.Bool.{and_right}
use Rattle.clap.specs.Faults.{built_fault, check_fault, defaults_fault, entered_fault, level_fault, other_fault, settle_fault, step_fault, turn_fault, walk_fault}
use Rattle.clap.specs.Kinds.{Kinds, or_else}
use Rattle.clap.specs.Simple.{App, Shape, entered, label_of, names_of, new_shape, rows_at}
use Rattle.clap.specs.Walk.{Held, Names, Row, Step, Text, Walk, after_step, answers_to, finished, idle, nothing_held, rows_after, settled, stop_after, subcommand_met, subcommand_or_other, walk, walk_from, walked}
use Rattle.clap.specs.declared.error.ErrorKind.TheVariants as kind
use Rattle.clap.proofs.FaultLemmas.{stopped_fault}
use Rattle.command_line.proofs.Dashes.{Kind}
use Rattle.command_line.proofs.OptionRules.{some_kind}
use Rattle.command_line.proofs.Turns.{or_first, plain_met, plain_passes}

-- a program with these subcommands, as it is built
abbrev pub top_of : Text → Shape
top_of name = record (new_shape name) {
  is_leaf = false;
  no_binary_name = true;
  disable_help_flag = true;
  disable_help_subcommand = true;
  subcommand_required = true;
  is_built = true;
}

abbrev pub app_for : Text → List Shape → App
app_for name subs = record { top = top_of name; subs = subs }

or_none : (k : Kinds) → or_else k [] ≡ k
or_none [] = refl
or_none (k ∷ ks) = refl

module _ (name : Text) (subs : List Shape) where
  abbrev a : App
  a = app_for name subs

  abbrev t : Shape
  t = top_of name

  abbrev names : Names
  names = names_of a

  abbrev pub top_fault : List Text → Kinds
  top_fault words = built_fault a nothing_held words

  abbrev pub top_entered : List Text → Option (Text × List Row)
  top_entered words = entered a (stop_after [] names words)

  abbrev step_by : Option Text → Text → Held × Step
  step_by m w = subcommand_or_other [] m idle 1 w nothing_held

  abbrev turn_by : Option Text → Text → Kinds
  turn_by m w = or_else (other_fault t m w nothing_held) (step_fault t 1 (step_by m w).0 (step_by m w).1)

  -- behind the words: the subcommand's fault, and the last checks
  abbrev behind : Walk → Kinds
  behind v = or_else (entered_fault a v.stopped) (or_else (settle_fault [] false v.held) (or_else (defaults_fault (settled [] v.held).rows [])
      (check_fault t (finished [] v.held) (is_some (entered a v.stopped)))))

  turn_first : (w : Text) (rest : List Text) → top_fault (w ∷ rest) ≡ [] → turn_fault t names (walk_from nothing_held) w ≡ []
  unfolding walk_fault
  turn_first w rest none =
      or_first (turn_fault t names (walk_from nothing_held) w) (walk_fault t names (walked [] names (walk_from nothing_held) w) rest)
      (or_first (walk_fault t names (walk_from nothing_held) (w ∷ rest)) (behind (walk [] names nothing_held (w ∷ rest))) none)

  -- ---- the first word names one

  abbrev stopped_at : Text → List Text → Walk
  stopped_at n ws = record { held = nothing_held; waiting = idle; position = 1; is_trailing = false; stopped = Some (n, ws) }

  stays : (n : Text) (ws rest : List Text) → fold (walked [] names) (stopped_at n ws) rest ≡ stopped_at n (ws ++ rest)
  unfolding walked
  stays n ws [] = ap (stopped_at n) (sym (append-nil ws))
  stays n ws (x ∷ rest) = stays n (ws ++ x ∷ []) rest ∙ ap (stopped_at n) (append_assoc ws (x ∷ []) rest)

  module _ (w : Text) (rest : List Text) (n : Text) (s : Shape) (met : subcommand_met names idle w ≡ Some n)
      (found : find (λ (b : Shape). answers_to n (label_of b)) subs ≡ Some s) where
    first : walked [] names (walk_from nothing_held) w ≡ stopped_at n []
    unfolding walked
    first = ap (λ (m : Option Text). after_step [] w (walk_from nothing_held) (step_by m w).0 (step_by m w).1) met

    whole : walk [] names nothing_held (w ∷ rest) ≡ stopped_at n rest
    whole = ap (λ (v : Walk). fold (walked [] names) v rest) first ∙ stays n [] rest

    turn : turn_fault t names (walk_from nothing_held) w ≡ []
    turn = ap (λ (m : Option Text). turn_by m w) met
        ∙ ap (λ (b : Bool). or_else (cond b (kind.DisplayHelp ∷ kind.InvalidSubcommand ∷ []) []) []) (and_right (bytes_eq n (codes "help")) false refl)

    no_fault : walk_fault t names (walk_from nothing_held) (w ∷ rest) ≡ []
    unfolding walk_fault
    no_fault = ap (λ (k : Kinds). or_else k (walk_fault t names (walked [] names (walk_from nothing_held) w) rest)) turn
        ∙ ap (λ (v : Walk). walk_fault t names v rest) first ∙ stopped_fault t names (walk_from nothing_held) (n, []) rest

    below : behind (stopped_at n rest) ≡ level_fault s [] nothing_held rest false []
    unfolding defaults_fault
    below = ap (λ (f : Option Shape). or_else (option_map_or (λ (b : Shape). level_fault b [] nothing_held rest false []) f [])
        (check_fault t [] (is_some (option_map (λ (b : Shape). rows_at b rest) f)))) found ∙ or_none (level_fault s [] nothing_held rest false [])

    pub enters : (top_fault (w ∷ rest) ≡ level_fault s [] nothing_held rest false []) × (top_entered (w ∷ rest) ≡ Some (s.name, rows_after s.rules [] rest))
    enters = (
      ap₂ (λ (k : Kinds) (v : Walk). or_else k (behind v)) no_fault whole ∙ below,
      ap (λ (v : Walk). entered a v.stopped) whole ∙ ap (option_map (λ (b : Shape). rows_at b rest)) found,
    )

  -- ---- or it names none

  pub none_named : top_fault [] ≡ [] → ⊥
  unfolding walk_fault defaults_fault
  none_named none = some_kind kind.MissingSubcommand [] none

  module _ (rest : List Text) (met : subcommand_met names idle (45 ∷ 45 ∷ []) ≡ None) where
    abbrev trailing_at : Walk
    trailing_at = record { held = nothing_held; waiting = idle; position = 1; is_trailing = true; stopped = None }

    trails : walked [] names (walk_from nothing_held) (45 ∷ 45 ∷ []) ≡ trailing_at
    unfolding walked
    trails = ap (λ (m : Option Text). after_step [] (45 ∷ 45 ∷ []) (walk_from nothing_held) (step_by m (45 ∷ 45 ∷ [])).0 (step_by m (45 ∷ 45 ∷ [])).1) met

    ended : turn_fault t names (walk_from nothing_held) (45 ∷ 45 ∷ []) ≡ []
    ended = ap (λ (m : Option Text). turn_by m (45 ∷ 45 ∷ [])) met

    abbrev left : Walk → Kinds
    left v = or_else (walk_fault t names v rest) (behind (fold (walked [] names) v rest))

    left_is : top_fault ((45 ∷ 45 ∷ []) ∷ rest) ≡ left trailing_at
    unfolding walk_fault
    left_is = ap (λ (k : Kinds). or_else (or_else k (walk_fault t names (walked [] names (walk_from nothing_held) (45 ∷ 45 ∷ [])) rest))
        (behind (fold (walked [] names) (walked [] names (walk_from nothing_held) (45 ∷ 45 ∷ [])) rest))) ended ∙ ap left trails

  trailing_fails : (rest : List Text) (met : subcommand_met names idle (45 ∷ 45 ∷ []) ≡ None) → left rest met (trailing_at rest met) ≡ [] → ⊥
  unfolding walk_fault defaults_fault
  trailing_fails [] met none = some_kind kind.MissingSubcommand [] none
  trailing_fails (x ∷ xs) met none = some_kind kind.UnknownArgument (kind.InvalidSubcommand ∷ []) none

  pub none_met : (w : Text) (rest : List Text) → Kind w → subcommand_met names idle w ≡ None → top_fault (w ∷ rest) ≡ [] → ⊥
  none_met w rest (inl end) met =
      subst (λ (v : Text). subcommand_met names idle v ≡ None → top_fault (v ∷ rest) ≡ [] → ⊥) (sym end)
      (λ m none. trailing_fails rest m (sym (left_is rest m) ∙ none)) met
  none_met w rest (inr (inl long)) met =
      subst (λ (v : Text). subcommand_met names idle v ≡ None → top_fault (v ∷ rest) ≡ [] → ⊥) (sym long.2)
      (λ m none.
      let x = 45 ∷ 45 ∷ long.0 ∷ long.1 in
      some_kind kind.UnknownArgument [] (sym (ap (λ (k : Option Text). turn_by k x) m) ∙ turn_first x rest none)) met
  none_met w rest (inr (inr plain)) met = λ none. some_kind kind.UnknownArgument (kind.InvalidSubcommand ∷ [])
      (sym (ap (λ (k : Option Text). turn_by k w) met
      ∙ ap₂ (λ (k : Kinds) (p : Held × Step). or_else k (step_fault t 1 p.0 p.1)) (plain_passes name [] w plain nothing_held) (plain_met name [] w plain nothing_held 1 idle))
      ∙ turn_first w rest none)
