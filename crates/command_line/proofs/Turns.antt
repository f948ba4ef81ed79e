-- What `clap` makes of one word more, at a level without subcommands.
use Rattle.std.proofs.Common.{◌≡◌, ◌∙◌, ℕ, Bool, true, false, cond, refl, sym, ap, ap₂, List, [], ◌∷◌, Option, None, bytes_eq}
use Rattle.std.specs.List.{fold}
use Rattle.std.specs.Option.{option_map_or}
use Rattle.clap.specs.Faults.{bundle_fault, flag_word_fault, long_fault, settle_fault, step_fault, turn_fault, walk_fault}
use Rattle.clap.specs.Kinds.{Kinds, or_else}
use Rattle.clap.specs.Lexer.{long_of, name_and_value}
use Rattle.clap.specs.Simple.{Shape, new_shape}
use Rattle.clap.specs.Walk.{Held, Row, Rule, Step, Text, Waiting, Walk, after_flag, after_step, arg_by_long, idle, long_met, long_or_other, option, plain_word, settled, short_or_plain, trailing, walk_from, walked}
use Rattle.command_line.proofs.Dashes.{not_end, not_long, not_short, starts_dash}

-- a subcommand with these rules, as it is built
abbrev pub leaf : Text → List Rule → Shape
leaf name rules = record (new_shape name) {
  rules = rules;
  no_binary_name = true;
  disable_help_flag = true;
  disable_help_subcommand = true;
  is_built = true;
}

-- ---- a walk, word by word

-- its first fault up to the use of the last option, and the rows then
abbrev pub fate_fault : Shape → Walk → List Text → Kinds
fate_fault s w words = or_else (walk_fault s [] w words) (settle_fault s.rules false (fold (walked s.rules []) w words).held)

abbrev pub fate_rows : Shape → Walk → List Text → List Row
fate_rows s w words = (settled s.rules (fold (walked s.rules []) w words).held).rows

or_assoc : (a b d : Kinds) → or_else (or_else a b) d ≡ or_else a (or_else b d)
or_assoc [] b d = refl
or_assoc (k ∷ ks) b d = refl

pub or_first : (a b : Kinds) → or_else a b ≡ [] → a ≡ []
or_first [] b e = refl
or_first (k ∷ ks) b e = absurd cc

pub fate_ends : (s : Shape) (w : Walk) → fate_fault s w [] ≡ settle_fault s.rules false w.held
unfolding walk_fault
fate_ends s w = refl

fate_step : (s : Shape) (w : Walk) (x : Text) (xs : List Text) → fate_fault s w (x ∷ xs) ≡ or_else (turn_fault s [] w x) (fate_fault s (walked s.rules [] w x) xs)
unfolding walk_fault
fate_step s w x xs =
    or_assoc (turn_fault s [] w x) (walk_fault s [] (walked s.rules [] w x) xs) (settle_fault s.rules false (fold (walked s.rules []) (walked s.rules [] w x) xs).held)

pub fails : (s : Shape) (w : Walk) (x : Text) (xs : List Text) → (turn_fault s [] w x ≡ [] → ⊥) → fate_fault s w (x ∷ xs) ≡ [] → ⊥
fails s w x xs bad none = bad (or_first (turn_fault s [] w x) (fate_fault s (walked s.rules [] w x) xs) (sym (fate_step s w x xs) ∙ none))

pub goes : (s : Shape) (w v : Walk) (x : Text) (xs : List Text) → turn_fault s [] w x ≡ [] → walked s.rules [] w x ≡ v
    → (fate_fault s w (x ∷ xs) ≡ fate_fault s v xs) × (fate_rows s w (x ∷ xs) ≡ fate_rows s v xs)
goes s w v x xs ok is = (
  fate_step s w x xs ∙ ap (λ t. or_else t (fate_fault s (walked s.rules [] w x) xs)) ok ∙ ap (λ (u : Walk). fate_fault s u xs) is,
  ap (λ (u : Walk). fate_rows s u xs) is,
)

-- ---- where a walk stands

-- nothing waits; an option waits for its value; `--` was read
abbrev pub idle_at : Held → Walk
idle_at h = walk_from h

abbrev pub waits_at : Text → Held → Walk
waits_at n h = record { held = h; waiting = option n; position = 1; is_trailing = false; stopped = None }

abbrev pub trails_at : Waiting → Held → Walk
trails_at waiting h = record { held = h; waiting = waiting; position = 1; is_trailing = true; stopped = None }

-- ---- the turns

module _ (name : Text) (rules : List Rule) where
  abbrev s : Shape
  s = leaf name rules

  pub end_idle : (h : Held) → (turn_fault s [] (idle_at h) (45 ∷ 45 ∷ []) ≡ []) × (walked rules [] (idle_at h) (45 ∷ 45 ∷ []) ≡ trails_at idle h)
  unfolding walked
  end_idle h = (refl, refl)

  pub end_waits : (n : Text) (h : Held) → (turn_fault s [] (waits_at n h) (45 ∷ 45 ∷ []) ≡ [])
      × (walked rules [] (waits_at n h) (45 ∷ 45 ∷ []) ≡ trails_at (option n) h)
  unfolding walked
  end_waits n h = (refl, refl)

  -- a long option, by the rule that has its name and by its value
  abbrev pub long_step : Waiting → Text → Option Rule → Option Text → Held → Held × Step
  long_step waiting x f v h = after_flag rules waiting x (long_met rules f v h).0 (long_met rules f v h).1

  abbrev pub long_turn : Waiting → Text → Option Rule → Option Text → Held → Kinds
  long_turn waiting x f v h =
      or_else (long_fault rules false f v h) (step_fault s 1 (long_step waiting x f v h).0 (long_step waiting x f v h).1)

  module _ (y : ℕ) (ys : Text) (h : Held) (f : Option Rule) (v : Option Text) (named : arg_by_long rules (name_and_value (y ∷ ys)).0 ≡ f)
      (valued : (name_and_value (y ∷ ys)).1 ≡ v) where
    abbrev x : Text
    x = 45 ∷ 45 ∷ y ∷ ys

    pub long_idle : (turn_fault s [] (idle_at h) x ≡ long_turn idle x f v h)
        × (walked rules [] (idle_at h) x ≡ after_step rules x (idle_at h) (long_step idle x f v h).0 (long_step idle x f v h).1)
    unfolding walked
    long_idle = (
      ap₂ (λ (g : Option Rule) (u : Option Text). long_turn idle x g u h) named valued,
      ap₂ (λ (g : Option Rule) (u : Option Text). after_step rules x (idle_at h) (long_step idle x g u h).0 (long_step idle x g u h).1) named valued,
    )

    pub long_waits : (n : Text) → turn_fault s [] (waits_at n h) x ≡ long_turn (option n) x f v h
    long_waits n = ap₂ (λ (g : Option Rule) (u : Option Text). long_turn (option n) x g u h) named valued

  -- a word that begins with no dash
  module _ (x : Text) (plain : starts_dash x ≡ false) (h : Held) where
    abbrev pub met_by : ℕ → Waiting → Bool → Option (Text × Option Text) → Held × Step
    met_by position waiting b l = cond b (h, trailing position) (long_or_other rules waiting x l h)

    abbrev pub met_short : Waiting → Option Text → Held × Step
    met_short waiting flags = short_or_plain rules waiting x flags h

    pub plain_met : (position : ℕ) (waiting : Waiting) → met_by position waiting (bytes_eq x (45 ∷ 45 ∷ [])) (long_of x) ≡ plain_word rules waiting x h
    plain_met position waiting = ap₂ (met_by position waiting) (not_end x plain) (not_long x plain) ∙ ap (met_short waiting) (not_short x plain)

    pub plain_passes : cond (bytes_eq x (45 ∷ 45 ∷ [])) [] (flag_word_fault rules false (long_of x) x h) ≡ []
    plain_passes =
        ap₂ (λ (b : Bool) (l : Option (Text × Option Text)). cond b [] (flag_word_fault rules false l x h)) (not_end x plain) (not_long x plain)
        ∙ ap (λ (flags : Option Text). option_map_or (λ f. bundle_fault rules false f h) flags []) (not_short x plain)

    abbrev turn_by : Kinds → Held × Step → Kinds
    turn_by fault met = or_else fault (step_fault s 1 met.0 met.1)

    pub plain_idle : (turn_fault s [] (idle_at h) x ≡ step_fault s 1 (plain_word rules idle x h).0 (plain_word rules idle x h).1)
        × (walked rules [] (idle_at h) x ≡ after_step rules x (idle_at h) (plain_word rules idle x h).0 (plain_word rules idle x h).1)
    unfolding walked
    plain_idle = (
      ap₂ turn_by plain_passes (plain_met 1 idle),
      ap (λ (m : Held × Step). after_step rules x (idle_at h) m.0 m.1) (plain_met 1 idle),
    )

    pub plain_waits : (n : Text) → (turn_fault s [] (waits_at n h) x ≡ step_fault s 1 (plain_word rules (option n) x h).0 (plain_word rules (option n) x h).1)
        × (walked rules [] (waits_at n h) x ≡ after_step rules x (waits_at n h) (plain_word rules (option n) x h).0 (plain_word rules (option n) x h).1)
    unfolding walked
    plain_waits n = (
      ap₂ turn_by plain_passes (plain_met 1 (option n)),
      ap (λ (m : Held × Step). after_step rules x (waits_at n h) m.0 m.1) (plain_met 1 (option n)),
    )
