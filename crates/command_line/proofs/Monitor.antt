-- What `clap` finds in the words of the program `firecracker` is the command that they say.
use Rattle.std.proofs.Common.{◌≡◌, ◌∙◌, ◌||◌, inl, inr, Bool, true, false, not, cond, refl, sym, ap, subst, List, [], ◌∷◌, Option, Some, None, option_map, option_and_then, bytes_eq, codes, true≢false}
use Rattle.std.specs.List.{list_any}
use Rattle.std.proofs.lemmas.Slice.Eq.{bytes_eq-Decides}
use Rattle.std.proofs.lemmas.Bool.{or_parts}
use Rattle.clap.specs.Faults.{fault_of, is_simple_and_free}
use Rattle.clap.specs.Kinds.{Kinds}
use Rattle.clap.specs.Simple.{Shape, subcommand_of, subcommand_rows_of}
use Rattle.clap.specs.Walk.{Row, Text, first_of}
use Rattle.clap.specs.declared.parser.ArgMatches.{ArgMatches}
use Rattle.command_line.specs.Commands.{Command, Generate, Replay, Run, Serve, command_in, command_of, replay_given, replay_names, serve_by, serve_given, serve_names}
use Rattle.command_line.specs.MachineId.{machine_id}
use Rattle.command_line.specs.Numbers.{one_number}
use Rattle.command_line.specs.Options.{Given, is_given, options_in, value_of}
use Rattle.command_line.specs.Programs.{IsRead, IsUsage, command_by, command_rows, has_one_dash, monitor_app, serve_rows}
use Rattle.command_line.proofs.Dashes.{dash_number, dash_options, kind_of_word}
use Rattle.command_line.proofs.Entering.{enters, none_met, none_named, top_entered, top_fault}
use Rattle.command_line.proofs.NumberReads.{number_leaf, number_says}
use Rattle.command_line.proofs.OptionNames.{flipped, given_for, not_given, value_is}
use Rattle.command_line.proofs.OptionReads.{means}
use Rattle.command_line.proofs.OptionRules.{Opt, Pair, rules_for, rows_for}
use Rattle.command_line.proofs.Turns.{leaf}

abbrev replay_options : List Opt
replay_options = (codes "id", false) ∷ []

abbrev serve_options : List Opt
serve_options = (codes "api-sock", true) ∷ (codes "id", false) ∷ (codes "trace", false) ∷ []

abbrev subs : List Shape
subs = leaf (codes "replay") (rules_for replay_options) ∷ leaf (codes "serve") (rules_for serve_options)
    ∷ number_leaf (codes "generate") ∷ number_leaf (codes "run") ∷ []

abbrev fault : List Text → Kinds
fault words = top_fault (codes "firecracker") subs words

abbrev entered : List Text → Option (Text × List Row)
entered words = top_entered (codes "firecracker") subs words

pub is_plain : is_simple_and_free monitor_app ≡ true
is_plain = refl

-- where clap finds no fault, what it entered says this; where it finds one, nothing is said
abbrev Tells : List Text → Option Command → Type 0
Tells words meaning = (fault words ≡ [] → command_by (entered words) ≡ meaning) × ((fault words ≡ [] → ⊥) → meaning ≡ None)

by_level : (words : List Text) (below : Kinds) (name : Text) (rows : List Row) (meaning : Option Command)
    → (fault words ≡ below) × (entered words ≡ Some (name, rows))
    → (below ≡ [] → command_rows name rows ≡ meaning) × ((below ≡ [] → ⊥) → meaning ≡ None) → Tells words meaning
by_level words below name rows meaning into level =
    (λ none. ap command_by into.1 ∙ level.0 (sym into.0 ∙ none), λ bad. level.1 (λ none. bad (into.0 ∙ none)))

map_then : {X Y Z : Type 0} (f : Y → Z) (g : X → Option Y) (o : Option X) → option_and_then (λ x. option_map f (g x)) o ≡ option_map f (option_and_then g o)
map_then f g None = refl
map_then f g (Some x) = refl

-- ---- replay

tells_replay : (rest : List Text) → list_any has_one_dash rest ≡ false → Tells (codes "replay" ∷ rest) (command_in (codes "replay") rest)
tells_replay rest clear =
    let read = means (codes "replay") replay_options refl rest (λ (rows : List Row). option_map Replay (machine_id (first_of (codes "id") rows)))
    (λ (given : List Given). option_map Replay (replay_given given))
    (λ (ds : List Pair). ap (λ (o : Option Text). option_map Replay (machine_id o)) (value_is ds (codes "id")))
    (λ (given : List Given) lost. absurd (true≢false (sym lost))) clear in
    let same = map_then Replay replay_given (options_in replay_names [] rest) in
    by_level (codes "replay" ∷ rest) _ (codes "replay") _ (command_in (codes "replay") rest)
    (enters (codes "firecracker") subs (codes "replay") rest (codes "replay") (leaf (codes "replay") (rules_for replay_options)) refl refl)
    (λ none. read.0 none ∙ same, λ bad. sym same ∙ read.1 bad)

-- ---- serve

serve_law : (ds : List Pair) → serve_rows (rows_for ds) ≡ option_map Serve (serve_given (given_for ds))
serve_law ds = λ i. option_map Serve (serve_by (value_is ds (codes "api-sock") i) (machine_id (value_is ds (codes "id") i)) (value_is ds (codes "trace") i))

serve_lost : (given : List Given) → (not (is_given (codes "--api-sock") given) || false) ≡ true → option_map Serve (serve_given given) ≡ None
serve_lost given lost =
    ap (λ (o : Option Text). option_map Serve (serve_by o (machine_id (value_of (codes "--id") given)) (value_of (codes "--trace") given)))
    (not_given (codes "--api-sock") given (go (is_given (codes "--api-sock") given) lost))
  where
    go : (b : Bool) → (not b || false) ≡ true → b ≡ false
    go true e = absurd (true≢false (sym e))
    go false e = refl

tells_serve : (rest : List Text) → list_any has_one_dash rest ≡ false → Tells (codes "serve" ∷ rest) (command_in (codes "serve") rest)
tells_serve rest clear =
    let read = means (codes "serve") serve_options refl rest serve_rows (λ (given : List Given). option_map Serve (serve_given given)) serve_law serve_lost clear in
    let same = map_then Serve serve_given (options_in serve_names [] rest) in
    by_level (codes "serve" ∷ rest) _ (codes "serve") _ (command_in (codes "serve") rest)
    (enters (codes "firecracker") subs (codes "serve") rest (codes "serve") (leaf (codes "serve") (rules_for serve_options)) refl refl)
    (λ none. read.0 none ∙ same, λ bad. sym same ∙ read.1 bad)

-- ---- generate and run

tells_generate : (rest : List Text) → list_any has_one_dash rest ≡ false → Tells (codes "generate" ∷ rest) (command_in (codes "generate") rest)
tells_generate rest clear =
    let read = number_says (codes "generate") rest clear in
    by_level (codes "generate" ∷ rest) _ (codes "generate") _ (command_in (codes "generate") rest)
    (enters (codes "firecracker") subs (codes "generate") rest (codes "generate") (number_leaf (codes "generate")) refl refl)
    (λ none. ap (option_map Generate) (read.0 none), λ bad. ap (option_map Generate) (read.1 bad))

tells_run : (rest : List Text) → list_any has_one_dash rest ≡ false → Tells (codes "run" ∷ rest) (command_in (codes "run") rest)
tells_run rest clear =
    let read = number_says (codes "run") rest clear in
    by_level (codes "run" ∷ rest) _ (codes "run") _ (command_in (codes "run") rest)
    (enters (codes "firecracker") subs (codes "run") rest (codes "run") (number_leaf (codes "run")) refl refl)
    (λ none. ap (option_map Run) (read.0 none), λ bad. ap (option_map Run) (read.1 bad))

-- ---- by the first word

module _ (w : Text) (rest : List Text) (a : bytes_eq w (codes "replay") ≡ false) (b : bytes_eq w (codes "serve") ≡ false)
    (d : bytes_eq w (codes "generate") ≡ false) (e : bytes_eq w (codes "run") ≡ false) where
  says_none : command_in w rest ≡ None
  says_none = λ i. cond (a i) (option_map Replay (option_and_then replay_given (options_in replay_names [] rest)))
      (cond (b i) (option_map Serve (option_and_then serve_given (options_in serve_names [] rest)))
      (cond (d i) (option_map Generate (one_number rest)) (cond (e i) (option_map Run (one_number rest)) None)))

  abbrev Label : Type 0
  Label = Text × List Text

  meets_none : option_map (λ (p : Label). p.0) (cond (bytes_eq (codes "replay") w || false) (Some (codes "replay", []))
      (cond (bytes_eq (codes "serve") w || false) (Some (codes "serve", [])) (cond (bytes_eq (codes "generate") w || false) (Some (codes "generate", []))
      (cond (bytes_eq (codes "run") w || false) (Some (codes "run", [])) None)))) ≡ None
  meets_none = λ i. option_map (λ (p : Label). p.0) (cond (flipped w (codes "replay") a i || false) (Some (codes "replay", []))
      (cond (flipped w (codes "serve") b i || false) (Some (codes "serve", [])) (cond (flipped w (codes "generate") d i || false) (Some (codes "generate", []))
      (cond (flipped w (codes "run") e i || false) (Some (codes "run", [])) None))))

  tells_none : has_one_dash w ≡ false → Tells (w ∷ rest) (command_in w rest)
  tells_none clear = (λ none. absurd (none_met (codes "firecracker") subs w rest (kind_of_word w clear) meets_none none), λ bad. says_none)

-- P holds of each word where it holds of the four, and of all others
by_word : (P : Text → Type 0) (w : Text) → P (codes "replay") → P (codes "serve") → P (codes "generate") → P (codes "run")
    → (bytes_eq w (codes "replay") ≡ false → bytes_eq w (codes "serve") ≡ false → bytes_eq w (codes "generate") ≡ false → bytes_eq w (codes "run") ≡ false → P w) → P w
by_word P w p q r s none =
    is (codes "replay") p (λ a. is (codes "serve") q (λ b. is (codes "generate") r (λ d. is (codes "run") s (λ e. none a b d e))))
  where
    is : (name : Text) → P name → (bytes_eq w name ≡ false → P w) → P w
    is name here other = go (bytes_eq w name) refl
      where
        go : (t : Bool) → bytes_eq w name ≡ t → P w
        go true e = subst P (sym ((bytes_eq-Decides w name).0 e)) here
        go false e = other e

tells_first : (w : Text) (rest : List Text) → has_one_dash w ≡ false → list_any has_one_dash rest ≡ false → Tells (w ∷ rest) (command_in w rest)
tells_first w rest first clear = by_word (λ (v : Text). Tells (v ∷ rest) (command_in v rest)) w
    (tells_replay rest clear) (tells_serve rest clear) (tells_generate rest clear) (tells_run rest clear)
    (λ a b d e. tells_none w rest a b d e first)

tells : (words : List Text) → list_any has_one_dash words ≡ false
    → (fault_of monitor_app words ≡ [] → command_by (subcommand_of monitor_app words) ≡ command_of words) × ((fault_of monitor_app words ≡ [] → ⊥) → command_of words ≡ None)
unfolding command_of
tells [] clear = (λ none. absurd (none_named (codes "firecracker") subs none), λ bad. refl)
tells (w ∷ rest) clear =
    let parts = or_parts (has_one_dash w) (list_any has_one_dash rest) clear in
    tells_first w rest parts.0 parts.1

-- ---- a word with one dash

dashed_first : (w : Text) (rest : List Text) → (has_one_dash w || list_any has_one_dash rest) ≡ true → command_in w rest ≡ None
dashed_first w rest = by_word (λ (v : Text). (has_one_dash v || list_any has_one_dash rest) ≡ true → command_in v rest ≡ None) w
    (λ dash. ap (λ o. option_map Replay (option_and_then replay_given o)) (dash_options replay_options rest dash []))
    (λ dash. ap (λ o. option_map Serve (option_and_then serve_given o)) (dash_options serve_options rest dash []))
    (λ dash. ap (option_map Generate) (dash_number rest dash))
    (λ dash. ap (option_map Run) (dash_number rest dash))
    (λ a b d e dash. says_none w rest a b d e)

dashed : (words : List Text) → list_any has_one_dash words ≡ true → command_of words ≡ None
unfolding command_of
dashed [] dash = absurd (true≢false (sym dash))
dashed (w ∷ rest) dash = dashed_first w rest dash

-- ---- what was read, and what was not

pub read_means : (words : List Text) (matches : ArgMatches) → IsRead monitor_app words matches → command_by (subcommand_rows_of matches) ≡ command_of words
read_means words matches read = ap command_by read.rows ∙ (tells words read.dashes).0 read.fault

pub usage_means : (words : List Text) → IsUsage monitor_app words → command_of words ≡ None
usage_means words (inl dash) = dashed words dash
usage_means words (inr bad) = go (list_any has_one_dash words) refl
  where
    go : (b : Bool) → list_any has_one_dash words ≡ b → command_of words ≡ None
    go true e = dashed words e
    go false e = (tells words e).1 bad
