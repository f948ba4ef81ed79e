-- The programs as `clap` is told of them, and what it makes of their words.
use Rattle.std.specs.Prelude.{◌≡◌, ◌==◌, ◌&&◌, ◌⊎◌, ℕ, Bool, true, false, not, if◌then◌else◌, List, [], ◌∷◌, codes, length, Option, Some, None, option_and_then, option_map}
use Rattle.std.specs.List.{list_any}
use Rattle.std.specs.Str.{bytes_eq}
use Rattle.clap.specs.Words.{App, Row, Rule, Shape, Text, fault_of, first_of, new_app, new_rule, subcommand_of, subcommand_rows_of, with_rule, with_subcommand}
use Rattle.clap.specs.declared.builder.ArgAction.TheVariants.{Set}
use Rattle.clap.specs.declared.builder.ValueParser.TheVariants.{NonEmptyString}
use Rattle.clap.specs.declared.parser.ArgMatches.{ArgMatches}
use Rattle.command_line.specs.Commands.{Command, Generate, Replay, Run, Serve, serve_by}
use Rattle.command_line.specs.MachineId.{machine_id}
use Rattle.command_line.specs.Numbers.{load_number}

-- an option with one value, which has a byte
abbrev pub option_rule : Text → Bool → Rule
option_rule name required =
    record (new_rule name) { long = Some name; action = Some Set; parser = Some NonEmptyString; required = required }

-- a program of which one subcommand has to be named, with no help
abbrev pub program_app : Text → App
program_app name = record (new_app name) {
  top = record (new_app name).top {
    no_binary_name = true;
    disable_help_flag = true;
    disable_help_subcommand = true;
    subcommand_required = true;
  };
}

abbrev pub replay_app : App
replay_app = with_rule (new_app (codes "replay")) (option_rule (codes "id") false)

abbrev pub serve_app : App
serve_app = with_rule (with_rule (with_rule (new_app (codes "serve")) (option_rule (codes "api-sock") true))
    (option_rule (codes "id") false)) (option_rule (codes "trace") false)

abbrev pub number_app : Text → App
number_app name = with_rule (new_app name) (record (new_rule (codes "number")) { required = true })

abbrev pub monitor_app : App
monitor_app = with_subcommand (with_subcommand (with_subcommand (with_subcommand (program_app (codes "firecracker"))
    replay_app.top) serve_app.top) (number_app (codes "generate")).top) (number_app (codes "run")).top

-- A word that begins with one `-`, and not two: no command has such an option, and `clap` reads `-` as a value.
abbrev pub has_one_dash : List ℕ → Bool
has_one_dash [] = false
has_one_dash (first ∷ []) = first == 45
has_one_dash (first ∷ second ∷ word) = first == 45 && not (second == 45)

-- the words were read: none has one dash, `clap` finds no fault, and these are its matches
pub record IsRead (app : App) (words : List Text) (matches : ArgMatches) : Type 0 where
  pub dashes : list_any has_one_dash words ≡ false
  pub fault : fault_of app words ≡ []
  pub rows : subcommand_rows_of matches ≡ subcommand_of app words

-- or they are no command
abbrev pub IsUsage : App → List Text → Type 0
IsUsage app words = (list_any has_one_dash words ≡ true) ⊎ (fault_of app words ≡ [] → ⊥)

-- the command of the subcommand that was named, and of what was found for it
abbrev pub serve_rows : List Row → Option Command
serve_rows rows = option_map Serve (serve_by (first_of (codes "api-sock") rows)
    (machine_id (first_of (codes "id") rows)) (first_of (codes "trace") rows))

abbrev pub number_rows : List Row → Option ℕ
number_rows rows = option_and_then load_number (first_of (codes "number") rows)

abbrev pub command_rows : Text → List Row → Option Command
command_rows name rows =
    if bytes_eq name (codes "replay") then option_map Replay (machine_id (first_of (codes "id") rows))
    else (if bytes_eq name (codes "serve") then serve_rows rows
    else (if bytes_eq name (codes "generate") then option_map Generate (number_rows rows)
    else (if bytes_eq name (codes "run") then option_map Run (number_rows rows) else None)))

abbrev pub command_by : Option (Text × List Row) → Option Command
command_by entered = option_and_then (λ p. command_rows p.0 p.1) entered
