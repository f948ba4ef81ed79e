-- The words of the commands `edit-memory rebase --memory-path BASE --diff-path DIFF` and `edit-memory convert --diff-path IN
-- --out-path OUT`.
use Rattle.std.specs.Prelude.{ℕ, true, if◌then◌else◌, List, [], ◌∷◌, codes, Option, Some, None, option_and_then, option_map}
use Rattle.std.specs.Str.{bytes_eq}
use Rattle.clap.specs.Words.{App, Row, Text, first_of, new_app, with_rule, with_subcommand}
use Rattle.command_line.specs.Options.{Given, options_in, value_of}
use Rattle.command_line.specs.Programs.{option_rule, program_app}

-- the two files of a merge
pub record Names : Type 0 where
  pub base : List ℕ
  pub diff : List ℕ

-- the diff that is converted, and the file that it is written to
pub record Conversion : Type 0 where
  pub from : List ℕ
  pub to : List ℕ

pub data Edit : Type 0 where
  Rebase : Names → Edit
  Convert : Conversion → Edit

-- ---- both options of a command, in either order, each once

abbrev pub names_by : Option (List ℕ) → Option (List ℕ) → Option Names
names_by (Some base) (Some diff) = Some (record { base = base; diff = diff })
names_by base diff = None

abbrev pub conversion_by : Option (List ℕ) → Option (List ℕ) → Option Conversion
conversion_by (Some from) (Some to) = Some (record { from = from; to = to })
conversion_by from to = None

abbrev pub rebase_names : List (List ℕ)
rebase_names = codes "--memory-path" ∷ codes "--diff-path" ∷ []

abbrev pub named : List Given → Option Names
named given = names_by (value_of (codes "--memory-path") given) (value_of (codes "--diff-path") given)

abbrev pub convert_names : List (List ℕ)
convert_names = codes "--diff-path" ∷ codes "--out-path" ∷ []

abbrev pub converted : List Given → Option Conversion
converted given = conversion_by (value_of (codes "--diff-path") given) (value_of (codes "--out-path") given)

-- ---- behind the tool's name

abbrev pub edit_by : List ℕ → List (List ℕ) → Option Edit
edit_by word rest =
    if bytes_eq word (codes "rebase") then option_map Rebase (option_and_then named (options_in rebase_names [] rest))
    else (if bytes_eq word (codes "convert") then option_map Convert (option_and_then converted (options_in convert_names [] rest)) else None)

abbrev pub edit_of : List (List ℕ) → Option Edit
edit_of [] = None
edit_of (word ∷ rest) = edit_by word rest

abbrev pub edit_in : List (List ℕ) → Option Edit
edit_in [] = None
edit_in (tool ∷ words) = if bytes_eq tool (codes "edit-memory") then edit_of words else None

-- ---- the tool as `clap` is told of it, and what is found for its commands

abbrev pub rebase_app : App
rebase_app = with_rule (with_rule (new_app (codes "rebase")) (option_rule (codes "memory-path") true)) (option_rule (codes "diff-path") true)

abbrev pub convert_app : App
convert_app = with_rule (with_rule (new_app (codes "convert")) (option_rule (codes "diff-path") true)) (option_rule (codes "out-path") true)

abbrev pub tool_app : App
tool_app = with_subcommand (with_subcommand (program_app (codes "edit-memory")) rebase_app.top) convert_app.top

abbrev pub names_rows : List Row → Option Names
names_rows rows = names_by (first_of (codes "memory-path") rows) (first_of (codes "diff-path") rows)

abbrev pub conversion_rows : List Row → Option Conversion
conversion_rows rows = conversion_by (first_of (codes "diff-path") rows) (first_of (codes "out-path") rows)

abbrev pub edit_rows : Text → List Row → Option Edit
edit_rows name rows =
    if bytes_eq name (codes "rebase") then option_map Rebase (names_rows rows)
    else (if bytes_eq name (codes "convert") then option_map Convert (conversion_rows rows) else None)

abbrev pub edit_found : Option (Text × List Row) → Option Edit
edit_found entered = option_and_then (λ p. edit_rows p.0 p.1) entered
