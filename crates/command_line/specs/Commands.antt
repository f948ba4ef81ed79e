-- What the words of the program `firecracker` say, those behind its name.
use Rattle.std.specs.Prelude.{ℕ, Bool, if◌then◌else◌, List, [], ◌∷◌, codes, Option, Some, None, is_some, option_and_then, option_map}
use Rattle.std.specs.Str.{bytes_eq}
use Rattle.command_line.specs.MachineId.{machine_id}
use Rattle.command_line.specs.Numbers.{one_number}
use Rattle.command_line.specs.Options.{Given, options_in, value_of}

-- the socket, the id and the trace of a machine that is served
pub record ServeWords : Type 0 where
  pub socket : List ℕ
  pub id : List ℕ
  pub trace : Option (List ℕ)

-- a command: a replay on a machine of this id, a machine that is served, or the script of a number, written or run
pub data Command : Type 0 where
  Replay : List ℕ → Command
  Serve : ServeWords → Command
  Generate : ℕ → Command
  Run : ℕ → Command

-- `[--id ID]`
abbrev pub replay_names : List (List ℕ)
replay_names = codes "--id" ∷ []

abbrev pub replay_given : List Given → Option (List ℕ)
replay_given given = machine_id (value_of (codes "--id") given)

-- `--api-sock PATH [--id ID] [--trace FILE]`
abbrev pub serve_names : List (List ℕ)
serve_names = codes "--api-sock" ∷ codes "--id" ∷ codes "--trace" ∷ []

abbrev pub serve_by : Option (List ℕ) → Option (List ℕ) → Option (List ℕ) → Option ServeWords
serve_by (Some socket) (Some id) trace = Some (record { socket = socket; id = id; trace = trace })
serve_by socket id trace = None

abbrev pub serve_given : List Given → Option ServeWords
serve_given given =
    serve_by (value_of (codes "--api-sock") given) (machine_id (value_of (codes "--id") given)) (value_of (codes "--trace") given)

-- by the first word, and those behind it
abbrev pub command_in : List ℕ → List (List ℕ) → Option Command
command_in word rest =
    if bytes_eq word (codes "replay") then option_map Replay (option_and_then replay_given (options_in replay_names [] rest))
    else (if bytes_eq word (codes "serve") then option_map Serve (option_and_then serve_given (options_in serve_names [] rest))
    else (if bytes_eq word (codes "generate") then option_map Generate (one_number rest)
    else (if bytes_eq word (codes "run") then option_map Run (one_number rest) else None)))

-- the command that the words are, if they are one
unfoldable pub command_of : List (List ℕ) → Option Command
command_of [] = None
command_of (word ∷ rest) = command_in word rest

abbrev pub id_of_replay : Command → Option (List ℕ)
id_of_replay (Replay id) = Some id
id_of_replay command = None

abbrev pub words_of_serve : Command → Option ServeWords
words_of_serve (Serve words) = Some words
words_of_serve command = None

abbrev pub number_of_generate : Command → Option ℕ
number_of_generate (Generate number) = Some number
number_of_generate command = None

abbrev pub number_of_run : Command → Option ℕ
number_of_run (Run number) = Some number
number_of_run command = None

-- the id of the machine where the words are `replay`, the words of `serve`, and the numbers of `generate N` and of `run N`
abbrev pub replay_id : List (List ℕ) → Option (List ℕ)
replay_id words = option_and_then id_of_replay (command_of words)

abbrev pub serve_words : List (List ℕ) → Option ServeWords
serve_words words = option_and_then words_of_serve (command_of words)

abbrev pub generate_number : List (List ℕ) → Option ℕ
generate_number words = option_and_then number_of_generate (command_of words)

abbrev pub run_number : List (List ℕ) → Option ℕ
run_number words = option_and_then number_of_run (command_of words)

-- the words of a replay
abbrev pub is_replay : List (List ℕ) → Bool
is_replay words = is_some (replay_id words)
