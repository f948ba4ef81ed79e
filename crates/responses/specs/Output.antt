-- The lines that a replay writes.
use Rattle.std.specs.Prelude.{ℕ, ◌/◌, ◌%◌, ◌==◌, nat_le, ◌&&◌, not, if◌then◌else◌, List, [], ◌∷◌, ◌++◌, codes, Option, Some, None, flat_map}
use Rattle.std.specs.Fmt.{decimal}
use Rattle.vm_types.specs.declared.exit.Object.TheVariants as object
use Rattle.vm_types.specs.declared.exit.Exit.{Exit}
use Rattle.api_rules.specs.declared.answer.Answer.{Answer}
use Rattle.script_words.specs.Numbers.{hex_digit}

abbrev pub body_part : Option (List ℕ) → List ℕ
body_part None = []
body_part (Some body) = 32 ∷ body

-- `< S` or `< S BODY`
abbrev pub reply_line : Answer → List ℕ
reply_line answer = codes "< " ++ decimal answer.status ++ body_part answer.body ++ codes "\n"

-- a byte of the console: 0x20 to 0x7e but the backslash as they are, others as `\x` and two digits
abbrev pub shown : ℕ → List ℕ
shown c =
    if nat_le 32 c && nat_le c 126 && not (c == 92) then c ∷ []
    else 92 ∷ 120 ∷ hex_digit (c / 16) ∷ hex_digit (c % 16) ∷ []

-- `! TEXT` for what was drained, and nothing where there was nothing
abbrev pub console_line : List ℕ → List ℕ
console_line [] = []
console_line (c ∷ bytes) = codes "! " ++ flat_map shown (c ∷ bytes) ++ codes "\n"

-- the guest is off
abbrev pub off_line : List ℕ
off_line = codes ". off\n"

-- the last line of a run that ended otherwise; a sink that failed is told nothing
abbrev pub last_line : Exit → List ℕ
last_line Exit.Done = []
last_line Exit.Usage = codes ". usage\n"
last_line (Exit.Script line) = codes ". script " ++ decimal line ++ codes "\n"
last_line (Exit.Fault object.Source) = codes ". fault Source\n"
last_line (Exit.Fault object.Sink) = []
last_line (Exit.Fault object.Files) = codes ". fault Files\n"
last_line (Exit.Fault object.Trace) = codes ". fault Trace\n"
last_line (Exit.Fault object.Listener) = codes ". fault Listener\n"
last_line (Exit.Fault object.Words) = codes ". fault Words\n"
last_line Exit.OutOfMemory = codes ". memory\n"
