-- What a line asks for.
use Rattle.std.specs.Prelude.{ℕ, ◌==◌, nat_le, if◌then◌else◌, List, [], ◌∷◌, length, codes, Option, Some, None, option_and_then, option_map}
use Rattle.script_text.specs.declared.item.HostReply.{HostReply}
use Rattle.script_text.specs.declared.item.HostReply.TheVariants as answer
use Rattle.script_text.specs.declared.item.Item.{Item}
use Rattle.script_text.specs.declared.item.Item.TheVariants as item
use Rattle.script_words.specs.Numbers.{address_of, bytes_of, number_within, numbered, word_of}
use Rattle.script_words.specs.Words.{after, bare, cut, or_else, some_word, two, name_of}
use Rattle.script_words.specs.Actors.{actor_of, hart_of}

-- the longest line, without its LF
abbrev pub longest : ℕ
longest = 1048576

-- `file PATH HEX`
abbrev pub file_of : List ℕ → Option Item
file_of rest = two name_of bytes_of item.File rest

-- PATH, and BODY behind a space; without one there is no body
abbrev pub target_by : List ℕ → Option (List ℕ × List ℕ) → List ℕ × List ℕ
target_by rest None = (rest, [])
target_by rest (Some parts) = parts

abbrev pub some_target : List ℕ × List ℕ → Option (List ℕ × List ℕ)
some_target target = if length target.0 == 0 then None else Some target

abbrev pub target_of : List ℕ → Option (List ℕ × List ℕ)
target_of rest = some_target (target_by rest (cut rest))

abbrev pub api_call : List ℕ → List ℕ × List ℕ → Item
api_call method target = item.Api method target.0 target.1

-- `api METHOD PATH` or `api METHOD PATH BODY`: the words are any, and BODY is the rest of the line
abbrev pub api_of : List ℕ → Option Item
api_of rest = two some_word target_of api_call rest

-- `step ACTOR N`, N from 1 to 1,000,000,000
abbrev pub step_of : List ℕ → Option Item
step_of rest = two actor_of (number_within 1 1000000000) item.Step rest

-- what a host object is said to answer: a word alone
abbrev pub plain_answer : List ℕ → Option HostReply
plain_answer rest =
    or_else (bare (codes "ok") answer.Done rest)
    (or_else (bare (codes "fail") answer.Failed rest) (bare (codes "none") answer.Nothing rest))

-- a word and a number: N of 64 bits, a frame's length and a connection of 32
abbrev pub numbered_answer : List ℕ → Option HostReply
numbered_answer rest =
    or_else (option_map answer.Now (numbered (codes "now ") 18446744073709551615 rest))
    (or_else (option_map answer.Frame (numbered (codes "frame ") 4294967295 rest))
    (or_else (option_map answer.Opened (numbered (codes "new ") 4294967295 rest))
    (or_else (option_map answer.Ended (numbered (codes "ended ") 4294967295 rest))
    (option_map answer.Dialled (numbered (codes "dialled ") 4294967295 rest)))))

-- bytes: of a part at most 64, and on a connection any number
abbrev pub short_part : List ℕ → Option HostReply
short_part bytes = if nat_le (length bytes) 64 then Some (answer.Part bytes) else None

abbrev pub part_of : List ℕ → Option HostReply
part_of text = option_and_then short_part (bytes_of text)

abbrev pub received_of : List ℕ → Option HostReply
received_of rest = two (number_within 0 4294967295) bytes_of answer.Received rest

-- a word of 64 bits, as sixteen digits
abbrev pub drawn_answer : List ℕ → Option HostReply
drawn_answer rest = option_map answer.Word (after (codes "word ") word_of rest)

abbrev pub answer_of : List ℕ → Option HostReply
answer_of rest =
    or_else (plain_answer rest)
    (or_else (numbered_answer rest)
    (or_else (after (codes "part ") part_of rest)
    (or_else (after (codes "bytes ") received_of rest) (drawn_answer rest))))

-- `reply ACTOR R`
abbrev pub reply_of : List ℕ → Option Item
reply_of rest = two actor_of answer_of item.Reply rest

-- `reg hK N`, N from 0 to 32
abbrev pub register_of : List ℕ → Option Item
register_of rest = two hart_of (number_within 0 32) item.Register rest

-- `mem ADDR LEN`, LEN from 1 to 64
abbrev pub memory_of : List ℕ → Option Item
memory_of rest = two address_of (number_within 1 64) item.Memory rest

-- of the host's side
abbrev pub host_line : List ℕ → Option Item
host_line line =
    or_else (after (codes "file ") file_of line) (option_map item.Lineage (after (codes "lineage ") word_of line))

-- of the connection
abbrev pub connection_line : List ℕ → Option Item
connection_line line =
    or_else (bare (codes "conn") item.Connect line)
    (or_else (option_map item.Bytes (after (codes "bytes ") bytes_of line)) (after (codes "api ") api_of line))

-- of the actors
abbrev pub actor_line : List ℕ → Option Item
actor_line line = or_else (after (codes "step ") step_of line) (after (codes "reply ") reply_of line)

-- of what is shown
abbrev pub shown_line : List ℕ → Option Item
shown_line line =
    or_else (bare (codes "console") item.Console line)
    (or_else (after (codes "reg ") register_of line) (after (codes "mem ") memory_of line))

abbrev pub worded : List ℕ → Option Item
worded line = or_else (host_line line) (or_else (connection_line line) (or_else (actor_line line) (shown_line line)))

-- an empty line and a comment ask for nothing
abbrev pub shape_of : List ℕ → Option Item
shape_of [] = Some item.Nothing
shape_of (c ∷ line) = if c == 35 then Some item.Nothing else worded (c ∷ line)

-- the item that a line is, if it is one
abbrev pub item_of : List ℕ → Option Item
item_of line = if nat_le (length line) longest then shape_of line else None
