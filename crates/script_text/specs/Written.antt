-- The line that an item is written as, and the other spellings that are read as it.
use Rattle.std.specs.Prelude.{◌≡◌, ◌⊎◌, ℕ, ◌^◌, ◌<◌, ◌≤◌, IsTrue, List, [], ◌∷◌, ◌++◌, length, codes, Some}
use Rattle.std.specs.Fmt.{decimal}
use Rattle.std.specs.List.{All}
use Rattle.vm_types.specs.declared.ids.ActorId.TheVariants.{Hart}
use Rattle.script_text.specs.declared.item.HostReply.{HostReply}
use Rattle.script_text.specs.declared.item.HostReply.TheVariants as answer
use Rattle.script_text.specs.declared.item.Item.{Item}
use Rattle.script_text.specs.declared.item.Item.TheVariants as item
use Rattle.script_text.specs.Items.{longest}
use Rattle.script_words.specs.Numbers.{address_of, address_text, hex_of, word_text}
use Rattle.script_words.specs.Words.{is_text, Lacks}
use Rattle.script_words.specs.Actors.{HasActorForm, actor_word}

abbrev pub answer_words : HostReply → List ℕ
answer_words answer.Done = codes "ok"
answer_words answer.Failed = codes "fail"
answer_words answer.Nothing = codes "none"
answer_words (answer.Now nanoseconds) = codes "now " ++ decimal nanoseconds
answer_words (answer.Part piece) = codes "part " ++ hex_of piece
answer_words (answer.Frame len) = codes "frame " ++ decimal len
answer_words (answer.Opened connection) = codes "new " ++ decimal connection
answer_words (answer.Received connection bytes) = codes "bytes " ++ decimal connection ++ codes " " ++ hex_of bytes
answer_words (answer.Ended connection) = codes "ended " ++ decimal connection
answer_words (answer.Dialled connection) = codes "dialled " ++ decimal connection
answer_words (answer.Word word) = codes "word " ++ word_text word

abbrev pub body_words : List ℕ → List ℕ
body_words [] = []
body_words (c ∷ body) = codes " " ++ c ∷ body

-- the line, without its LF; what asks for nothing is written as the empty line
abbrev pub line_of : Item → List ℕ
line_of item.Nothing = []
line_of (item.File name content) = codes "file " ++ name ++ codes " " ++ hex_of content
line_of (item.Lineage lineage) = codes "lineage " ++ word_text lineage
line_of item.Connect = codes "conn"
line_of (item.Bytes bytes) = codes "bytes " ++ hex_of bytes
line_of (item.Api method path body) = codes "api " ++ method ++ codes " " ++ path ++ body_words body
line_of (item.Step actor count) = codes "step " ++ actor_word actor ++ codes " " ++ decimal count
line_of (item.Reply actor reply) = codes "reply " ++ actor_word actor ++ codes " " ++ answer_words reply
line_of item.Console = codes "console"
line_of (item.Register hart number) = codes "reg " ++ actor_word (Hart hart) ++ codes " " ++ decimal number
line_of (item.Memory address len) = codes "mem " ++ address_text address ++ codes " " ++ decimal len

-- one byte or more, and neither a space nor an LF
pub record IsWord (word : List ℕ) : Type 0 where
  pub some : 0 < length word
  pub spaceless : Lacks 32 word
  pub one_line : Lacks 10 word

abbrev pub AreBytes : List ℕ → Type 0
AreBytes bytes = All (λ byte. byte < 256) bytes

abbrev pub HasAnswerForm : HostReply → Type 0
HasAnswerForm answer.Done = Unit {0}
HasAnswerForm answer.Failed = Unit {0}
HasAnswerForm answer.Nothing = Unit {0}
HasAnswerForm (answer.Now nanoseconds) = nanoseconds < 2 ^ 64
HasAnswerForm (answer.Part piece) = (length piece ≤ 64) × AreBytes piece
HasAnswerForm (answer.Frame len) = len < 2 ^ 32
HasAnswerForm (answer.Opened connection) = connection < 2 ^ 32
HasAnswerForm (answer.Received connection bytes) = (connection < 2 ^ 32) × AreBytes bytes
HasAnswerForm (answer.Ended connection) = connection < 2 ^ 32
HasAnswerForm (answer.Dialled connection) = connection < 2 ^ 32
HasAnswerForm (answer.Word word) = word < 2 ^ 64

abbrev pub HasForm : Item → Type 0
HasForm item.Nothing = Unit {0}
HasForm (item.File name content) = IsWord name × IsTrue (is_text name) × AreBytes content
HasForm (item.Lineage lineage) = lineage < 2 ^ 64
HasForm item.Connect = Unit {0}
HasForm (item.Bytes bytes) = AreBytes bytes
HasForm (item.Api method path body) = IsWord method × IsWord path × Lacks 10 body
HasForm (item.Step actor count) = HasActorForm actor × (1 ≤ count) × (count ≤ 1000000000)
HasForm (item.Reply actor reply) = HasActorForm actor × HasAnswerForm reply
HasForm item.Console = Unit {0}
HasForm (item.Register hart number) = (hart ≤ 255) × (number ≤ 32)
HasForm (item.Memory address len) = (address < 2 ^ 64) × (1 ≤ len) × (len ≤ 64)

-- the items that have a line
pub record IsWritable (it : Item) : Type 0 where
  pub form : HasForm it
  pub short : length (line_of it) ≤ longest

-- a line that asks for nothing
abbrev pub IsComment : List ℕ → Type 0
IsComment [] = Unit {0}
IsComment (c ∷ line) = c ≡ 35

-- digits of that address, and behind a space the length
pub record IsLook (line : List ℕ) (address len : ℕ) : Type 0 where
  pub digits : List ℕ
  pub spells : address_of digits ≡ Some address
  pub parts : line ≡ codes "mem " ++ digits ++ codes " " ++ decimal len

-- The lines that are read as an item: its own; of nothing each comment too, of a request without a body the
-- one that ends in a space too, and of an address any digits that spell it.
abbrev pub IsSpelling : Item → List ℕ → Type 0
IsSpelling item.Nothing line = IsComment line
IsSpelling (item.Api method path []) line =
    (line ≡ line_of (item.Api method path [])) ⊎ (line ≡ line_of (item.Api method path []) ++ 32 ∷ [])
IsSpelling (item.Memory address len) line = IsLook line address len
IsSpelling it line = line ≡ line_of it
