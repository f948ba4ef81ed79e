-- Tokens, which a guest asks for and hands in again.
use Rattle.std.specs.Prelude.{ℕ, ◌-◌, ◌*◌, ◌==◌, ◌&&◌, Bool, false, if◌then◌else◌, nat_lt, nat_le, List, Option, Some, None}
use Rattle.std.specs.List.{list_any}
use Rattle.std.specs.Str.Parse.{digits_value}
use Rattle.http_stream.specs.Body.{is_decimal}
use Rattle.script_words.specs.Numbers.{word_of}
use Rattle.metadata_service.specs.declared.token.Token.{Token}

-- in seconds
abbrev pub longest_life : ℕ
longest_life = 21600

-- nanoseconds in a second
abbrev pub second : ℕ
second = 1000000000

-- decimal digits of 1 to 21,600 seconds
abbrev pub life_of : List ℕ → Option ℕ
life_of text =
    if is_decimal text && nat_le 1 (digits_value 10 text) && nat_le (digits_value 10 text) longest_life
    then Some (digits_value 10 text) else None

-- at this moment of guest time, in nanoseconds
abbrev pub is_live : ℕ → Token → Bool
is_live now t = nat_lt (now - t.made) (t.seconds * second)

-- the word is that of a live token
abbrev pub is_known : ℕ → List Token → Option ℕ → Bool
is_known now tokens None = false
is_known now tokens (Some word) = list_any (λ t. (t.word == word) && is_live now t) tokens

-- the text is the sixteen lower-case digits of such a word
abbrev pub accepts : ℕ → List Token → List ℕ → Bool
accepts now tokens text = is_known now tokens (word_of text)
