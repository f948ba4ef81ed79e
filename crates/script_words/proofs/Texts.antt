-- Which bytes are a text.
use Rattle.std.proofs.Common.{◌≡◌, ℕ, zero, suc, ◌<◌, Bool, true, List, [], ◌∷◌, length, arith}
use Rattle.std.specs.List.{list_all}
use Rattle.std.specs.Str.{IsUtf8, IsAscii}
use Rattle.std.specs.Str.Lossy.{utf8_valid_len}
use Rattle.std.proofs.lemmas.Bool.{eq-eqb, and_parts}
use Rattle.std.proofs.lemmas.Str.{utf8_valid_len-IsUtf8}
use Rattle.script_words.specs.Words.{is_text}

pub text_is : (bytes : List ℕ) → IsUtf8 bytes → is_text bytes ≡ true
text_is bytes utf8 = eq-eqb (utf8_valid_len bytes) (length bytes) (utf8_valid_len-IsUtf8 bytes utf8)

-- bytes of which each passes a test that only ASCII passes
pub all_ascii : (p : ℕ → Bool) → ((c : ℕ) → p c ≡ true → c < 128) → (bytes : List ℕ) → list_all p bytes ≡ true → IsAscii bytes
all_ascii p each [] all i = omega arith
all_ascii p each (c ∷ cs) all zero = each c (and_parts (p c) (list_all p cs) all).0
all_ascii p each (c ∷ cs) all (suc i) = all_ascii p each cs (and_parts (p c) (list_all p cs) all).1 i
