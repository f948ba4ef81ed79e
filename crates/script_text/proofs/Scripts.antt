-- The lines of items, each with its LF, are judged as those items.
use Rattle.std.proofs.Common.{◌≡◌, ◌≢◌, ℕ, ◌/◌, ◌%◌, ◌^◌, ◌<◌, Bool, nat_lt, true, List, [], ◌∷◌, ◌++◌, map, flat_map, codes, Option, Some, refl, ◌∙◌, ap, arith, append-nil, append_assoc}
use Rattle.std.proofs.lemmas.Bool.Decides.{nat_tests}
use Rattle.std.proofs.lemmas.List.Elements.{All-append, All-cons, All-get_or, All-head, All-nil, All-tail}
use Rattle.std.specs.Fmt.{decimal}
use Rattle.std.specs.Int.{w64, to_be_bytes}
use Rattle.std.specs.List.{All, list_all}
use Rattle.vm_types.specs.declared.ids.ActorId.{ActorId}
use Rattle.vm_types.specs.declared.ids.ActorId.TheVariants.{Timer, Hart, Device}
use Rattle.script_text.specs.declared.item.HostReply.{HostReply}
use Rattle.script_text.specs.declared.item.HostReply.TheVariants as answer
use Rattle.script_text.specs.declared.item.Item.{Item}
use Rattle.script_text.specs.declared.item.Item.TheVariants as item
use Rattle.script_text.specs.Items.{item_of}
use Rattle.script_text.specs.Lines.{judged}
use Rattle.script_words.specs.Numbers.{address_text, hex_digit, hex_of, is_digit, is_hex, word_text}
use Rattle.script_words.specs.Actors.{HasActorForm, actor_word}
use Rattle.script_text.specs.Written.{HasAnswerForm, HasForm, IsWritable, answer_words, body_words, line_of}
use Rattle.script_words.specs.Words.{Lacks}
use Rattle.script_words.proofs.Decimals.{decimal_digits}
use Rattle.script_words.proofs.Ends.{Free, lines_under}
use Rattle.script_words.proofs.Forms.{address_is_hex}
use Rattle.script_words.proofs.Lacking.{lacks_failing}
use Rattle.script_text.proofs.LineWrites.{item_writes}

pub join : (a b : List ℕ) → Lacks 10 a → Lacks 10 b → Lacks 10 (a ++ b)
join a b first second = All-append (λ (d : ℕ). d ≢ 10) a b first second

above : ℕ → Bool
above c = nat_lt 10 c

-- a word as it stands in the definitions
plain : (word : List ℕ) → list_all above word ≡ true → Lacks 10 word
unfolding above
plain word all = lacks_failing above 10 word refl all

space : Lacks 10 (32 ∷ [])
unfolding above
space = plain (32 ∷ []) refl

pub decimal_lacks : (n : ℕ) → n < 2 ^ 64 → Lacks 10 (decimal n)
decimal_lacks n small = lacks_failing is_digit 10 (decimal n) refl (decimal_digits n small)

high : (n : ℕ) → hex_digit n ≢ 10
high n is = grind (arith, nat_tests)

hex_lacks : (bytes : List ℕ) → Lacks 10 (hex_of bytes)
hex_lacks [] = All-nil (λ (d : ℕ). d ≢ 10)
hex_lacks (byte ∷ bytes) =
    All-cons (λ (d : ℕ). d ≢ 10) (hex_digit (byte / 16)) (hex_digit (byte % 16) ∷ hex_of bytes) (high (byte / 16))
    (All-cons (λ (d : ℕ). d ≢ 10) (hex_digit (byte % 16)) (hex_of bytes) (high (byte % 16)) (hex_lacks bytes))

actor_lacks_lf : (actor : ActorId) → HasActorForm actor → Lacks 10 (actor_word actor)
unfolding above
actor_lacks_lf Timer form = plain (codes "t") refl
actor_lacks_lf (Hart h) form = join (codes "h") (decimal h) (plain (codes "h") refl) (decimal_lacks h (omega arith))
actor_lacks_lf (Device d) form = join (codes "d") (decimal d) (plain (codes "d") refl) (decimal_lacks d (omega arith))

answer_lacks : (reply : HostReply) → HasAnswerForm reply → Lacks 10 (answer_words reply)
unfolding above
answer_lacks answer.Done form = plain (codes "ok") refl
answer_lacks answer.Failed form = plain (codes "fail") refl
answer_lacks answer.Nothing form = plain (codes "none") refl
answer_lacks (answer.Now n) form = join (codes "now ") (decimal n) (plain (codes "now ") refl) (decimal_lacks n form)
answer_lacks (answer.Part piece) form = join (codes "part ") (hex_of piece) (plain (codes "part ") refl) (hex_lacks piece)
answer_lacks (answer.Frame n) form = join (codes "frame ") (decimal n) (plain (codes "frame ") refl) (decimal_lacks n (omega (arith, form)))
answer_lacks (answer.Opened n) form = join (codes "new ") (decimal n) (plain (codes "new ") refl) (decimal_lacks n (omega (arith, form)))
answer_lacks (answer.Received n bytes) form =
    join (codes "bytes " ++ decimal n ++ (32 ∷ [])) (hex_of bytes)
    (join (codes "bytes " ++ decimal n) (32 ∷ []) (join (codes "bytes ") (decimal n) (plain (codes "bytes ") refl) (decimal_lacks n (omega (arith, form.0)))) space)
    (hex_lacks bytes)
answer_lacks (answer.Ended n) form = join (codes "ended ") (decimal n) (plain (codes "ended ") refl) (decimal_lacks n (omega (arith, form)))
answer_lacks (answer.Dialled n) form = join (codes "dialled ") (decimal n) (plain (codes "dialled ") refl) (decimal_lacks n (omega (arith, form)))
answer_lacks (answer.Word word) form = join (codes "word ") (word_text word) (plain (codes "word ") refl) (hex_lacks (to_be_bytes w64 word))

body_lacks : (body : List ℕ) → Lacks 10 body → Lacks 10 (body_words body)
body_lacks [] lacks = lacks
body_lacks (c ∷ body) lacks = join (32 ∷ []) (c ∷ body) space lacks

-- a word, two words and a space between them
two_lack : (word first second : List ℕ) → Lacks 10 word → Lacks 10 first → Lacks 10 second → Lacks 10 (word ++ first ++ (32 ∷ []) ++ second)
two_lack word first second a b d = join (word ++ first ++ (32 ∷ [])) second (join (word ++ first) (32 ∷ []) (join word first a b) space) d

line_lacks : (it : Item) → HasForm it → Lacks 10 (line_of it)
unfolding above
line_lacks item.Nothing form = All-nil (λ (d : ℕ). d ≢ 10)
line_lacks (item.File name content) form = two_lack (codes "file ") name (hex_of content) (plain (codes "file ") refl) form.0.one_line (hex_lacks content)
line_lacks (item.Lineage lineage) form = join (codes "lineage ") (word_text lineage) (plain (codes "lineage ") refl) (hex_lacks (to_be_bytes w64 lineage))
line_lacks item.Connect form = plain (codes "conn") refl
line_lacks (item.Bytes bytes) form = join (codes "bytes ") (hex_of bytes) (plain (codes "bytes ") refl) (hex_lacks bytes)
line_lacks (item.Api method path body) form =
    join (codes "api " ++ method ++ (32 ∷ []) ++ path) (body_words body)
    (two_lack (codes "api ") method path (plain (codes "api ") refl) form.0.one_line form.1.one_line) (body_lacks body form.2)
line_lacks (item.Step actor count) form =
    two_lack (codes "step ") (actor_word actor) (decimal count) (plain (codes "step ") refl) (actor_lacks_lf actor form.0) (decimal_lacks count (omega (arith, form.2)))
line_lacks (item.Reply actor reply) form =
    two_lack (codes "reply ") (actor_word actor) (answer_words reply) (plain (codes "reply ") refl) (actor_lacks_lf actor form.0) (answer_lacks reply form.1)
line_lacks item.Console form = plain (codes "console") refl
line_lacks (item.Register hart number) form =
    two_lack (codes "reg ") (actor_word (Hart hart)) (decimal number) (plain (codes "reg ") refl) (actor_lacks_lf (Hart hart) form.0) (decimal_lacks number (omega (arith, form.1)))
line_lacks (item.Memory address len) form =
    two_lack (codes "mem ") (address_text address) (decimal len) (plain (codes "mem ") refl)
    (lacks_failing is_hex 10 (address_text address) refl (address_is_hex address form.0)) (decimal_lacks len (omega (arith, form.2)))

free_of : (line : List ℕ) → Lacks 10 line → Free line
free_of line lacks k lt = All-get_or (λ (d : ℕ). d ≢ 10) line k 0 lt lacks

one_judged : (line rest : List ℕ) → Free line → judged (line ++ (10 ∷ []) ++ rest) ≡ item_of line ∷ judged rest
one_judged line rest free =
    ap judged (append_assoc line (10 ∷ []) rest)
    ∙ (ap (map item_of) (lines_under line (10 ∷ rest) free) ∙ ap (λ (xs : List ℕ). item_of xs ∷ judged rest) (append-nil line))

pub script_judged : (items : List Item) → All IsWritable items → judged (flat_map (λ it. line_of it ++ 10 ∷ []) items) ≡ map (λ it. Some it) items
script_judged [] each = refl
script_judged (it ∷ items) each =
    let is : IsWritable it = All-head IsWritable it items each in
    one_judged (line_of it) (flat_map (λ i. line_of i ++ 10 ∷ []) items) (free_of (line_of it) (line_lacks it is.form))
    ∙ (ap (λ (o : Option Item). o ∷ judged (flat_map (λ i. line_of i ++ 10 ∷ []) items)) (item_writes it is)
    ∙ ap (λ (os : List (Option Item)). Some it ∷ os) (script_judged items (All-tail IsWritable it items each)))
