-- The line that an item is written as is read as it.
use Rattle.std.proofs.Common.{◌≡◌, ℕ, ◌<◌, ◌≤◌, ◌==◌, nat_le, true, List, [], ◌∷◌, ◌++◌, length, Option, Some, None, option_and_then, refl, ◌∙◌, ap, arith, append-nil, append_assoc}
use Rattle.std.proofs.lemmas.Bool.{cond-true, eq-eqb, le-leb, ne_eqb}
use Rattle.std.specs.Fmt.{decimal}
use Rattle.std.specs.Option.{option_map}
use Rattle.vm_types.specs.declared.ids.ActorId.{ActorId}
use Rattle.vm_types.specs.declared.ids.ActorId.TheVariants.{Hart}
use Rattle.script_text.specs.declared.item.HostReply.{HostReply}
use Rattle.script_text.specs.declared.item.Item.{Item}
use Rattle.script_text.specs.declared.item.Item.TheVariants as item
use Rattle.script_words.specs.Actors.{actor_of, hart_of, actor_word}
use Rattle.script_text.specs.Items.{answer_of, api_call, api_of, file_of, item_of, longest, memory_of, register_of, reply_of, shape_of, some_target, step_of, target_by, target_of, worded}
use Rattle.script_words.specs.Words.{name_of, is_text, or_else, parted, some_word, text_of}
use Rattle.script_words.specs.Numbers.{address_of, address_text, bytes_of, hex_of, is_hex, number_within, word_of, word_text}
use Rattle.script_text.specs.Written.{HasForm, IsComment, IsWord, IsWritable, answer_words, body_words, line_of}
use Rattle.script_words.proofs.ActorWords.{actor_lacks, actor_writes, first, hart_writes}
use Rattle.script_text.proofs.ActorForms.{answer_writes, words_are}
use Rattle.script_words.proofs.Forms.{address_writes, address_is_hex, within_writes, word_writes}
use Rattle.script_words.proofs.Hex.{hex_writes}
use Rattle.script_words.proofs.Lacking.{lacks_failing, none_found}
use Rattle.script_words.proofs.Parting.{cut_writes, two_writes, unless_writes}

some_word_writes : (word : List ℕ) → 0 < length word → some_word word ≡ Some word
some_word_writes [] some = absurd (omega arith)
some_word_writes (c ∷ word) some =
    unless_writes (length (c ∷ word) == 0) (c ∷ word) (ne_eqb (length (c ∷ word)) 0 (λ none. omega (arith, none)))

name_writes : (name : List ℕ) → 0 < length name → is_text name ≡ true → name_of name ≡ Some name
name_writes name some text =
    ap (option_and_then text_of) (some_word_writes name some) ∙ cond-true (is_text name) (Some name) None text

file_writes : (name content : List ℕ) → HasForm (item.File name content) → file_of (name ++ (32 ∷ []) ++ hex_of content) ≡ Some (item.File name content)
file_writes name content form =
    ap file_of (words_are name (hex_of content))
    ∙ two_writes name_of bytes_of item.File name (hex_of content) name content form.0.spaceless (name_writes name form.0.some form.1) (hex_writes content form.2)

target_some : (path body : List ℕ) → 0 < length path → some_target (path, body) ≡ Some (path, body)
target_some [] body some = absurd (omega arith)
target_some (c ∷ path) body some =
    unless_writes {A = List ℕ × List ℕ} (length (c ∷ path) == 0) (c ∷ path, body) (ne_eqb (length (c ∷ path)) 0 (λ none. omega (arith, none)))

target_writes : (path body : List ℕ) → IsWord path → target_of (path ++ body_words body) ≡ Some (path, body)
target_writes path [] is =
    ap target_of (append-nil path)
    ∙ (ap (λ (at : Option ℕ). some_target (target_by path (parted path at))) (none_found path is.spaceless) ∙ target_some path [] is.some)
target_writes path (c ∷ body) is =
    ap (λ (o : Option (List ℕ × List ℕ)). some_target (target_by (path ++ 32 ∷ c ∷ body) o)) (cut_writes path (c ∷ body) is.spaceless)
    ∙ target_some path (c ∷ body) is.some

api_writes : (method path body : List ℕ) → IsWord method → IsWord path
    → api_of (method ++ (32 ∷ []) ++ path ++ body_words body) ≡ Some (item.Api method path body)
api_writes method path body is_method is_path =
    let parts : method ++ (32 ∷ []) ++ path ++ body_words body ≡ method ++ 32 ∷ (path ++ body_words body) =
    append_assoc (method ++ (32 ∷ [])) path (body_words body) ∙ append_assoc method (32 ∷ []) (path ++ body_words body) in
    ap api_of parts
    ∙ two_writes some_word target_of api_call method (path ++ body_words body) method (path, body) is_method.spaceless
    (some_word_writes method is_method.some) (target_writes path body is_path)

step_writes : (actor : ActorId) (count : ℕ) → HasForm (item.Step actor count) → step_of (actor_word actor ++ (32 ∷ []) ++ decimal count) ≡ Some (item.Step actor count)
step_writes actor count form =
    ap step_of (words_are (actor_word actor) (decimal count))
    ∙ two_writes actor_of (number_within 1 1000000000) item.Step (actor_word actor) (decimal count) actor count (actor_lacks actor form.0)
    (actor_writes actor form.0) (within_writes 1 1000000000 count form.1 form.2 (omega (arith, form.2)))

reply_writes : (actor : ActorId) (reply : HostReply) → HasForm (item.Reply actor reply) → reply_of (actor_word actor ++ (32 ∷ []) ++ answer_words reply) ≡ Some (item.Reply actor reply)
reply_writes actor reply form =
    ap reply_of (words_are (actor_word actor) (answer_words reply))
    ∙ two_writes actor_of answer_of item.Reply (actor_word actor) (answer_words reply) actor reply (actor_lacks actor form.0)
    (actor_writes actor form.0) (answer_writes reply form.1)

register_writes : (hart number : ℕ) → HasForm (item.Register hart number)
    → register_of (actor_word (Hart hart) ++ (32 ∷ []) ++ decimal number) ≡ Some (item.Register hart number)
register_writes hart number form =
    ap register_of (words_are (actor_word (Hart hart)) (decimal number))
    ∙ two_writes hart_of (number_within 0 32) item.Register (actor_word (Hart hart)) (decimal number) hart number (actor_lacks (Hart hart) form.0)
    (hart_writes hart form.0) (within_writes 0 32 number (omega arith) form.1 (omega (arith, form.1)))

memory_writes : (address len : ℕ) → HasForm (item.Memory address len)
    → memory_of (address_text address ++ (32 ∷ []) ++ decimal len) ≡ Some (item.Memory address len)
memory_writes address len form =
    ap memory_of (words_are (address_text address) (decimal len))
    ∙ two_writes address_of (number_within 1 64) item.Memory (address_text address) (decimal len) address len
    (lacks_failing is_hex 32 (address_text address) refl (address_is_hex address form.0))
    (address_writes address form.0) (within_writes 1 64 len form.1 form.2 (omega (arith, form.2)))

-- an item of the second kind of its group, and of the first
second : (x : Option Item) (it : Item) → x ≡ Some it → or_else x None ≡ Some it
second x it is = first x None it is

inner : (x : Option Item) (it : Item) → x ≡ Some it → or_else (or_else x None) None ≡ Some it
inner x it is = first (or_else x None) None it (first x None it is)

shape_writes : (it : Item) → HasForm it → shape_of (line_of it) ≡ Some it
shape_writes item.Nothing form = refl
shape_writes (item.File name content) form =
    inner (file_of (name ++ (32 ∷ []) ++ hex_of content)) (item.File name content) (file_writes name content form)
shape_writes (item.Lineage lineage) form =
    second (option_map item.Lineage (word_of (word_text lineage))) (item.Lineage lineage) (ap (option_map item.Lineage) (word_writes lineage form))
shape_writes item.Connect form = refl
shape_writes (item.Bytes bytes) form =
    inner (option_map item.Bytes (bytes_of (hex_of bytes))) (item.Bytes bytes) (ap (option_map item.Bytes) (hex_writes bytes form))
shape_writes (item.Api method path body) form =
    second (api_of (method ++ (32 ∷ []) ++ path ++ body_words body)) (item.Api method path body) (api_writes method path body form.0 form.1)
shape_writes (item.Step actor count) form =
    inner (step_of (actor_word actor ++ (32 ∷ []) ++ decimal count)) (item.Step actor count) (step_writes actor count form)
shape_writes (item.Reply actor reply) form =
    second (reply_of (actor_word actor ++ (32 ∷ []) ++ answer_words reply)) (item.Reply actor reply) (reply_writes actor reply form)
shape_writes item.Console form = refl
shape_writes (item.Register hart number) form =
    second (register_of (actor_word (Hart hart) ++ (32 ∷ []) ++ decimal number)) (item.Register hart number) (register_writes hart number form)
shape_writes (item.Memory address len) form = memory_writes address len form

short_writes : (line : List ℕ) (it : Item) → length line ≤ longest → shape_of line ≡ Some it → item_of line ≡ Some it
short_writes line it short is = cond-true (nat_le (length line) longest) (shape_of line) None (le-leb (length line) longest short) ∙ is

pub item_writes : (it : Item) → IsWritable it → item_of (line_of it) ≡ Some it
item_writes it is = short_writes (line_of it) it is.short (shape_writes it is.form)

comment_shape : (line : List ℕ) → IsComment line → shape_of line ≡ Some item.Nothing
comment_shape [] is = refl
comment_shape (c ∷ line) is = cond-true (c == 35) (Some item.Nothing) (worded (c ∷ line)) (eq-eqb c 35 is)

pub comment_writes : (line : List ℕ) → IsComment line → length line ≤ longest → item_of line ≡ Some item.Nothing
comment_writes line is short = short_writes line item.Nothing short (comment_shape line is)
