-- A line that is read as an item is one of its spellings.
use Rattle.std.proofs.Common.{◌≡◌, ◌⊎◌, ℕ, ◌+◌, ◌^◌, ◌<◌, ◌≤◌, ◌==◌, nat_le, Bool, true, false, if◌then◌else◌, List, [], ◌∷◌, ◌++◌, length, take, drop, codes, Option, Some, None, refl, sym, ◌∙◌, ap, inl, inr, subst, arith, append-nil, append_assoc, length-append}
use Rattle.std.proofs.lemmas.Bool.{eqb-true, leb-true, ne_eqb}
use Rattle.std.proofs.lemmas.Fmt.{length-decimal-le}
use Rattle.std.proofs.lemmas.Option.{cond_some, option_and_then_some, same_Some}
use Rattle.std.specs.Fmt.{decimal}
use Rattle.std.specs.List.{position}
use Rattle.std.specs.Option.{option_map}
use Rattle.vm_types.specs.declared.ids.ActorId.TheVariants.{Hart}
use Rattle.script_text.specs.declared.item.Item.{Item}
use Rattle.script_text.specs.declared.item.Item.TheVariants as item
use Rattle.script_text.specs.Items.{actor_line, answer_of, api_call, api_of, connection_line, file_of, host_line, item_of, longest, memory_of, register_of, reply_of, shape_of, shown_line, some_target, step_of, target_by, target_of, worded}
use Rattle.script_words.specs.Actors.{actor_of, hart_of, actor_word}
use Rattle.script_words.specs.Words.{name_of, after, bare, is_text, or_else, parted, some_word, text_of, Lacks}
use Rattle.script_words.specs.Numbers.{address_of, address_text, bytes_of, hex_of, number_within, word_of}
use Rattle.script_text.specs.Written.{HasForm, IsSpelling, IsWritable, body_words, line_of}
use Rattle.script_words.proofs.ActorWords.{actor_reads}
use Rattle.script_text.proofs.ActorForms.{answer_reads, line_is}
use Rattle.script_words.proofs.Forms.{address_reads, few_digits, numbered_reads, within_reads, word_reads}
use Rattle.script_words.proofs.Hex.{hex_below, hex_reads}
use Rattle.script_words.proofs.Lacking.{lacks_behind, lacks_front, lacks_unfound}
use Rattle.script_words.proofs.Spaces.{space_lacks, space_reads}
use Rattle.script_words.proofs.Parting.{after_reads, bare_reads, either, mapped, two_reads, unless_reads}

-- a spelling of the item, which has a form where the line has no LF
pub record IsRead (line : List ℕ) (it : Item) : Type 0 where
  pub spelled : IsSpelling it line
  pub form : Lacks 10 line → HasForm it

-- the words of a line without an LF have none
words_lack : (a line rest w r : List ℕ) → line ≡ a ++ rest → rest ≡ w ++ 32 ∷ r → Lacks 10 line → Lacks 10 w × Lacks 10 r
words_lack a line rest w r parts two lacks =
    let behind : Lacks 10 rest = lacks_behind 10 a rest (subst (Lacks 10) parts lacks) in
    let both : Lacks 10 (w ++ 32 ∷ r) = subst (Lacks 10) two behind in
    (lacks_front 10 w (32 ∷ r) both, lacks_behind 10 (w ++ 32 ∷ []) r (subst (Lacks 10) (sym (append_assoc w (32 ∷ []) r)) both))

pub record SomeWord (word found : List ℕ) : Type 0 where
  pub same : word ≡ found
  pub some : 0 < length found

some_word_reads : (word found : List ℕ) → some_word word ≡ Some found → SomeWord word found
some_word_reads [] found is = absurd (cc)
some_word_reads (c ∷ word) found is =
    let same : c ∷ word ≡ found = unless_reads (length (c ∷ word) == 0) (c ∷ word) found (ne_eqb (length (c ∷ word)) 0 (λ none. omega (arith, none))) is in
    record { same = same; some = subst (λ (xs : List ℕ). 0 < length xs) same (omega arith) }

pub record Name (word name : List ℕ) : Type 0 where
  pub word_is : SomeWord word name
  pub text : is_text name ≡ true

name_reads : (word name : List ℕ) → name_of word ≡ Some name → Name word name
name_reads word name is =
    option_and_then_some text_of (some_word word) name is
    (λ found first by.
    let got = cond_some (is_text found) found name by in
    subst (λ (n : List ℕ). Name word n) got.1 (record { word_is = some_word_reads word found first; text = got.0 }))

-- ---- of the host's side

file_reads : (line : List ℕ) (it : Item) → after (codes "file ") file_of line ≡ Some it → IsRead line it
file_reads line it is =
    after_reads (codes "file ") line file_of it is
    (λ rest parts by.
    let t = two_reads name_of bytes_of item.File rest it by in
    let name = name_reads t.w t.x t.is_word in
    subst (λ (i : Item). IsRead line i) (sym t.made) (record {
      spelled = line_is (codes "file ") line rest t.w t.r t.x (hex_of t.y) parts t.parts name.word_is.same (hex_reads t.r t.y t.is_rest);
      form = λ lacks. (
        record {
          some = name.word_is.some;
          spaceless = subst (Lacks 32) name.word_is.same t.spaceless;
          one_line = subst (Lacks 10) name.word_is.same (words_lack (codes "file ") line rest t.w t.r parts t.parts lacks).0;
        },
        name.text,
        hex_below t.r t.y t.is_rest,
      );
    }))

lineage_reads : (line : List ℕ) (it : Item) → option_map item.Lineage (after (codes "lineage ") word_of line) ≡ Some it → IsRead line it
lineage_reads line it is =
    mapped item.Lineage (after (codes "lineage ") word_of line) it is
    (λ word by made.
    after_reads (codes "lineage ") line word_of word by
    (λ rest parts read.
    let got = word_reads rest word read in
    subst (λ (i : Item). IsRead line i) (sym made)
    (record { spelled = parts ∙ ap (λ (xs : List ℕ). codes "lineage " ++ xs) got.0; form = λ _. got.1 })))

host_reads : (line : List ℕ) (it : Item) → host_line line ≡ Some it → IsRead line it
host_reads line it is =
    let file : Option Item = after (codes "file ") file_of line in
    let lineage : Option Item = option_map item.Lineage (after (codes "lineage ") word_of line) in
    elim (either file lineage it is) [ inl one ↦ file_reads line it one | inr one ↦ lineage_reads line it one ]

-- ---- of the connection

bare_item : (word line : List ℕ) (x it : Item) → bare word x line ≡ Some it → ((same : line ≡ word) → IsRead line x) → IsRead line it
bare_item word line x it is read =
    let got = bare_reads word line x it is in subst (λ (i : Item). IsRead line i) (sym got.1) (read got.0)

bytes_reads : (line : List ℕ) (it : Item) → option_map item.Bytes (after (codes "bytes ") bytes_of line) ≡ Some it → IsRead line it
bytes_reads line it is =
    mapped item.Bytes (after (codes "bytes ") bytes_of line) it is
    (λ bytes by made.
    after_reads (codes "bytes ") line bytes_of bytes by
    (λ rest parts read.
    subst (λ (i : Item). IsRead line i) (sym made)
    (record { spelled = parts ∙ ap (λ (xs : List ℕ). codes "bytes " ++ xs) (hex_reads rest bytes read); form = λ _. hex_below rest bytes read })))

-- a path and a body, of which the second may be left out with its space or without it
pub record Target (rest path body : List ℕ) : Type 0 where
  pub spelled : (rest ≡ path ++ body_words body) ⊎ ((body ≡ []) × (rest ≡ path ++ 32 ∷ []))
  pub some : 0 < length path
  pub spaceless : Lacks 32 path

target_made : (rest path body : List ℕ) (target : List ℕ × List ℕ) → some_target (path, body) ≡ Some target
    → (rest ≡ path ++ body_words body) ⊎ ((body ≡ []) × (rest ≡ path ++ 32 ∷ [])) → Lacks 32 path → Target rest target.0 target.1
target_made rest [] body target is spelled spaceless = absurd (cc)
target_made rest (c ∷ path) body target is spelled spaceless =
    subst (λ (t : List ℕ × List ℕ). Target rest t.0 t.1)
    (unless_reads {A = List ℕ × List ℕ} (length (c ∷ path) == 0) (c ∷ path, body) target (ne_eqb (length (c ∷ path)) 0 (λ none. omega (arith, none))) is)
    (record { spelled = spelled; some = omega arith; spaceless = spaceless })

with_body : (path body : List ℕ) → (path ++ 32 ∷ body ≡ path ++ body_words body) ⊎ ((body ≡ []) × (path ++ 32 ∷ body ≡ path ++ 32 ∷ []))
with_body path [] = inr (refl, refl)
with_body path (c ∷ body) = inl refl

target_at : (rest : List ℕ) (target : List ℕ × List ℕ) (at : Option ℕ) → position (λ c. c == 32) rest ≡ at
    → some_target (target_by rest (parted rest at)) ≡ Some target → Target rest target.0 target.1
target_at rest target None found is = target_made rest rest [] target is (inl (sym (append-nil rest))) (lacks_unfound rest found)
target_at rest target (Some i) found is =
    let P : List ℕ → Type 0 = λ (xs : List ℕ). (xs ≡ take i rest ++ body_words (drop (i + 1) rest)) ⊎ ((drop (i + 1) rest ≡ []) × (xs ≡ take i rest ++ 32 ∷ [])) in
    target_made rest (take i rest) (drop (i + 1) rest) target is
    (subst P (sym (space_reads rest i found)) (with_body (take i rest) (drop (i + 1) rest))) (space_lacks rest i found)

target_reads : (rest : List ℕ) (target : List ℕ × List ℕ) → target_of rest ≡ Some target → Target rest target.0 target.1
target_reads rest target is = target_at rest target (position (λ c. c == 32) rest) refl is

api_spelled : (method path body line : List ℕ)
    → (line ≡ line_of (item.Api method path body)) ⊎ ((body ≡ []) × (line ≡ line_of (item.Api method path []) ++ 32 ∷ []))
    → IsSpelling (item.Api method path body) line
api_spelled method path [] line (inl same) = inl same
api_spelled method path [] line (inr (none, same)) = inr same
api_spelled method path (c ∷ body) line (inl same) = same
api_spelled method path (c ∷ body) line (inr (none, same)) = absurd (cc)

api_line_is : (line rest method path body w r : List ℕ) → line ≡ codes "api " ++ rest → rest ≡ w ++ 32 ∷ r → w ≡ method
    → (r ≡ path ++ body_words body) ⊎ ((body ≡ []) × (r ≡ path ++ 32 ∷ []))
    → (line ≡ line_of (item.Api method path body)) ⊎ ((body ≡ []) × (line ≡ line_of (item.Api method path []) ++ 32 ∷ []))
api_line_is line rest method path body w r parts two word (inl same) =
    let front : List ℕ = codes "api " ++ method ++ (32 ∷ []) in
    inl (line_is (codes "api ") line rest w r method (path ++ body_words body) parts two word same ∙ sym (append_assoc front path (body_words body)))
api_line_is line rest method path body w r parts two word (inr (none, same)) =
    let front : List ℕ = codes "api " ++ method ++ (32 ∷ []) in
    inr (
      none,
      line_is (codes "api ") line rest w r method (path ++ 32 ∷ []) parts two word same
          ∙ (sym (append_assoc front path (32 ∷ [])) ∙ ap (λ (xs : List ℕ). xs ++ 32 ∷ []) (sym (append-nil (front ++ path)))),
    )

target_lacks : (r path body : List ℕ) → (r ≡ path ++ body_words body) ⊎ ((body ≡ []) × (r ≡ path ++ 32 ∷ [])) → Lacks 10 r → Lacks 10 path × Lacks 10 body
target_lacks r path [] spelled lacks = elim spelled [
  | inl same ↦ (lacks_front 10 path [] (subst (Lacks 10) same lacks), lacks_behind 10 path [] (subst (Lacks 10) same lacks))
  | inr (none, same) ↦ (lacks_front 10 path (32 ∷ []) (subst (Lacks 10) same lacks), lacks_behind 10 (32 ∷ []) [] (lacks_behind 10 path (32 ∷ []) (subst (Lacks 10) same lacks)))
]
target_lacks r path (c ∷ body) spelled lacks = elim spelled [
  | inl same ↦ (lacks_front 10 path (32 ∷ c ∷ body) (subst (Lacks 10) same lacks), lacks_behind 10 (32 ∷ []) (c ∷ body) (lacks_behind 10 path (32 ∷ c ∷ body) (subst (Lacks 10) same lacks)))
  | inr (none, same) ↦ absurd (cc)
]

api_reads : (line : List ℕ) (it : Item) → after (codes "api ") api_of line ≡ Some it → IsRead line it
api_reads line it is =
    after_reads (codes "api ") line api_of it is
    (λ rest parts by.
    let t = two_reads some_word target_of api_call rest it by in
    let method = some_word_reads t.w t.x t.is_word in
    let target = target_reads t.r t.y t.is_rest in
    subst (λ (i : Item). IsRead line i) (sym t.made) (record {
      spelled = api_spelled t.x t.y.0 t.y.1 line
          (api_line_is line rest t.x t.y.0 t.y.1 t.w t.r parts t.parts method.same target.spelled);
      form = λ lacks.
          let words = words_lack (codes "api ") line rest t.w t.r parts t.parts lacks in
          let behind = target_lacks t.r t.y.0 t.y.1 target.spelled words.1 in (
            record { some = method.some; spaceless = subst (Lacks 32) method.same t.spaceless; one_line = subst (Lacks 10) method.same words.0 },
            record { some = target.some; spaceless = target.spaceless; one_line = behind.0 },
            behind.1,
          );
    }))

connection_reads : (line : List ℕ) (it : Item) → connection_line line ≡ Some it → IsRead line it
connection_reads line it is =
    let conn : Option Item = bare (codes "conn") item.Connect line in
    let bytes : Option Item = option_map item.Bytes (after (codes "bytes ") bytes_of line) in
    let api : Option Item = after (codes "api ") api_of line in
    elim (either conn (or_else bytes api) it is) [
      | inl one ↦ bare_item (codes "conn") line item.Connect it one (λ same. record { spelled = same; form = λ _. tt })
      | inr more ↦ elim (either bytes api it more) [ inl one ↦ bytes_reads line it one | inr one ↦ api_reads line it one ]
    ]

-- ---- of the actors

step_reads : (line : List ℕ) (it : Item) → after (codes "step ") step_of line ≡ Some it → IsRead line it
step_reads line it is =
    after_reads (codes "step ") line step_of it is
    (λ rest parts by.
    let t = two_reads actor_of (number_within 1 1000000000) item.Step rest it by in
    let actor = actor_reads t.w t.x t.is_word in
    let count = within_reads 1 1000000000 t.r t.y t.is_rest in
    subst (λ (i : Item). IsRead line i) (sym t.made) (record {
      spelled = line_is (codes "step ") line rest t.w t.r (actor_word t.x) (decimal t.y) parts t.parts actor.0 count.0;
      form = λ _. (actor.1, count.1, count.2);
    }))

reply_reads : (line : List ℕ) (it : Item) → after (codes "reply ") reply_of line ≡ Some it → IsRead line it
reply_reads line it is =
    after_reads (codes "reply ") line reply_of it is
    (λ rest parts by.
    let t = two_reads actor_of answer_of item.Reply rest it by in
    let actor = actor_reads t.w t.x t.is_word in
    let reply = answer_reads t.r t.y t.is_rest in
    subst (λ (i : Item). IsRead line i) (sym t.made) (record {
      spelled = line_is (codes "reply ") line rest t.w t.r (actor_word t.x) _ parts t.parts actor.0 reply.0;
      form = λ _. (actor.1, reply.1);
    }))

actors_read : (line : List ℕ) (it : Item) → actor_line line ≡ Some it → IsRead line it
actors_read line it is =
    let step : Option Item = after (codes "step ") step_of line in
    let reply : Option Item = after (codes "reply ") reply_of line in
    elim (either step reply it is) [ inl one ↦ step_reads line it one | inr one ↦ reply_reads line it one ]

-- ---- of what is shown

register_reads : (line : List ℕ) (it : Item) → after (codes "reg ") register_of line ≡ Some it → IsRead line it
register_reads line it is =
    after_reads (codes "reg ") line register_of it is
    (λ rest parts by.
    let t = two_reads hart_of (number_within 0 32) item.Register rest it by in
    let hart = numbered_reads (codes "h") t.w 255 t.x t.is_word in
    let number = within_reads 0 32 t.r t.y t.is_rest in
    subst (λ (i : Item). IsRead line i) (sym t.made) (record {
      spelled = line_is (codes "reg ") line rest t.w t.r (actor_word (Hart t.x)) (decimal t.y) parts t.parts hart.0 number.0;
      form = λ _. (hart.1, number.2);
    }))

memory_reads : (line : List ℕ) (it : Item) → after (codes "mem ") memory_of line ≡ Some it → IsRead line it
memory_reads line it is =
    after_reads (codes "mem ") line memory_of it is
    (λ rest parts by.
    let t = two_reads address_of (number_within 1 64) item.Memory rest it by in
    let len = within_reads 1 64 t.r t.y t.is_rest in
    subst (λ (i : Item). IsRead line i) (sym t.made) (record {
      spelled = record {
        digits = t.w;
        spells = t.is_word;
        parts = line_is (codes "mem ") line rest t.w t.r t.w (decimal t.y) parts t.parts refl len.0;
      };
      form = λ _. (address_reads t.w t.x t.is_word, len.1, len.2);
    }))

shown_reads : (line : List ℕ) (it : Item) → shown_line line ≡ Some it → IsRead line it
shown_reads line it is =
    let console : Option Item = bare (codes "console") item.Console line in
    let register : Option Item = after (codes "reg ") register_of line in
    let memory : Option Item = after (codes "mem ") memory_of line in
    elim (either console (or_else register memory) it is) [
      | inl one ↦ bare_item (codes "console") line item.Console it one (λ same. record { spelled = same; form = λ _. tt })
      | inr more ↦ elim (either register memory it more) [ inl one ↦ register_reads line it one | inr one ↦ memory_reads line it one ]
    ]

-- ---- any line

worded_reads : (line : List ℕ) (it : Item) → worded line ≡ Some it → IsRead line it
worded_reads line it is =
    elim (either (host_line line) (or_else (connection_line line) (or_else (actor_line line) (shown_line line))) it is) [
      | inl one ↦ host_reads line it one
      | inr more ↦ elim (either (connection_line line) (or_else (actor_line line) (shown_line line)) it more) [
        | inl one ↦ connection_reads line it one
        | inr more2 ↦ elim (either (actor_line line) (shown_line line) it more2) [
          | inl one ↦ actors_read line it one
          | inr one ↦ shown_reads line it one
        ]
      ]
    ]

marked : (b : Bool) (c : ℕ) (line : List ℕ) (it : Item) → (c == 35) ≡ b → (if b then Some item.Nothing else worded (c ∷ line)) ≡ Some it → IsRead (c ∷ line) it
marked true c line it test is =
    subst (λ (i : Item). IsRead (c ∷ line) i) (same_Some item.Nothing it is) (record { spelled = eqb-true c 35 test; form = λ _. tt })
marked false c line it test is = worded_reads (c ∷ line) it is

shape_reads : (line : List ℕ) (it : Item) → shape_of line ≡ Some it → IsRead line it
shape_reads [] it is = subst (λ (i : Item). IsRead [] i) (same_Some item.Nothing it is) (record { spelled = tt; form = λ _. tt })
shape_reads (c ∷ line) it is = marked (c == 35) c line it refl is

chosen : {A : Type 0} (b : Bool) (x : Option A) (v : A) → (if b then x else None) ≡ Some v → (b ≡ true) × (x ≡ Some v)
chosen true x v is = (refl, is)
chosen false x v is = absurd (cc)

pub item_reads : (line : List ℕ) (it : Item) → item_of line ≡ Some it → IsSpelling it line
item_reads line it is = (shape_reads line it (chosen (nat_le (length line) longest) (shape_of line) it is).1).spelled

-- ---- how long the line of an item is

same_short : (line other : List ℕ) → line ≡ other → length line ≤ longest → length other ≤ longest
same_short line other same short = subst (λ (xs : List ℕ). length xs ≤ longest) same short

api_short : (method path line : List ℕ)
    → (line ≡ line_of (item.Api method path [])) ⊎ (line ≡ line_of (item.Api method path []) ++ 32 ∷ [])
    → length line ≤ longest → length (line_of (item.Api method path [])) ≤ longest
api_short method path line (inl same) short = same_short line _ same short
api_short method path line (inr same) short =
    let whole : List ℕ = line_of (item.Api method path []) in
    let long : length (whole ++ 32 ∷ []) ≡ length whole + 1 = length-append whole (32 ∷ []) in
    let less : length (whole ++ 32 ∷ []) ≤ longest = same_short line _ same short in
    omega (arith, long, less)

memory_short : (address len : ℕ) → address < 2 ^ 64 → len ≤ 64 → length (line_of (item.Memory address len)) ≤ longest
memory_short address len small few =
    let digits : length (address_text address) ≤ 16 = few_digits address (omega (arith, small)) in
    let number : length (decimal len) ≤ 2 = length-decimal-le 2 len (omega arith) (omega (arith, few)) (omega (arith, few)) in
    let front : List ℕ = codes "mem " ++ address_text address in
    let a : length (front ++ (32 ∷ []) ++ decimal len) ≡ length (front ++ (32 ∷ [])) + length (decimal len) = length-append (front ++ (32 ∷ [])) (decimal len) in
    let b : length (front ++ (32 ∷ [])) ≡ length front + 1 = length-append front (32 ∷ []) in
    let c : length front ≡ 4 + length (address_text address) = length-append (codes "mem ") (address_text address) in
    omega (arith, a, b, c, digits, number)

short_of : (it : Item) (line : List ℕ) → IsSpelling it line → HasForm it → length line ≤ longest → length (line_of it) ≤ longest
short_of item.Nothing line spelled form short = omega arith
short_of (item.File name content) line spelled form short = same_short line _ spelled short
short_of (item.Lineage lineage) line spelled form short = same_short line _ spelled short
short_of item.Connect line spelled form short = omega arith
short_of (item.Bytes bytes) line spelled form short = same_short line _ spelled short
short_of (item.Api method path []) line spelled form short = api_short method path line spelled short
short_of (item.Api method path (c ∷ body)) line spelled form short = same_short line _ spelled short
short_of (item.Step actor count) line spelled form short = same_short line _ spelled short
short_of (item.Reply actor reply) line spelled form short = same_short line _ spelled short
short_of item.Console line spelled form short = omega arith
short_of (item.Register hart number) line spelled form short = same_short line _ spelled short
short_of (item.Memory address len) line spelled form short = memory_short address len form.0 form.2

-- what a line without an LF is read as has a line
pub item_writable : (line : List ℕ) (it : Item) → Lacks 10 line → item_of line ≡ Some it → IsWritable it
item_writable line it lacks is =
    let got = chosen (nat_le (length line) longest) (shape_of line) it is in
    let read = shape_reads line it got.1 in
    let form : HasForm it = read.form lacks in
    record { form = form; short = short_of it line read.spelled form (leb-true (length line) longest got.0) }
