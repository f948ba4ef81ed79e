-- Actors and answers, read and written.
use Rattle.std.proofs.Common.{◌≡◌, ℕ, ◌^◌, ◌<◌, ◌≤◌, nat_le, List, [], ◌∷◌, ◌++◌, length, codes, Option, Some, None, option_and_then, refl, sym, ◌∙◌, ap, subst, inl, inr, arith, append_assoc}
use Rattle.std.proofs.lemmas.Bool.{cond-true, le-leb, leb-true}
use Rattle.std.proofs.lemmas.Option.{cond_some, option_and_then_some}
use Rattle.std.specs.Fmt.{decimal}
use Rattle.std.specs.Option.{option_map}
use Rattle.script_text.specs.declared.item.HostReply.{HostReply}
use Rattle.script_text.specs.declared.item.HostReply.TheVariants as answer
use Rattle.script_text.specs.Items.{answer_of, drawn_answer, numbered_answer, part_of, plain_answer, received_of, short_part}
use Rattle.script_words.specs.Numbers.{bytes_of, hex_of, number_within, numbered, word_of}
use Rattle.script_words.specs.Words.{after, bare, or_else, two}
use Rattle.script_text.specs.Written.{HasAnswerForm, answer_words}
use Rattle.script_words.proofs.Forms.{numbered_reads, numbered_writes, within_reads, within_writes, word_reads, word_writes}
use Rattle.script_words.proofs.Hex.{hex_below, hex_reads, hex_writes}
use Rattle.script_words.proofs.Parting.{after_reads, bare_reads, either, mapped, two_reads, two_writes}
use Rattle.script_words.proofs.ActorWords.{decimal_lacks, first}

-- ---- lines of words

-- a word behind bytes, a space and the rest
pub line_is : (a line rest w r v s : List ℕ) → line ≡ a ++ rest → rest ≡ w ++ 32 ∷ r → w ≡ v → r ≡ s
    → line ≡ a ++ v ++ (32 ∷ []) ++ s
line_is a line rest w r v s parts two first second =
    parts ∙ (ap (λ (xs : List ℕ). a ++ xs) (two ∙ (ap (λ (xs : List ℕ). xs ++ 32 ∷ r) first ∙ ap (λ (xs : List ℕ). v ++ 32 ∷ xs) second))
    ∙ sym (append_assoc (a ++ v) (32 ∷ []) s ∙ append_assoc a v (32 ∷ s)))

-- the same without what is before
pub words_are : (w r : List ℕ) → w ++ (32 ∷ []) ++ r ≡ w ++ 32 ∷ r
words_are w r = append_assoc w (32 ∷ []) r

-- ---- answers

abbrev pub IsAnswer : List ℕ → HostReply → Type 0
IsAnswer words reply = (words ≡ answer_words reply) × HasAnswerForm reply

bare_answer : (word words : List ℕ) (x reply : HostReply) → bare word x words ≡ Some reply → answer_words x ≡ word → HasAnswerForm x → IsAnswer words reply
bare_answer word words x reply is same form =
    let got = bare_reads word words x reply is in
    subst (λ (r : HostReply). IsAnswer words r) (sym got.1) (got.0 ∙ sym same, form)

plain_reads : (words : List ℕ) (reply : HostReply) → plain_answer words ≡ Some reply → IsAnswer words reply
plain_reads words reply is =
    let done : Option HostReply = bare (codes "ok") answer.Done words in
    let failed : Option HostReply = bare (codes "fail") answer.Failed words in
    let nothing : Option HostReply = bare (codes "none") answer.Nothing words in
    elim (either done (or_else failed nothing) reply is) [
      | inl one ↦ bare_answer (codes "ok") words answer.Done reply one refl tt
      | inr more ↦ elim (either failed nothing reply more) [
        | inl one ↦ bare_answer (codes "fail") words answer.Failed reply one refl tt
        | inr one ↦ bare_answer (codes "none") words answer.Nothing reply one refl tt
      ]
    ]

one_numbered : (make : ℕ → HostReply) (word : List ℕ) (most : ℕ) (words : List ℕ) (reply : HostReply)
    → ((n : ℕ) → n ≤ most → IsAnswer (word ++ decimal n) (make n)) → option_map make (numbered word most words) ≡ Some reply → IsAnswer words reply
one_numbered make word most words reply form is =
    mapped make (numbered word most words) reply is
    (λ n by made.
    let got = numbered_reads word words most n by in
    subst (λ (r : HostReply). IsAnswer words r) (sym made) (subst (λ (xs : List ℕ). IsAnswer xs (make n)) (sym got.0) (form n got.1)))

numbered_answers : (words : List ℕ) (reply : HostReply) → numbered_answer words ≡ Some reply → IsAnswer words reply
numbered_answers words reply is =
    let now : Option HostReply = option_map answer.Now (numbered (codes "now ") 18446744073709551615 words) in
    let frame : Option HostReply = option_map answer.Frame (numbered (codes "frame ") 4294967295 words) in
    let opened : Option HostReply = option_map answer.Opened (numbered (codes "new ") 4294967295 words) in
    let ended : Option HostReply = option_map answer.Ended (numbered (codes "ended ") 4294967295 words) in
    let dialled : Option HostReply = option_map answer.Dialled (numbered (codes "dialled ") 4294967295 words) in
    elim (either now (or_else frame (or_else opened (or_else ended dialled))) reply is) [
      | inl one ↦ one_numbered answer.Now (codes "now ") 18446744073709551615 words reply (λ n le. (refl, omega (arith, le))) one
      | inr more ↦ elim (either frame (or_else opened (or_else ended dialled)) reply more) [
        | inl one ↦ one_numbered answer.Frame (codes "frame ") 4294967295 words reply (λ n le. (refl, omega (arith, le))) one
        | inr more2 ↦ elim (either opened (or_else ended dialled) reply more2) [
          | inl one ↦ one_numbered answer.Opened (codes "new ") 4294967295 words reply (λ n le. (refl, omega (arith, le))) one
          | inr more3 ↦ elim (either ended dialled reply more3) [
            | inl one ↦ one_numbered answer.Ended (codes "ended ") 4294967295 words reply (λ n le. (refl, omega (arith, le))) one
            | inr one ↦ one_numbered answer.Dialled (codes "dialled ") 4294967295 words reply (λ n le. (refl, omega (arith, le))) one
          ]
        ]
      ]
    ]

part_reads : (words : List ℕ) (reply : HostReply) → after (codes "part ") part_of words ≡ Some reply → IsAnswer words reply
part_reads words reply is =
    after_reads (codes "part ") words part_of reply is
    (λ text parts by.
    option_and_then_some short_part (bytes_of text) reply by
    (λ bytes read short.
    let got = cond_some (nat_le (length bytes) 64) (answer.Part bytes) reply short in
    subst (λ (r : HostReply). IsAnswer words r) got.1
    (parts ∙ ap (λ (xs : List ℕ). codes "part " ++ xs) (hex_reads text bytes read), (leb-true (length bytes) 64 got.0, hex_below text bytes read))))

received_reads : (words : List ℕ) (reply : HostReply) → after (codes "bytes ") received_of words ≡ Some reply → IsAnswer words reply
received_reads words reply is =
    after_reads (codes "bytes ") words received_of reply is
    (λ text parts by.
    let t = two_reads (number_within 0 4294967295) bytes_of answer.Received text reply by in
    let number = within_reads 0 4294967295 t.w t.x t.is_word in
    subst (λ (r : HostReply). IsAnswer words r) (sym t.made)
    (line_is (codes "bytes ") words text t.w t.r (decimal t.x) (hex_of t.y) parts t.parts number.0 (hex_reads t.r t.y t.is_rest), (omega (arith, number.2), hex_below t.r t.y t.is_rest)))

drawn_reads : (words : List ℕ) (reply : HostReply) → drawn_answer words ≡ Some reply → IsAnswer words reply
drawn_reads words reply is =
    mapped answer.Word (after (codes "word ") word_of words) reply is
    (λ word by made.
    after_reads (codes "word ") words word_of word by
    (λ text parts read.
    let got = word_reads text word read in
    subst (λ (r : HostReply). IsAnswer words r) (sym made) (parts ∙ ap (λ (xs : List ℕ). codes "word " ++ xs) got.0, got.1)))

pub answer_reads : (words : List ℕ) (reply : HostReply) → answer_of words ≡ Some reply → IsAnswer words reply
answer_reads words reply is =
    let part : Option HostReply = after (codes "part ") part_of words in
    let received : Option HostReply = after (codes "bytes ") received_of words in
    let drawn : Option HostReply = drawn_answer words in
    elim (either (plain_answer words) (or_else (numbered_answer words) (or_else part (or_else received drawn))) reply is) [
      | inl one ↦ plain_reads words reply one
      | inr more ↦ elim (either (numbered_answer words) (or_else part (or_else received drawn)) reply more) [
        | inl one ↦ numbered_answers words reply one
        | inr more2 ↦ elim (either part (or_else received drawn) reply more2) [
          | inl one ↦ part_reads words reply one
          | inr more3 ↦ elim (either received drawn reply more3) [
            | inl one ↦ received_reads words reply one
            | inr one ↦ drawn_reads words reply one
          ]
        ]
      ]
    ]

-- a numbered answer among the others
numbered_writes_as : (make : ℕ → HostReply) (word : List ℕ) (most n : ℕ) → n ≤ most → n < 2 ^ 64
    → or_else (or_else (option_map make (numbered word most (word ++ decimal n))) None) None ≡ Some (make n)
numbered_writes_as make word most n high small =
    let x : Option HostReply = option_map make (numbered word most (word ++ decimal n)) in
    first (or_else x None) None (make n) (first x None (make n) (ap (option_map make) (numbered_writes word most n high small)))

part_writes : (piece : List ℕ) → HasAnswerForm (answer.Part piece) → part_of (hex_of piece) ≡ Some (answer.Part piece)
part_writes piece form =
    ap (option_and_then short_part) (hex_writes piece form.1)
    ∙ cond-true (nat_le (length piece) 64) (Some (answer.Part piece)) None (le-leb (length piece) 64 form.0)

received_writes : (connection : ℕ) (bytes : List ℕ) → HasAnswerForm (answer.Received connection bytes)
    → received_of (decimal connection ++ (32 ∷ []) ++ hex_of bytes) ≡ Some (answer.Received connection bytes)
received_writes connection bytes form =
    ap received_of (words_are (decimal connection) (hex_of bytes))
    ∙ two_writes (number_within 0 4294967295) bytes_of answer.Received (decimal connection) (hex_of bytes) connection bytes
    (decimal_lacks connection (omega (arith, form.0))) (within_writes 0 4294967295 connection (omega arith) (omega (arith, form.0)) (omega (arith, form.0)))
    (hex_writes bytes form.1)

pub answer_writes : (reply : HostReply) → HasAnswerForm reply → answer_of (answer_words reply) ≡ Some reply
answer_writes answer.Done form = refl
answer_writes answer.Failed form = refl
answer_writes answer.Nothing form = refl
answer_writes (answer.Now n) form = numbered_writes_as answer.Now (codes "now ") 18446744073709551615 n (omega (arith, form)) form
answer_writes (answer.Part piece) form =
    first (part_of (hex_of piece)) None (answer.Part piece) (part_writes piece form)
answer_writes (answer.Frame n) form = numbered_writes_as answer.Frame (codes "frame ") 4294967295 n (omega (arith, form)) (omega (arith, form))
answer_writes (answer.Opened n) form = numbered_writes_as answer.Opened (codes "new ") 4294967295 n (omega (arith, form)) (omega (arith, form))
answer_writes (answer.Received connection bytes) form =
    first (received_of (decimal connection ++ (32 ∷ []) ++ hex_of bytes)) None (answer.Received connection bytes)
    (received_writes connection bytes form)
answer_writes (answer.Ended n) form = numbered_writes_as answer.Ended (codes "ended ") 4294967295 n (omega (arith, form)) (omega (arith, form))
answer_writes (answer.Dialled n) form =
    first (option_map answer.Dialled (numbered (codes "dialled ") 4294967295 (codes "dialled " ++ decimal n))) None (answer.Dialled n)
    (ap (option_map answer.Dialled) (numbered_writes (codes "dialled ") 4294967295 n (omega (arith, form)) (omega (arith, form))))
answer_writes (answer.Word word) form = ap (option_map answer.Word) (word_writes word form)
