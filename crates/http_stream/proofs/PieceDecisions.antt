-- Each piece of a head is at the front of a text, or can still come, or never will.
use Rattle.std.proofs.Common.{◌≡◌, ◌≢◌, ℕ, ◌+◌, ◌<◌, Bool, false, List, [], ◌∷◌, ◌++◌, length, get_or, drop, slice_range, refl, sym, ap, ◌∙◌, subst, arith, inl, inr, codes}
use Rattle.std.specs.Prelude.{IsUtf8, ◌⊎◌}
use Rattle.std.specs.List.{prefix_len}
use Rattle.std.specs.Str.{is_utf8}
use Rattle.std.proofs.lemmas.Bool.{cases_lt, cases_eq, cases_Bool, both_ways}
use Rattle.std.proofs.lemmas.List.{append_cancel_left, drop_more}
use Rattle.std.proofs.lemmas.List.Sums.{prefix_len-le-length, prefix_len_passes, prefix_len_stops}
use Rattle.std.proofs.lemmas.Str.{IsUtf8-from_is_utf8, is_utf8-from_IsUtf8}
use Rattle.httparse.specs.Grammar.{is_token_byte, is_uri_byte, is_value_byte, AllPass, LineEnd, crlf, lf, print_end}
use Rattle.httparse.specs.Pieces.{IsRunAt, Piece, Begins, Then, Refutes, NotYet, Never, Completes, Bytes, Newline, Word, Method, Target, Version, Text, FieldLine}
use Rattle.httparse.proofs.RunLemmas.{IsRunAt_pass, length-slice_range, drop_split}
use Rattle.httparse.proofs.PieceLemmas.{IsDeterministic, Refutes_by, Refutes_first, Refutes_next, Never_intro, NotYet_intro, Word_deterministic, Name_deterministic, space_ends_token, colon_ends_token}
use Rattle.httparse.proofs.ReadLemmas.{Word_open, Word_wrong, Version_bytes, Target_word, Text_open, Text_wrong, Text_done, FieldLine_row, FieldLine_done}
use Rattle.httparse.proofs.OpenLemmas.{Completes_first, Completes_next, some_newline, some_bytes, some_text, Newline_after_cr, Version_after_bytes, Version_before_digit, IsRunAt_all, Word_cut, letter_is_token, Text_after_run, FieldLine_of_row}

-- s begins with G; or not yet, and is open; or it never will
pub data Decided {A : Type 0} (G : Piece A) (Open : List ℕ → Type 0) (s : List ℕ) : Type 0 where
  here : (a : A) (rest : List ℕ) → G a s rest → Decided G Open s
  later : NotYet (Begins G) s → Open s → Decided G Open s
  never : Never (Begins G) s → Decided G Open s

-- each text is decided
abbrev pub Decides : {A : Type 0} → Piece A → (List ℕ → Type 0) → Type 0
Decides G Open = (s : List ℕ) → Decided G Open s

-- ---- one piece and then another

pub row : {A B : Type 0} {G : Piece A} {H : Piece B} {P Q R : List ℕ → Type 0} → IsDeterministic G → Decides G P → Decides H Q
    → ((s : List ℕ) → P s → R s) → ((a : A) (s t : List ℕ) → G a s t → Q t → R s) → Decides (Then G H) R
row {G} {H} det g h first next s = elim (g s) [
  | here a t x ↦ elim (h t) [
    | here b rest y ↦ here (a, b) rest (t, x, y)
    | later none q ↦ later (Refutes_next H det x none) (next a s t x q)
    | never none ↦ never (Refutes_next H det x none)
  ]
  | later none p ↦ later (Refutes_first G H none) (first s p)
  | never none ↦ never (Refutes_first G H none)
]

pub both : {A B : Type 0} {G : Piece A} {H : Piece B} → IsDeterministic G → Decides G (Completes G) → Decides H (Completes H)
    → Completes H [] → Decides (Then G H) (Completes (Then G H))
both det g h some = row det g h (λ s x. Completes_first x some) (λ a s t x y. Completes_next det {a = a} x y)

-- ---- line ends

newline_bytes : (end : LineEnd) (b : ℕ) (s rest : List ℕ) → b ∷ s ≡ print_end end ++ rest
    → (b ≡ 10) ⊎ ((b ≡ 13) × (s ≡ 10 ∷ rest))
newline_bytes crlf b s rest e = inr (cc, cc)
newline_bytes lf b s rest e = inl (cc)

no_newline : (end : LineEnd) (rest : List ℕ) → [] ≡ print_end end ++ rest → ⊥
no_newline crlf rest e = cc
no_newline lf rest e = cc

after_cr : (s : List ℕ) → Decided Newline (Completes Newline) (13 ∷ s)
after_cr [] = later (NotYet_intro λ h. elim (newline_bytes h.0 _ _ h.1 h.2) [ inl e ↦ cc | inr (e, f) ↦ cc ]) (Newline_after_cr refl)
after_cr (b ∷ s) = elim (cases_eq b 10) [
  | inl e ↦ here crlf s (rw e refl)
  | inr other ↦ never (Never_intro λ more h. elim (newline_bytes h.0 _ _ h.1 h.2) [ inl e ↦ cc | inr (e, f) ↦ other (cc) ])
]

no_end : (b : ℕ) (s : List ℕ) → b ≢ 10 → b ≢ 13 → (end : LineEnd) (rest : List ℕ) → b ∷ s ≡ print_end end ++ rest → ⊥
no_end b s other wrong end rest e = elim (newline_bytes end b s rest e) [ inl f ↦ other f | inr f ↦ wrong f.0 ]

pub newline : Decides Newline (Completes Newline)
newline [] = later (NotYet_intro λ h. no_newline h.0 h.1 h.2) some_newline
newline (b ∷ s) = elim (cases_eq b 10) [
  | inl e ↦ here lf s (rw e refl)
  | inr other ↦ elim (cases_eq b 13) [
    | inl e ↦ subst (λ (c : ℕ). Decided Newline (Completes Newline) (c ∷ s)) (sym e) (after_cr s)
    | inr wrong ↦ never (Never_intro λ more h. no_end b (s ++ more) other wrong h.0 h.1 h.2)
  ]
]

-- ---- words

run_at : (test : ℕ → Bool) (s : List ℕ) → IsRunAt test s 0 (prefix_len test s)
run_at test s = record {
  ordered = omega arith;
  in_range = prefix_len-le-length test s;
  pass = λ k _ below. prefix_len_passes test s k 0 below;
  stops = λ inside. prefix_len_stops test s 0 inside;
}

word_here : {test : ℕ → Bool} {s : List ℕ} {n : ℕ} (stop : ℕ) → IsRunAt test s 0 n → n < length s → get_or s n 0 ≡ stop → 0 < n
    → Word test stop (slice_range s 0 n) s (drop (n + 1) s)
word_here {s} {n} stop run inside is some =
    let split = drop_split s 0 n run.ordered in
    let first = drop_more s n 0 inside in
    (omega (arith, length-slice_range s 0 n run.ordered run.in_range), IsRunAt_pass run, cc)

word : (test : ℕ → Bool) (stop : ℕ) → test stop ≡ false → Decides (Word test stop) (AllPass test)
word test stop fails s =
    let n = prefix_len test s in
    let run = run_at test s in
    elim (cases_lt n (length s)) [
      | inl inside ↦ elim (cases_eq (get_or s n 0) stop) [
        | inl is ↦ elim (cases_lt 0 n) [
          | inl some ↦ here (slice_range s 0 n) (drop (n + 1) s) (word_here stop run inside is some)
          | inr none ↦ never (Word_wrong stop fails run inside (λ _ some. omega (arith, length-slice_range s 0 n run.ordered run.in_range)))
        ]
        | inr other ↦ never (Word_wrong stop fails run inside (λ is _. other is))
      ]
      | inr past ↦ later (Word_open stop fails run past) (IsRunAt_all run past)
    ]

token_word : (stop : ℕ) → is_token_byte stop ≡ false → Decides (Word is_token_byte stop) (Completes (Word is_token_byte stop))
token_word stop fails s = elim (word is_token_byte stop fails s) [
  | here w rest x ↦ here w rest x
  | later none all ↦ later none (Word_cut is_token_byte stop 65 letter_is_token all)
  | never none ↦ never none
]

pub method : Decides Method (Completes Method)
method = token_word 32 space_ends_token

-- the test for UTF-8 waits for the target's end
pub target : Decides Target (AllPass is_uri_byte)
target s = elim (word is_uri_byte 32 refl s) [
  | here w rest x ↦ elim (cases_Bool (is_utf8 w)) [
    | inl text ↦ here w rest (x, IsUtf8-from_is_utf8 w text)
    | inr wrong ↦ never (Never_intro λ more h.
        let det = Word_deterministic is_uri_byte 32 refl in
        let same = det.unique h.0 w _ _ _ h.2.0 (det.append w s rest more x) in
        both_ways _ wrong (is_utf8-from_IsUtf8 w (subst IsUtf8 same.0 h.2.1)))
  ]
  | later none all ↦ later (Target_word none) all
  | never none ↦ never (Target_word none)
]

-- ---- versions

bytes_more : {M : List ℕ → Type 0} (b c : ℕ) (bytes s : List ℕ) → Refutes M (Begins (Bytes bytes)) s
    → Refutes M (Begins (Bytes (b ∷ bytes))) (c ∷ s)
bytes_more b c bytes s = Refutes_by (λ more h. (tt, h.1, let e = h.2 in cc))

bytes_there : (bytes : List ℕ) → Decides (Bytes bytes) (Completes (Bytes bytes))
bytes_there [] s = here tt s refl
bytes_there (b ∷ bytes) [] = later (NotYet_intro λ h. let e = h.2 in cc) (some_bytes (b ∷ bytes))
bytes_there (b ∷ bytes) (c ∷ s) = elim (cases_eq c b) [
  | inl e ↦ elim (bytes_there bytes s) [
    | here _ rest x ↦ here tt rest (cc)
    | later none q ↦ later (bytes_more b c bytes s none)
        (record { more = q.more; tree = tt; reads = λ rest. let x = q.reads rest in cc })
    | never none ↦ never (bytes_more b c bytes s none)
  ]
  | inr other ↦ never (Never_intro λ more h. let e = h.2 in other (cc))
]

digit_bytes : (minor : ℕ) (s digits rest : List ℕ) → s ≡ codes "HTTP/1." ++ digits → Version minor s rest
    → digits ≡ (48 + minor) ∷ rest
digit_bytes minor s digits rest e h = append_cancel_left (codes "HTTP/1.") digits ((48 + minor) ∷ rest) (sym e ∙ h.1)

no_digit : (b : ℕ) (s digits : List ℕ) → s ≡ codes "HTTP/1." ++ b ∷ digits → b ≢ 48 → b ≢ 49 → Never (Begins Version) s
no_digit b s digits e zeros ones = Never_intro λ more h.
    let whole = digit_bytes h.0 (s ++ more) (b ∷ digits ++ more) h.1 (ap (λ (t : List ℕ). t ++ more) e) h.2 in
    let first : b ≡ 48 + h.0 = cc in
    elim (cases_eq h.0 0) [ inl is ↦ zeros (omega arith) | inr not ↦ ones (let few = h.2.0 in omega arith) ]

version_digit : (s digits : List ℕ) → s ≡ codes "HTTP/1." ++ digits → Decided Version (Completes Version) s
version_digit s [] e =
    later (NotYet_intro λ h. let whole = digit_bytes h.0 s [] h.1 e h.2 in cc) (Version_before_digit e refl)
version_digit s (b ∷ digits) e = elim (cases_eq b 48) [
  | inl is ↦ here 0 digits (omega arith, rw is at e)
  | inr zeros ↦ elim (cases_eq b 49) [
    | inl is ↦ here 1 digits (omega arith, rw is at e)
    | inr ones ↦ never (no_digit b s digits e zeros ones)
  ]
]

pub version : Decides Version (Completes Version)
version s = elim (bytes_there (codes "HTTP/1.") s) [
  | here _ digits e ↦ version_digit s digits e
  | later none q ↦ later (Version_bytes none) (Version_after_bytes q)
  | never none ↦ never (Version_bytes none)
]

-- ---- field lines

text : Decides Text (Completes Text)
text s =
    let n = prefix_len is_value_byte s in
    let run = run_at is_value_byte s in
    elim (newline (drop n s)) [
      | here end rest x ↦ here (slice_range s 0 n, end) rest (Text_done run end rest x)
      | later none q ↦ later (Text_open run none) (Text_after_run run q)
      | never none ↦ never (Text_wrong run none)
    ]

pub field_line : Decides FieldLine (Completes FieldLine)
field_line s = elim (both Name_deterministic (token_word 58 colon_ends_token) text some_text s) [
  | here t rest x ↦ here (record { name = t.0; raw = t.1.0; end = t.1.1 }) rest (FieldLine_done _ _ _ _ _ rest x.1 x.2)
  | later none q ↦ later (FieldLine_row none) (FieldLine_of_row q)
  | never none ↦ never (FieldLine_row none)
]
