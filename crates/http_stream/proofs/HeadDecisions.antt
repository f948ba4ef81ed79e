-- The head of a request is at the front of a text, or can still come, or never will.
use Rattle.std.proofs.Common.{◌≡◌, ℕ, ◌<◌, ◌≤◌, List, [], ◌∷◌, ◌++◌, length, refl, sym, ap, ◌∙◌, arith, append_assoc, inl, inr, length-append, append-nil, zero, suc}
use Rattle.std.specs.Prelude.{◌⊎◌}
use Rattle.std.specs.List.{flat_map}
use Rattle.std.proofs.lemmas.Bool.{cases_Bool}
use Rattle.std.proofs.lemmas.List.Elements.{All-nil, All-cons}
use Rattle.httparse.specs.Grammar.{is_uri_byte, AllPass, LineEnd, crlf, lf, print_end, print_blank, Field, print_field, print_section, IsField, MayBecomeRequest}
use Rattle.httparse.specs.Pieces.{Begins, Then, Refutes, NotYet, Never, Completes, is_newline, Newline, BlankLines, Blank, Method, Target, Version, FieldLine, FieldLines, Section, RequestStart, MayBecomeRequestStart}
use Rattle.httparse.proofs.PieceLemmas.{Refutes_by, FieldLines_push, FieldLines-append, Section_skip, Section_line, Blank_deterministic, Method_deterministic, Target_deterministic, Version_deterministic, RequestStart_deterministic, front-append}
use Rattle.httparse.proofs.ReadLemmas.{Blank_after, Blank_open, Blank_newline, BeginsLine_either}
use Rattle.httparse.proofs.OpenLemmas.{Completes_first, Completes_next, some_newline, some_target, some_version, BlankLines_after, Section_of_line, Section_after_lines, line_blank, ends_in_target, request_may, request_may_from_line}
use Rattle.http_stream.proofs.PieceDecisions.{Decided, Decides, here, later, never, row, both, newline, method, target, version, field_line}

-- ---- empty lines

blank_later : (end : LineEnd) {s t : List ℕ} → Newline end s t → Completes BlankLines t → Completes BlankLines s
blank_later end {s} {t} first x = record {
  more = x.more;
  tree = end ∷ x.tree;
  reads = λ rest. front-append s (print_end end) t (x.more ++ rest) first
      ∙ ap (λ (u : List ℕ). print_end end ++ u) (x.reads rest) ∙ sym (append_assoc (print_end end) (print_blank x.tree) rest);
}

blank_by : (s : List ℕ) → ((end : LineEnd) (t : List ℕ) → Newline end s t → Decided Blank (Completes BlankLines) t)
    → Decided Blank (Completes BlankLines) s
blank_by [] go = later (Blank_open [] 0 (omega arith)) (record { more = []; tree = []; reads = λ rest. refl })
blank_by (b ∷ s) go = elim (cases_Bool (is_newline b)) [
  | inr other ↦ here [] (b ∷ s) (refl, other)
  | inl is ↦ elim (newline (b ∷ s)) [
    | here end t x ↦ elim (go end t x) [
      | here ends rest y ↦ here (end ∷ ends) rest
          (x ∙ ap (λ (u : List ℕ). print_end end ++ u) y.0 ∙ sym (append_assoc (print_end end) (print_blank ends) rest), y.1)
      | later none q ↦ later (Blank_after (end ∷ []) (x ∙ one_end end t) none) (blank_later end x q)
      | never none ↦ never (Blank_after (end ∷ []) (x ∙ one_end end t) none)
    ]
    | later none q ↦ later (Blank_newline (b ∷ s) 0 (omega arith) is none) (BlankLines_after [] refl q)
    | never none ↦ never (Blank_newline (b ∷ s) 0 (omega arith) is none)
  ]
]
  where
    one_end : (end : LineEnd) (t : List ℕ) → print_end end ++ t ≡ print_blank (end ∷ []) ++ t
    one_end end t = sym (ap (λ (u : List ℕ). u ++ t) (append-nil (print_end end)))

-- a line end takes bytes
end_falls : (end : LineEnd) (s t : List ℕ) → Newline end s t → length t < length s
end_falls crlf s t x = omega (arith, ap length x)
end_falls lf s t x = omega (arith, ap length x)

blank_within : (n : ℕ) (s : List ℕ) → length s ≤ n → Decided Blank (Completes BlankLines) s
blank_within zero s short = blank_by s (λ end t x. absurd (let falls = end_falls end s t x in omega arith))
blank_within (suc n) s short = blank_by s (λ end t x. blank_within n t (let falls = end_falls end s t x in omega arith))

blank : Decides Blank (Completes BlankLines)
blank s = blank_within (length s) s (omega arith)

-- ---- sections

no_lines : (s : List ℕ) → FieldLines [] s s
no_lines s = (All-nil IsField, refl)

one_line : (f : Field) (s t : List ℕ) → FieldLine f s t → FieldLines (f ∷ []) s t
one_line f s t x = FieldLines_push [] f s s t (no_lines s) x

section_next : {M : List ℕ → Type 0} (f : Field) {s t : List ℕ} → FieldLine f s t → Refutes M (Begins Section) t
    → Refutes M (Begins Section) s
section_next f {s} {t} x = Refutes_by λ more h.
    let lines = FieldLines-append (f ∷ []) s t more (one_line f s t x) in
    let skipped = Section_skip (f ∷ []) h.0.0 h.0.1 (s ++ more) (t ++ more) h.1 lines h.2 in
    ((skipped.0, h.0.1), h.1, skipped.2)

section_here : (f : Field) (fs : List Field) (last : LineEnd) (s t rest : List ℕ) → FieldLine f s t → Section (fs, last) t rest
    → Section (f ∷ fs, last) s rest
section_here f fs last s t rest x y = (
  All-cons IsField f fs x.0 y.0,
  x.1 ∙ ap (λ (u : List ℕ). print_field f ++ u) y.1
      ∙ sym (append_assoc (print_field f) (print_section fs last) rest)
      ∙ ap (λ (u : List ℕ). u ++ rest) (sym (append_assoc (print_field f) (flat_map print_field fs) (print_end last))),
)

-- no line begins here, and so no section
no_line : {M : List ℕ → Type 0} {s : List ℕ} → Refutes M (Begins Newline) s → Refutes M (Begins FieldLine) s
    → Refutes M (Begins Section) s
no_line {s} end field = Refutes_by (λ more h. Section_line h.0 (s ++ more) h.1 h.2) (BeginsLine_either end field)

not_now : {H : List ℕ → Type 0} {s : List ℕ} → Never H s → NotYet H s
not_now none = record { none = λ more _ h. none.none more tt h }

section_by : (s : List ℕ) → ((f : Field) (t : List ℕ) → FieldLine f s t → Decided Section (Completes Section) t)
    → Decided Section (Completes Section) s
section_by s go = elim (field_line s) [
  | here f t x ↦ elim (go f t x) [
    | here (fs, last) rest y ↦ here (f ∷ fs, last) rest (section_here f fs last s t rest x y)
    | later none q ↦ later (section_next f x none) (Section_after_lines (f ∷ []) (one_line f s t x) q)
    | never none ↦ never (section_next f x none)
  ]
  | later no_field q ↦ elim (newline s) [
    | here last rest y ↦ here ([], last) rest (All-nil IsField, y)
    | later no_end p ↦ later (no_line no_end no_field) (Section_of_line (inr q))
    | never no_end ↦ later (no_line (not_now no_end) no_field) (Section_of_line (inr q))
  ]
  | never no_field ↦ elim (newline s) [
    | here last rest y ↦ here ([], last) rest (All-nil IsField, y)
    | later no_end p ↦ later (no_line no_end (not_now no_field)) (Section_of_line (inl p))
    | never no_end ↦ never (no_line no_end no_field)
  ]
]

-- a field line takes bytes
line_falls : (f : Field) (s t : List ℕ) → FieldLine f s t → length t < length s
line_falls f s t x = omega (arith, simp length-append at (ap length x.1))

section_within : (n : ℕ) (s : List ℕ) → length s ≤ n → Decided Section (Completes Section) s
section_within zero s short = section_by s (λ f t x. absurd (let falls = line_falls f s t x in omega arith))
section_within (suc n) s short = section_by s (λ f t x. section_within n t (let falls = line_falls f s t x in omega arith))

section : Decides Section (Completes Section)
section s = section_within (length s) s (omega arith)

-- ---- heads

version_line : Decides (Then Version Newline) (Completes (Then Version Newline))
version_line = both Version_deterministic version newline some_newline

target_line : Decides (Then Target (Then Version Newline))
    (λ s. AllPass is_uri_byte s ⊎ Completes (Then Target (Then Version Newline)) s)
target_line = row Target_deterministic target version_line (λ s all. inl all)
    (λ p s t x y. inr (Completes_next Target_deterministic {a = p} x y))

-- a method has come, and bytes of a target after it
abbrev InTarget : List ℕ → Type 0
InTarget s = (m : List ℕ) × (u : List ℕ) × Method m s u × AllPass is_uri_byte u

method_line : Decides (Then Method (Then Target (Then Version Newline)))
    (λ s. Completes (Then Method (Then Target (Then Version Newline))) s ⊎ InTarget s)
method_line = row Method_deterministic method target_line
    (λ s x. inl (Completes_first x (Completes_first some_target (Completes_first some_version some_newline))))
    (λ m s t x q. elim q [ inl all ↦ inr (m, t, x, all) | inr y ↦ inl (Completes_next Method_deterministic {a = m} x y) ])

request_line : Decides RequestStart MayBecomeRequestStart
request_line = row Blank_deterministic blank method_line (λ s x. inl (line_blank x))
    (λ es s t x q. elim q [
      | inl y ↦ inl (Completes_next Blank_deterministic {a = es} x y)
      | inr (m, u, y, all) ↦ inr (ends_in_target es m u x y all)
    ])

-- every text has a head, or may have one later, or never will
pub request : Decides (Then RequestStart Section) MayBecomeRequest
request = row RequestStart_deterministic request_line section (λ s x. request_may_from_line x)
    (λ a s t x y. request_may (Completes_next RequestStart_deterministic {a = a} x y))
