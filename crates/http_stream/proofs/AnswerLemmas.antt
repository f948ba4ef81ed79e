-- Every stream is judged, and read to its end.
use Rattle.std.proofs.Common.{◌≡◌, ℕ, zero, suc, ◌<◌, ◌≤◌, inl, inr, Bool, true, false, List, [], ◌∷◌, length, refl, subst, arith}
use Rattle.std.proofs.lemmas.Bool.{cases_lt, cases_Bool}
use Rattle.std.proofs.lemmas.Bool.Decides.{nat_tests}
use Rattle.httparse.specs.Grammar.{HasNoRequest, NeverHasRequest, MayBecomeRequest}
use Rattle.httparse.proofs.GrammarLemmas.{request_head, request_from_pieces}
use Rattle.httparse.proofs.HeadLemmas.{request_not_yet, request_never}
use Rattle.refusals.specs.declared.refusal.Refusal.TheVariants as refusal
use Rattle.http_stream.specs.declared.request.Request.{Request}
use Rattle.http_stream.specs.declared.request.Next.{Next}
use Rattle.http_stream.specs.declared.request.Next.TheVariants as next
use Rattle.http_stream.specs.Stream.{window, is_early, has_line, waits, refused, by_head, Judged, early, too_long, hopeless, unfinished, head, Answer, Connection}
use Rattle.http_stream.specs.Cuts.{Reads}
use Rattle.http_stream.specs.Answers.{SomeAnswer, SomeReading}
use Rattle.http_stream.proofs.CutLemmas.{made, window_is, no_request, request_lives, request_falls}
use Rattle.http_stream.proofs.PieceDecisions.{here, later, never}
use Rattle.http_stream.proofs.HeadDecisions.{request}
use Rattle.http_stream.proofs.LineFeeds.{in_target_no_line}

-- ---- one answer

cut_short : (s : List ℕ) → is_early s ≡ false → HasNoRequest (window s) → MayBecomeRequest (window s) → (a : Answer) × Judged s a
cut_short s late none may = elim (cases_lt 8192 (length s)) [
  | inl long ↦ (refused refusal.BadHead, too_long none long refl)
  | inr short ↦ let e = window_is s short in elim (subst MayBecomeRequest e may) [
    | inl (more, h, reads) ↦ (waits s, unfinished late short (subst HasNoRequest e none) (more, h, [], reads) refl)
    | inr inside ↦ let n : has_line s ≡ false = in_target_no_line s inside in
        let t : is_early s ≡ true = grind (arith, nat_tests) in absurd (cc)
  ]
]

no_head : (s : List ℕ) → is_early s ≡ false → NeverHasRequest (window s) → (a : Answer) × Judged s a
no_head s late none = elim (cases_lt 8192 (length s)) [
  | inl long ↦ (refused refusal.BadHead, too_long (no_request (window s) none) long refl)
  | inr short ↦ (refused refusal.BadHead, hopeless late short (subst NeverHasRequest (window_is s short) none) refl)
]

pub some_answer : SomeAnswer
some_answer s = elim (cases_Bool (is_early s)) [
  | inl e ↦ (waits s, early e refl)
  | inr late ↦ elim (request (window s)) [
    | here t rest x ↦ (by_head s (request_head t), head (request_head t) rest late (request_from_pieces (window s) t rest x) refl)
    | later none may ↦ cut_short s late (request_not_yet none) may
    | never none ↦ no_head s late (request_never none)
  ]
]

-- ---- one reading

abbrev ReadsSome : List ℕ → Type 0
ReadsSome s = (rs : List Request) × (c : Connection) × Reads s rs c

reads_by : (s : List ℕ) → ((t : List ℕ) → length t < length s → ReadsSome t) → ReadsSome s
reads_by s go = let a = some_answer s in by_next a.0.next a.0.after a.1
  where
    by_next : (n : Next) (c : Connection) → Judged s (made n c) → ReadsSome s
    by_next next.None c j = ([], c, inl j)
    by_next (next.Bad why) c j = ([], c, inr (why, j))
    by_next (next.Request r) c j =
        let P : Bool → Type 0 = λ b. Judged s (made (next.Request r) (record { pending = c.pending; failed = b })) in
        let others = go c.pending (request_falls s r c j) in
        (r ∷ others.0, others.1, (c.pending, subst P (request_lives s r c j) j, others.2))

reads_within : (n : ℕ) (s : List ℕ) → length s ≤ n → ReadsSome s
reads_within zero s short = reads_by s (λ t shorter. absurd (omega arith))
reads_within (suc n) s short = reads_by s (λ t shorter. reads_within n t (omega arith))

pub some_reading : SomeReading
some_reading s = reads_within (length s) s (omega arith)
