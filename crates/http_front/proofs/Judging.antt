-- The five rules, at each exit of the code.
use Rattle.std.proofs.Common.{◌≡◌, ℕ, ◌<◌, ◌≤◌, inl, inr, true, false, List, [], length, take, min, refl, sym, ap, subst, ◌∙◌, arith, Err}
use Rattle.std.specs.Prelude.{IsUtf8}
use Rattle.std.proofs.lemmas.List.{take_all, length-take}
use Rattle.std.proofs.lemmas.Str.{IsUtf8-from_ascii}
use Rattle.std.proofs.lemmas.Str.Ascii.{IsAscii-from_all}
use Rattle.httparse.specs.declared.Error.{Error}
use Rattle.httparse.specs.declared.Error.TheVariants.{TooManyHeaders}
use Rattle.httparse.specs.Outcome.{OnInvalid, OnTooManyHeaders}
use Rattle.std.proofs.lemmas.Bool.{cases_lt}
use Rattle.std.proofs.lemmas.Bool.Decides.{nat_tests}
use Rattle.httparse.specs.Grammar.{is_token_byte, IsToken, HasNoRequest, NeverHasRequest, MayBecomeRequest}
use Rattle.httparse.specs.Spans.{RequestExceeds}
use Rattle.refusals.specs.declared.refusal.Refusal.TheVariants as refusal
use Rattle.http_stream.specs.Stream.{window, is_early, has_line, waits, refused, Judged, too_long, hopeless, unfinished}
use Rattle.http_stream.proofs.CutLemmas.{window_is, no_request}
use Rattle.http_stream.proofs.LineFeeds.{in_target_no_line}

pub judged_unfinished : (s : List ℕ) → is_early s ≡ false → length s ≤ 8192 → HasNoRequest (window s) → MayBecomeRequest (window s)
    → Judged s (waits s)
judged_unfinished s late short none may =
    let e : window s ≡ s = window_is s short in
    elim (subst MayBecomeRequest e may) [
      | inl (more, h, reads) ↦ unfinished late short (subst HasNoRequest e none) (more, h, [], reads) refl
      | inr inside ↦ let n : has_line s ≡ false = in_target_no_line s inside in
          let t : is_early s ≡ true = grind (arith, nat_tests) in cc
    ]

pub judged_too_long : (s : List ℕ) → 8192 < length s → HasNoRequest (window s) → Judged s (refused refusal.BadHead)
judged_too_long s long none = too_long none long refl

pub judged_hopeless : (s : List ℕ) → is_early s ≡ false → NeverHasRequest (window s) → Judged s (refused refusal.BadHead)
judged_hopeless s late never = elim (cases_lt 8192 (length s)) [
  | inl long ↦ too_long (no_request (window s) never) long refl
  | inr short ↦ hopeless late short (subst NeverHasRequest (window_is s short) never) refl
]

-- ---- texts

token_is_ascii : (b : ℕ) → is_token_byte b ≡ true → b < 128
unfolding is_token_byte
token_is_ascii b token = grind (arith, nat_tests)

pub token_text : (bytes : List ℕ) → IsToken bytes → IsUtf8 bytes
token_text bytes token = IsUtf8-from_ascii bytes (IsAscii-from_all bytes (λ i d h. token_is_ascii _ (token.1 i d h)))

-- ---- the search

pub window_of : (s : List ℕ) (n : ℕ) → n ≡ min (length s) 8192 → take n s ≡ window s
window_of s n e = elim (cases_lt 8192 (length s)) [
  | inl long ↦ let k : n ≡ 8192 = omega arith in rw k refl
  | inr short ↦ take_all n s (omega arith) ∙ sym (take_all 8192 s short)
]

pub window_short : (s : List ℕ) → length (window s) ≤ 8192
window_short s = rw (length-take 8192 s) (omega arith)

pub error_is_hopeless : {A : Type 0} (e : Error) (front : List ℕ) (room : ℕ) → OnInvalid {A = A} (Err e) (NeverHasRequest front)
    → OnTooManyHeaders {A = A} (Err e) (RequestExceeds room front) → ¬ (RequestExceeds room front) → NeverHasRequest front
error_is_hopeless {A} TooManyHeaders front room invalid many none = absurd (none (many refl))
error_is_hopeless {A} _ front room invalid many none = invalid (λ p. cc)

pub len_fits : (s front : List ℕ) (len : ℕ) → front ≡ window s → len ≤ length front → len ≤ length s
len_fits s front len e h = omega (arith, ap length e ∙ length-take 8192 s)
