-- A stream that ends inside a request target has no line.
use Rattle.std.proofs.Common.{◌≡◌, ℕ, Bool, true, false, add_comm, List, [], ◌∷◌, ◌++◌, drop, refl, ap, subst, ◌∙◌, arith, append_assoc, add-one}
use Rattle.std.specs.Prelude.{◌==◌}
use Rattle.std.specs.List.{list_any, prefix_len}
use Rattle.std.proofs.lemmas.List.Folds.{list_any_none, list_any-append}
use Rattle.std.proofs.lemmas.Bool.{both_ways, ne_eqb}
use Rattle.httparse.specs.Grammar.{is_token_byte, is_uri_byte, LineEnd, crlf, lf, print_blank, EndsInTarget}
use Rattle.httparse.proofs.PieceLemmas.{token_is_no_newline}
use Rattle.http_stream.specs.Stream.{is_line_byte, has_line}

skipped : List ℕ → List ℕ
skipped s = drop (prefix_len is_line_byte s) s

skip_line_byte : (b : ℕ) (s : List ℕ) → is_line_byte b ≡ true → skipped (b ∷ s) ≡ skipped s
unfolding skipped
skip_line_byte b s t = rw t (rw (add_comm 1 (prefix_len is_line_byte s), add-one) refl)

skip_other : (b : ℕ) (s : List ℕ) → is_line_byte b ≡ false → skipped (b ∷ s) ≡ b ∷ s
unfolding skipped
skip_other b s t = rw t refl

skip_blank : (ends : List LineEnd) (s : List ℕ) → skipped (print_blank ends ++ s) ≡ skipped s
skip_blank [] s = refl
skip_blank (crlf ∷ es) s = skip_line_byte 13 _ refl ∙ (skip_line_byte 10 _ refl ∙ skip_blank es s)
skip_blank (lf ∷ es) s = skip_line_byte 10 _ refl ∙ skip_blank es s

other_byte : (test : ℕ → Bool) (c : ℕ) → test c ≡ false → (b : ℕ) → test b ≡ true → (b == c) ≡ false
other_byte test c fails b passes = ne_eqb b c (λ e. both_ways _ fails (subst (λ (v : ℕ). test v ≡ true) e passes))

line_feed_ends_token : is_token_byte 10 ≡ false
unfolding is_token_byte
line_feed_ends_token = refl

pub in_target_no_line : (s : List ℕ) → EndsInTarget s → has_line s ≡ false
unfolding skipped
in_target_no_line s (blank, [], target, token, uri, e) = absurd (omega (arith, token.0))
in_target_no_line s (blank, m ∷ ms, target, token, uri, e) =
    let regroup : s ≡ print_blank blank ++ (m ∷ ms ++ 32 ∷ target) = e ∙ append_assoc (print_blank blank) (m ∷ ms) (32 ∷ target) in
    let rest : skipped s ≡ m ∷ ms ++ 32 ∷ target =
    ap skipped regroup ∙ (skip_blank blank _ ∙ skip_other m _ (token_is_no_newline m (token.1 0 0 (omega arith)))) in
    ap (list_any (λ b. b == 10)) rest ∙ (list_any-append (λ b. b == 10) (m ∷ ms) (32 ∷ target)
    ∙ rw (
      list_any_none (λ b. b == 10) (m ∷ ms) (λ k d h. other_byte is_token_byte 10 line_feed_ends_token _ (token.1 k d h)),
      list_any_none (λ b. b == 10) target (λ k d h. other_byte is_uri_byte 10 refl _ (uri k d h)),
    ) refl)
