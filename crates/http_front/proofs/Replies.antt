-- The phrase of a status.
use Rattle.std.proofs.Common.{◌≡◌, ℕ, ◌<◌, ◌≤◌, ◌&&◌, true, List, [], Bor, Option, Some, None, refl, sym, ap, ◌∙◌, arith}
use Rattle.std.specs.Prelude.{nat_le, nat_lt, unwrap_or, option_map}
use Rattle.std.proofs.lemmas.Bool.Decides.{nat_tests}
use Rattle.http.specs.StatusCode.{reason_phrase}
use Rattle.http_stream.specs.Reply.{phrase}

in_range : (n : ℕ) → 100 ≤ n → n < 1000 → (nat_le 100 n && nat_lt n 1000) ≡ true
in_range n low high = grind (arith, nat_tests)

now_of : (o : Option (Bor (List ℕ))) (d : Bor (List ℕ)) → (unwrap_or o d).now ≡ unwrap_or (option_map (λ s. s.now) o) d.now
now_of None d = refl
now_of (Some s) d = refl

phrase_within : (n : ℕ) → 100 ≤ n → n < 1000 → phrase n ≡ unwrap_or (reason_phrase n) []
unfolding phrase
phrase_within n low high = rw (in_range n low high) refl

pub phrase_is : (status code : ℕ) (o : Option (Bor (List ℕ))) (d : Bor (List ℕ)) → 100 ≤ status → status < 1000 → code ≡ status
    → option_map (λ s. s.now) o ≡ reason_phrase code → d.now ≡ [] → (unwrap_or o d).now ≡ phrase status
phrase_is status code o d low high same named none =
    now_of o d ∙ (ap (unwrap_or (option_map (λ s. s.now) o)) none
    ∙ (ap (λ p. unwrap_or p []) (named ∙ ap reason_phrase same) ∙ sym (phrase_within status low high)))
