-- A decimal number, digit by digit.
use Rattle.std.proofs.Common.{◌≡◌, ℕ, ◌+◌, ◌-◌, ◌*◌, ◌<◌, ◌≤◌, take-append-drop, append-nil, Option, Some, None, Bor, Bool, true, false, List, [], ◌∷◌, ◌++◌, length, map, take, drop, get_or, min, refl, sym, ap, ◌∙◌, arith, Err}
use Rattle.std.specs.Char.{digit_value}
use Rattle.std.specs.List.{list_any, filter}
use Rattle.std.proofs.lemmas.List.{length-map, map-append}
use Rattle.std.proofs.lemmas.List.Elements.{filter_more, filter-append}
use Rattle.std.specs.Option.{is_some, option_to_list, option_copied}
use Rattle.std.specs.Prelude.{codes, nat_lt, ◌||◌}
use Rattle.httparse.specs.declared.spans.HeaderSpan.{HeaderSpan}
use Rattle.httparse.specs.Spans.{header_bytes}
use Rattle.refusals.specs.declared.refusal.Refusal.TheVariants as refusal
use Rattle.http_stream.specs.Body.{Header, body_length, is_named, length_of}
use Rattle.http_front.specs.Told.{is_named_at, value_at}
use Rattle.std.proofs.lemmas.Bool.Decides.{nat_tests}

pub digit_value_is : (c : ℕ) → 48 ≤ c → c ≤ 57 → digit_value c ≡ c - 48
digit_value_is c low high = grind (arith, nat_tests)

-- the value so far, cut at a limit, after one more digit
pub cut_more : (v w d n limit : ℕ) → v ≡ min w limit → n ≡ w * 10 + d → min (v * 10 + d) limit ≡ min n limit
cut_more v w d n limit e f = omega arith

-- the values of those that pass, with one that does
one_more : {X : Type 0} (p : X → Bool) (g : X → List ℕ) (xs : List X) (i : ℕ) (x : X) → i < length xs → p (get_or xs i x) ≡ true
    → map g (filter p (take (i + 1) xs)) ≡ map g (filter p (take i xs)) ++ g (get_or xs i x) ∷ []
one_more p g xs i x h t =
    ap (map g) (filter_more p xs i x h ∙ rw t refl) ∙ map-append g (filter p (take i xs)) (get_or xs i x ∷ [])

-- with the value that was found before
pub second_found : {X : Type 0} (p : X → Bool) (g : X → List ℕ) (xs : List X) (i : ℕ) (x : X) (found : Option (Bor (List ℕ))) → i < length xs
    → map g (filter p (take i xs)) ≡ option_to_list (option_copied found) → is_some found ≡ true
    → p (get_or xs i x) ≡ true → length_of (map g (filter p xs)) ≡ Err refusal.BadHead
second_found p g xs i x None h e s t = cc
second_found p g xs i x (Some v) h e s t =
    let more : map g (filter p (take (i + 1) xs)) ≡ v.now ∷ g (get_or xs i x) ∷ []
    = one_more p g xs i x h t ∙ rw e refl in
    let whole : map g (filter p xs) ≡ map g (filter p (take (i + 1) xs)) ++ map g (filter p (drop (i + 1) xs))
    = ap (λ l. map g (filter p l)) (sym (take-append-drop (i + 1) xs))
    ∙ (ap (map g) (filter-append p (take (i + 1) xs) (drop (i + 1) xs))
    ∙ map-append g (filter p (take (i + 1) xs)) (filter p (drop (i + 1) xs))) in
    rw (whole, more) refl

pub first_found : {X : Type 0} (p : X → Bool) (g : X → List ℕ) (xs : List X) (i : ℕ) (x : X) (v : List ℕ) (found : Option (Bor (List ℕ))) → i < length xs
    → map g (filter p (take i xs)) ≡ option_to_list (option_copied found) → is_some found ≡ false
    → p (get_or xs i x) ≡ true → v ≡ g (get_or xs i x) → map g (filter p (take (i + 1) xs)) ≡ v ∷ []
first_found p g xs i x v None h e s t q =
    one_more p g xs i x h t ∙ (rw e refl ∙ ap (λ y. y ∷ []) (sym q))
first_found p g xs i x v (Some f) h e s t q = cc

pub none_passes : {X : Type 0} (p : X → Bool) (g : X → List ℕ) (xs : List X) (i : ℕ) (x : X) → i < length xs
    → p (get_or xs i x) ≡ false → map g (filter p (take (i + 1) xs)) ≡ map g (filter p (take i xs))
none_passes p g xs i x h t = ap (map g) (filter_more p xs i x h ∙ rw t (append-nil (filter p (take i xs))))

-- ---- by headers in the place of spans

any_of : {X Y : Type 0} (f : X → Y) (p : Y → Bool) (xs : List X) → list_any p (map f xs) ≡ list_any (λ x. p (f x)) xs
any_of f p [] = refl
any_of f p (x ∷ xs) = rw (any_of f p xs) refl

one_value : {X : Type 0} (f : X → Header) (p : Header → Bool) (x : X) (xs : List X) (b : Bool) → p (f x) ≡ b
    → map (λ h. h.1) (filter p (map f xs)) ≡ map (λ y. (f y).1) (filter (λ y. p (f y)) xs)
    → map (λ h. h.1) (filter p (map f (x ∷ xs))) ≡ map (λ y. (f y).1) (filter (λ y. p (f y)) (x ∷ xs))
one_value f p x xs true t e = rw (t) (ap (λ l. (f x).1 ∷ l) e)
one_value f p x xs false t e = rw (t) e

-- the values of those that pass
values_of : {X : Type 0} (f : X → Header) (p : Header → Bool) (xs : List X)
    → map (λ h. h.1) (filter p (map f xs)) ≡ map (λ x. (f x).1) (filter (λ x. p (f x)) xs)
values_of f p [] = refl
values_of f p (x ∷ xs) = one_value f p x xs (p (f x)) refl (values_of f p xs)

pub too_many : (front : List ℕ) (spans : List HeaderSpan) → 32 < length spans → Err refusal.BadHead ≡ body_length (map (header_bytes front) spans)
unfolding body_length
too_many front spans many =
    let t : nat_lt 32 (length (map (header_bytes front) spans)) ≡ true = rw (length-map spans (header_bytes front)) (grind (arith, nat_tests)) in
    rw (t) refl

pub encoded : (front : List ℕ) (spans : List HeaderSpan) → list_any (is_named_at (codes "transfer-encoding") front) spans ≡ true
    → Err refusal.BadHead ≡ body_length (map (header_bytes front) spans)
unfolding body_length
encoded front spans t = rw (any_of (header_bytes front) (is_named (codes "transfer-encoding")) spans, t, or_true (nat_lt 32 (length (map (header_bytes front) spans)))) refl
  where
    or_true : (b : Bool) → (b || true) ≡ true
    or_true true = refl
    or_true false = refl

pub body_is : (front : List ℕ) (spans : List HeaderSpan) → length spans ≤ 32 → list_any (is_named_at (codes "transfer-encoding") front) spans ≡ false
    → length_of (map (value_at front) (filter (is_named_at (codes "content-length") front) spans)) ≡ body_length (map (header_bytes front) spans)
unfolding body_length
body_is front spans few t =
    let f : nat_lt 32 (length (map (header_bytes front) spans)) ≡ false = rw (length-map spans (header_bytes front)) (grind (arith, nat_tests)) in
    rw (f, any_of (header_bytes front) (is_named (codes "transfer-encoding")) spans, t)
    (ap length_of (sym (values_of (header_bytes front) (is_named (codes "content-length")) spans)))
