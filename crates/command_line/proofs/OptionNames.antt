-- The options that the definition reads, beside the pairs that `clap` finds.
use Rattle.std.proofs.Common.{◌≡◌, ◌∙◌, ◌+◌, ◌&&◌, ◌||◌, ◌==◌, Bool, true, false, not, cond, suc, refl, sym, ap, ap₂, arith, List, [], ◌∷◌, ◌++◌, map, length, take, drop, Option, Some, None, is_some, option_map, option_and_then, find, nat_lt, bytes_eq, true≢false, slice_get}
use Rattle.std.specs.List.{after_first, before_first, list_any, position_or_len}
use Rattle.std.proofs.lemmas.List.{map-append}
use Rattle.std.proofs.lemmas.Slice.Eq.{bytes_eq-Decides}
use Rattle.std.proofs.lemmas.Bool.{or_parts, and_right}
use Rattle.clap.specs.Walk.{Row, Text, first_of}
use Rattle.command_line.specs.Options.{Given, apart, is_equals, is_given, is_value, joined, value_of, with_option}
use Rattle.command_line.proofs.OptionRules.{Opt, Pair, has, known, row, rows_for}

abbrev pub dashed : Pair → Given
dashed d = record { name = 45 ∷ 45 ∷ d.0; value = d.1 }

abbrev pub given_for : List Pair → List Given
given_for ds = map dashed ds

abbrev pub names_for : List Opt → List Text
names_for os = map (λ o. 45 ∷ 45 ∷ o.0) os

among : (os : List Opt) (n : Text) → list_any (λ k. bytes_eq k (45 ∷ 45 ∷ n)) (names_for os) ≡ is_some (known os n)
among [] n = refl
among (o ∷ os) n = go (bytes_eq o.0 n) (among os n)
  where
    go : (b : Bool) → list_any (λ k. bytes_eq k (45 ∷ 45 ∷ n)) (names_for os) ≡ is_some (known os n)
        → (b || list_any (λ k. bytes_eq k (45 ∷ 45 ∷ n)) (names_for os)) ≡ is_some (cond b (Some o) (known os n))
    go true e = refl
    go false e = e

pub given_has : (ds : List Pair) (n : Text) → is_given (45 ∷ 45 ∷ n) (given_for ds) ≡ has ds n
given_has [] n = refl
given_has (d ∷ ds) n = ap (λ b. bytes_eq d.0 n || b) (given_has ds n)

pub value_is : (ds : List Pair) (n : Text) → first_of n (rows_for ds) ≡ value_of (45 ∷ 45 ∷ n) (given_for ds)
value_is [] n = refl
value_is (d ∷ ds) n = go (bytes_eq d.0 n) (value_is ds n)
  where
    go : (b : Bool) → first_of n (rows_for ds) ≡ value_of (45 ∷ 45 ∷ n) (given_for ds)
        → option_and_then (λ (r : Row). slice_get r.values 0) (cond b (Some (row d)) (find (λ r. bytes_eq r.id n) (rows_for ds)))
        ≡ option_map (λ (g : Given). g.value) (cond b (Some (dashed d)) (find (λ g. bytes_eq g.name (45 ∷ 45 ∷ n)) (given_for ds)))
    go true e = refl
    go false e = e

pub not_given : (name : Text) (given : List Given) → is_given name given ≡ false → value_of name given ≡ None
not_given name [] none = refl
not_given name (g ∷ given) none = go (bytes_eq g.name name) none (not_given name given)
  where
    go : (b : Bool) → (b || is_given name given) ≡ false → (is_given name given ≡ false → value_of name given ≡ None)
        → option_map (λ (o : Given). o.value) (cond b (Some g) (find (λ o. bytes_eq o.name name) given)) ≡ None
    go true e rest = absurd (true≢false e)
    go false e rest = rest e

pub flipped : (a b : Text) → bytes_eq a b ≡ false → bytes_eq b a ≡ false
flipped a b clear = go (bytes_eq b a) refl
  where
    go : (t : Bool) → bytes_eq b a ≡ t → t ≡ false
    go true e = absurd (true≢false (sym ((bytes_eq-Decides a b).1 (sym ((bytes_eq-Decides b a).0 e))) ∙ clear))
    go false e = refl

-- ---- names with two dashes, and others

abbrev pub two_dashes : Text → Bool
two_dashes [] = false
two_dashes (x ∷ []) = false
two_dashes (x ∷ y ∷ ys) = x == 45 && y == 45

pub not_among : (os : List Opt) (w : Text) → two_dashes w ≡ false → list_any (λ k. bytes_eq k w) (names_for os) ≡ false
not_among [] w other = refl
not_among (o ∷ os) w other = go (bytes_eq (45 ∷ 45 ∷ o.0) w) refl (not_among os w other)
  where
    go : (b : Bool) → bytes_eq (45 ∷ 45 ∷ o.0) w ≡ b → list_any (λ k. bytes_eq k w) (names_for os) ≡ false
        → (b || list_any (λ k. bytes_eq k w) (names_for os)) ≡ false
    go true e rest = absurd (true≢false (ap two_dashes ((bytes_eq-Decides (45 ∷ 45 ∷ o.0) w).0 e) ∙ other))
    go false e rest = rest

pub no_option : (os : List Opt) (given : List Given) (w v : Text) → two_dashes w ≡ false → with_option (names_for os) given w v ≡ None
no_option os given w v other =
    ap (λ b. cond (b && not (is_given w given)) (Some (given ++ record { name = w; value = v } ∷ [])) None) (not_among os w other)

pub either_none : {X : Type 0} (b : Bool) (o : Option X) → o ≡ None → cond b o None ≡ None
either_none true o none = none
either_none false o none = refl

-- ---- one option more

module _ (os : List Opt) (ds : List Pair) (n v : Text) where
  abbrev by : Bool → Bool → Option (List Given)
  by a h = cond (a && not h) (Some (given_for ds ++ dashed (n, v) ∷ [])) None

  with_is : with_option (names_for os) (given_for ds) (45 ∷ 45 ∷ n) v ≡ by (is_some (known os n)) (has ds n)
  with_is = ap₂ by (among os n) (given_has ds n)

  pub with_new : (o : Opt) → known os n ≡ Some o → has ds n ≡ false
      → with_option (names_for os) (given_for ds) (45 ∷ 45 ∷ n) v ≡ Some (given_for (ds ++ (n, v) ∷ []))
  with_new o is new = with_is ∙ ap₂ by (ap (λ (m : Option Opt). is_some m) is) new ∙ ap (λ l. Some l) (sym (map-append dashed ds ((n, v) ∷ [])))

  pub with_again : has ds n ≡ true → with_option (names_for os) (given_for ds) (45 ∷ 45 ∷ n) v ≡ None
  with_again old =
      with_is ∙ ap (by (is_some (known os n))) old
      ∙ ap (λ b. cond b (Some (given_for ds ++ dashed (n, v) ∷ [])) None) (and_right (is_some (known os n)) false refl)

  pub with_unknown : known os n ≡ None → with_option (names_for os) (given_for ds) (45 ∷ 45 ∷ n) v ≡ None
  with_unknown is = with_is ∙ ap (λ (m : Option Opt). by (is_some m) (has ds n)) is

-- ---- the parts of a word

pub before_dashed : (zs : Text) → before_first is_equals (45 ∷ 45 ∷ zs) ≡ 45 ∷ 45 ∷ before_first is_equals zs
before_dashed zs =
    let k = position_or_len is_equals zs in
    let two : 1 + (1 + k) ≡ suc (suc k) = omega arith in
    ap (λ n. take n (45 ∷ 45 ∷ zs)) two

pub after_dashed : (zs : Text) → after_first is_equals (45 ∷ 45 ∷ zs) ≡ after_first is_equals zs
after_dashed zs =
    let k = position_or_len is_equals zs in
    let two : 1 + (1 + k) + 1 ≡ suc (suc (k + 1)) = omega arith in
    ap (λ n. drop n (45 ∷ 45 ∷ zs)) two

pub before_all : (zs : Text) → list_any is_equals zs ≡ false → before_first is_equals zs ≡ zs
before_all [] none = refl
before_all (x ∷ xs) none =
    let parts = or_parts (is_equals x) (list_any is_equals xs) none in
    let k = position_or_len is_equals xs in
    let one : 1 + k ≡ suc k = omega arith in
    ap (λ b. take (cond (not b) (1 + k) 0) (x ∷ xs)) parts.0 ∙ ap (λ n. take n (x ∷ xs)) one ∙ ap (λ l. x ∷ l) (before_all xs parts.1)

pub before_two : (w : Text) → two_dashes w ≡ false → two_dashes (before_first is_equals w) ≡ false
before_two [] other = refl
before_two (x ∷ []) other = go (is_equals x)
  where
    go : (b : Bool) → two_dashes (take (cond (not b) (1 + 0) 0) (x ∷ [])) ≡ false
    go true = refl
    go false = refl
before_two (x ∷ y ∷ ys) other = go (is_equals x) (is_equals y)
  where
    go : (b d : Bool) → two_dashes (take (cond (not b) (1 + cond (not d) (1 + position_or_len is_equals ys) 0) 0) (x ∷ y ∷ ys)) ≡ false
    go true d = refl
    go false true = refl
    go false false =
        let two : 1 + (1 + position_or_len is_equals ys) ≡ suc (suc (position_or_len is_equals ys)) = omega arith in
        ap (λ n. two_dashes (take n (x ∷ y ∷ ys))) two ∙ other

-- neither form of a word that has no two dashes is an option
pub no_joined : (os : List Opt) (given : List Given) (w : Text) → two_dashes w ≡ false → joined (names_for os) given w ≡ None
no_joined os given w other =
    either_none (nat_lt 0 (length (after_first is_equals w))) (with_option (names_for os) given (before_first is_equals w) (after_first is_equals w))
    (no_option os given (before_first is_equals w) (after_first is_equals w) (before_two w other))

pub no_apart : (os : List Opt) (given : List Given) (w v : Text) → two_dashes w ≡ false → apart (names_for os) given w v ≡ None
no_apart os given w v other = either_none (is_value v) (with_option (names_for os) given w v) (no_option os given w v other)
