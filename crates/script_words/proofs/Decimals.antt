-- The number that digits write: `parse` reads it, and `decimal` writes them.
use Rattle.std.proofs.Common.{rules, ◌≡◌, ℕ, zero, suc, ◌+◌, ◌-◌, ◌*◌, ◌^◌, ◌<◌, ◌==◌, nat_lt, Bool, true, false, ◌&&◌, if◌then◌else◌, List, [], ◌∷◌, length, get_or, Some, None, Result, Ok, Err, refl, sym, ◌∙◌, ap, subst, inl, inr, arith}
use Rattle.std.proofs.lemmas.Bool.{and_parts, cases_eq, le-leb, leb-true, ne_eqb, not_from_false}
use Rattle.std.proofs.lemmas.Bool.Decides.{nat_tests}
use Rattle.std.proofs.lemmas.Fmt.{decimal-digits_value, decimal_digit, decimal_nonempty, digits_decimal, digits_value-decimal, first_decimal}
use Rattle.std.proofs.lemmas.Option.{cond_some}
use Rattle.std.proofs.lemmas.Str.{IsUtf8-from_ascii}
use Rattle.std.proofs.lemmas.Str.Parse.{IsNumeralModel, numerals_by_fold, parse_digits}
use Rattle.std.specs.Fmt.{decimal}
use Rattle.std.specs.List.{fold, list_all}
use Rattle.std.specs.Str.{IsUtf8}
use Rattle.std.specs.Str.Parse.{ParsesUnsigned}
use Rattle.script_words.specs.Numbers.{is_digit, is_lone, number_of, value_of}
use Rattle.script_words.proofs.Texts.{all_ascii}

own : IsNumeralModel (λ ds. list_all is_digit ds ≡ true) value_of
own = numerals_by_fold _ (search rules) (λ n ds. fold (λ value c. 10 * value + (c - 48)) n ds) (search rules)

digit_is_ascii : (c : ℕ) → is_digit c ≡ true → c < 128
digit_is_ascii c h = grind (arith, nat_tests)

pub digits_are_utf8 : (digits : List ℕ) → list_all is_digit digits ≡ true → IsUtf8 digits
digits_are_utf8 digits all = IsUtf8-from_ascii digits (all_ascii is_digit digit_is_ascii digits all)

pub parsed : {E : Type 0} (digits text : List ℕ) (r : Result ℕ E) (value : ℕ) → list_all is_digit digits ≡ true → text ≡ digits → ParsesUnsigned 64 10 text r → r ≡ Ok value
    → Some value ≡ (if nat_lt (value_of digits) (2 ^ 64) then Some (value_of digits) else None)
parsed digits text r value all same parses is =
    let got = rw is at (parse_digits own 64 digits r (rw same at parses) all) in
    let test : nat_lt (value_of digits) (2 ^ 64) ≡ true = le-leb (suc (value_of digits)) (2 ^ 64) got.0.1 in
    rw (test, got.1) refl

unparsed_by : (b : Bool) (value : ℕ) → (b ≡ true → ⊥) → None ≡ (if b then Some value else None)
unparsed_by true value never = absurd (never refl)
unparsed_by false value never = refl

pub unparsed : {E : Type 0} (digits text : List ℕ) (r : Result ℕ E) (e : E) → list_all is_digit digits ≡ true → 0 < length digits → text ≡ digits → ParsesUnsigned 64 10 text r → r ≡ Err e
    → None ≡ (if nat_lt (value_of digits) (2 ^ 64) then Some (value_of digits) else None)
unparsed digits text r e all some same parses is =
    let never = rw is at (parse_digits own 64 digits r (rw same at parses) all) in
    unparsed_by (nat_lt (value_of digits) (2 ^ 64)) (value_of digits)
    (λ test. never (some, leb-true (suc (value_of digits)) (2 ^ 64) test))

lone : (c : ℕ) (text : List ℕ) → is_lone c text ≡ true → get_or (c ∷ text) 0 0 ≡ 48 → length (c ∷ text) ≡ 1
lone c [] is first = refl
lone c (d ∷ text) is first = absurd (grind (arith, nat_tests))

-- what is read as a number is its digits
pub number_reads : (text : List ℕ) (n : ℕ) → number_of text ≡ Some n → (text ≡ decimal n) × (n < 2 ^ 64)
number_reads [] n is = cc
number_reads (c ∷ text) n is =
    let got = cond_some (list_all is_digit (c ∷ text) && is_lone c text && nat_lt (value_of (c ∷ text)) (2 ^ 64)) (value_of (c ∷ text)) n is in
    let tests = and_parts (list_all is_digit (c ∷ text) && is_lone c text) (nat_lt (value_of (c ∷ text)) (2 ^ 64)) got.0 in
    let form = and_parts (list_all is_digit (c ∷ text)) (is_lone c text) tests.0 in
    let small : value_of (c ∷ text) < 2 ^ 64 = leb-true (suc (value_of (c ∷ text))) (2 ^ 64) tests.1 in
    let digits : decimal (value_of (c ∷ text)) ≡ c ∷ text =
    decimal-digits_value own (c ∷ text) form.0 (omega arith) (lone c text form.1) small in
    (sym digits ∙ ap decimal got.1, subst (λ (m : ℕ). m < 2 ^ 64) got.1 small)

alone : (c : ℕ) (text : List ℕ) → (get_or (c ∷ text) 0 0 ≡ 48 → length (c ∷ text) ≡ 1) → is_lone c text ≡ true
alone c [] once = refl
alone c (d ∷ text) once =
    elim (cases_eq c 48) [ inl is ↦ absurd (omega (arith, once is)) | inr other ↦ not_from_false (c == 48) (ne_eqb c 48 other) ]

number_at : (text : List ℕ) (n : ℕ) → 0 < length text → list_all is_digit text ≡ true → (get_or text 0 0 ≡ 48 → length text ≡ 1) → value_of text ≡ n → n < 2 ^ 64
    → number_of text ≡ Some n
number_at [] n some digits once value small = absurd (omega arith)
number_at (c ∷ text) n some digits once value small =
    let low : nat_lt (value_of (c ∷ text)) (2 ^ 64) ≡ true = le-leb (suc (value_of (c ∷ text))) (2 ^ 64) (subst (λ (m : ℕ). m < 2 ^ 64) (sym value) small) in
    rw (digits, alone c text once, low) (ap Some value)

decimal_once : (n : ℕ) → n < 2 ^ 64 → get_or (decimal n) 0 0 ≡ 48 → length (decimal n) ≡ 1
decimal_once zero small is = ap length (decimal_digit 0 (omega arith))
decimal_once (suc n) small is = absurd (omega (arith, first_decimal (suc n) (omega arith) small))

-- a number's digits are read as it
pub number_writes : (n : ℕ) → n < 2 ^ 64 → number_of (decimal n) ≡ Some n
number_writes n small =
    number_at (decimal n) n (decimal_nonempty n small) (digits_decimal own n small) (decimal_once n small) (digits_value-decimal own n small) small

pub decimal_digits : (n : ℕ) → n < 2 ^ 64 → list_all is_digit (decimal n) ≡ true
decimal_digits n small = digits_decimal own n small
