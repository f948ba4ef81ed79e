-- Numbers in bounds, words of 64 bits and addresses, read and written.
use Rattle.std.proofs.Common.{◌≡◌, ℕ, zero, suc, ◌+◌, ◌*◌, ◌/◌, ◌%◌, ◌^◌, ◌<◌, ◌≤◌, ◌==◌, nat_le, Bool, true, false, if◌then◌else◌, ◌&&◌, List, [], ◌∷◌, ◌++◌, length, get_or, Some, None, option_and_then, refl, sym, ◌∙◌, ap, subst, arith}
use Rattle.std.proofs.Math.Nat.{pow-le-pow_right, pow-suc}
use Rattle.std.proofs.lemmas.Bool.{and_from, and_parts, cond-true, eq-eqb, eqb-true, le-leb, leb-true}
use Rattle.std.proofs.lemmas.Fmt.{digits_is_IsNumeral}
use Rattle.std.proofs.lemmas.Int.Digits.{digits_value-lt}
use Rattle.std.proofs.lemmas.List.Elements.{All-from_recursion, recursion_from_All}
use Rattle.std.proofs.lemmas.Nat.{be_bytes_8, from_be_bytes-to_be_bytes_8}
use Rattle.std.proofs.lemmas.Option.{cond_some, option_and_then_some}
use Rattle.std.specs.Char.{digit_value}
use Rattle.std.specs.Fmt.{decimal, digit_glyph, digits, digits_onto}
use Rattle.std.specs.Int.{w64, from_be_bytes, to_be_bytes}
use Rattle.std.specs.List.{All, AllByRecursion, list_all}
use Rattle.std.specs.Str.Parse.{AllDigits, digits_value}
use Rattle.script_words.specs.Numbers.{address_of, address_text, bounded, bytes_of, hex_of, is_address, is_hex, number_of, number_within, numbered, word_by, word_of, word_text}
use Rattle.script_words.specs.Words.{behind}
use Rattle.script_words.proofs.Decimals.{number_reads, number_writes}
use Rattle.script_words.proofs.Hex.{hex_below, hex_reads, hex_writes}
use Rattle.script_words.proofs.Parting.{behind_reads, behind_writes}

-- ---- numbers in bounds

pub within_reads : (least most : ℕ) (text : List ℕ) (n : ℕ) → number_within least most text ≡ Some n → (text ≡ decimal n) × (least ≤ n) × (n ≤ most)
within_reads least most text n is =
    option_and_then_some (bounded least most) (number_of text) n is
    (λ m read by.
    let got = cond_some (nat_le least m && nat_le m most) m n by in
    let range = and_parts (nat_le least m) (nat_le m most) got.0 in
    let number = number_reads text m read in
    subst (λ (k : ℕ). (text ≡ decimal k) × (least ≤ k) × (k ≤ most)) got.1 (number.0, leb-true least m range.0, leb-true m most range.1))

pub within_writes : (least most n : ℕ) → least ≤ n → n ≤ most → n < 2 ^ 64 → number_within least most (decimal n) ≡ Some n
within_writes least most n low high small =
    ap (option_and_then (bounded least most)) (number_writes n small)
    ∙ cond-true (nat_le least n && nat_le n most) (Some n) None (and_from (nat_le least n) (nat_le n most) (le-leb least n low) (le-leb n most high))

pub numbered_reads : (word line : List ℕ) (most n : ℕ) → numbered word most line ≡ Some n → (line ≡ word ++ decimal n) × (n ≤ most)
numbered_reads word line most n is =
    option_and_then_some (number_within 0 most) (behind word line) n is
    (λ rest found read.
    let number = within_reads 0 most rest n read in
    (behind_reads word line rest found ∙ ap (λ (xs : List ℕ). word ++ xs) number.0, number.2))

pub numbered_writes : (word : List ℕ) (most n : ℕ) → n ≤ most → n < 2 ^ 64 → numbered word most (word ++ decimal n) ≡ Some n
numbered_writes word most n high small =
    ap (option_and_then (number_within 0 most)) (behind_writes word (decimal n)) ∙ within_writes 0 most n (omega arith) high small

-- ---- words of 64 bits

below_at : (bytes : List ℕ) → AllByRecursion (λ byte. byte < 256) bytes → (i : ℕ) → get_or bytes i 0 < 256
below_at [] each i = omega arith
below_at (b ∷ bytes) each zero = each.0
below_at (b ∷ bytes) each (suc i) = below_at bytes each.1 i

below : (bytes : List ℕ) → All (λ byte. byte < 256) bytes → (i : ℕ) → get_or bytes i 0 < 256
below bytes each = below_at bytes (recursion_from_All (λ (byte : ℕ). byte < 256) bytes each)

small_word : (bytes : List ℕ) → ((i : ℕ) → get_or bytes i 0 < 256) → from_be_bytes w64 bytes < 2 ^ 64
small_word bytes each = omega (arith, each 0, each 1, each 2, each 3, each 4, each 5, each 6, each 7)

pub word_reads : (text : List ℕ) (word : ℕ) → word_of text ≡ Some word → (text ≡ word_text word) × (word < 2 ^ 64)
word_reads text word is =
    option_and_then_some word_by (bytes_of text) word is
    (λ bytes read by.
    let got = cond_some (length bytes == 8) (from_be_bytes w64 bytes) word by in
    let each = below bytes (hex_below text bytes read) in
    let back : to_be_bytes w64 word ≡ bytes = be_bytes_8 bytes word (eqb-true (length bytes) 8 got.0) each (sym got.1) in
    (hex_reads text bytes read ∙ ap hex_of (sym back), subst (λ (w : ℕ). w < 2 ^ 64) got.1 (small_word bytes each)))

bytes_below : (word : ℕ) → All (λ byte. byte < 256) (to_be_bytes w64 word)
bytes_below word = All-from_recursion (λ (byte : ℕ). byte < 256) (to_be_bytes w64 word)
    (omega arith, (omega arith, (omega arith, (omega arith, (omega arith, (omega arith, (omega arith, (omega arith, tt))))))))

pub word_writes : (word : ℕ) → word < 2 ^ 64 → word_of (word_text word) ≡ Some word
word_writes word small =
    ap (option_and_then word_by) (hex_writes (to_be_bytes w64 word) (bytes_below word))
    ∙ ap Some (from_be_bytes-to_be_bytes_8 word small)

-- ---- addresses

pub each_hex : (text : List ℕ) (i : ℕ) → list_all is_hex text ≡ true → i < length text → is_hex (get_or text i 0) ≡ true
each_hex [] i all lt = absurd (omega arith)
each_hex (c ∷ text) zero all lt = (and_parts (is_hex c) (list_all is_hex text) all).0
each_hex (c ∷ text) (suc i) all lt = each_hex text i (and_parts (is_hex c) (list_all is_hex text) all).1 (omega arith)

pub record Address (text : List ℕ) : Type 0 where
  pub some : 1 ≤ length text
  pub few : length text ≤ 16
  pub digits : list_all is_hex text ≡ true

pub address_parts : (text : List ℕ) → is_address text ≡ true → Address text
address_parts text is =
    let parts = and_parts (nat_le 1 (length text) && nat_le (length text) 16) (list_all is_hex text) is in
    let range = and_parts (nat_le 1 (length text)) (nat_le (length text) 16) parts.0 in
    record { some = leb-true 1 (length text) range.0; few = leb-true (length text) 16 range.1; digits = parts.1 }

pub power_more : (i value digit : ℕ) → value < 16 ^ i → digit < 16 → value * 16 + digit < 16 ^ (i + 1)
power_more i value digit below_power small =
    let more : 16 ^ suc i ≡ 16 ^ i * 16 = pow-suc 16 i in
    let next : i + 1 ≡ suc i = omega arith in
    rw next (omega (arith, more))

pub power_fits : (i value digit : ℕ) → i < 16 → value < 16 ^ i → digit < 16 → value * 16 + digit < 2 ^ 64
power_fits i value digit few below_power small =
    let most : 16 ^ i ≤ 16 ^ 15 = pow-le-pow_right {n = 16} (omega arith) {i = i} {j = 15} (omega arith) in omega (arith, most)

power_whole : (n value : ℕ) → n ≤ 16 → value < 16 ^ n → value < 2 ^ 64
power_whole n value few below_power =
    let most : 16 ^ n ≤ 16 ^ 16 = pow-le-pow_right {n = 16} (omega arith) {i = n} {j = 16} (omega arith) in omega (arith, most)

all_digits : (text : List ℕ) → list_all is_hex text ≡ true → AllDigits 16 text
all_digits [] all = tt
all_digits (c ∷ text) all =
    let parts = and_parts (is_hex c) (list_all is_hex text) all in
    (leb-true (suc (digit_value c)) 16 parts.0, all_digits text parts.1)

pub address_reads : (text : List ℕ) (address : ℕ) → address_of text ≡ Some address → address < 2 ^ 64
address_reads text address is =
    let got = cond_some (is_address text) (digits_value 16 text) address is in
    let parts = address_parts text got.0 in
    subst (λ (a : ℕ). a < 2 ^ 64) got.1
    (power_whole (length text) (digits_value 16 text) parts.few (digits_value-lt 16 text (all_digits text parts.digits)))

are_hex : (text : List ℕ) → AllDigits 16 text → list_all is_hex text ≡ true
are_hex [] all = refl
are_hex (c ∷ text) all = and_from (is_hex c) (list_all is_hex text) (le-leb (suc (digit_value c)) 16 all.0) (are_hex text all.1)

-- no more digits than the power of sixteen that the number is below
onto_by : (b : Bool) (k m n : ℕ) (acc : List ℕ) → (n / 16 == 0) ≡ b → n < 16 ^ suc m
    → ((j : ℕ) → m ≡ suc j → n / 16 < 16 ^ m → length (digits_onto k 16 false (n / 16) (digit_glyph false (n % 16) ∷ acc)) ≤ m + (1 + length acc))
    → length (if b then digit_glyph false (n % 16) ∷ acc else digits_onto k 16 false (n / 16) (digit_glyph false (n % 16) ∷ acc)) ≤ suc m + length acc
onto_by true k m n acc test small more = omega arith
onto_by false k zero n acc test small more =
    let none : n / 16 ≡ 0 = omega (arith, small, pow-suc 16 0) in
    absurd (let yes : (n / 16 == 0) ≡ true = eq-eqb (n / 16) 0 none in cc)
onto_by false k (suc j) n acc test small more =
    let below : n / 16 < 16 ^ suc j = omega (arith, small, pow-suc 16 (suc j)) in
    omega (arith, more j refl below)

onto_length : (k m n : ℕ) (acc : List ℕ) → m < k → n < 16 ^ suc m → length (digits_onto k 16 false n acc) ≤ suc m + length acc
onto_length zero m n acc few small = absurd (omega arith)
onto_length (suc k) m n acc few small =
    onto_by (n / 16 == 0) k m n acc refl small
    (λ j is below.
    let lower : n / 16 < 16 ^ suc j = subst (λ (i : ℕ). n / 16 < 16 ^ i) is below in
    omega (arith, onto_length k j (n / 16) (digit_glyph false (n % 16) ∷ acc) (omega arith) lower, is))

pub few_digits : (n : ℕ) → n < 16 ^ 16 → length (address_text n) ≤ 16
unfolding digits
few_digits n small = omega (arith, onto_length 64 15 n [] (omega arith) small)

address_at : (text : List ℕ) (address : ℕ) → 1 ≤ length text → length text ≤ 16 → list_all is_hex text ≡ true → digits_value 16 text ≡ address
    → address_of text ≡ Some address
address_at text address some few digits value =
    cond-true (is_address text) (Some (digits_value 16 text)) None
    (and_from (nat_le 1 (length text) && nat_le (length text) 16) (list_all is_hex text)
    (and_from (nat_le 1 (length text)) (nat_le (length text) 16) (le-leb 1 (length text) some) (le-leb (length text) 16 few)) digits)
    ∙ ap Some value

pub address_writes : (address : ℕ) → address < 2 ^ 64 → address_of (address_text address) ≡ Some address
address_writes address small =
    let numeral = digits_is_IsNumeral 16 false (omega arith) (omega arith) address (omega (arith, small)) in
    address_at (address_text address) address numeral.0.0 (few_digits address small) (are_hex (address_text address) numeral.0.1) numeral.1

pub address_is_hex : (address : ℕ) → address < 2 ^ 64 → list_all is_hex (address_text address) ≡ true
address_is_hex address small =
    are_hex (address_text address) (digits_is_IsNumeral 16 false (omega arith) (omega arith) address (omega (arith, small))).0.1
