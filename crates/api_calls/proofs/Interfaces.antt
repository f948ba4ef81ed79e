-- The interfaces that a PUT and a PATCH name, their links, addresses and limits.
use Rattle.std.proofs.Common.{◌≡◌, ◌<◌, ℕ, Bool, true, false, ◌==◌, List, [], ◌∷◌, ◌++◌, length, Option, Some, None, refl, sym, ◌∙◌, subst, arith}
use Rattle.std.specs.Prelude.{codes, option_and_then, option_map}
use Rattle.std.specs.Char.{is_ascii_hexdigit, to_ascii_lowercase}
use Rattle.std.specs.List.{list_all}
use Rattle.std.proofs.lemmas.Bool.{agree_below_at, and_from, and_parts, eqb-true}
use Rattle.std.proofs.lemmas.Bool.Decides.{nat_tests}
use Rattle.std.proofs.lemmas.List.Folds.{list_all-append}
use Rattle.std.proofs.lemmas.List.{length-map}
use Rattle.std.proofs.lemmas.Slice.Eq.{bytes_eq-Decides}
use Rattle.std.proofs.lemmas.Str.Ascii.{lowercase-lowercase}
use Rattle.serde_json.specs.Data.{Data, null, boolean, number, string, array, object, Members}
use Rattle.serde_json.specs.Find.{as_str, get}
use Rattle.api_calls.specs.declared.test.Test.TheVariants as test
use Rattle.api_calls.specs.Addresses.{are_digits, are_pairs, is_mac, is_small_mac, lowered}
use Rattle.api_calls.specs.Form.{Level, mac, holds, is_id, is_in_range, is_of_kind, is_path, level_passes, object_passes, refusal, row_passes, text_at, unless_null}
use Rattle.api_calls.specs.Fields.{interface, interface_patch, limiter_levels}
use Rattle.api_calls.specs.Call.{limiter_at, text_or_none}
use Rattle.api_calls.specs.Limits.{is_limiter}
use Rattle.api_calls.proofs.Bodies.{passed, form_parts, id_text, file_path}
use Rattle.api_calls.proofs.Limits.{limiter_is}

-- ---- an address with small letters

hexdigit_most : (c : ℕ) → is_ascii_hexdigit c ≡ true → c < 128
hexdigit_most c is = grind (arith, nat_tests)

hexdigit_lowered : (c : ℕ) → is_ascii_hexdigit c ≡ true → is_ascii_hexdigit (to_ascii_lowercase c) ≡ true
hexdigit_lowered c is = agree_below_at (λ b. is_ascii_hexdigit (to_ascii_lowercase b)) is_ascii_hexdigit 128 c refl (hexdigit_most c is) ∙ is

digits_lowered : (a b : ℕ) → are_digits a b ≡ true → are_digits (to_ascii_lowercase a) (to_ascii_lowercase b) ≡ true
digits_lowered a b are =
    let two = and_parts (is_ascii_hexdigit a) (is_ascii_hexdigit b) are in
    and_from _ _ (hexdigit_lowered a two.0) (hexdigit_lowered b two.1)

colon_lowered : (c : ℕ) → (c == 58) ≡ true → (to_ascii_lowercase c == 58) ≡ true
colon_lowered c is = let e = eqb-true c 58 is in rw e refl

pairs_lowered : (t : List ℕ) → are_pairs t ≡ true → are_pairs (lowered t) ≡ true
pairs_lowered [] is = absurd cc
pairs_lowered (a ∷ []) is = absurd cc
pairs_lowered (a ∷ b ∷ []) is = digits_lowered a b is
pairs_lowered (a ∷ b ∷ c ∷ t) is =
    let all = and_parts _ (are_pairs t) is in
    let two = and_parts (are_digits a b) (c == 58) all.0 in
    and_from _ _ (and_from _ _ (digits_lowered a b two.0) (colon_lowered c two.1)) (pairs_lowered t all.1)

lowered_twice : (t : List ℕ) → lowered (lowered t) ≡ lowered t
lowered_twice [] = refl
lowered_twice (c ∷ t) = rw (lowercase-lowercase c, lowered_twice t) refl

pub lowered_small : (t : List ℕ) → is_mac t ≡ true → is_small_mac (lowered t) ≡ true
lowered_small t is =
    let two = and_parts (length t == 17) (are_pairs t) is in
    and_from _ _
    (and_from _ _ (subst (λ (n : ℕ). (n == 17) ≡ true) (sym (length-map t to_ascii_lowercase)) two.0) (pairs_lowered t two.1))
    ((bytes_eq-Decides (lowered (lowered t)) (lowered t)).1 (lowered_twice t))

-- in a field that need not be there
optional_mac : (g : Option Data) → holds (is_of_kind mac) (option_and_then (unless_null false) g) ≡ true
    → holds (is_in_range mac) (option_and_then (unless_null false) g) ≡ true
    → holds is_small_mac (option_map lowered (option_and_then as_str g)) ≡ true
unfolding is_of_kind is_in_range
optional_mac None kind range = refl
optional_mac (Some null) kind range = refl
optional_mac (Some (boolean b)) kind range = absurd cc
optional_mac (Some (number n)) kind range = absurd cc
optional_mac (Some (string s)) kind range = lowered_small s range
optional_mac (Some (array ds)) kind range = absurd cc
optional_mac (Some (object ms)) kind range = absurd cc

-- ---- the limits of both directions

abbrev AreLimited : Data → Type 0
AreLimited d =
    (holds is_limiter (limiter_at (codes "rx_rate_limiter") d) ≡ true)
    × (holds is_limiter (limiter_at (codes "tx_rate_limiter") d) ≡ true)

-- the levels of both, by a test
both : (p : Level → Bool) → list_all p (limiter_levels (codes "rx_rate_limiter") ++ limiter_levels (codes "tx_rate_limiter")) ≡ true
    → (list_all p (limiter_levels (codes "rx_rate_limiter")) ≡ true) × (list_all p (limiter_levels (codes "tx_rate_limiter")) ≡ true)
both p all =
    and_parts _ _ (sym (list_all-append p (limiter_levels (codes "rx_rate_limiter")) (limiter_levels (codes "tx_rate_limiter"))) ∙ all)

-- ---- a PUT

abbrev pub IsInterface : Data → Type 0
IsInterface d =
    (is_id (text_or_none (text_at (codes "iface_id") d)) ≡ true)
    × (is_path (text_or_none (text_at (codes "host_dev_name") d)) ≡ true)
    × (holds is_small_mac (option_map lowered (text_at (codes "guest_mac") d)) ≡ true)
    × AreLimited d

pub interface_is : (named : List ℕ) (ms : Members) → refusal (interface named) (object ms) ≡ None → IsInterface (object ms)
unfolding object_passes row_passes
interface_is named ms none =
    let all = passed (interface named) (object ms) none in
    let theres = form_parts _ _ _ (object ms) test.There all.0 in
    let kinds = form_parts _ _ _ (object ms) test.Kind all.1 in
    let ranges = form_parts _ _ _ (object ms) test.Range all.2 in
    let there = theres.0 in
    let kind = kinds.0 in
    let range = ranges.0 in
    let t = both (level_passes test.There (object ms)) theres.1 in
    let k = both (level_passes test.Kind (object ms)) kinds.1 in
    let r = both (level_passes test.Range (object ms)) ranges.1 in (
      id_text (codes "iface_id") (object ms) (and_parts _ _ there).0 (and_parts _ _ kind).0 (and_parts _ _ range).0,
      file_path (codes "host_dev_name") (object ms) (and_parts _ _ (and_parts _ _ there).1).0 (and_parts _ _ (and_parts _ _ kind).1).0
          (and_parts _ _ (and_parts _ _ range).1).0,
      optional_mac (get (codes "guest_mac") (object ms)) (and_parts _ _ (and_parts _ _ (and_parts _ _ kind).1).1).0
          (and_parts _ _ (and_parts _ _ (and_parts _ _ range).1).1).0,
      (limiter_is (codes "rx_rate_limiter") (object ms) (t.0, k.0, r.0), limiter_is (codes "tx_rate_limiter") (object ms) (t.1, k.1, r.1)),
    )

-- ---- a PATCH

abbrev pub IsInterfacePatch : Data → Type 0
IsInterfacePatch d = (is_id (text_or_none (text_at (codes "iface_id") d)) ≡ true) × AreLimited d

pub interface_patch_is : (named : List ℕ) (ms : Members) → refusal (interface_patch named) (object ms) ≡ None → IsInterfacePatch (object ms)
unfolding object_passes row_passes
interface_patch_is named ms none =
    let all = passed (interface_patch named) (object ms) none in
    let theres = form_parts _ _ _ (object ms) test.There all.0 in
    let kinds = form_parts _ _ _ (object ms) test.Kind all.1 in
    let ranges = form_parts _ _ _ (object ms) test.Range all.2 in
    let t = both (level_passes test.There (object ms)) theres.1 in
    let k = both (level_passes test.Kind (object ms)) kinds.1 in
    let r = both (level_passes test.Range (object ms)) ranges.1 in (
      id_text (codes "iface_id") (object ms) (and_parts _ _ theres.0).0 (and_parts _ _ kinds.0).0 (and_parts _ _ ranges.0).0,
      (limiter_is (codes "rx_rate_limiter") (object ms) (t.0, k.0, r.0), limiter_is (codes "tx_rate_limiter") (object ms) (t.1, k.1, r.1)),
    )
