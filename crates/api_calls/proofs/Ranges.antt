-- The numbers and texts of a machine and of what it boots, within their bounds.
use Rattle.std.proofs.Common.{◌≡◌, ◌<◌, ◌≤◌, ◌^◌, ℕ, true, false, ◌&&◌, length, [], Option, Some, None, refl, arith}
use Rattle.std.specs.Prelude.{codes, is_some, nat_le, option_and_then, unwrap_or}
use Rattle.std.specs.Str.{is_utf8}
use Rattle.std.proofs.lemmas.Bool.{and_parts, leb-true}
use Rattle.std.proofs.lemmas.Str.{is_utf8-from_IsUtf8}
use Rattle.serde_json.specs.Data.{Data, null, boolean, number, string, array, object, Members}
use Rattle.serde_json.specs.Find.{as_str, as_u64, get}
use Rattle.api_calls.specs.declared.test.Test.TheVariants as test
use Rattle.api_calls.specs.Form.{as_whole, holds, is_in_range, is_of_kind, is_path, number_at, object_passes, refusal, row_passes, text, text_at, unless_null, whole}
use Rattle.api_calls.specs.Fields.{balloon, boot_source, machine_config, machine_patch, statistics_patch, vsock}
use Rattle.api_calls.specs.Call.{text_or_none}
use Rattle.api_calls.proofs.Bodies.{passed, form_parts, file_path, optional_path, held}

-- ---- a text that need not be there

-- no text at all is one
no_text : is_utf8 [] ≡ true
no_text = is_utf8-from_IsUtf8 [] ([], (refl, refl))

short_text : (most : ℕ) (g : Option Data) → holds (is_of_kind (text most)) (option_and_then (unless_null false) g) ≡ true
    → holds (is_in_range (text most)) (option_and_then (unless_null false) g) ≡ true
    → (length (text_or_none (option_and_then as_str g)) ≤ most) × (is_utf8 (text_or_none (option_and_then as_str g)) ≡ true)
unfolding is_of_kind is_in_range
short_text most None kind range = (omega arith, no_text)
short_text most (Some null) kind range = (omega arith, no_text)
short_text most (Some (boolean b)) kind range = absurd cc
short_text most (Some (number n)) kind range = absurd cc
short_text most (Some (string s)) kind range =
    let two = and_parts (nat_le (length s) most) (is_utf8 s) range in (leb-true (length s) most two.0, two.1)
short_text most (Some (array ds)) kind range = absurd cc
short_text most (Some (object ms)) kind range = absurd cc

-- ---- a whole number

abbrev pub IsWithin : ℕ → ℕ → ℕ → Type 0
IsWithin least most n = (least ≤ n) × (n ≤ most)

within : (least most n : ℕ) → (nat_le least n && nat_le n most) ≡ true → IsWithin least most n
within least most n is =
    let both = and_parts (nat_le least n) (nat_le n most) is in
    (leb-true least n both.0, leb-true n most both.1)

some_within : (least most : ℕ) (o : Option ℕ) → is_some o ≡ true
    → holds (λ n. nat_le least n && nat_le n most) o ≡ true → IsWithin least most (unwrap_or o 0)
some_within least most None there is = absurd cc
some_within least most (Some n) there is = within least most n is

given_within : (least most : ℕ) (o : Option ℕ) (n : ℕ) → holds (λ n. nat_le least n && nat_le n most) o ≡ true → o ≡ Some n
    → IsWithin least most n
given_within least most None n is same = absurd cc
given_within least most (Some k) n is same = let e : k ≡ n = cc in rw e at (within least most k is)

-- in a field that must be there
pub needed_number : (least most : ℕ) (g : Option Data) → is_some (option_and_then (unless_null true) g) ≡ true
    → holds (is_of_kind (whole least most)) (option_and_then (unless_null true) g) ≡ true
    → holds (is_in_range (whole least most)) (option_and_then (unless_null true) g) ≡ true
    → IsWithin least most (unwrap_or (option_and_then as_whole g) 0)
unfolding is_of_kind is_in_range
needed_number least most None there kind range = absurd cc
needed_number least most (Some null) there kind range = absurd cc
needed_number least most (Some (boolean b)) there kind range = absurd cc
needed_number least most (Some (number n)) there kind range = some_within least most (as_u64 n) kind range
needed_number least most (Some (string s)) there kind range = absurd cc
needed_number least most (Some (array ds)) there kind range = absurd cc
needed_number least most (Some (object ms)) there kind range = absurd cc

-- in one that need not
pub optional_number : (least most : ℕ) (g : Option Data) → holds (is_of_kind (whole least most)) (option_and_then (unless_null false) g) ≡ true
    → holds (is_in_range (whole least most)) (option_and_then (unless_null false) g) ≡ true
    → (n : ℕ) → option_and_then as_whole g ≡ Some n → IsWithin least most n
unfolding is_of_kind is_in_range
optional_number least most None kind range n is = absurd cc
optional_number least most (Some null) kind range n is = absurd cc
optional_number least most (Some (boolean b)) kind range n is = absurd cc
optional_number least most (Some (number k)) kind range n is = given_within least most (as_u64 k) n range is
optional_number least most (Some (string s)) kind range n is = absurd cc
optional_number least most (Some (array ds)) kind range n is = absurd cc
optional_number least most (Some (object ms)) kind range n is = absurd cc

-- ---- the bodies

abbrev pub IsSource : Data → Type 0
IsSource d =
    (is_path (text_or_none (text_at (codes "kernel_image_path") d)) ≡ true)
    × (holds is_path (text_at (codes "initrd_path") d) ≡ true)
    × (length (text_or_none (text_at (codes "boot_args") d)) ≤ 2048)
    × (is_utf8 (text_or_none (text_at (codes "boot_args") d)) ≡ true)

pub source_is : (ms : Members) → refusal boot_source (object ms) ≡ None → IsSource (object ms)
unfolding object_passes row_passes
source_is ms none =
    let all = passed boot_source (object ms) none in
    let there = (form_parts _ _ _ (object ms) test.There all.0).0 in
    let kind = (form_parts _ _ _ (object ms) test.Kind all.1).0 in
    let range = (form_parts _ _ _ (object ms) test.Range all.2).0 in
    let kinds = (and_parts _ _ kind).1 in
    let ranges = (and_parts _ _ range).1 in
    let args = short_text 2048 (get (codes "boot_args") (object ms)) (and_parts _ _ (and_parts _ _ kinds).1).0 (and_parts _ _ (and_parts _ _ ranges).1).0 in (
      file_path (codes "kernel_image_path") (object ms) (and_parts _ _ there).0 (and_parts _ _ kind).0 (and_parts _ _ range).0,
      held _ _ (optional_path (get (codes "initrd_path") (object ms)) (and_parts _ _ kinds).0 (and_parts _ _ ranges).0),
      args.0,
      args.1,
    )

abbrev pub IsMachine : Data → Type 0
IsMachine d =
    IsWithin 1 32 (unwrap_or (number_at (codes "vcpu_count") d) 0)
    × IsWithin 4 4096 (unwrap_or (number_at (codes "mem_size_mib") d) 0)

pub machine_is : (ms : Members) → refusal machine_config (object ms) ≡ None → IsMachine (object ms)
unfolding object_passes row_passes
machine_is ms none =
    let all = passed machine_config (object ms) none in
    let there = (form_parts _ _ _ (object ms) test.There all.0).0 in
    let kind = (form_parts _ _ _ (object ms) test.Kind all.1).0 in
    let range = (form_parts _ _ _ (object ms) test.Range all.2).0 in (
      needed_number 1 32 (get (codes "vcpu_count") (object ms)) (and_parts _ _ there).0 (and_parts _ _ kind).0 (and_parts _ _ range).0,
      needed_number 4 4096 (get (codes "mem_size_mib") (object ms)) (and_parts _ _ (and_parts _ _ there).1).0
          (and_parts _ _ (and_parts _ _ kind).1).0 (and_parts _ _ (and_parts _ _ range).1).0,
    )

abbrev pub IsMachinePatch : Data → Type 0
IsMachinePatch d =
    ((n : ℕ) → number_at (codes "vcpu_count") d ≡ Some n → IsWithin 1 32 n)
    × ((n : ℕ) → number_at (codes "mem_size_mib") d ≡ Some n → IsWithin 4 4096 n)

pub machine_patch_is : (ms : Members) → refusal machine_patch (object ms) ≡ None → IsMachinePatch (object ms)
unfolding object_passes row_passes
machine_patch_is ms none =
    let all = passed machine_patch (object ms) none in
    let kind = (form_parts _ _ _ (object ms) test.Kind all.1).0 in
    let range = (form_parts _ _ _ (object ms) test.Range all.2).0 in (
      optional_number 1 32 (get (codes "vcpu_count") (object ms)) (and_parts _ _ kind).0 (and_parts _ _ range).0,
      optional_number 4 4096 (get (codes "mem_size_mib") (object ms)) (and_parts _ _ (and_parts _ _ kind).1).0
          (and_parts _ _ (and_parts _ _ range).1).0,
    )

abbrev pub IsVsock : Data → Type 0
IsVsock d =
    IsWithin 3 4294967294 (unwrap_or (number_at (codes "guest_cid") d) 0)
    × (is_path (text_or_none (text_at (codes "uds_path") d)) ≡ true)

pub vsock_is : (ms : Members) → refusal vsock (object ms) ≡ None → IsVsock (object ms)
unfolding object_passes row_passes
vsock_is ms none =
    let all = passed vsock (object ms) none in
    let there = (form_parts _ _ _ (object ms) test.There all.0).0 in
    let kind = (form_parts _ _ _ (object ms) test.Kind all.1).0 in
    let range = (form_parts _ _ _ (object ms) test.Range all.2).0 in (
      needed_number 3 4294967294 (get (codes "guest_cid") (object ms)) (and_parts _ _ there).0 (and_parts _ _ kind).0 (and_parts _ _ range).0,
      file_path (codes "uds_path") (object ms) (and_parts _ _ (and_parts _ _ there).1).0 (and_parts _ _ (and_parts _ _ kind).1).0
          (and_parts _ _ (and_parts _ _ range).1).0,
    )

-- ---- a balloon's reports

-- a number that need not be there, or zero
within_or_zero : (most : ℕ) (o : Option ℕ) → ((n : ℕ) → o ≡ Some n → IsWithin 0 most n) → unwrap_or o 0 ≤ most
within_or_zero most None each = omega arith
within_or_zero most (Some n) each = (each n refl).1

abbrev pub IsNear : Data → Type 0
IsNear d = unwrap_or (number_at (codes "stats_polling_interval_s") d) 0 < 2 ^ 16

pub balloon_is : (ms : Members) → refusal balloon (object ms) ≡ None → IsNear (object ms)
unfolding object_passes row_passes
balloon_is ms none =
    let all = passed balloon (object ms) none in
    let kind = (form_parts _ _ _ (object ms) test.Kind all.1).0 in
    let range = (form_parts _ _ _ (object ms) test.Range all.2).0 in
    let most = within_or_zero 65535 (number_at (codes "stats_polling_interval_s") (object ms))
    (optional_number 0 65535 (get (codes "stats_polling_interval_s") (object ms)) (and_parts _ _ (and_parts _ _ (and_parts _ _ kind).1).1).0
    (and_parts _ _ (and_parts _ _ (and_parts _ _ range).1).1).0) in
    omega (arith, most)

pub statistics_is : (ms : Members) → refusal statistics_patch (object ms) ≡ None → IsNear (object ms)
unfolding object_passes row_passes
statistics_is ms none =
    let all = passed statistics_patch (object ms) none in
    let there = (form_parts _ _ _ (object ms) test.There all.0).0 in
    let kind = (form_parts _ _ _ (object ms) test.Kind all.1).0 in
    let range = (form_parts _ _ _ (object ms) test.Range all.2).0 in
    let within = needed_number 0 65535 (get (codes "stats_polling_interval_s") (object ms)) (and_parts _ _ there).0 (and_parts _ _ kind).0 (and_parts _ _ range).0 in
    omega (arith, within.1)
