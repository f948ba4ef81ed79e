-- The limits in a body, within their bounds.
use Rattle.std.proofs.Common.{◌≡◌, ◌-◌, ◌^◌, ℕ, true, List, [], ◌∷◌, Option, Some, None, refl, arith}
use Rattle.std.specs.Prelude.{codes, nat_lt, option_and_then, option_map}
use Rattle.std.specs.List.{list_all}
use Rattle.std.proofs.lemmas.Bool.{and_from, and_parts, lt-ltb}
use Rattle.serde_json.specs.Data.{Data, null, boolean, number, string, array, object, Members}
use Rattle.serde_json.specs.Find.{get}
use Rattle.api_calls.specs.declared.test.Test.{Test}
use Rattle.api_calls.specs.declared.test.Test.TheVariants as test
use Rattle.api_calls.specs.Form.{holds, level_passes, number_at, object_at, object_passes, row_passes}
use Rattle.api_calls.specs.Fields.{bucket_rows, limiter_levels}
use Rattle.api_calls.specs.Call.{bucket_of, limiter_at, limiter_of}
use Rattle.api_calls.specs.Limits.{is_bucket, is_limiter}
use Rattle.api_calls.proofs.Ranges.{IsWithin, needed_number, optional_number}

-- ---- a bucket

burst_below : (o : Option ℕ) → ((n : ℕ) → o ≡ Some n → IsWithin 0 (2 ^ 48 - 1) n) → holds (λ n. nat_lt n (2 ^ 48)) o ≡ true
burst_below None each = refl
burst_below (Some n) each = lt-ltb n (2 ^ 48) (omega (arith, (each n refl).1))

bucket_is : (ms : Members) → object_passes test.There bucket_rows (object ms) ≡ true → object_passes test.Kind bucket_rows (object ms) ≡ true
    → object_passes test.Range bucket_rows (object ms) ≡ true → is_bucket (bucket_of (object ms)) ≡ true
unfolding object_passes row_passes
bucket_is ms there kind range =
    let kinds = (and_parts _ _ kind).1 in
    let ranges = (and_parts _ _ range).1 in
    let size = needed_number 0 (2 ^ 48 - 1) (get (codes "size") (object ms)) (and_parts _ _ there).0 (and_parts _ _ kind).0 (and_parts _ _ range).0 in
    let time =
    needed_number 0 (2 ^ 32 - 1) (get (codes "refill_time") (object ms)) (and_parts _ _ (and_parts _ _ there).1).0 (and_parts _ _ kinds).0
    (and_parts _ _ ranges).0 in
    let burst =
    optional_number 0 (2 ^ 48 - 1) (get (codes "one_time_burst") (object ms)) (and_parts _ _ (and_parts _ _ kinds).1).0
    (and_parts _ _ (and_parts _ _ ranges).1).0 in
    and_from _ _
    (and_from _ _ (lt-ltb (bucket_of (object ms)).size (2 ^ 48) (omega (arith, size.1))) (lt-ltb (bucket_of (object ms)).refill_time (2 ^ 32) (omega (arith, time.1))))
    (burst_below (number_at (codes "one_time_burst") (object ms)) burst)

-- the bucket in a field, if it has one
bucket_held : (g : Option Data) → holds (object_passes test.There bucket_rows) (option_and_then (object_at []) g) ≡ true
    → holds (object_passes test.Kind bucket_rows) (option_and_then (object_at []) g) ≡ true
    → holds (object_passes test.Range bucket_rows) (option_and_then (object_at []) g) ≡ true
    → holds is_bucket (option_map bucket_of (option_and_then (object_at []) g)) ≡ true
bucket_held None there kind range = refl
bucket_held (Some null) there kind range = refl
bucket_held (Some (boolean b)) there kind range = refl
bucket_held (Some (number n)) there kind range = refl
bucket_held (Some (string s)) there kind range = refl
bucket_held (Some (array ds)) there kind range = refl
bucket_held (Some (object ms)) there kind range = bucket_is ms there kind range

-- ---- the limits in a field

-- the two buckets in what the field has pass a test
abbrev BucketsPass : Test → Option Data → Type 0
BucketsPass t g =
    (holds (object_passes t bucket_rows) (option_and_then (object_at (codes "bandwidth" ∷ [])) g) ≡ true)
    × (holds (object_passes t bucket_rows) (option_and_then (object_at (codes "ops" ∷ [])) g) ≡ true)

limits_held : (g : Option Data) → BucketsPass test.There g → BucketsPass test.Kind g → BucketsPass test.Range g
    → holds is_limiter (option_map limiter_of (option_and_then (object_at []) g)) ≡ true
limits_held None there kind range = refl
limits_held (Some null) there kind range = refl
limits_held (Some (boolean b)) there kind range = refl
limits_held (Some (number n)) there kind range = refl
limits_held (Some (string s)) there kind range = refl
limits_held (Some (array ds)) there kind range = refl
limits_held (Some (object ms)) there kind range =
    and_from _ _ (bucket_held (get (codes "bandwidth") (object ms)) there.0 kind.0 range.0)
    (bucket_held (get (codes "ops") (object ms)) there.1 kind.1 range.1)

-- of the levels of a limiter, the two behind the first are its buckets
buckets_pass : (t : Test) (name : List ℕ) (d : Data) → list_all (level_passes t d) (limiter_levels name) ≡ true → BucketsPass t (get name d)
buckets_pass t name d all =
    let rest = (and_parts _ _ all).1 in
    let last = (and_parts _ _ rest).1 in
    ((and_parts _ _ rest).0, (and_parts _ _ last).0)

-- by the tests of its levels
abbrev pub LevelsPass : List ℕ → Data → Type 0
LevelsPass name d =
    (list_all (level_passes test.There d) (limiter_levels name) ≡ true)
    × (list_all (level_passes test.Kind d) (limiter_levels name) ≡ true)
    × (list_all (level_passes test.Range d) (limiter_levels name) ≡ true)

pub limiter_is : (name : List ℕ) (d : Data) → LevelsPass name d → holds is_limiter (limiter_at name d) ≡ true
limiter_is name d pass =
    limits_held (get name d) (buckets_pass test.There name d pass.0) (buckets_pass test.Kind name d pass.1) (buckets_pass test.Range name d pass.2)
