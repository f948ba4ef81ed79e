-- Limits in the fields of a file: buckets fit, where each number of them has its width.
use Rattle.std.proofs.Common.{◌≡◌, ◌<◌, ◌^◌, ◌*◌, ◌/◌, ◌%◌, ◌+◌, ℕ, arith, Option, Some, None}
use Rattle.std.specs.Prelude.{IfSome}
use Rattle.std.proofs.lemmas.Bool.{leb-true, ltb-true}
use Rattle.std.proofs.lemmas.Nat.{mul-le}
use Rattle.file_format.specs.Kinds.{optional}
use Rattle.file_format.proofs.Fitting.{fits64, fits_optional}
use Rattle.token_bucket.specs.Kept.{Kept}
use Rattle.rate_gate.specs.Small.{IsSmallBucket}
use Rattle.rate_gate.proofs.SmallLimits.{kept_parts}
use Rattle.snap_devices.specs.Limits.{bucket, bucket_fields, owed}

owed_fits : (n : ℕ) → n < 2 ^ 128 → owed.Fits n
unfolding owed
owed_fits n small =
    let back : n ≡ n % 2 ^ 64 + 2 ^ 64 * (n / 2 ^ 64) = omega arith in
    (back, (fits64 (n % 2 ^ 64) (omega arith), fits64 (n / 2 ^ 64) (omega (arith, small))))

bucket_fits : (k : Kept) → IsSmallBucket k → bucket.Fits k
unfolding bucket bucket_fields
bucket_fits k is =
    let parts = kept_parts k is.kept in
    let size = ltb-true _ _ parts.size in
    let fast = ltb-true _ _ parts.fast in
    let owes = leb-true _ _ parts.owes in
    let whole = mul-le k.rate.size k.rate.refill (2 ^ 48) (2 ^ 52) (omega (arith, size)) (omega (arith, fast)) in (
      (
        fits64 k.rate.size (omega (arith, size)),
        (
          fits64 k.rate.refill (omega (arith, fast)),
          (fits64 k.burst is.burst, (owed_fits k.owes (omega (arith, owes, whole)), fits64 k.moment is.moment)),
        ),
      ),
      is.kept,
    )

pub bucket_by : (o : Option Kept) → IfSome o IsSmallBucket → (optional bucket).Fits o
bucket_by None is = fits_optional bucket None tt
bucket_by (Some k) is = fits_optional bucket (Some k) (bucket_fits k is)
