-- A gate comes back from its saved form.
use Rattle.std.proofs.Common.{◌≡◌, refl, ap, ap₂, Option, Some, None}
use Rattle.std.specs.Prelude.{option_map}
use Rattle.token_bucket.specs.Kept.{Kept, saved_of}
use Rattle.token_bucket.proofs.Takes.{loaded_is}
use Rattle.rate_gate.specs.Gate.{Buckets}
use Rattle.rate_gate.specs.Saved.{HaveSameRates, bucket_at, gate_at, gate_saved, rate_in}

bucket_back : (bucket other : Option Kept) → rate_in other ≡ rate_in bucket
    → bucket_at other (option_map saved_of bucket) ≡ bucket
bucket_back None None same = refl
bucket_back None (Some other) same = cc
bucket_back (Some kept) None same = cc
bucket_back (Some kept) (Some other) same =
    let rate : other.rate ≡ kept.rate = cc in
    rw rate (ap (λ k. Some k) (loaded_is kept))

pub gate_back : (gate other : Buckets) → HaveSameRates other gate → gate_at other (gate_saved gate) ≡ gate
gate_back gate other same =
    let whole : Option Kept → Option Kept → Buckets = λ bandwidth ops. record { bandwidth = bandwidth; ops = ops } in
    ap₂ whole (bucket_back gate.bandwidth other.bandwidth same.bandwidth_rate) (bucket_back gate.ops other.ops same.ops_rate)
