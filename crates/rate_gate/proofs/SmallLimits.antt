-- Buckets are small where those before were, by a need and a moment of 64 bits; and so are others in their place.
use Rattle.std.proofs.Common.{◌≡◌, ◌<◌, ◌≤◌, ◌^◌, ◌+◌, ◌-◌, ◌*◌, ◌==◌, ◌&&◌, ◌||◌, ℕ, nat_eq, nat_le, nat_lt, Bool, true, false, inl, inr, ◌⊎◌, if◌then◌else◌, Option, Some, None, IfSome, arith, subst, sym, refl}
use Rattle.std.specs.Prelude.{unwrap_or}
use Rattle.std.proofs.lemmas.Bool.{and_from, and_parts, eqb-true, le-leb, leb-true, lt-ltb, ltb-true}
use Rattle.std.proofs.lemmas.Nat.{mul-le}
use Rattle.token_bucket.specs.Allowance.{fits}
use Rattle.token_bucket.specs.Kept.{Kept, is_kept, owes_at, takes, took}
use Rattle.token_bucket.specs.Rate.{Rate, full}
use Rattle.rate_gate.specs.Gate.{Buckets, bucket_takes, bucket_took, gate_passes, gate_takes, gate_took, ops_need, with_buckets}
use Rattle.rate_gate.specs.Small.{AreSmallLimits, AreSmallOthers, IsSmallBucket}

-- a need that passes is paid by the burst, or the balance has what it adds, or nothing is owed
passed_by : (none room there large paid : Bool) → (none || (room && there) || (large && paid)) ≡ true
    → (none ≡ true) ⊎ ((there ≡ true) ⊎ (paid ≡ true))
passed_by true room there large paid is = inl refl
passed_by false true true large paid is = inr (inl refl)
passed_by false true false true true is = inr (inr refl)
passed_by false true false true false is = absurd (cc)
passed_by false true false false paid is = absurd (cc)
passed_by false false there true true is = inr (inr refl)
passed_by false false there true false is = absurd (cc)
passed_by false false there false paid is = absurd (cc)

-- so the debt stays below 2^127
owes_most : (rate : Rate) (adds owed : ℕ) → rate.refill < 2 ^ 52 → adds < 2 ^ 64 → owed ≤ rate.size * rate.refill + 2 ^ 127
    → (nat_eq adds 0 ≡ true) ⊎ ((nat_le (owed + rate.refill * adds) (full rate) ≡ true) ⊎ (nat_eq owed 0 ≡ true))
    → owed + rate.refill * adds ≤ rate.size * rate.refill + 2 ^ 127
owes_most rate adds owed fast few most (inl none) =
    subst (λ (n : ℕ). owed + rate.refill * n ≤ rate.size * rate.refill + 2 ^ 127) (sym (eqb-true adds 0 none)) (omega (arith, most))
owes_most rate adds owed fast few most (inr (inl there)) =
    let below : owed + rate.refill * adds ≤ rate.size * rate.refill = leb-true (owed + rate.refill * adds) (full rate) there in
    omega (arith, below)
owes_most rate adds owed fast few most (inr (inr paid)) =
    let nothing : owed ≡ 0 = eqb-true owed 0 paid in
    let debt = mul-le rate.refill adds (2 ^ 52) (2 ^ 64) (omega (arith, fast)) (omega (arith, few)) in
    omega (arith, nothing, debt)

-- what the test of a bucket tells
pub record KeptParts (k : Kept) : Type 0 where
  pub some : nat_lt 0 k.rate.size ≡ true
  pub size : nat_lt k.rate.size (2 ^ 48) ≡ true
  pub fast : nat_lt k.rate.refill (2 ^ 52) ≡ true
  pub owes : nat_le k.owes (k.rate.size * k.rate.refill + 2 ^ 127) ≡ true

pub kept_parts : (k : Kept) → is_kept k ≡ true → KeptParts k
kept_parts k is =
    let p2 = and_parts _ (nat_le k.owes (k.rate.size * k.rate.refill + 2 ^ 127)) is in
    let p1 = and_parts _ (nat_lt k.rate.refill (2 ^ 52)) p2.0 in
    let p0 = and_parts (nat_lt 0 k.rate.size) (nat_lt k.rate.size (2 ^ 48)) p1.0 in
    record { some = p0.0; size = p0.1; fast = p1.1; owes = p2.1 }

-- a bucket that takes so many tokens
took_small : (k : Kept) (tokens now : ℕ) → tokens < 2 ^ 64 → now < 2 ^ 64 → takes k tokens now ≡ true → IsSmallBucket k
    → IsSmallBucket (took k tokens now)
took_small k tokens now few early takes small =
    let is = kept_parts k small.kept in
    let adds : ℕ = tokens - k.burst in
    let owed : ℕ = owes_at k now in
    let fast = ltb-true k.rate.refill (2 ^ 52) is.fast in
    let was = leb-true k.owes (k.rate.size * k.rate.refill + 2 ^ 127) is.owes in
    let by = passed_by (nat_eq adds 0) (nat_le adds k.rate.size) (nat_le (owed + k.rate.refill * adds) (full k.rate))
    (nat_lt k.rate.size adds) (nat_eq owed 0) takes in
    let most : owed + k.rate.refill * adds ≤ k.rate.size * k.rate.refill + 2 ^ 127 =
    owes_most k.rate adds owed fast (omega (arith, few)) (omega (arith, was)) by in
    let burst = small.burst in
    let moment = small.moment in
    record {
      kept =
          and_from _ _ (and_from _ _ (and_from _ _ is.some is.size) is.fast)
          (le-leb (owed + k.rate.refill * adds) (k.rate.size * k.rate.refill + 2 ^ 127) most);
      burst = omega (arith, burst);
      moment = omega (arith, moment, early);
    }

bucket_small : (b : Option Kept) (tokens now : ℕ) → tokens < 2 ^ 64 → now < 2 ^ 64 → bucket_takes b tokens now ≡ true
    → IfSome b IsSmallBucket → IfSome (bucket_took b tokens now) IsSmallBucket
bucket_small None tokens now few early takes small = tt
bucket_small (Some k) tokens now few early takes small = took_small k tokens now few early takes small

passes_by : (test : Bool) (b : Buckets) (bytes now : ℕ) → gate_takes b bytes now ≡ test → bytes < 2 ^ 64 → now < 2 ^ 64
    → AreSmallLimits b → IfSome (if test then Some (gate_took b bytes now) else None) AreSmallLimits
passes_by true b bytes now takes few early small =
    let both = and_parts (bucket_takes b.bandwidth bytes now) (bucket_takes b.ops ops_need now) takes in
    (bucket_small b.bandwidth bytes now few early both.0 small.0, bucket_small b.ops ops_need now (omega arith) early both.1 small.1)
passes_by false b bytes now takes few early small = tt

pub limits_pass : (b : Buckets) (bytes now : ℕ) → bytes < 2 ^ 64 → now < 2 ^ 64 → AreSmallLimits b
    → IfSome (gate_passes b bytes now) AreSmallLimits
limits_pass b bytes now few early small = passes_by (gate_takes b bytes now) b bytes now refl few early small

-- ---- other buckets

other_small : (o : Option (Option Kept)) (b : Option Kept) → AreSmallOthers o → IfSome b IsSmallBucket
    → IfSome (unwrap_or o b) IsSmallBucket
other_small None b others small = small
other_small (Some other) b others small = others

pub others_small : (b : Buckets) (bandwidth ops : Option (Option Kept)) → AreSmallOthers bandwidth → AreSmallOthers ops
    → AreSmallLimits b → AreSmallLimits (with_buckets b bandwidth ops)
others_small b bandwidth ops first second small =
    (other_small bandwidth b.bandwidth first small.0, other_small ops b.ops second small.1)
