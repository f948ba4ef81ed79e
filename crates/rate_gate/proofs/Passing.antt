-- What a request is told says whether it passes.
use Rattle.std.proofs.Common.{◌≡◌, ℕ, refl, ap, ◌∙◌, Bool, true, false, if◌then◌else◌, Some, None, option_map}
use Rattle.rate_gate.specs.declared.gate.Pass.TheVariants.{Go, WaitUntil}
use Rattle.rate_gate.specs.Gate.{Buckets, gate_passes, gate_takes, gate_took}

pub go_takes : (test : Bool) (wait : ℕ) → Go ≡ (if test then Go else WaitUntil wait) → true ≡ test
go_takes true wait is = refl
go_takes false wait is = cc

pub wait_waits : (test : Bool) (wait until : ℕ) → WaitUntil until ≡ (if test then Go else WaitUntil wait) → false ≡ test
wait_waits true wait until is = cc
wait_waits false wait until is = refl

passes_by_test : (gate new : Buckets) (bytes now : ℕ) (test told : Bool) → gate_takes gate bytes now ≡ test → told ≡ test
    → (told ≡ true → new ≡ gate_took gate bytes now) → gate_passes gate bytes now ≡ (if told then Some new else None)
passes_by_test gate new bytes now true told is same took = rw (is, same, took same) refl
passes_by_test gate new bytes now false told is same took = rw (is, same) refl

pub passes_told : (gate new : Buckets) (bytes now : ℕ) (told : Bool) → told ≡ gate_takes gate bytes now
    → (told ≡ true → new ≡ gate_took gate bytes now) → gate_passes gate bytes now ≡ (if told then Some new else None)
passes_told gate new bytes now told is took = passes_by_test gate new bytes now (gate_takes gate bytes now) told refl is took

-- and what has the gate
put_told : {E : Type 0} (put : Buckets → E) (new : Buckets) (told : Bool)
    → option_map put (if told then Some new else None) ≡ (if told then Some (put new) else None)
put_told put new true = refl
put_told put new false = refl

pub passes_on : {E : Type 0} (put : Buckets → E) (gate new : Buckets) (bytes now : ℕ) (told : Bool)
    → gate_passes gate bytes now ≡ (if told then Some new else None)
    → option_map put (gate_passes gate bytes now) ≡ (if told then Some (put new) else None)
passes_on put gate new bytes now told is = ap (option_map put) is ∙ put_told put new told
