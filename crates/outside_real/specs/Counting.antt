-- How failures are counted.
use Rattle.std.specs.Prelude.{◌≡◌, false, ℕ, ◌+◌, ◌-◌, ◌^◌, min, Result, MatchResult}
use Rattle.vm_outside.specs.Known.{Health}

-- a call that failed is counted once, and no other call is; the count stays at its last value
abbrev pub CountsFailure : {T E : Type 0} → ℕ → ℕ → Result T E → Type 0
CountsFailure before now result =
    MatchResult result (λ _. now ≡ before) (λ _. now ≡ min (before + 1) (2 ^ 64 - 1))

-- an object that doesn't tell its content
abbrev pub untold : ℕ → Health
untold faults = record { tells = false; faults = faults }
