-- What a request is told.
use Rattle.std.specs.Prelude.{ℕ, if◌then◌else◌}
use Rattle.rate_gate.specs.declared.gate.Pass.{Pass}
use Rattle.rate_gate.specs.declared.gate.Pass.TheVariants.{Go, WaitUntil}
use Rattle.rate_gate.specs.Gate.{Buckets, gate_takes, gate_wait}

abbrev pub told : Buckets → ℕ → ℕ → Pass
told gate bytes now = if gate_takes gate bytes now then Go else WaitUntil (gate_wait gate bytes)
