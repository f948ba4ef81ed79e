-- The entropy device of a machine: what it starts with.
use Rattle.api_calls.specs.declared.entropy.Entropy.{Entropy}
use Rattle.entropy_device.specs.declared.new_entropy.NewEntropy.{NewEntropy}
use Rattle.flat_machine.specs.Limits.{limits_of}

abbrev pub new_entropy : Entropy → NewEntropy
new_entropy e = record { limits = limits_of e.rate_limiter }
