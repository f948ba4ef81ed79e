use Rattle.std.proofs.Common.{◌≡◌, ◌<◌, ◌+◌, ◌-◌, ◌*◌, ◌^◌, drop, fold}
use Rattle.script_words.specs.Numbers.{value_of}
use Rattle.vsock_device.proofs.line.value_of.Given as goal

abbrev pub invariant-loop-digit : goal.invariant-loop-digit
invariant-loop-digit l =
    (value_of l.fn.digits ≡ fold (λ value c. 10 * value + (c - 48)) l.value (drop l.digit-index l.fn.digits))
    × (l.value < 2 ^ 36)
