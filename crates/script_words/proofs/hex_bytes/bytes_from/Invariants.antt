use Rattle.std.proofs.Common.{◌≡◌, length}
use Rattle.script_words.specs.Numbers.{bytes_of}
use Rattle.script_words.proofs.Hex.{prefixed}
use Rattle.script_words.proofs.hex_bytes.bytes_from.Given as goal

abbrev pub invariant-loop-rest : goal.invariant-loop-rest
invariant-loop-rest l = prefixed l.bytes.items (bytes_of l.rest) ≡ bytes_of l.text

abbrev pub decreases-loop-rest : goal.decreases-loop-rest
decreases-loop-rest l = length l.rest
