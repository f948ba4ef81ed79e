use Rattle.std.proofs.Common.{◌≡◌, ◌++◌, take}
use Rattle.script_words.specs.Numbers.{hex_of}
use Rattle.script_words.proofs.appending.append_hex.Given as goal

abbrev pub invariant-loop-byte : goal.invariant-loop-byte
invariant-loop-byte l = l.line ≡ l.initial.line ++ hex_of (take l.byte-index l.bytes)
