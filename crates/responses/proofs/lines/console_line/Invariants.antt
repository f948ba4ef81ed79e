use Rattle.std.proofs.Common.{◌≡◌, ◌++◌, codes, flat_map, take}
use Rattle.responses.specs.Output.{shown}
use Rattle.responses.proofs.lines.console_line.Given as goal

abbrev pub invariant-loop-byte : goal.invariant-loop-byte
invariant-loop-byte l = l.line ≡ codes "! " ++ flat_map shown (take l.byte-index l.bytes)
