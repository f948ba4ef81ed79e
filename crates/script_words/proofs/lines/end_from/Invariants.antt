use Rattle.script_words.specs.Ends.{LacksEnd}
use Rattle.script_words.proofs.lines.end_from.Given as goal

abbrev pub invariant-loop-i : goal.invariant-loop-i
invariant-loop-i l = LacksEnd l.text l.i
